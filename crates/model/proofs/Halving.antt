-- What the place found by halving is, in any node, sorted or not. Assumes nothing.
use Prim.Native.Nat.{ℕ, suc, ◌-◌, ◌<◌}
use Rattle.std.specs.Prelude.{Bool, ◌≡◌, List, length}
use Rattle.std.proofs.Math.Bool.{true, false}
use Rattle.std.proofs.Math.Path.{refl}
use Rattle.std.proofs.Common.{arith}
use Rattle.std.proofs.Math.Dec.{ltb}
use borrow.Author.Tests.{ltb-true, ltb-false}
use Rattle.geometry.specs.declared.Entry.{Entry}
use Rattle.model.specs.Tree.{entry_of, place}
use Rattle.model.specs.Halving.{Last, place_is}

pub place_last : (k : ℕ) (es : List Entry) → 0 < length es → ((i j : ℕ) → i < j → j < length es
    → (entry_of es i).key < (entry_of es j).key)
    → Last k es (place k es)
place_last k es n rise =
    let w = place_is k es n in
    record { inside = w.inside; low = w.low; rest = λ j h g. go j h g w.high (ltb (suc (place k es)) j) refl }
  where
    go : (j : ℕ) → place k es < j → j < length es
        → (suc (place k es) < length es → k < (entry_of es (suc (place k es))).key)
        → (t : Bool) → ltb (suc (place k es)) j ≡ t → k < (entry_of es j).key
    go j h g high true e =
        let later = ltb-true (suc (place k es)) j e in
        omega (arith, high (omega (arith, later)), rise (suc (place k es)) j later g)
    go j h g high false e =
        let here : j ≡ suc (place k es) = omega (arith, ltb-false (suc (place k es)) j e) in
        rw here (high (omega (arith, here)))
