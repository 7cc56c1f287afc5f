-- Request 13: what an import's inserts leave. Proofs for Carrying. Assumes nothing.
use Rattle.std.specs.Prelude.{◌≡◌, ℕ, ◌<◌, ◌≤◌}
use Rattle.std.proofs.Math.Path.{refl}
use Rattle.std.proofs.Common.{arith, eq-eqb}
use mathlib.Core.List.{List, [], ◌∷◌}
use Rattle.std.proofs.Math.ListN.{length, take}
use Rattle.geometry.specs.declared.Geometry.{Geometry}
use Rattle.geometry.specs.declared.Entry.{Entry}
use Rattle.geometry.specs.Bounds.{four_bytes}
use Rattle.model.specs.Calls.{Outcome, insert}
use Rattle.text_decimals.specs.Decimals.{largest}
use Rattle.text_carrying.specs.Carrying.{word, counted, store_one, store_all}
use Rattle.theory_demands.specs.Words.{Holds, OneOf}

-- what the inserts of records leave: a sound image with the first of them, as many as are stored; all of them where the
-- answer is 0
pub record Stored (g : Geometry) (es : List Entry) (o : Outcome) : Type 0 where
  pub some : o.address ≤ length es
  pub holds : Holds g (take o.address es) o.image
  pub whole : o.answer ≡ 0 → o.address ≡ length es
  pub answers : OneOf o.answer (0 ∷ 3 ∷ 5 ∷ 6 ∷ 7 ∷ [])

-- an outcome of 32 bits is a word
word_low : (n : ℕ) → n < four_bytes → word n ≡ n
word_low n h = omega arith

abbrev pub inserted : Geometry → Outcome → Entry → Outcome
inserted g s e = insert g s.image e.key e.addr largest

pub store_more : (g : Geometry) (s : Outcome) (e : Entry) (es : List Entry) → s.answer ≡ 0
    → store_all g s (e ∷ es) ≡ store_all g (counted s (inserted g s e)) es
unfolding store_all store_one
store_more g s e es h = rw (eq-eqb s.answer 0 h) refl
