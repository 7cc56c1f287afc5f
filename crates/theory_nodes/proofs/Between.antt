-- Request 1: on nodes that keep R5 the walk between two keys gives the map's part between them. Assumes nothing.
use Rattle.std.specs.Prelude.{◌≡◌, Bool}
use Rattle.std.proofs.Math.Path.{refl}
use Rattle.std.proofs.Common.{le-leb}
use mathlib.Core.List.{List, [], ◌∷◌}
use Rattle.std.proofs.Math.Bool.{true, false}
use Prim.Native.Nat.{ℕ, zero, suc, ◌<◌, ◌≤◌}
use native.Mathlib.Omega.{arith}
use Rattle.std.proofs.Math.Dec.{leb}
use Rattle.std.proofs.Math.Seq.{drop-nil}
use Rattle.geometry.specs.declared.Entry.{Entry}
use Rattle.geometry.specs.Tests.{pick, ◌&◌}
use Rattle.model.specs.Image.{Nodes}
use Rattle.model.specs.Tree.{gather, under, place}
use Rattle.model.specs.Halving.{place_is}
use Rattle.model.specs.Listing.{between, up_to, reached, ranged}
use Rattle.theory_nodes.specs.Entries.{Rises}
use Rattle.theory_nodes.specs.Nodes.{Ok, the}
use Rattle.theory_nodes.specs.Between.{from_ranged}

module _ (fit : ℕ → ℕ → Type 0) (room : ℕ → ℕ) (r : Nodes) (low high : ℕ) where
  -- what the walk gives of an entry that it goes down
  abbrev Right : ℕ → Type 0
  Right l = (y : ℕ) (e : Entry) → e.key < y → e.key ≤ high → Ok fit room r l y e → ranged r low high l e ≡ between low high (under r l e)

  -- from the one that descent with the low key takes
  list_ranged : (l top : ℕ) (es : List Entry) → Rises (Ok fit room r l) top es → Right l
      → gather (ranged r low high l) (reached low high es) ≡ between low high (gather (under r l) es)
  unfolding up_to gather between
  list_ranged l top [] h step = rw (drop-nil {A = Entry} (place low [])) refl
  list_ranged l top (e ∷ es) h step =
      let w = place_is low (e ∷ es) (omega arith) in
      from_ranged fit room r low high l top (place low (e ∷ es)) (e ∷ es) w.inside w.low h step

  -- under an entry
  pub ranged_is : (l : ℕ) → Right l
  unfolding ranged under Ok between ◌&◌
  ranged_is zero y e b c h = rw (le-leb e.key high c) (go (leb low e.key))
    where
      go : (t : Bool) → pick t (e ∷ []) [] ≡ pick (t & true) (e ∷ []) []
      go true = refl
      go false = refl
  ranged_is (suc l) y e b c h = list_ranged l y (r e.addr (suc l)) h.4 (ranged_is l)

  -- from the root down
  pub ranged_root : (l top p : ℕ) → Rises (Ok fit room r l) top (r p (suc l)) → ranged r low high (suc l)
      (the p) ≡ between low high (under r (suc l) (the p))
  unfolding ranged under
  ranged_root l top p h = list_ranged l top (r p (suc l)) h (ranged_is l)
