-- By how much an update raises the live pages: the page of the old leaf dies, and what is new stands on N and the other
-- halves' pages. Assumes nothing.
use Rattle.std.specs.Prelude.{◌≡◌, ◌⊎◌, length, eqb}
use Rattle.std.proofs.Math.Path.{refl, ap}
use Rattle.std.proofs.Common.{arith}
use mathlib.Core.List.{List, [], ◌∷◌}
use Prim.Native.Nat.{ℕ, zero, suc, ◌+◌, ◌*◌, ◌<◌, ◌≤◌}
use Rattle.geometry.specs.declared.Entry.{Entry}
use Rattle.geometry.specs.Tests.{bit}
use Rattle.model.specs.Image.{Nodes}
use Rattle.model.specs.Tree.{Place, places, following, chosen}
use Rattle.model.specs.Edit.{remove_in}
use Rattle.theory_lists.specs.All.{All, Mem}
use Rattle.theory_nodes.specs.Entries.{split}
use Rattle.theory_nodes.specs.Nodes.{Ok, the, Rooted}
use Rattle.theory_trees.specs.Edit.{at_root}
use Rattle.theory_trees.specs.Delete.{deleted, DeleteMade}
use Rattle.theory_trees.specs.Proper.{Proper}

-- the page of the leaf to which k descends, from an entry at level suc l
unfoldable pub bottom : Nodes → ℕ → ℕ → Entry → ℕ
bottom r k zero e = e.addr
bottom r k (suc l) e = bottom r k l (chosen k (r e.addr (suc (suc l))))

module _ (fit : ℕ → ℕ → Type 0) (room : ℕ → ℕ) (r : Nodes) (k : ℕ) where
  -- it fits as a leaf
  way_fit : (l y : ℕ) (e : Entry) → k < y → Ok fit room r (suc l) y e → fit 1 (bottom r k l e)
  unfolding bottom Ok
  way_fit zero y e q h = h.0
  way_fit (suc l) y e q h =
      let es = r e.addr (suc (suc l)) in
      let s = split (Ok fit room r (suc l)) k y es h.1 q h.4 in
      way_fit l (following s.post y) (chosen k es) s.under s.here

  pub bottom_fit : (most : ℕ → ℕ) (top l p : ℕ) → k < top → Rooted fit room most top r l p
      → fit 1 (bottom r k l (the p))
  unfolding bottom
  bottom_fit most top zero p q h = h.fits
  bottom_fit most top (suc l) p q h =
      let es = r p (suc (suc l)) in
      let z = h.least (omega arith) in
      let s = split (Ok fit room r (suc l)) k top es (omega (arith, z)) q h.rises in
      way_fit l (following s.post top) (chosen k es) s.under s.here

-- ---- the pages that are new
unfoldable pub hits : List ℕ → ℕ → ℕ
hits [] q = 0
hits (n ∷ ns) q = bit (eqb q n) + hits ns q

-- the pages of the levels 1 to j
unfoldable pub sides : (ℕ → ℕ) → ℕ → List ℕ
sides side zero = []
sides side (suc j) = side (suc j) ∷ sides side j

pub sides_length : (side : ℕ → ℕ) (j : ℕ) → length (sides side j) ≡ j
unfolding sides
sides_length side zero = refl
sides_length side (suc j) = ap suc (sides_length side j)

-- from the places old to the places new: p had a live leaf and has no live node, and what is new is on the pages ns
pub record Shifted (ns : List ℕ) (p : ℕ) (old new : List Place) : Type 0 where
  pub was : Mem (record { page = p; level = 1 }) old
  pub dead : All (λ x. x.page ≡ p → ⊥) new
  pub within : All (λ x. (1 ≤ hits ns x.page) ⊎ Mem x old) new

module _ (n top : ℕ) (half most : ℕ → ℕ) (r s : Nodes) (fit fit' : ℕ → ℕ → Type 0) (fit_n : (l : ℕ) → fit' (suc l) n)
    (keep : (l b : ℕ) → fit l b → fit' l b) (same : (q l : ℕ) → fit (suc l) q → s q (suc l) ≡ r q (suc l))
    (new-n : (l : ℕ) → fit (suc l) n → ⊥)
    (k : ℕ) (k_top : k < top) (l p₀ : ℕ) (h : Proper fit (λ l. 2 * half l) most top r l p₀) where
  abbrev room : ℕ → ℕ
  room l = 2 * half l

  abbrev p : ℕ
  p = bottom r k l (the p₀)

  abbrev root_less : List Entry
  root_less = at_root (remove_in k) (deleted r k n l) k l (r p₀ (suc l))

module _ (n top : ℕ) (half most : ℕ → ℕ) (r s : Nodes) (fit fit' : ℕ → ℕ → Type 0) (fit_n : (l : ℕ) → fit' (suc l) n)
    (keep : (l b : ℕ) → fit l b → fit' l b) (same : (q l : ℕ) → fit (suc l) q → s q (suc l) ≡ r q (suc l))
    (new-n : (l : ℕ) → fit (suc l) n → ⊥)
    (k : ℕ) (k_top : k < top) (wide : (j : ℕ) → 2 * half j ≤ most j)
    (l p₀ : ℕ) (h : Proper fit (λ l. 2 * half l) most top r (suc l) p₀)
    (made : DeleteMade r s k n (suc l) (chosen k (r p₀ (suc (suc l)))))
    (one : length (root_less n top half most r s fit fit' fit_n keep same new-n k k_top (suc l) p₀ h) ≡ 1) where
  abbrev page : ℕ
  page = bottom r k (suc l) (the p₀)

  abbrev old : List Place
  old = places r (suc (suc l)) (the p₀)
