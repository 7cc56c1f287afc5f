-- The lowest live levels after a move, from those before and the path: the new page has a; a page whose lowest live
-- node stands on the path from level a up has died; every other page is as before. Assumes nothing.
use Rattle.std.specs.Prelude.{◌≡◌, refl, List, [], ◌∷◌, ℕ, suc, ◌*◌, ◌<◌, ◌≤◌, length}
use Rattle.std.proofs.Common.{ne_eqb}
use Rattle.model.specs.Image.{Nodes}
use Rattle.model.specs.Tree.{Place, places, following, chosen, low_level}
use Rattle.model.specs.Edit.{splice}
use Rattle.theory_lists.specs.All.{All, Mem}
use Rattle.theory_nodes.specs.Nodes.{the}
use Rattle.theory_trees.specs.Move.{moved, MoveMade}
use Rattle.theory_trees.specs.Proper.{Proper}
use Rattle.theory_nodes.specs.PathPlaces.{spot, path_places}

pub low_none : (spots : List Place) (q : ℕ) → All (λ x. x.page ≡ q → ⊥) spots → low_level spots q ≡ 0
unfolding low_level
low_none [] q h = refl
low_none (x ∷ xs) q h = rw (ne_eqb x.page q h.0) (low_none xs q h.1)

-- ---- what swapped places say of the lowest live levels

pub record Lowered (n a : ℕ) (old path new : List Place) : Type 0 where
  pub on_new : low_level new n ≡ a
  pub died : (q : ℕ) → (q ≡ n → ⊥) → Mem (spot q (low_level old q)) path → low_level new q ≡ 0
  pub stays : (q : ℕ) → (q ≡ n → ⊥) → (Mem (spot q (low_level old q)) path → ⊥) → low_level new q ≡ low_level old q

-- ---- a move: page p, whose lowest live node is at level a, to page n
module _ (p a n top : ℕ) (half most : ℕ → ℕ) (r s : Nodes) (fit fit' : ℕ → ℕ → Type 0)
    (fit_n : (l : ℕ) → fit' (suc l) n)
    (keep : (l b : ℕ) → fit l b → fit' l b) (same : (q l : ℕ) → fit (suc l) q → s q (suc l) ≡ r q (suc l))
    (new-n : (l : ℕ) → fit (suc l) n → ⊥)
    (l p₀ : ℕ) (h : Proper fit (λ l. 2 * half l) most top r l p₀) (m : Mem (spot p a) (places r (suc l) (the p₀)))
    (low : All (λ x. x.page ≡ p → a ≤ x.level) (places r (suc l) (the p₀)))
    (made : MoveMade r s (following (r p a) 0) a n l (chosen (following (r p a) 0) (r p₀ (suc l))))
    (e : s n (suc l) ≡ splice (moved r (following (r p a) 0) a n l) (following (r p a) 0) (r p₀ (suc l)))
    (k_top : 0 < length (r p₀ (suc l)) → following (r p a) 0 < top) where
  abbrev old : List Place
  old = places r (suc l) (the p₀)

  abbrev new : List Place
  new = places s (suc l) (the n)

  abbrev path : List Place
  path = path_places r (following (r p a) 0) a (suc l) (the p₀)
