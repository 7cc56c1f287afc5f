-- Insert in the μ-Tree, an instance of `Above`: a changed node that stays whole and the path half stand on N, the other
-- half on its side page. Assumes nothing.
use Rattle.std.specs.Prelude.{◌≡◌, List, [], ◌∷◌, ℕ, suc, ◌*◌, ◌<◌, ◌≤◌, min, length}
use Rattle.std.proofs.Common.{◌∙◌, arith}
use Rattle.geometry.specs.declared.Entry.{Entry}
use Rattle.geometry.specs.Tests.{pick}
use Rattle.model.specs.Image.{Nodes}
use Rattle.model.specs.Tree.{under, following, chosen}
use Rattle.model.specs.Edit.{splice, put, put_in, turn, named}
use Rattle.theory_nodes.specs.Entries.{Rises}
use Rattle.theory_nodes.specs.Nodes.{Ok, the, Rooted}
use Rattle.theory_trees.specs.Edit.{at_root, Made, Changed, made_map}
use Rattle.theory_trees.specs.Above.{AboveHeld}
use Rattle.theory_trees.specs.Insert.{Fresh, Grown, InsertHeld, InsertMade, as_both, held, inserted, left_of, right_of, two_is}
use Rattle.theory_trees.proofs.Above as over_by

module _ (k a n top : ℕ) (side half most : ℕ → ℕ) (r s : Nodes) (fit fit' : ℕ → ℕ → Type 0) (Cut : ℕ → Type 0)
    (fit_n : (l : ℕ) → fit' (suc l) n)
    (fit-a : fit' 0 a)
    (keep : (l a : ℕ) → fit l a → fit' l a) (same : (p l : ℕ) → fit (suc l) p → s p (suc l) ≡ r p (suc l))
    (k_top : k < top) where
  abbrev inserts : ℕ → Entry → List Entry
  inserts = inserted r k a n side half

  abbrev Making : ℕ → Entry → Type 0
  Making = InsertMade r s k a n side half fit' Cut

  abbrev room_at : ℕ → ℕ
  room_at l = 2 * half l

  lay : (l : ℕ) (e : Entry) → Making l e → Made r k (λ e. put k a (e ∷ [])) (named k n side half)
      (AboveHeld (λ _. n) (left_of k n side half) (right_of k n side half) half s fit') l e
  lay = made_map r k (λ e. put k a (e ∷ [])) (named k n side half) (InsertHeld k n side half s fit' Cut)
      (AboveHeld (λ _. n) (left_of k n side half) (right_of k n side half) half s fit') (held k n side half s fit' Cut fit_n)

  pub ins_list_ok : (l hi : ℕ) (es : List Entry) → 0 < length es → k < hi → Rises (Ok fit room_at r l) hi es
      → Making l (chosen k es)
      → Changed (Ok fit' room_at s l) (λ z. min z k) 1 2 hi (following es hi) (length es) (splice (inserts l) k es)
  ins_list_ok l hi es c q h m = over_by.ins_list_ok k a top (λ _. n) (left_of k n side half) (right_of k n side half) half most r s fit fit' fit-a keep same
      k_top l hi es c q h (lay l (chosen k es) m)

  pub fresh : (l : ℕ) (es : List Entry) → (1 ≤ l → 2 ≤ length es) → Rises (Ok fit room_at r l) top es
      → Making l (chosen k es)
      → (Fresh k a n top side half most r s fit fit' Cut fit_n fit-a keep same k_top) l es (at_root (put_in k a) (inserts l) k l es)
  fresh l es g h m = over_by.fresh k a top (λ _. n) (left_of k n side half) (right_of k n side half) half most r s fit fit' fit-a keep same k_top l es g h
      (lay l (chosen k es) m)

  abbrev root_list : ℕ → ℕ → List Entry
  root_list l p = at_root (put_in k a) (inserts l) k l (r p (suc l))

  -- the root does not grow
  pub stay_pairs : (l p : ℕ) → Rooted fit room_at most top r l p → Making l (chosen k (r p (suc l)))
      → s n (suc l) ≡ root_list l p
      → under s (suc l) (the n) ≡ put k a (under r (suc l) (the p))
  stay_pairs l p h m e = over_by.stay_pairs k a top (λ _. n) (left_of k n side half) (right_of k n side half) half most r s fit fit' fit-a keep same k_top
      l p n h (lay l (chosen k (r p (suc l))) m) e

  pub stay_ok : (l p : ℕ) → Rooted fit room_at most top r l p → Making l (chosen k (r p (suc l)))
      → s n (suc l) ≡ root_list l p
      → length (root_list l p) ≤ most (suc l)
      → Rooted fit' room_at most top s l n
  stay_ok l p h m e b = over_by.stay_ok k a top (λ _. n) (left_of k n side half) (right_of k n side half) half most r s fit fit' fit-a keep same k_top
      l p n (fit_n l) h (lay l (chosen k (r p (suc l))) m) e b

  pub grow_pairs : (l p : ℕ) → Rooted fit room_at most top r l p → Making l (chosen k (r p (suc l)))
      → (Grown k a n top side half most r s fit fit' Cut fit_n fit-a keep same k_top) l (root_list l p)
      → under s (suc (suc l)) (the n) ≡ put k a (under r (suc l) (the p))
  grow_pairs l p h m g = over_by.grow_pairs k a top (λ _. n) (left_of k n side half) (right_of k n side half) half most r s fit fit' fit-a keep same k_top
      l p n (pick (turn k (2 * half (suc l)) (root_list l p)) (side (suc l)) n) (pick (turn k (2 * half (suc l)) (root_list l p)) n (side (suc l)))
      (2 * half (suc l)) h (lay l (chosen k (r p (suc l))) m)
      (as_both k n side half s fit' Cut fit_n l (2 * half (suc l)) (root_list l p) g.halves)
      (g.top_list ∙ two_is k n (side (suc l)) (2 * half (suc l)) (following (root_list l p) 0) (root_list l p))

  pub grow_ok : (l p : ℕ) → Rooted fit room_at most top r l p → Making l (chosen k (r p (suc l)))
      → (Grown k a n top side half most r s fit fit' Cut fit_n fit-a keep same k_top) l (root_list l p)
      → length (root_list l p) ≡ 4 * half (suc l) → 2 ≤ most (suc (suc l))
      → Rooted fit' room_at most top s (suc l) n
  grow_ok l p h m g c w =
      let f = fresh l (r p (suc l)) h.least h.rises m in
      over_by.grow_ok k a top (λ _. n) (left_of k n side half) (right_of k n side half) half most r s fit fit' fit-a keep same k_top
      l p n (pick (turn k (2 * half (suc l)) (root_list l p)) (side (suc l)) n) (pick (turn k (2 * half (suc l)) (root_list l p)) n (side (suc l)))
      (2 * half (suc l)) h (lay l (chosen k (r p (suc l))) m)
      (as_both k n side half s fit' Cut fit_n l (2 * half (suc l)) (root_list l p) g.halves)
      (g.top_list ∙ two_is k n (side (suc l)) (2 * half (suc l)) (following (root_list l p) 0) (root_list l p))
      (fit_n (suc l)) (omega (arith, c, f.some)) (omega arith) (omega (arith, c, f.some)) (omega (arith, c)) w
