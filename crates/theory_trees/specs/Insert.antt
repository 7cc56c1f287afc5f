-- Insert in the μ-Tree, an instance of `Above`: a changed node that stays whole and the path half stand on N, the other
-- half on its side page. Assumes nothing.
use Rattle.std.specs.Prelude.{◌≡◌, refl, List, [], ◌∷◌, Bool, true, false, ℕ, suc, ◌*◌, ◌<◌, length, take, drop}
use Rattle.std.proofs.Common.{le-leb}
use Rattle.std.proofs.lemmas.Bool.{lt-leb}
use Rattle.geometry.specs.declared.Entry.{Entry}
use Rattle.geometry.specs.Tests.{pick}
use Rattle.model.specs.Image.{Nodes}
use Rattle.model.specs.Tree.{following}
use Rattle.model.specs.Edit.{put, turn, path_half, side_half, two, named, path_part}
use Rattle.model.specs.Plain.{both}
use Rattle.theory_trees.specs.Edit.{edit, Made}
use Rattle.theory_trees.specs.Above.{Both, AboveHeld}
use Rattle.theory_trees.specs.Above as over
pub use Rattle.theory_trees.specs.Above.{put_local, put_splice, put_in_lem}

-- the halves stand where they should: the path half on n, the other on its side page
abbrev pub Halves : ℕ → ℕ → (ℕ → ℕ) → Nodes → (ℕ → ℕ → Type 0) → ℕ → ℕ → List Entry → Type 0
Halves k n side s fit l m c = (s n l ≡ path_half k m c) × (s (side l) l ≡ side_half k m c) × fit l (side l)

-- Cut l: level l is split
abbrev pub InsertHeld : ℕ → ℕ → (ℕ → ℕ) → (ℕ → ℕ) → Nodes → (ℕ → ℕ → Type 0) → (ℕ → Type 0) → ℕ → Entry → List Entry
    → Type 0
InsertHeld k n side half s fit Cut l e c =
    (s n l ≡ path_part k half l c) × (2 * half l < length c → (s (side l) l ≡ side_half k (half l) c) × fit l
    (side l) × Cut l)

abbrev pub inserted : Nodes → ℕ → ℕ → ℕ → (ℕ → ℕ) → (ℕ → ℕ) → ℕ → Entry → List Entry
inserted r k a n side half l e = edit r k (λ e. put k a (e ∷ [])) (named k n side half) l e

abbrev pub InsertMade : Nodes → Nodes → ℕ → ℕ → ℕ → (ℕ → ℕ) → (ℕ → ℕ) → (ℕ → ℕ → Type 0) → (ℕ → Type 0) → ℕ → Entry
    → Type 0
InsertMade r s k a n side half fit Cut l e =
    Made r k (λ e. put k a (e ∷ [])) (named k n side half) (InsertHeld k n side half s fit Cut) l e

-- the two entries of the model are the two of `Above`, with their pages chosen by the turn
pub two_is : (k n o m z : ℕ) (c : List Entry) → two k n o m z c ≡ both (pick (turn k m c) o n) (pick (turn k m c) n o) m
    z c
two_is k n o m z c = refl

-- the pages of the left and of the right half
abbrev pub left_of : ℕ → ℕ → (ℕ → ℕ) → (ℕ → ℕ) → ℕ → List Entry → ℕ
left_of k n side half l c = pick (turn k (half l) c) (side l) n

abbrev pub right_of : ℕ → ℕ → (ℕ → ℕ) → (ℕ → ℕ) → ℕ → List Entry → ℕ
right_of k n side half l c = pick (turn k (half l) c) n (side l)

module _ (k n : ℕ) (side half : ℕ → ℕ) (s : Nodes) (fit' : ℕ → ℕ → Type 0) (Cut : ℕ → Type 0)
    (fit_n : (l : ℕ) → fit' (suc l) n) where
  -- the path half and the other half are the left and the right one
  pub as_both : (l m : ℕ) (c : List Entry) → Halves k n side s fit' (suc l) m c
      → Both s fit' (suc l) m c (pick (turn k m c) (side (suc l)) n) (pick (turn k m c) n (side (suc l)))
  as_both l m c h = go (turn k m c) h.0 h.1
    where
      go : (t : Bool) → s n (suc l) ≡ pick t (drop m c) (take m c) → s (side (suc l)) (suc l) ≡ pick t (take m c)
          (drop m c)
          → Both s fit' (suc l) m c (pick t (side (suc l)) n) (pick t n (side (suc l)))
      go true i j = (j, i, h.2, fit_n l)
      go false i j = (i, j, fit_n l, h.2)

  pub held : (l : ℕ) (e : Entry) (c : List Entry) → InsertHeld k n side half s fit' Cut (suc l) e c
      → AboveHeld (λ _. n) (left_of k n side half) (right_of k n side half) half s fit' (suc l) e c
  held l e c h = (
    λ b. (rw (le-leb (length c) (2 * half (suc l)) b) at h.0, fit_n l),
    λ b. let u = h.1 b in as_both l (half (suc l)) c (rw (lt-leb (length c) (2 * half (suc l)) b) at h.0, u.0, u.1),
  )

module _ (k a n top : ℕ) (side half most : ℕ → ℕ) (r s : Nodes) (fit fit' : ℕ → ℕ → Type 0) (Cut : ℕ → Type 0)
    (fit_n : (l : ℕ) → fit' (suc l) n)
    (fit-a : fit' 0 a)
    (keep : (l a : ℕ) → fit l a → fit' l a) (same : (p l : ℕ) → fit (suc l) p → s p (suc l) ≡ r p (suc l))
    (k_top : k < top) where
  -- the list at the root
  abbrev pub Fresh : ℕ → List Entry → List Entry → Type 0
  Fresh = over.Fresh k a top (λ _. n) (left_of k n side half) (right_of k n side half) half most r s fit fit' fit-a keep same k_top

  -- the root grows
  pub record Grown (l : ℕ) (c : List Entry) : Type 0 where
    pub halves : Halves k n side s fit' (suc l) (2 * half (suc l)) c
    pub top_list : s n (suc (suc l)) ≡ two k n (side (suc l)) (2 * half (suc l)) (following c 0) c
