-- Two namings of the pages to come that agree where an update looks give the same lists. Assumes nothing.
use Rattle.std.specs.Prelude.{◌≡◌, eqb}
use Rattle.std.proofs.Math.Path.{refl, ap}
use mathlib.Core.List.{List, []}
use Prim.Native.Nat.{ℕ, zero, suc, ◌≤◌}
use Rattle.std.proofs.Common.{arith}
use Rattle.geometry.specs.declared.Entry.{Entry}
use Rattle.geometry.specs.Tests.{pick}
use Rattle.model.specs.Image.{Nodes}
use Rattle.model.specs.Tree.{chosen}
use Rattle.model.specs.Edit.{splice, edited, on_path, kept}
use Rattle.model.specs.Plain.{renewed, kept_on}

-- what stands above an edited node, at levels 1 to l
abbrev Agree : (ℕ → Entry → List Entry → List Entry) → (ℕ → Entry → List Entry → List Entry) → ℕ → Type 0
Agree name name' l = (j : ℕ) → 1 ≤ j → j ≤ l → name j ≡ name' j

module _ (r : Nodes) (k : ℕ) (leaf : List Entry → List Entry) (name name' : ℕ → Entry → List Entry → List Entry) where
  edited_same : (l : ℕ) (e : Entry) → Agree name name' l → edited r k leaf name l e ≡ edited r k leaf name' l e
  unfolding edited
  edited_same zero e h = refl
  edited_same (suc l) e h = ap (λ f. splice f k (r e.addr (suc (suc l))))
      (λ i x. h (suc l) (omega arith) (omega arith) i x (edited_same l x (λ j a b. h j a (omega (arith, b))) i))

  pub path_same : (l : ℕ) (e : Entry) → Agree name name' l → on_path r k leaf name l e ≡ on_path r k leaf name' l e
  unfolding on_path
  path_same zero e h = λ i j. pick (eqb j 1) (edited_same zero e h i) []
  path_same (suc l) e h = λ i j. pick (eqb j (suc (suc l))) (edited_same (suc l) e h i)
      (path_same l (chosen k (r e.addr (suc (suc l)))) (λ j a b. h j a (omega (arith, b))) i j)

-- ---- insert: the pages of a level's node or left half, and of its right half
pub renewed_same : (r : Nodes) (k : ℕ) (leaf : List Entry → List Entry) (left left' right right' half : ℕ
    → ℕ) (l : ℕ) (e : Entry)
    → ((j : ℕ) → 1 ≤ j → j ≤ l → left j ≡ left' j) → ((j : ℕ) → 1 ≤ j → j ≤ l → right j ≡ right' j)
    → on_path r k leaf (renewed k left right half) l e ≡ on_path r k leaf (renewed k left' right' half) l e
renewed_same r k leaf left left' right right' half l e p q =
    path_same r k leaf (renewed k left right half) (renewed k left' right' half) l e
    (λ j a b i x c. renewed k (λ _. p j a b i) (λ _. q j a b i) half j x c)

-- ---- delete: the page of a level's node
pub kept_same : (r : Nodes) (k : ℕ) (leaf : List Entry → List Entry) (at at' : ℕ → ℕ) (l : ℕ) (e : Entry)
    → ((j : ℕ) → 1 ≤ j → j ≤ l → at j ≡ at' j) → on_path r k leaf (kept_on at) l e ≡ on_path r k leaf (kept_on at') l e
kept_same r k leaf at at' l e p = path_same r k leaf (kept_on at) (kept_on at') l e (λ j a b i x c. kept (p j a b i) j x c)
