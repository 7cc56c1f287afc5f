-- Laws of the model's `edited` and `on_path`. Assumes nothing.
use Prim.Native.Nat.{ℕ, zero, suc, ◌<◌, ◌≤◌}
use Rattle.std.specs.Prelude.{◌≡◌, List, []}
use Rattle.std.proofs.Math.Path.{refl}
use Rattle.std.proofs.Common.{ap, ◌∙◌, arith, eq-eqb, ne_eqb}
use Rattle.geometry.specs.declared.Entry.{Entry}
use Rattle.model.specs.Image.{Nodes}
use Rattle.model.specs.Tree.{chosen}
use Rattle.model.specs.Edit.{splice, edited, on_path}

module _ (r : Nodes) (k : ℕ) (leaf : List Entry → List Entry) (name : ℕ → Entry → List Entry → List Entry) where
  -- the path's node at the level of the node that e names is the changed node itself
  pub path_top : (l : ℕ) (e : Entry) → on_path r k leaf name l e (suc l) ≡ edited r k leaf name l e
  unfolding on_path
  path_top zero e = refl
  path_top (suc l) e = rw (eq-eqb (suc (suc l)) (suc (suc l)) refl)

  -- below it the path is that of the entry taken
  pub path_below : (l : ℕ) (e : Entry) (j : ℕ) → j ≤ suc l → on_path r k leaf name (suc l) e j ≡ on_path r k leaf name l
      (chosen k (r e.addr (suc (suc l)))) j
  unfolding on_path
  path_below l e j h = rw (ne_eqb j (suc (suc l)) (λ q. let z : j ≡ suc (suc l) = q in absurd (omega arith)))

  -- above it there is nothing
  pub path_above : (l : ℕ) (e : Entry) (j : ℕ) → suc l < j → on_path r k leaf name l e j ≡ []
  unfolding on_path
  path_above zero e j h = rw (ne_eqb j 1 (λ q. let z : j ≡ 1 = q in absurd (omega arith)))
  path_above (suc l) e j h =
      rw (ne_eqb j (suc (suc l)) (λ q. let z : j ≡ suc (suc l) = q in absurd (omega arith)))
      (path_above l (chosen k (r e.addr (suc (suc l)))) j (omega arith))

-- only the levels that the path has count
pub edited_agree : (r : Nodes) (k : ℕ) (leaf : List Entry → List Entry) (f h : ℕ → Entry → List Entry → List Entry)
    (l : ℕ) (e : Entry)
    → ((m : ℕ) (x : Entry) (c : List Entry) → 1 ≤ m → m ≤ l → f m x c ≡ h m x c)
    → edited r k leaf f l e ≡ edited r k leaf h l e
unfolding edited
edited_agree r k leaf f h zero e q = refl
edited_agree r k leaf f h (suc l) e q =
    ap (λ (s : Entry → List Entry). splice s k (r e.addr (suc (suc l))))
    (λ i x. (ap (λ (c : List Entry). f (suc l) x c) (edited_agree r k leaf f h l x (λ m y c a b. q m y c a (omega arith)))
    ∙ q (suc l) x (edited r k leaf h l x) (omega arith) (omega arith)) i)

pub path_agree : (r : Nodes) (k : ℕ) (leaf : List Entry → List Entry) (f h : ℕ → Entry → List Entry → List Entry)
    (l : ℕ) (e : Entry) (j : ℕ)
    → ((m : ℕ) (x : Entry) (c : List Entry) → 1 ≤ m → m ≤ l → f m x c ≡ h m x c)
    → on_path r k leaf f l e j ≡ on_path r k leaf h l e j
unfolding on_path
path_agree r k leaf f h zero e j q = rw (edited_agree r k leaf f h zero e q)
path_agree r k leaf f h (suc l) e j q =
    rw (edited_agree r k leaf f h (suc l) e q, path_agree r k leaf f h l (chosen k (r e.addr (suc (suc l)))) j (λ m x c a b. q m x c a (omega arith)))
