-- The definitions' recursion, `edited` and `on_path`, is the one that the theorems are about, `edit`. Assumes nothing.
use Rattle.std.specs.Prelude.{◌≡◌, List, [], ◌∷◌, length}
use Rattle.std.proofs.Math.Path.{refl, subst}
use Rattle.std.proofs.Common.{ap, sym, ◌∙◌, arith, eq-eqb, ne_eqb}
use Prim.Native.Nat.{ℕ, zero, suc, ◌<◌, ◌≤◌}
use Rattle.geometry.specs.declared.Entry.{Entry}
use Rattle.model.specs.Image.{Nodes}
use Rattle.model.specs.Tree.{following, place, chosen}
use Rattle.model.specs.Edit.{swap, splice, edited, on_path, put, put_in, remove, remove_in, same}
use Rattle.theory_nodes.specs.Entries.{Rises, rises_map, split, splice_cong}
use Rattle.theory_nodes.specs.Nodes.{Ok, the}
use Rattle.theory_trees.specs.Edit.{edit, at_root, Made}

-- a leaf's operation is the splice of what it makes of one pair
abbrev pub AsSplice : ℕ → (List Entry → List Entry) → (Entry → List Entry) → Type 0
AsSplice k leaf base = (hi : ℕ) (es : List Entry) → 0 < length es → k < hi → Rises (λ y x. Unit {0}) hi es → leaf es ≡ splice base k es

same_swap : (i : ℕ) (es : List Entry) → swap (λ e. e ∷ []) i es ≡ es
same_swap i [] = refl
same_swap zero (e ∷ es) = refl
same_swap (suc i) (e ∷ es) = ap (λ l. e ∷ l) (same_swap i es)

pub same_splice : (k : ℕ) (es : List Entry) → splice (λ e. e ∷ []) k es ≡ es
unfolding splice
same_splice k es = same_swap (place k es) es

pub same_as : (k : ℕ) → AsSplice k same (λ e. e ∷ [])
same_as k hi es c q h = sym (same_splice k es)

pub put_as : (k a : ℕ) → AsSplice k (put_in k a) (λ e. put k a (e ∷ []))
unfolding put_in
put_as k a hi [] c q h = absurd (omega arith)
put_as k a hi (e ∷ es) c q h = refl

pub remove_as : (k : ℕ) → AsSplice k (remove_in k) (λ e. remove k (e ∷ []))
unfolding remove_in
remove_as k hi es c q h = refl

-- at the root too a leaf that stays as it is is a splice
pub same_root : (r : Nodes) (k : ℕ) (name : ℕ → Entry → List Entry → List Entry) (l : ℕ) (es : List Entry)
    → at_root same (edit r k (λ e. e ∷ []) name l) k l es ≡ splice (edit r k (λ e. e ∷ []) name l) k es
unfolding at_root edit
same_root r k name zero es = sym (same_splice k es)
same_root r k name (suc l) es = refl

module _ (fit : ℕ → ℕ → Type 0) (room : ℕ → ℕ) (r : Nodes) (k : ℕ) (leaf : List Entry → List Entry)
    (base : Entry → List Entry)
    (name : ℕ → Entry → List Entry → List Entry) (law : AsSplice k leaf base) where
  mutual_step : (l hi : ℕ) (es : List Entry) → 0 < length es → k < hi → Rises (Ok fit room r (suc l)) hi es
      → ((y : ℕ) (x : Entry) → k < y → Ok fit room r (suc l) y x
      → edited r k leaf name l x ≡ splice (edit r k base name l) k (r x.addr (suc l)))
      → splice (λ x. name (suc l) x (edited r k leaf name l x)) k es ≡ splice (edit r k base name (suc l)) k es
  unfolding edit
  mutual_step l hi es n q h step =
      let s = split (Ok fit room r (suc l)) k hi es n q h in
      splice_cong (Ok fit room r (suc l)) (λ x. name (suc l) x (edited r k leaf name l x)) (edit r k base name (suc l)) k hi es n q h
      (ap (name (suc l) (chosen k es)) (step (following s.post hi) (chosen k es) s.under s.here))

  -- below the root
  pub below_is : (l hi : ℕ) (e : Entry) → k < hi → Ok fit room r (suc l) hi e
      → edited r k leaf name l e ≡ splice (edit r k base name l) k (r e.addr (suc l))
  unfolding edited edit Ok
  below_is zero hi e q h = law hi (r e.addr 1) h.1 q (rises_map (Ok fit room r 0) (λ y x. Unit {0}) hi (r e.addr 1) (λ y x _ _ _. tt) h.4)
  below_is (suc l) hi e q h = mutual_step l hi (r e.addr (suc (suc l))) h.1 q h.4 (λ y x z i. below_is l y x z i)

  -- at the root, whose leaf may be empty
  pub root_is : (l hi p : ℕ) → k < hi → (1 ≤ l → 0 < length (r p (suc l))) → Rises (Ok fit room r l) hi (r p (suc l))
      → edited r k leaf name l (the p) ≡ at_root leaf (edit r k base name l) k l (r p (suc l))
  unfolding edited at_root
  root_is zero hi p q n h = refl
  root_is (suc l) hi p q n h = mutual_step l hi (r p (suc (suc l))) (n (omega arith)) q h (λ y x z i. below_is l y x z i)

  pub on_path_top : (l : ℕ) (e : Entry) → on_path r k leaf name l e (suc l) ≡ edited r k leaf name l e
  unfolding on_path
  on_path_top zero e = refl
  on_path_top (suc l) e = rw (eq-eqb (suc (suc l)) (suc (suc l)) refl) refl

  pub on_path_below : (l j : ℕ) (e : Entry) → j ≤ suc l
      → on_path r k leaf name (suc l) e j ≡ on_path r k leaf name l (chosen k (r e.addr (suc (suc l)))) j
  unfolding on_path
  on_path_below l j e h = rw (ne_eqb j (suc (suc l)) (λ z. omega arith)) refl

  -- what holds of every edited list of the path holds as `Made` has it
  pub made_from : (H : ℕ → List Entry → Type 0) (l hi : ℕ) (e : Entry) → k < hi
      → (1 ≤ l → 0 < length (r e.addr (suc l)))
      → Rises (Ok fit room r l) hi (r e.addr (suc l))
      → ((j : ℕ) → 1 ≤ j → j ≤ l → H j (on_path r k leaf name l e j)) → Made r k base name (λ j _ c. H j c) l
      (chosen k (r e.addr (suc l)))
  unfolding Made Ok
  made_from H zero hi e q n h f = tt
  made_from H (suc l) hi e q n h f =
      let es = r e.addr (suc (suc l)) in
      let s = split (Ok fit room r (suc l)) k hi es (n (omega arith)) q h in
      let o = s.here in (
        subst (H (suc l)) (on_path_below l (suc l) e (omega arith) ∙ on_path_top l (chosen k es)
            ∙ below_is l (following s.post hi) (chosen k es)
            s.under o) (f (suc l) (omega arith) (omega arith)),
        made_from H l (following s.post hi) (chosen k es) s.under (λ _. o.1) o.4
            (λ j b d. subst (H j) (on_path_below l j e (omega arith)) (f j b (omega arith))),
      )
