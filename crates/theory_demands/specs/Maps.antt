-- The map as a sorted list: what put and remove change. Assumes nothing.
use Rattle.std.specs.Prelude.{◌≡◌, refl, List, [], ◌∷◌, Bool, true, false, ℕ, eqb, ltb, None, Some}
use Rattle.std.proofs.Common.{sym, ◌∙◌, arith, eq-eqb, ne_eqb, ltb-true, eqb-true}
use Rattle.geometry.specs.declared.Entry.{Entry}
use Rattle.geometry.specs.Tests.{pick}
use Rattle.model.specs.Tree.{find}
use Rattle.model.specs.Edit.{put, remove}
use Rattle.theory_nodes.specs.Entries.{Rises}
use Rattle.theory_trees.specs.Splits.{above_none}
use Rattle.theory_demands.specs.Words.{Rising}

pub rising : (hi : ℕ) (es : List Entry) → Rises (λ y x. Unit {0}) hi es → Rising hi es
rising hi [] h = tt
rising hi (e ∷ es) h = (h.0, rising hi es h.2)

pub find_put : (k a : ℕ) (es : List Entry) → find k (put k a es) ≡ Some a
unfolding find
find_put k a [] = rw (eq-eqb k k refl) refl
find_put k a (e ∷ es) = go (ltb e.key k) refl (find_put k a es)
  where
    go : (t : Bool) → ltb e.key k ≡ t → find k (put k a es) ≡ Some a
        → find k (pick t (e ∷ put k a es) (record { key = k; addr = a } ∷ pick (eqb e.key k) es (e ∷ es))) ≡ Some a
    go true z i = rw (ne_eqb e.key k (λ y. omega (arith, ltb-true e.key k z, y))) i
    go false z i = rw (eq-eqb k k refl) refl

pub find_put_other : (k a j : ℕ) (es : List Entry) → (j ≡ k → ⊥) → find j (put k a es) ≡ find j es
unfolding find
find_put_other k a j [] d = rw (ne_eqb k j (λ z. d (sym z))) refl
find_put_other k a j (e ∷ es) d = go (ltb e.key k) (eqb e.key k) refl (find_put_other k a j es d)
  where
    go : (t u : Bool) → eqb e.key k ≡ u → find j (put k a es) ≡ find j es
        → find j (pick t (e ∷ put k a es) (record { key = k; addr = a } ∷ pick u es (e ∷ es))) ≡ pick (eqb e.key j)
        (Some e.addr) (find j es)
    go true u z i = rw i refl
    go false true z i = rw (ne_eqb k j (λ y. d (sym y)), ne_eqb e.key j (λ y. d (sym y ∙ eqb-true e.key k z))) refl
    go false false z i = rw (ne_eqb k j (λ y. d (sym y))) refl

pub find_remove : (k hi : ℕ) (es : List Entry) → Rises (λ y x. Unit {0}) hi es → find k (remove k es) ≡ None
unfolding find
find_remove k hi [] h = refl
find_remove k hi (e ∷ es) h = go (eqb e.key k) refl (find_remove k hi es h.2)
  where
    go : (t : Bool) → eqb e.key k ≡ t → find k (remove k es) ≡ None → find k (pick t es (e ∷ remove k es)) ≡ None
    go true z i = above_none k hi es (let y = eqb-true e.key k z in omega (arith, y, h.0)) h.2
    go false z i = rw z i

pub find_remove_other : (k j : ℕ) (es : List Entry) → (j ≡ k → ⊥) → find j (remove k es) ≡ find j es
unfolding find
find_remove_other k j [] d = refl
find_remove_other k j (e ∷ es) d = go (eqb e.key k) refl (find_remove_other k j es d)
  where
    go : (t : Bool) → eqb e.key k ≡ t → find j (remove k es) ≡ find j es
        → find j (pick t es (e ∷ remove k es)) ≡ pick (eqb e.key j) (Some e.addr) (find j es)
    go true z i = rw (ne_eqb e.key j (λ y. d (sym y ∙ eqb-true e.key k z))) refl
    go false z i = rw i refl
