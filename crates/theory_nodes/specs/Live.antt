-- Live pages and the lowest live level of a page, by membership. Assumes nothing.
use Rattle.std.specs.Prelude.{◌≡◌, refl, List, [], ◌∷◌, Bool, true, false, ◌⊎◌, ℕ, ◌≤◌, min, eqb, leb}
use Rattle.std.proofs.Common.{ap, sym, subst, ◌∙◌, inl, inr, arith, eq-eqb, ne_eqb, leb-true, leb-false, eqb-true}
use Rattle.std.proofs.lemmas.Bool.{eqb-false}
use Rattle.geometry.specs.Tests.{pick, bit}
use Rattle.model.specs.Tree.{Place, live, low_level}
use Rattle.theory_counts.specs.Cases.{true_false}
use Rattle.theory_lists.specs.All.{All, Mem, all_map}

pub mem_live : (x : Place) (spots : List Place) → Mem x spots → live spots x.page ≡ true
unfolding live
mem_live x [] m = absurd m
mem_live x (y ∷ spots) (inl e) = rw (eq-eqb y.page x.page (ap (λ (z : Place). z.page) e)) refl
mem_live x (y ∷ spots) (inr m) = go (eqb y.page x.page) (mem_live x spots m)
  where
    go : (t : Bool) → live spots x.page ≡ true → pick t true (live spots x.page) ≡ true
    go true h = refl
    go false h = h

pub dead_live : (p : ℕ) (spots : List Place) → All (λ x. x.page ≡ p → ⊥) spots → live spots p ≡ false
unfolding live
dead_live p [] h = refl
dead_live p (x ∷ spots) h = rw (ne_eqb x.page p h.0) (dead_live p spots h.1)

pub within_live : (n q : ℕ) (old new : List Place) → All (λ x. (x.page ≡ n) ⊎ Mem x old) new → (q ≡ n → ⊥)
    → bit (live new q) ≤ bit (live old q)
unfolding live
within_live n q old [] h d = omega arith
within_live n q old (x ∷ new) h d = go (eqb x.page q) refl h.0 (within_live n q old new h.1 d)
  where
    go : (t : Bool) → eqb x.page q ≡ t → (x.page ≡ n) ⊎ Mem x old → bit (live new q) ≤ bit (live old q)
        → bit (pick t true (live new q)) ≤ bit (live old q)
    go false e w i = i
    go true e (inl w) i = absurd (d (sym (eqb-true x.page q e) ∙ w))
    go true e (inr w) i = let a : bit (live old q) ≡ 1 = rw (← eqb-true x.page q e, mem_live x old w) refl in
        omega arith

pub live_none : (p : ℕ) (ys : List Place) → live ys p ≡ false → All (λ y. y.page ≡ p → ⊥) ys
unfolding live
live_none p [] h = tt
live_none p (y ∷ ys) h = go (eqb y.page p) refl h (live_none p ys)
  where
    go : (t : Bool) → eqb y.page p ≡ t → pick t true (live ys p) ≡ false
        → (live ys p ≡ false → All (λ y. y.page ≡ p → ⊥) ys)
        → All (λ y. y.page ≡ p → ⊥) (y ∷ ys)
    go true e i k = absurd (true_false true refl i)
    go false e i k = (eqb-false y.page p e, k i)

pub low_is : (spots : List Place) (p : ℕ) → live spots p ≡ true
    → Mem (record { page = p; level = low_level spots p }) spots × All (λ x. x.page ≡ p → low_level spots p ≤ x.level)
    spots
unfolding low_level live
low_is [] p h = absurd (true_false false h refl)
low_is (x ∷ xs) p h = go (eqb x.page p) (live xs p) refl refl h (low_is xs p)
  where
    here : (a : ℕ) → x.page ≡ p → x.level ≡ a → x ≡ record { page = p; level = a }
    here a e f = λ i. record { page = e i; level = f i }

    down : (a b : ℕ) → a ≤ b → All (λ x. x.page ≡ p → b ≤ x.level) xs → All (λ x. x.page ≡ p → a ≤ x.level) xs
    down a b q i = all_map (λ x. x.page ≡ p → b ≤ x.level) (λ x. x.page ≡ p → a ≤ x.level) xs (λ x f e. omega (arith, f e, q)) i

    Out : ℕ → Type 0
    Out a = Mem (record { page = p; level = a }) (x ∷ xs) × All (λ x. x.page ≡ p → a ≤ x.level) (x ∷ xs)

    least_of : x.page ≡ p → Mem (record { page = p; level = low_level xs p }) xs ×
        All (λ x. x.page ≡ p → low_level xs p ≤ x.level) xs → (t : Bool)
        → leb x.level (low_level xs p) ≡ t → Out (min x.level (low_level xs p))
    least_of e w true q = let z = leb-true x.level (low_level xs p) q in (
      inl (here (min x.level (low_level xs p)) e (omega arith)),
      ((λ _. omega arith), down (min x.level (low_level xs p)) (low_level xs p) (omega arith) w.1),
    )
    least_of e w false q =
        let z = leb-false x.level (low_level xs p) q in
        let y : low_level xs p ≡ min x.level (low_level xs p) = omega arith in (
          inr (subst (λ a. Mem (record { page = p; level = a }) xs) y w.0),
          ((λ _. omega arith), down (min x.level (low_level xs p)) (low_level xs p) (omega arith) w.1),
        )

    go : (t u : Bool) → eqb x.page p ≡ t → live xs p ≡ u → pick t true u ≡ true
        → (live xs p ≡ true → Mem (record { page = p; level = low_level xs p }) xs ×
        All (λ x. x.page ≡ p → low_level xs p ≤ x.level) xs)
        → Out (pick t (pick u (min x.level (low_level xs p)) x.level) (low_level xs p))
    go true true e f i ih = least_of (eqb-true x.page p e) (ih f) (leb x.level (low_level xs p)) refl
    go true false e f i ih = (
      inl (here x.level (eqb-true x.page p e) refl),
      ((λ _. omega arith), all_map (λ y. y.page ≡ p → ⊥) (λ y. y.page ≡ p → x.level ≤ y.level) xs (λ y g e. absurd (g e)) (live_none p xs f)),
    )
    go false true e f i ih = let w = ih f in (inr w.0, ((λ z. absurd (eqb-false x.page p e z)), w.1))
    go false false e f i ih = absurd (true_false false i refl)
