-- The next page once a full block was erased, by the one before: in a partly programmed block it stays. p is a block's
-- pages. Assumes nothing.
use Rattle.std.specs.Prelude.{◌≡◌, refl, Bool, ℕ, ◌+◌, ◌-◌, ◌*◌, ◌/◌, ◌%◌, ◌<◌, ◌≤◌, min, ltb}
use Rattle.std.proofs.Math.Path.{ap, sym}
use Rattle.std.proofs.Common.{subst, ◌∙◌, arith, eq-eqb, ne_eqb, le-ltb, ltb-true, ltb-false}
use Rattle.std.proofs.Math.Bool.{true, false}
use Rattle.std.proofs.Math.Nat.{mul-add-mod_self_left, mod-eq_of_lt}
use Rattle.geometry.specs.Tests.{pick}
use Rattle.model.specs.Count.{count, least}
use Rattle.model.specs.Next.{mixed, first_in, Ahead, round, next_block, next_page}
use Rattle.theory_counts.specs.Least.{least_is, least_of, least_none, least_same}
use Rattle.theory_counts.specs.Cases.{by_eq, by_le, by_test, true_false}
use Rattle.theory_chips.specs.Next.{R2, in_range, next_found, next_in, mixed_next}
use Rattle.live_beside.specs.Collect.{next_erased}
use Rattle.theory_updates.specs.Beside.{next_past}

-- a partly programmed block: its first page is programmed, its last one erased
mixed_parts : (p : ℕ) (er : ℕ → Bool) (b : ℕ) → mixed p er b ≡ true → (er (p * b + 0) ≡ false) ×
    (er (p * b + (p - 1)) ≡ true)
mixed_parts p er b h = go (er (p * b + 0)) refl h
  where
    go : (t : Bool) → er (p * b + 0) ≡ t → pick t false (er (p * b + (p - 1))) ≡ true → (er (p * b + 0) ≡ false) ×
        (er (p * b + (p - 1)) ≡ true)
    go true e i = absurd (true_false false i refl)
    go false e i = (e, i)

-- where no block is partly programmed it is page 0 of the first wholly erased one met
next_round : (p n : ℕ) (w : Ahead) → 1 ≤ p → R2 p n w.er → ((c : ℕ) → c < n → mixed p w.er c ≡ false)
    → 1 ≤ count (p * n) w.er
    → next_page p n w ≡ p * round n (w.last / p) (λ c. w.er (p * c + 0))
unfolding next_block
next_round p n w pos r2 none free =
    let b = next_block p n w in
    let found = next_found p n w pos r2 free in
    let m : least n (mixed p w.er) ≡ n = least_none (mixed p w.er) n none in
    let t : ltb (least n (mixed p w.er)) n ≡ false = rw m (le-ltb n n (omega arith)) in
    let z : b ≡ round n (w.last / p) (λ c. w.er (p * c + 0)) = rw t refl in
    let last = r2.mono b (first_in p w.er b) (p - 1) found.0 (let y = found.1 in
    omega (arith, y)) (omega arith) found.2 in
    let f : first_in p w.er b ≡ 0 = least_of (λ i. w.er (p * b + i)) p 0 (record {
      most = omega arith;
      before = λ i q. absurd (omega arith);
      there = λ q. head b (w.er (p * b + 0)) refl (none b found.0) last;
    }) in
    ap (λ j. p * b + j) f ∙ (let y = ap (λ c. p * c) z in omega (arith, y))
  where
    head : (b : ℕ) (t : Bool) → w.er (p * b + 0) ≡ t → pick t false (w.er (p * b + (p - 1))) ≡ false
        → w.er (p * b + (p - 1)) ≡ true → w.er (p * b + 0) ≡ true
    head b true e i k = e
    head b false e i k = absurd (true_false (w.er (p * b + (p - 1))) k i)

mod-zero : (p x : ℕ) → 1 ≤ p → p * x % p ≡ 0
mod-zero p x h = ap (λ y. y % p) (let z : p * x ≡ p * x + 0 = omega arith in z) ∙ mul-add-mod_self_left p x 0
    ∙ mod-eq_of_lt (let z : 0 < p = omega arith in z)

module _ (p n v : ℕ) (w w' : Ahead) (pos : 1 ≤ p) (r2 : R2 p n w.er) (r2' : R2 p n w'.er) (full : (i : ℕ) → i < p
    → w.er (p * v + i) ≡ false)
    (wiped : (i : ℕ) → i < p → w'.er (p * v + i) ≡ true)
    (stays : (b i : ℕ) → i < p → (b ≡ v → ⊥) → w'.er (p * b + i) ≡ w.er
    (p * b + i)) (free : 1 ≤ count (p * n) w'.er) where
  abbrev x : ℕ
  x = min (p * n) (next_page p n w)

  -- in a partly programmed block it stays
  in_mixed : (b : ℕ) → b < n → mixed p w.er b ≡ true → next_erased p n w'.er w'.last x ≡ next_page p n w'
  unfolding next_erased
  in_mixed b q m =
      let a = mixed_parts p w.er b m in
      let d : b ≡ v → ⊥ = λ e. true_false (w.er (p * v + (p - 1))) (subst (λ c. w.er (p * c + (p - 1)) ≡ true) e a.1) (full (p - 1) (omega arith)) in
      let m' : mixed p w'.er b ≡ true = rw (stays b 0 (omega arith) d, stays b (p - 1) (omega arith) d) m in
      let e = mixed_next p n w pos r2 b q m in
      let e' = mixed_next p n w' pos r2' b q m' in
      let j = first_in p w.er b in
      let f : first_in p w'.er b ≡ j = least_same (λ i. w'.er (p * b + i)) (λ i. w.er (p * b + i)) p (λ i z. stays b i z d) in
      let l = least_is (λ i. w.er (p * b + i)) p in
      let high : j < p = by_le p j (λ z. absurd (true_false (w.er (p * b + (p - 1))) a.1 (l.before (p - 1) (omega (arith, z))))) (λ z. z) in
      let low : j ≡ 0 → ⊥ = λ z. true_false (w.er (p * b + 0)) (subst (λ i. w.er (p * b + i) ≡ true) z (l.there high)) a.0 in
      let at : next_page p n w ≡ p * b + j = ap (λ c. p * c + first_in p w.er c) (sym e) in
      let at' : next_page p n w' ≡ p * b + j = ap (λ c. p * c + first_in p w'.er c) (sym e') ∙ ap (λ i. p * b + i) f in
      let here : x ≡ p * b + j = let y = in_range p n b j q high in omega (arith, y, at) in
      let r : x % p ≡ j = ap (λ y. y % p) here ∙ mul-add-mod_self_left p b j ∙ mod-eq_of_lt high in
      rw (ne_eqb (x % p) 0 (λ z. low (sym r ∙ z))) (here ∙ sym at')

  -- else it is looked for anew
  in_none : ((c : ℕ) → c < n → mixed p w.er c ≡ false) → next_erased p n w'.er w'.last x ≡ next_page p n w'
  unfolding next_erased
  in_none none =
      let none' : (c : ℕ) → c < n → mixed p w'.er c ≡ false = λ c q. by_eq c v
      (λ e. rw (e, wiped 0 (omega arith)) refl)
      (λ d. rw (stays c 0 (omega arith) d, stays c (p - 1) (omega arith) d) (none c q)) in
      let r : x % p ≡ 0 = by_le 1 (count (p * n) w.er)
      (λ some. let b = round n (w.last / p) (λ c. w.er (p * c + 0)) in
      let at = next_round p n w pos r2 none some in
      let y = next_in p n w pos r2 some in
      let z : x ≡ p * b = omega (arith, at, y) in ap (λ y. y % p) z ∙ mod-zero p b pos)
      (λ less. let y = next_past p n w pos (let z : count (p * n) w.er ≡ 0 = omega (arith, less) in z) in
      let z : x ≡ p * n = omega (arith, y) in ap (λ y. y % p) z ∙ mod-zero p n pos) in
      rw (eq-eqb (x % p) 0 r) (sym (next_round p n w' pos r2' none' free))

  pub next_erased_lem : next_erased p n w'.er w'.last x ≡ next_page p n w'
  next_erased_lem = by_test (ltb (least n (mixed p w.er)) n)
      (λ e. let z = ltb-true (least n (mixed p w.er)) n e in
      in_mixed (least n (mixed p w.er)) z ((least_is (mixed p w.er) n).there z))
      (λ e. let z = ltb-false (least n (mixed p w.er)) n e in
      in_none (λ c q. (least_is (mixed p w.er) n).before c (omega (arith, z, q))))
