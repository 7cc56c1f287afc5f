-- The least number that passes, as a loop upward finds it. Assumes nothing.
use Prim.Native.Nat.{ℕ, zero, suc, ◌+◌, ◌-◌, ◌<◌, ◌≤◌}
use Rattle.std.specs.Prelude.{Bool, true, false, ◌≡◌, ltb}
use Rattle.std.proofs.lemmas.Bool.{false≢true}
use Rattle.std.proofs.Math.Path.{refl}
use Rattle.std.proofs.Common.{sym, ◌∙◌, arith, lt-ltb, le-ltb, ltb-true, ltb-false}
use Rattle.geometry.specs.Tests.{pick}
use Rattle.model.specs.Count.{least, any}

-- split on an order
pub by_lt : {C : Type 0} (a b : ℕ) → (a < b → C) → (b ≤ a → C) → C
by_lt {C} a b f g = go (ltb a b) refl
  where
    go : (t : Bool) → ltb a b ≡ t → C
    go true e = f (ltb-true a b e)
    go false e = g (ltb-false a b e)

module _ (f : ℕ → Bool) where
  pub least_zero : 0 ≡ least 0 f
  unfolding least
  least_zero = refl

  -- what `least n f` is: nothing below it passes, and it passes if it is below n
  pub record Least (n m : ℕ) : Type 0 where
    pub most : m ≤ n
    pub before : (i : ℕ) → i < m → f i ≡ false
    pub there : m < n → f m ≡ true

  least_next : (n : ℕ) (t b : Bool) → ltb (least n f) n ≡ t → f n ≡ b → Least n (least n f)
      → Least (suc n) (pick t (least n f) (pick b n (suc n)))
  least_next n true b q e h = record {
    most = omega (arith, h.most);
    before = h.before;
    there = λ k. h.there (ltb-true _ _ q);
  }
  least_next n false true q e h = record {
    most = omega arith;
    before = λ i k. h.before i (omega (arith, ltb-false (least n f) n q));
    there = λ k. e;
  }
  least_next n false false q e h = record {
    most = omega arith;
    before = λ i k. by_lt i n (λ j. h.before i (omega (arith, ltb-false (least n f) n q))) (λ j. (let w : i ≡ n =
        omega arith in rw w e));
    there = λ k. absurd (omega arith);
  }

  pub least_is : (n : ℕ) → Least n (least n f)
  unfolding least
  least_is zero = record { most = omega arith; before = λ i h. absurd (omega arith); there = λ h. absurd (omega arith) }
  least_is (suc n) = least_next n (ltb (least n f) n) (f n) refl refl (least_is n)

  -- no other number is
  least_unique : (n a b : ℕ) → Least n a → Least n b → a ≡ b
  least_unique n a b x y =
      by_lt a b
      (λ h. absurd (false≢true (sym (y.before a h) ∙ x.there (omega (arith, y.most)))))
      (λ h. by_lt b a (λ k. absurd (false≢true (sym (x.before b k) ∙ y.there (omega (arith, x.most))))) (λ k. omega arith))

  pub least_of : (n a : ℕ) → Least n a → least n f ≡ a
  least_of n a x = least_unique n (least n f) a (least_is n) x

  -- nothing below i passes
  pub least_none : (i : ℕ) → ((j : ℕ) → j < i → f j ≡ false) → least i f ≡ i
  least_none i h = least_of i i (record { most = omega arith; before = h; there = λ k. absurd (omega arith) })

  pub none_below : (i : ℕ) → least i f ≡ i → (j : ℕ) → j < i → f j ≡ false
  none_below i e j h = (least_is i).before j (rw e h)

  pub least_go : (i : ℕ) → least i f ≡ i → f i ≡ false → least (i + 1) f ≡ i + 1
  least_go i e q = least_none (i + 1) (λ j h. by_lt j i (λ k. none_below i e j k) (λ k. (let w : j ≡ i = omega arith in
      rw w q)))

  pub least_hit : (n i : ℕ) → least i f ≡ i → f i ≡ true → i < n → least n f ≡ i
  least_hit n i e q h = least_of n i (record { most = omega arith; before = none_below i e; there = λ k. q })

  pub least_end : (n i : ℕ) → least i f ≡ i → i ≤ n → n ≤ i → least n f ≡ i
  least_end n i e h k =
      let w : i ≡ n = omega arith in
      rw (← w) e

  pub least_most : (n : ℕ) → least n f ≤ n
  least_most n = (least_is n).most

-- two tests that agree below n
pub least_same : (f g : ℕ → Bool) (n : ℕ) → ((i : ℕ) → i < n → f i ≡ g i) → least n f ≡ least n g
least_same f g n h =
    least_of f n (least n g) (record {
      most = (least_is g n).most;
      before = λ i k. h i (omega (arith, (least_is g n).most)) ∙ (least_is g n).before i k;
      there = λ k. h (least n g) k ∙ (least_is g n).there k;
    })

-- whether some number passes
module _ (f : ℕ → Bool) where
  pub any_none : (n : ℕ) → least n f ≡ n → any n f ≡ false
  any_none n e = le-ltb (least n f) n (omega (arith, e))

  pub any_hit : (n i : ℕ) → least i f ≡ i → f i ≡ true → i < n → any n f ≡ true
  any_hit n i e q h = lt-ltb (least n f) n (omega (arith, least_hit f n i e q h))

  pub none_passes : (n : ℕ) → any n f ≡ false → (i : ℕ) → i < n → f i ≡ false
  none_passes n e i h = (least_is f n).before i (omega (arith, ltb-false (least n f) n e))

  pub any_clear : (n : ℕ) → ((i : ℕ) → i < n → f i ≡ false) → any n f ≡ false
  any_clear n h = any_none n (least_none f n h)

pub any_same : (f g : ℕ → Bool) (n : ℕ) → ((i : ℕ) → i < n → f i ≡ g i) → any n f ≡ any n g
any_same f g n h = rw (least_same f g n h)
