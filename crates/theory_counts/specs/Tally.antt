-- How many numbers pass, as a loop upward counts them. Assumes nothing.
use Rattle.std.specs.Prelude.{ℕ, zero, suc, ◌+◌, ◌-◌, ◌<◌, ◌≤◌, Bool, true, false, ◌≡◌, refl}
use Rattle.std.proofs.Common.{sym, ◌∙◌, arith, add-one}
use Rattle.geometry.specs.Tests.{bit}
use Rattle.model.specs.Count.{count}

pub count_zero : (f : ℕ → Bool) → 0 ≡ count 0 f
unfolding count
count_zero f = refl

pub count_more : (f : ℕ → Bool) (i : ℕ) → count (i + 1) f ≡ bit (f i) + count i f
unfolding count
count_more f i = rw add-one

pub bit_most : (b : Bool) → bit b ≤ 1
bit_most true = omega arith
bit_most false = omega arith

pub count_most : (f : ℕ → Bool) (n : ℕ) → count n f ≤ n
unfolding count
count_most f zero = omega arith
count_most f (suc n) = omega (arith, bit_most (f n), count_most f n)

pub count_same : (f g : ℕ → Bool) (n : ℕ) → ((i : ℕ) → i < n → f i ≡ g i) → count n f ≡ count n g
unfolding count
count_same f g zero h = refl
count_same f g (suc n) h = rw (h n (omega arith), count_same f g n (λ i k. h i (omega arith)))

-- a loop upward that counts, in the form in which the code has the premises: v is the test of i as a number
module _ (f : ℕ → Bool) where
  pub tally_go : (i n v : ℕ) → n ≡ count i f → v ≡ bit (f i) → v + n ≡ count (i + 1) f
  tally_go i n v e q = sym (count_more f i ∙ rw (← q, ← e))

  pub tally_end : (t i n : ℕ) → n ≡ count i f → i ≤ t → t ≤ i → n ≡ count t f
  tally_end t i n e h k =
      let w : i ≡ t = omega arith in
      rw (← w) e

pub ruleset tally_laws = (count_zero, tally_go, tally_end)
