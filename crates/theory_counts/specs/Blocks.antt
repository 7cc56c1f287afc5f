-- The pages of a block. Assumes nothing.
use Rattle.std.specs.Prelude.{ℕ, zero, suc, ◌+◌, ◌*◌, ◌/◌, ◌%◌, ◌<◌, Bool, ◌≡◌}
use Rattle.std.proofs.Common.{◌∙◌, arith, mul-le-mul_left, mod-lt, zero-mul}
use Rattle.std.proofs.Math.Nat.{div-add-mod}
use Rattle.geometry.specs.Tests.{bit}
use Rattle.model.specs.Count.{count, least}
use Rattle.model.specs.Next.{first_in, in_block}
use Rattle.theory_counts.specs.Least.{by_lt}

-- a test of pages, by the place in block b of p pages
unfoldable pub within : ℕ → (ℕ → Bool) → ℕ → ℕ → Bool
within p f b j = f (p * b + j)

-- in the form in which the code has the premises: q is the page at place j
module _ (p : ℕ) (f : ℕ → Bool) (b : ℕ) where
  pub within_test : (j q : ℕ) (r : Bool) → q ≡ p * b + j → r ≡ f q → r ≡ within p f b j
  unfolding within
  within_test j q r eq e = e ∙ rw eq

  pub within_bit : (j q v : ℕ) → q ≡ p * b + j → v ≡ bit (f q) → v ≡ bit (within p f b j)
  unfolding within
  within_bit j q v eq e = e ∙ rw eq

  pub within_first : (j : ℕ) → j ≡ least p (within p f b) → j ≡ first_in p f b
  unfolding within
  within_first j e = e

  pub within_count : (n : ℕ) → n ≡ count p (within p f b) → n ≡ in_block p f b
  unfolding within
  within_count n e = e

pub ruleset within_laws = (within_test, within_bit, within_first, within_count)

-- page x of n blocks, by its block and its place there
pub record Split (p n x : ℕ) : Type 0 where
  pub block : ℕ
  pub place : ℕ
  pub is : p * block + place ≡ x
  pub inside : place < p
  pub below : block < n

pub some_pages : (p n x : ℕ) → x < p * n → 0 < p
some_pages zero n x h = absurd (omega (arith, h, zero-mul n))
some_pages (suc p) n x h = omega arith

pub block_below : (p n x : ℕ) → x < p * n → x / p < n
block_below p n x h = by_lt (x / p) n (λ k. k) (λ k. absurd (omega (arith, h, div-add-mod x p, mul-le-mul_left p k)))

pub split : (p n x : ℕ) → x < p * n → Split p n x
split p n x h = record {
  block = x / p;
  place = x % p;
  is = div-add-mod x p;
  inside = mod-lt x {m = p} (some_pages p n x h);
  below = block_below p n x h;
}
