-- The largest of some numbers and the first place where it stands, as a loop upward finds them. Assumes nothing.
use Prim.Native.Nat.{ℕ, zero, suc, ◌+◌, ◌-◌, ◌<◌, ◌≤◌, max}
use Rattle.std.specs.Prelude.{Bool, true, false, ◌≡◌, ltb}
use Rattle.std.proofs.Math.Path.{refl, sym}
use Rattle.std.proofs.Common.{◌∙◌, add-one, lt-ltb, le-ltb, ltb-true, ltb-false}
use native.Mathlib.Omega.{arith}
use Rattle.std.proofs.Math.Nat.{max-eq_left, max-eq_right, max-zero}
use Rattle.geometry.specs.Tests.{pick}
use Rattle.model.specs.Count.{peak, arg}

pub peak_more : (f : ℕ → ℕ) (i : ℕ) → peak (i + 1) f ≡ max (f i) (peak i f)
unfolding peak
peak_more f i = rw add-one

pub arg_more : (f : ℕ → ℕ) (i : ℕ) → arg (i + 1) f ≡ pick (ltb (f (arg i f)) (f i)) i (arg i f)
unfolding arg
arg_more f i = rw add-one

either : (t : Bool) (i : ℕ) → pick t i i ≡ i
either true i = refl
either false i = refl

module _ (f : ℕ → ℕ) where
  peak_suc : (n : ℕ) → peak (suc n) f ≡ max (f n) (peak n f)
  unfolding peak
  peak_suc n = refl

  arg_suc : (n : ℕ) → arg (suc n) f ≡ pick (ltb (f (arg n f)) (f n)) n (arg n f)
  unfolding arg
  arg_suc n = refl

  higher : (a i : ℕ) (t : Bool) → ltb (f a) (f i) ≡ t → max (f i) (f a) ≡ f (pick t i a)
  higher a i true q = max-eq_left {n = f i} {m = f a} (omega (arith, ltb-true (f a) (f i) q))
  higher a i false q = max-eq_right {n = f i} {m = f a} (ltb-false (f a) (f i) q)

  -- the largest stands at its place
  stands : (n : ℕ) → peak (suc n) f ≡ f (arg (suc n) f)
  unfolding peak arg
  stands zero = rw (either (ltb (f 0) (f 0)) 0) (max-zero (f 0))
  stands (suc n) =
      peak_suc (suc n) ∙ rw (stands n, arg_suc (suc n)) (higher (arg (suc n) f) (suc n) (ltb (f (arg (suc n) f)) (f (suc n))) refl)

  pub peak_at : (n : ℕ) → 0 < n → peak n f ≡ f (arg n f)
  peak_at zero h = absurd (omega arith)
  peak_at (suc n) h = stands n

  below : (a n : ℕ) (t : Bool) → a < suc n → pick t n a < suc n
  below a n true h = omega arith
  below a n false h = h

  pub arg_most : (n : ℕ) → arg n f < suc n
  unfolding arg
  arg_most zero = omega arith
  arg_most (suc n) = lt_step (below (arg n f) n (ltb (f (arg n f)) (f n)) (arg_most n))
    where
      lt_step : {a : ℕ} → a < suc n → a < suc (suc n)
      lt_step h = omega arith

  pub arg_less : (n : ℕ) → 0 < n → arg n f < n
  unfolding arg
  arg_less zero h = absurd (omega arith)
  arg_less (suc n) h = below (arg n f) n (ltb (f (arg n f)) (f n)) (arg_most n)

  -- a loop upward: the place and the largest so far, by the next number
  pub arg_higher : (n : ℕ) → peak n f < f n → n ≡ arg (n + 1) f
  unfolding arg
  arg_higher zero h = sym (arg_more f 0 ∙ either (ltb (f 0) (f 0)) 0)
  arg_higher (suc n) h = sym (arg_more f (suc n) ∙ simp (lt-ltb (f (arg (suc n) f)) (f (suc n)) (rw (← (stands n)) h)))

  pub arg_stays : (n : ℕ) → f n ≤ peak n f → arg n f ≡ arg (n + 1) f
  unfolding arg
  arg_stays zero h = sym (arg_more f 0 ∙ either (ltb (f 0) (f 0)) 0)
  arg_stays (suc n) h = sym (arg_more f (suc n) ∙ simp (le-ltb (f (arg (suc n) f)) (f (suc n)) (rw (← (stands n)) h)))

  pub peak_higher : (n : ℕ) → peak n f < f n → f n ≡ peak (n + 1) f
  peak_higher n h = sym (peak_more f n ∙ max-eq_left {n = f n} {m = peak n f} (omega arith))

  pub peak_stays : (n : ℕ) → f n ≤ peak n f → peak n f ≡ peak (n + 1) f
  peak_stays n h = sym (peak_more f n ∙ max-eq_right {n = f n} {m = peak n f} h)
