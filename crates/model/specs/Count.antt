-- Counting and searching over the numbers below n. Definitions alone; assumes nothing.
use Rattle.std.specs.Prelude.{ℕ, zero, suc, ◌+◌, max, Bool, ltb}
use Rattle.geometry.specs.Tests.{pick, bit}

-- how many i below n pass
unfoldable pub count : ℕ → (ℕ → Bool) → ℕ
count zero f = 0
count (suc n) f = bit (f n) + count n f

-- the least i below n that passes, or n
unfoldable pub least : ℕ → (ℕ → Bool) → ℕ
least zero f = 0
least (suc n) f = pick (ltb (least n f) n) (least n f) (pick (f n) n (suc n))

-- some i below n passes
abbrev pub any : ℕ → (ℕ → Bool) → Bool
any n f = ltb (least n f) n

-- the largest of f 0 to f (n - 1)
unfoldable pub peak : ℕ → (ℕ → ℕ) → ℕ
peak zero f = 0
peak (suc n) f = max (f n) (peak n f)

-- the first place where the largest stands
unfoldable pub arg : ℕ → (ℕ → ℕ) → ℕ
arg zero f = 0
arg (suc n) f = pick (ltb (f (arg n f)) (f n)) n (arg n f)
