-- Request 12: "the exact ratio as two whole numbers in lowest terms". Definitions alone; assumes nothing.
use Rattle.std.specs.Prelude.{ℕ, zero, suc, ◌/◌, ◌%◌, eqb}
use Rattle.geometry.specs.Tests.{pick}
use Rattle.compare_scores.specs.declared.Ratio.{Ratio}

-- Euclid's steps, as many as `steps`
unfoldable pub euclid : ℕ → ℕ → ℕ → ℕ
euclid zero a b = a
euclid (suc steps) a b = pick (eqb b 0) a (euclid steps b (a % b))

-- the greatest number that parts both: b falls at each step, so b steps are enough
abbrev pub greatest : ℕ → ℕ → ℕ
greatest a b = euclid b a b

-- "or 0 and 0 if the second count is zero"
unfoldable pub ratio : ℕ → ℕ → Ratio
ratio a b = pick (eqb b 0) (record { upper = 0; lower = 0 }) (record { upper = a / greatest a b; lower = b / greatest a b })
