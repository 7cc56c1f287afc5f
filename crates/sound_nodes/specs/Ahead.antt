-- Reading ahead: a sum that is too small to count, and the bound that is given back. Assumes nothing.
use Rattle.std.specs.Prelude.{ℕ, ◌+◌, ◌*◌, ◌/◌, ◌≤◌, ◌<◌, ◌≡◌, refl, List}
use Rattle.std.proofs.Common.{◌∙◌, arith}
use Rattle.std.proofs.Math.Nat.{div-eq_of_lt}
use Rattle.geometry.specs.declared.Entry.{Entry}
use Rattle.geometry.specs.Findings.{Finding}
use Rattle.model.specs.Rules.{judge_entries}

-- sums of at most 255 parts
pub few_keys : (i k sum : ℕ) → i ≤ k → k < 256 → sum ≤ 4294967296 * i → sum < 1099511627776
few_keys i k sum h f s = omega arith

small : (i n sum : ℕ) → i ≤ n → n < 256 → sum ≤ 2199023255552 * i → sum / 1152921504606846976 ≡ 0
small i n sum h f s = div-eq_of_lt (let e : sum < 1152921504606846976 = omega arith in e)

module _ (hi sum i n : ℕ) (h : i ≤ n) (f : n < 256) (s : sum ≤ 2199023255552 * i) where
  pub bound_fits : hi < 18446744073709551616 → hi + sum / 1152921504606846976 < 18446744073709551616
  bound_fits k = let e = small i n sum h f s in omega (arith, e, k)

  pub bound_back : hi + sum / 1152921504606846976 ≡ hi
  bound_back = let e = small i n sum h f s in omega (arith, e)

-- the same bound
pub judge_bound : (sub : ℕ → ℕ → ℕ → Finding) (es : List Entry) (hi b : ℕ) (v : Finding) → b ≡ hi
    → v ≡ judge_entries sub es b → v ≡ judge_entries sub es hi
judge_bound sub es hi b v e h = h ∙ rw e refl

pub ruleset ahead_laws = (few_keys, bound_fits, bound_back, judge_bound)
