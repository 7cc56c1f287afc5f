-- A loop upward that looks for the first number that passes, by the premises that the code has. Assumes nothing.
use Rattle.std.specs.Prelude.{ℕ, ◌+◌, ◌<◌, ◌≤◌, Bool, true, false, not, ◌≡◌}
use Rattle.std.proofs.Math.Path.{sym}
use Rattle.std.proofs.Common.{◌∙◌, arith}
use Rattle.geometry.specs.Findings.{Good, Bad}
use Rattle.model.specs.Count.{least, any}
use Rattle.model.specs.Rules.{lowest}
use Rattle.theory_counts.specs.Least.{least_zero, least_go, least_hit, least_end, any_none, any_hit}
use Rattle.theory_counts.specs.Lowest.{lowest_bad, lowest_good}

-- nothing below i passes, and r is the test of i
module _ (f : ℕ → Bool) where
  pub scan_start : least 0 f ≡ 0
  scan_start = sym (least_zero f)

  pub scan_go : (i : ℕ) (r : Bool) → least i f ≡ i → r ≡ f i → r ≡ false → least (i + 1) f ≡ i + 1
  scan_go i r x e q = least_go f i x (sym e ∙ q)

  pub scan_hit : (n i : ℕ) (r : Bool) → least i f ≡ i → r ≡ f i → r ≡ true → i < n → i ≡ least n f
  scan_hit n i r x e q h = sym (least_hit f n i x (sym e ∙ q) h)

  pub scan_end : (n i : ℕ) → least i f ≡ i → i ≤ n → n ≤ i → i ≡ least n f
  scan_end n i x h k = sym (least_end f n i x h k)

  -- whether there is one
  pub scan_some : (n i : ℕ) (r : Bool) → least i f ≡ i → r ≡ f i → r ≡ true → i < n → true ≡ any n f
  scan_some n i r x e q h = sym (any_hit f n i x (sym e ∙ q) h)

  pub scan_none : (n i : ℕ) → least i f ≡ i → i ≤ n → n ≤ i → false ≡ any n f
  scan_none n i x h k =
      let w : i ≡ n = omega arith in
      sym (any_none f n (rw (← w) x))

  -- the finding that names it
  pub scan_bad : (n i : ℕ) (r : Bool) → least i f ≡ i → r ≡ f i → r ≡ true → i < n → Bad i ≡ lowest n f
  scan_bad n i r x e q h = lowest_bad f n i x (sym e ∙ q) h

  pub scan_good : (n i : ℕ) → least i f ≡ i → i ≤ n → n ≤ i → Good ≡ lowest n f
  scan_good n i x h k =
      let w : i ≡ n = omega arith in
      lowest_good f n (rw (← w) x)

-- a test that fails
unfoldable pub fails : (ℕ → Bool) → ℕ → Bool
fails t i = not (t i)

module _ (t : ℕ → Bool) where
  pub pass_go : (i : ℕ) (r : Bool) → least i (fails t) ≡ i → r ≡ t i → not r ≡ false → least (i + 1) (fails t) ≡ i + 1
  unfolding fails
  pass_go i r x e q = least_go (fails t) i x (rw (← e) q)

  pub fail_hit : (n i : ℕ) (r : Bool) → least i (fails t) ≡ i → r ≡ t i → not r ≡ true → i < n → i ≡ least n (fails t)
  unfolding fails
  fail_hit n i r x e q h = sym (least_hit (fails t) n i x (rw (← e) q) h)

  pub fail_bad : (n i : ℕ) (r : Bool) → least i (fails t) ≡ i → r ≡ t i → not r ≡ true → i < n
      → Bad i ≡ lowest n (fails t)
  unfolding fails
  fail_bad n i r x e q h = lowest_bad (fails t) n i x (rw (← e) q) h

pub ruleset fail_laws = (pass_go, fail_hit, fail_bad)

pub ruleset scan_laws = (scan_start, scan_go, scan_hit, scan_end, scan_some, scan_none, scan_bad, scan_good, fail_laws)
