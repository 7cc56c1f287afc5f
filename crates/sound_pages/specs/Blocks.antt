-- R2. Assumes nothing.
use Rattle.std.specs.Prelude.{ℕ, ◌+◌, ◌-◌, ◌*◌, ◌<◌, ◌≤◌, Bool, not, ◌≡◌, eqb, ltb}
use Rattle.std.proofs.Math.Bool.{true, false}
use Rattle.std.proofs.Math.Path.{refl, sym}
use Rattle.std.proofs.Common.{◌∙◌, arith}
use borrow.Author.Tests.{not-true, not-false, le-leb, lt-leb, lt-ltb, le-ltb}
use Rattle.geometry.specs.Findings.{Good, Bad}
use Rattle.geometry.specs.Tests.{◌&◌, and_true, and_false}
use Rattle.model.specs.Count.{least, any}
use Rattle.model.specs.Next.{mixed, first_in}
use Rattle.model.specs.Rules.{unless, in_order, second_mixed, r2}
use Rattle.theory_counts.specs.Least.{least_none, any_clear}
use Rattle.theory_counts.specs.Blocks.{within_laws}
use Rattle.theory_counts.specs.Scan.{fails}
use Rattle.theory_counts.specs.Lowest.{unless_true, unless_false}

-- a programmed page after the first erased one, m
unfoldable pub late : ℕ → (ℕ → Bool) → ℕ → ℕ → ℕ → Bool
late p er b m j = ltb m j & not (er (p * b + j))

module _ (p : ℕ) (er : ℕ → Bool) (b m : ℕ) (em : m ≡ first_in p er b) where
  order_is : in_order p er b ≡ not (any p (late p er b m))
  unfolding in_order late
  order_is = rw em

  early : (j : ℕ) → j ≤ m → late p er b m j ≡ false
  unfolding late
  early j h = simp (le-ltb m j h, and_false)

  pub order_start : least (m + 1) (late p er b m) ≡ m + 1
  order_start = least_none (late p er b m) (m + 1) (λ j k. early j (omega arith))

  pub late_is : (i q : ℕ) (r : Bool) → q ≡ p * b + i → r ≡ er q → m < i → not r ≡ late p er b m i
  unfolding late
  late_is i q r eq er' k = simp (lt-ltb m i k, ← eq, ← er', and_true)

  pub order_bad : true ≡ any p (late p er b m) → false ≡ in_order p er b
  order_bad e = sym (order_is ∙ simp (← e))

  pub order_good : false ≡ any p (late p er b m) → true ≡ in_order p er b
  order_good e = sym (order_is ∙ simp (← e))

  pub order_none : p ≤ m → true ≡ in_order p er b
  order_none h = order_good (sym (any_clear (late p er b m) p (λ j k. early j (omega arith))))

-- blocks
abbrev pub disorder : ℕ → (ℕ → Bool) → ℕ → Bool
disorder p er = fails (in_order p er)

module _ (p : ℕ) (er : ℕ → Bool) where
  pub mixed_no : (b q : ℕ) (r : Bool) → q ≡ p * b + 0 → r ≡ er q → r ≡ true → false ≡ mixed p er b
  mixed_no b q r eq er' f = simp (← eq, ← er', f)

  pub mixed_yes : (b q s : ℕ) (r t : Bool) → q ≡ p * b + 0 → r ≡ er q → r ≡ false → s ≡ p * b + (p - 1) → t ≡ er s
      → t ≡ mixed p er b
  mixed_yes b q s r t eq er' f es et = et ∙ simp (es, ← eq, ← er', f)

-- a mixed block other than m
unfoldable pub other : ℕ → (ℕ → Bool) → ℕ → ℕ → Bool
other p er m b = mixed p er b & not (eqb b m)

module _ (p : ℕ) (er : ℕ → Bool) (m : ℕ) where
  pub other_no : (b : ℕ) (r : Bool) → r ≡ mixed p er b → not r ≡ true → false ≡ other p er m b
  unfolding other
  other_no b r e q = sym (rw (← e, not-true r q) (and_false (not (eqb b m))))

  pub other_yes : (b : ℕ) (r : Bool) → r ≡ mixed p er b → not r ≡ false → not (eqb b m) ≡ other p er m b
  unfolding other
  other_yes b r e q = sym (rw (← e, not-false r q) (and_true (not (eqb b m))))

  pub second_is : (n i : ℕ) → m ≡ least n (mixed p er) → i ≡ least n (other p er m) → i ≡ second_mixed p n er
  unfolding second_mixed other
  second_is n i em e = e ∙ rw (← em) refl

-- R2
module _ (p n : ℕ) (er : ℕ → Bool) (b : ℕ) (eb : b ≡ least n (disorder p er)) where
  pub rule_order : (j q : ℕ) → j ≡ first_in p er b → q ≡ p * b + j → b < n → Bad q ≡ r2 p n er
  unfolding r2 fails
  rule_order j q ej eq h = sym (rw (← eb, lt-leb n b h, ← ej, ← eq) (unless_false q _))

  pub rule_second : (s q : ℕ) → s ≡ second_mixed p n er → q ≡ p * s → n ≤ b → s < n → Bad q ≡ r2 p n er
  unfolding r2 fails
  rule_second s q es eq k h =
      sym (rw (← eb, le-leb n b k, ← es, lt-leb n s h, ← eq) (unless_true _ (unless false q Good)
      ∙ unless_false q Good))

  pub rule_good : (s : ℕ) → s ≡ second_mixed p n er → n ≤ b → n ≤ s → Good ≡ r2 p n er
  unfolding r2 fails
  rule_good s es k h = sym (rw (← eb, le-leb n b k, ← es, le-leb n s h) (unless_true _ (unless true (p * s) Good)
      ∙ unless_true (p * s) Good))

pub ruleset order_laws = (within_laws, order_start, late_is, order_bad, order_good, order_none)

pub ruleset mixed_laws = (mixed_no, mixed_yes, other_no, other_yes, second_is)

pub ruleset block_laws = (order_laws, mixed_laws, rule_order, rule_second, rule_good)
