-- The least page that a test finds bad, and the model's ways to join findings. Assumes nothing.
use Rattle.std.specs.Prelude.{ℕ, ◌-◌, ◌<◌, Bool, ◌≡◌}
use Rattle.std.proofs.Math.Bool.{true, false}
use Rattle.std.proofs.lemmas.Bool.{false≢true}
use Rattle.std.proofs.Math.Path.{refl}
use Rattle.std.proofs.Common.{ap}
use borrow.Author.Tests.{lt-ltb}
use Rattle.geometry.specs.Findings.{Finding, Good, Bad, Verdict, Sound, broken_at}
use Rattle.geometry.specs.Tests.{pick}
use Rattle.model.specs.Count.{least, any}
use Rattle.model.specs.Rules.{lowest, unless, or_else, is_sound}
use Rattle.theory_counts.specs.Least.{least_hit, any_none, none_passes}

is_good : Finding → Bool
is_good Good = true
is_good (Bad p) = false

pub bad_good : (p : ℕ) → Bad p ≡ Good → ⊥
unfolding is_good
bad_good p e = false≢true (ap is_good e)

module _ (f : ℕ → Bool) where
  pub lowest_bad : (n i : ℕ) → least i f ≡ i → f i ≡ true → i < n → Bad i ≡ lowest n f
  unfolding lowest
  lowest_bad n i e q h = simp (least_hit f n i e q h, lt-ltb i n h)

  pub lowest_good : (n : ℕ) → least n f ≡ n → Good ≡ lowest n f
  unfolding lowest
  lowest_good n e = simp (any_none f n e)

  -- a finding of none says it of every page
  pub good_lowest : (n : ℕ) → lowest n f ≡ Good → (i : ℕ) → i < n → f i ≡ false
  unfolding lowest
  good_lowest n e = none_passes f n (clear (any n f) e)
    where
      clear : (t : Bool) → pick t (Bad (least n f)) Good ≡ Good → t ≡ false
      clear true q = absurd (bad_good (least n f) q)
      clear false q = refl

pub unless_true : (p : ℕ) (v : Finding) → unless true p v ≡ v
unfolding unless
unless_true p v = refl

pub unless_false : (p : ℕ) (v : Finding) → unless false p v ≡ Bad p
unfolding unless
unless_false p v = refl

-- a finding of none says that the test passed
pub good_unless : (t : Bool) (p : ℕ) (v : Finding) → unless t p v ≡ Good → (t ≡ true) × (v ≡ Good)
unfolding unless
good_unless true p v e = (refl, e)
good_unless false p v e = absurd (bad_good p e)

-- a verdict of Sound says it of every rule
pub broken_sound : (r p : ℕ) → broken_at r p ≡ Sound → ⊥
broken_sound r p e = false≢true (ap is_sound e)

pub or_sound : (r : ℕ) (f : Finding) (v : Verdict) → or_else r f v ≡ Sound → (f ≡ Good) × (v ≡ Sound)
unfolding or_else
or_sound r Good v e = (refl, e)
or_sound r (Bad p) v e = absurd (broken_sound r p e)
