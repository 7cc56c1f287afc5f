-- Choice and conjunction of tests. `pick` computes; `◌&◌` is shut, so that a proof finds its parts by unification.
-- Assumes nothing.
use Rattle.std.specs.Prelude.{Bool, true, false, ◌≡◌, refl, ℕ}
use Rattle.std.proofs.lemmas.Bool.{false≢true}

-- the first of two where the test passes, else the second
abbrev pub pick : {A : Type 0} → Bool → A → A → A
pick true a b = a
pick false a b = b

infixl 35 ◌&◌
-- both tests pass
unfoldable pub ◌&◌ : Bool → Bool → Bool
true & b = b
false & b = false

-- 1 for a test that passes
abbrev pub bit : Bool → ℕ
bit true = 1
bit false = 0

pub and_true : (b : Bool) → (true & b) ≡ b
unfolding ◌&◌
and_true b = refl

pub and_false : (b : Bool) → (false & b) ≡ false
unfolding ◌&◌
and_false b = refl

pub and_none : (b : Bool) → (b & false) ≡ false
unfolding ◌&◌
and_none true = refl
and_none false = refl

pub and_left : (a b : Bool) → (a & b) ≡ true → a ≡ true
unfolding ◌&◌
and_left true b e = refl
and_left false b e = e

pub and_right : (a b : Bool) → (a & b) ≡ true → b ≡ true
unfolding ◌&◌
and_right true b e = e
and_right false b e = absurd (false≢true e)

pub and_both : (a b : Bool) → a ≡ true → b ≡ true → (a & b) ≡ true
and_both a b e f = simp (e, f, and_true)
