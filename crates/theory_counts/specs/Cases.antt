-- Cases on numbers and tests. Assumes nothing.
use Rattle.std.specs.Prelude.{◌≡◌, refl, Bool, true, false, ℕ, ◌<◌, ◌≤◌, eqb}
use Rattle.std.proofs.Common.{sym, ◌∙◌, true≢false, eqb-true}
use Rattle.std.proofs.lemmas.Bool.{eqb-false}
use Rattle.geometry.specs.Tests.{pick, ◌&◌}
use Rattle.theory_counts.specs.Least.{by_lt}

pub by_eq : {C : Type 0} (a b : ℕ) → (a ≡ b → C) → ((a ≡ b → ⊥) → C) → C
by_eq {C} a b f g = go (eqb a b) refl
  where
    go : (t : Bool) → eqb a b ≡ t → C
    go true e = f (eqb-true a b e)
    go false e = g (eqb-false a b e)

pub by_le : {C : Type 0} (a b : ℕ) → (a ≤ b → C) → (b < a → C) → C
by_le a b f g = by_lt b a g f

pub by_test : {C : Type 0} (t : Bool) → (t ≡ true → C) → (t ≡ false → C) → C
by_test true f g = f refl
by_test false f g = g refl

pub true_false : (t : Bool) → t ≡ true → t ≡ false → ⊥
true_false t h i = true≢false (sym h ∙ i)

pub and_pick : (a b : Bool) → (a & b) ≡ pick a b false
unfolding ◌&◌
and_pick true b = refl
and_pick false b = refl
