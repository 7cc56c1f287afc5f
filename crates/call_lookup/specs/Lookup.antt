-- Lookup, in the form in which the code has the premises. Assumes nothing.
use Rattle.std.specs.Prelude.{ℕ, ◌≡◌, refl, List, Option, Some, None, Err}
use Rattle.std.proofs.Common.{sym, ◌∙◌}
use Rattle.std.proofs.Math.Path.{ap}
use Rattle.geometry.specs.declared.Geometry.{Geometry}
use Rattle.geometry.specs.declared.Broken.{Broken}
use Rattle.geometry.specs.Findings.{Sound}
use Rattle.model.specs.Image.{Chip, chip_of}
use Rattle.model.specs.Tree.{sought}
use Rattle.model.specs.Rules.{verdict}
use Rattle.model.specs.Calls.{refused, damaged, by_verdict, answered, lookup}
use Rattle.call_answers.specs.declared.Answer.{Answer}
use Rattle.call_answers.specs.declared.Answer.TheVariants.{Done, Length, Absent}
use Rattle.call_answers.specs.Answers.{told}
use Rattle.chip_read.specs.Chip.{good_blocks, chip_with}
use Rattle.chip_read.specs.Blocks.{some_blocks}
use Rattle.sound_verdict.specs.declared.Judgement.{Judgement}
use Rattle.sound_verdict.specs.Verdict.{Judged}
use Rattle.sound_verdict.specs.InOrder.{roomy_few, roomy_many}
use Rattle.chip_survey.specs.Pass.{chip_is}
use Rattle.call_judged.specs.Judging.{judged_broken, judged_rest, judged_length, judged_blocks}

unfoldable pub answer_of : Option ℕ → Answer
answer_of (Some a) = Done a 0 0
answer_of None = Absent

pub answer_at : (f : Option ℕ) (a : ℕ) → f ≡ Some a → Done a 0 0 ≡ answer_of f
unfolding answer_of
answer_at f a e = sym (rw e refl)

pub answer_none : (f : Option ℕ) → f ≡ None → Absent ≡ answer_of f
unfolding answer_of
answer_none f e = sym (rw e refl)

pub answer_tells : (f : Option ℕ) (img : List ℕ) → told (answer_of f) img ≡ answered f img
unfolding answer_of answered
answer_tells (Some a) img = refl
answer_tells None img = refl

-- a judgement of n blocks, whatever table came with it
pub record Weighed (g : Geometry) (n : ℕ) (img : List ℕ) (j : Judgement) : Type 0 where
  pub before : List ℕ
  pub after : List ℕ
  pub judged : Judged g n img j before after

pub weighed_is : (g : Geometry) (n : ℕ) (img : List ℕ) (j : Judgement) (t u : List ℕ) → Judged g n img j t u
    → Weighed g n img j
weighed_is g n img j t u x = record { before = t; after = u; judged = x }

module _ (g : Geometry) (n : ℕ) (img : List ℕ) (k : ℕ) (j : Judgement) (x : Weighed g n img j) where
  pub lookup_broken : (a : Answer) (b : Broken) → j.verdict ≡ Err b → told a img ≡ damaged img b.rule b.page
      → told a img ≡ by_verdict (verdict g n img) (damaged img) (answered (sought (chip_of g n img) k) img)
  lookup_broken a b e h =
      judged_broken g n img (damaged img) _ j x.before x.after x.judged (told a img) b.rule b.page e h

  pub lookup_done : (f : Option ℕ) (a : Answer) → j.verdict ≡ Sound → f ≡ sought (chip_with g img j.survey.level
      j.survey.root) k
      → a ≡ answer_of f → told a img ≡ by_verdict (verdict g n img) (damaged img)
      (answered (sought (chip_of g n img) k) img)
  lookup_done f a e ef ea =
      let c : f ≡ sought (chip_of g n img) k =
      ef ∙ ap (λ (y : Chip). sought y k) (chip_is g n img j.survey x.judged.survey) in
      judged_rest g n img (damaged img) _ j x.before x.after x.judged (told a img)
      (ap (λ (y : Answer). told y img) ea ∙ answer_tells f img ∙ ap (λ (y : Option ℕ). answered y img) c) e

module _ (g : Geometry) (img : List ℕ) (k n : ℕ) (en : n ≡ good_blocks g img) where
  pub lookup_length : n ≡ 0 → told Length img ≡ lookup g img k
  unfolding lookup
  lookup_length z = judged_length g img (refused 1 img) (damaged img) _ n en z

  pub lookup_blocks : (a : Answer) → (n ≡ 0 → ⊥) → told a img ≡ by_verdict (verdict g n img) (damaged img)
      (answered (sought (chip_of g n img) k) img) → told a img ≡ lookup g img k
  unfolding lookup
  lookup_blocks a h e =
      judged_blocks g img (refused 1 img) (damaged img) _ n en (told a img) h
      (e ∙ ap (λ (m : ℕ). by_verdict (verdict g n img) (damaged img) (answered (sought (chip_of g m img) k) img)) (some_blocks g img n en h))

pub ruleset lookup_laws = (answer_at, answer_none, roomy_few, roomy_many, weighed_is, lookup_length, lookup_broken, lookup_done, lookup_blocks)
