-- Opening and the calls with a record, in the form in which the code has the premises. Assumes nothing.
use Rattle.std.specs.Prelude.{ℕ, ◌-◌, min, Bool, true, false, not, ◌≡◌, List, take, Option, Err}
use Rattle.std.proofs.Math.Path.{sym, ap}
use Rattle.std.proofs.Common.{◌∙◌}
use borrow.Author.Tests.{not-true, not-false, eqb-true}
use Rattle.geometry.specs.declared.Geometry.{Geometry}
use Rattle.geometry.specs.declared.Broken.{Broken}
use Rattle.geometry.specs.Findings.{Sound}
use Rattle.geometry.specs.Tests.{and_right}
use Rattle.model.specs.Bytes.{height_at}
use Rattle.model.specs.Image.{blocks_of}
use Rattle.model.specs.Tree.{sought}
use Rattle.model.specs.Rules.{verdict}
use Rattle.model.specs.Calls.{Outcome, gives, refused, damaged, by_verdict, answered}
use Rattle.model.specs.Listing.{ranged_of, lists, lists_none, as_outcome}
use Rattle.call_answers.specs.declared.Answer.{Answer}
use Rattle.call_answers.specs.declared.Answer.TheVariants.{Done, Length, Damaged, Stale}
use Rattle.call_answers.specs.Answers.{told}
use Rattle.chip_read.specs.Chip.{good_blocks, chip_with}
use Rattle.chip_read.specs.Blocks.{none_good, some_good, some_blocks}
use Rattle.chip_survey.specs.Survey.{survey_of}
use Rattle.sound_verdict.specs.declared.Judgement.{Judgement}
use Rattle.sound_verdict.specs.Verdict.{Judged}
use Rattle.call_judged.specs.Judging.{judged_broken, judged_rest, judged_length, judged_blocks}
use Rattle.call_lookup.specs.Lookup.{answer_of, answer_tells}
use Rattle.open_record.specs.declared.Opened.{Opened}
use Rattle.open_record.specs.Opened.{opened_in, no_record, opened, opening, standing, opened_call, level_by, chip_by, lookup_with, pairs_most, list_with}
use Rattle.open_calls.specs.Opening.{opening_in, opened_blocks}

-- ---- opening
module _ (g : Geometry) (n : ℕ) (img : List ℕ) (j : Judgement) (t u : List ℕ) (x : Judged g n img j t u) where
  pub survey_judged : j.survey ≡ survey_of g n img
  survey_judged = x.survey

  pub opening_broken : (a : Answer) (b : Broken) → a ≡ Damaged b.rule b.page → j.verdict ≡ Err b
      → told a img ≡ opening_in g n img
  unfolding opening_in
  opening_broken a b ea e = judged_broken g n img (damaged img) (gives 0 0 0 0 img) j t u x (told a img) b.rule b.page e (ap (λ (y : Answer). told y img) ea)

  pub opened_broken : (o : Opened) (b : Broken) → o ≡ no_record → j.verdict ≡ Err b → o ≡ opened_blocks g n img
  unfolding opened_blocks
  opened_broken o b eo e = judged_broken g n img (λ r p. no_record) (opened_in g n img) j t u x o b.rule b.page e eo

  pub opening_sound : (a : Answer) → a ≡ Done 0 0 0 → j.verdict ≡ Sound → told a img ≡ opening_in g n img
  unfolding opening_in
  opening_sound a ea e = judged_rest g n img (damaged img) (gives 0 0 0 0 img) j t u x (told a img) (ap (λ (y : Answer). told y img) ea) e

  pub opened_sound : (o : Opened) → o ≡ opened_in g n img → j.verdict ≡ Sound → o ≡ opened_blocks g n img
  unfolding opened_blocks
  opened_sound o eo e = judged_rest g n img (λ r p. no_record) (opened_in g n img) j t u x o eo e

module _ (g : Geometry) (img : List ℕ) (n : ℕ) (en : n ≡ good_blocks g img) where
  pub opening_length : (a : Answer) → a ≡ Length → n ≡ 0 → told a img ≡ opening g img
  unfolding opening
  opening_length a ea z = ap (λ (y : Answer). told y img) ea
      ∙ judged_length g img (refused 1 img) (damaged img) (gives 0 0 0 0 img) n en z

  pub opened_length : (o : Opened) → o ≡ no_record → n ≡ 0 → o ≡ opened g img
  unfolding opened
  opened_length o eo z = eo ∙ judged_length g img no_record (λ r p. no_record) _ n en z

  pub opening_blocks : (o : Outcome) → (n ≡ 0 → ⊥) → o ≡ opening_in g n img → o ≡ opening g img
  unfolding opening opening_in
  opening_blocks o h e = judged_blocks g img (refused 1 img) (damaged img) (gives 0 0 0 0 img) n en o h e

  pub opened_blocks_lem : (o : Opened) → (n ≡ 0 → ⊥) → o ≡ opened_blocks g n img → o ≡ opened g img
  unfolding opened opened_blocks
  opened_blocks_lem o h e =
      judged_blocks g img no_record (λ r p. no_record) _ n en o h
      (e ∙ ap (λ (m : ℕ). by_verdict (verdict g n img) (λ r p. no_record) (opened_in g m img)) (some_blocks g img n en h))

-- ---- a call with a record, of any kind
stands_height : (g : Geometry) (n : ℕ) (img : List ℕ) (o : Opened) → standing g n img o ≡ true
    → height_at g img o.root ≡ o.height
unfolding standing
stands_height g n img o e = eqb-true (height_at g img o.root) o.height (and_right _ _ e)

module _ (g : Geometry) (img : List ℕ) (o : Opened) (n : ℕ) (en : n ≡ good_blocks g img) where
  call_length : {A : Type 0} (short stale rest : A) → n ≡ 0 → short ≡ opened_call g img o short stale rest
  unfolding opened_call
  call_length short stale rest z = sym (simp (none_good g img n en z))

  module _ (s : Bool) (es : s ≡ standing g n img o) (h : n ≡ 0 → ⊥) where
    stands : standing g (blocks_of g img) img o ≡ s
    stands = sym (es ∙ ap (λ (m : ℕ). standing g m img o) (some_blocks g img n en h))

    call_stale : {A : Type 0} (short stale rest : A) → not s ≡ true → stale ≡ opened_call g img o short stale rest
    unfolding opened_call
    call_stale short stale rest f = sym (simp (some_good g img n en h, stands, not-true s f))

    call_rest : {A : Type 0} (short stale rest : A) → not s ≡ false → rest ≡ opened_call g img o short stale rest
    unfolding opened_call
    call_rest short stale rest f = sym (simp (some_good g img n en h, stands, not-false s f))

    -- the levels below the root are those of the record
    call_level : (l : ℕ) → l ≡ min (height_at g img o.root - 1) (g.top - 1) → not s ≡ false → l ≡ level_by g o
    call_level l el f = el ∙ ap (λ (x : ℕ). min (x - 1) (g.top - 1)) (stands_height g n img o (sym es ∙ not-false s f))

  -- lookup
  module _ (k : ℕ) where
    pub lookup_length : n ≡ 0 → told Length img ≡ lookup_with g img o k
    unfolding lookup_with
    lookup_length z = call_length (refused 1 img) (refused 8 img) _ z

    module _ (s : Bool) (es : s ≡ standing g n img o) (h : n ≡ 0 → ⊥) where
      pub lookup_stale : not s ≡ true → told Stale img ≡ lookup_with g img o k
      unfolding lookup_with
      lookup_stale f = call_stale s es h (refused 1 img) (refused 8 img) _ f

      pub lookup_sought : (l : ℕ) (f : Option ℕ) (a : Answer) → l ≡ min (height_at g img o.root - 1) (g.top - 1)
          → f ≡ sought (chip_with g img l o.root) k
          → a ≡ answer_of f → not s ≡ false → told a img ≡ lookup_with g img o k
      unfolding lookup_with
      lookup_sought l f a el ef ea e =
          let c : f ≡ sought (chip_by g img o) k =
          ef ∙ ap (λ (m : ℕ). sought (chip_with g img m o.root) k) (call_level s es h l el e) in
          ap (λ (y : Answer). told y img) ea ∙ answer_tells f img ∙ ap (λ (y : Option ℕ). answered y img) c
          ∙ call_rest s es h (refused 1 img) (refused 8 img) _ e

  -- listing
  module _ (low high : ℕ) (b : List ℕ) where
    pub list_length : n ≡ 0 → told Length b ≡ as_outcome (list_with g img o low high b)
    unfolding list_with
    list_length z = ap as_outcome (call_length (lists_none 1 0 0 b) (lists_none 8 0 0 b) _ z)

    module _ (s : Bool) (es : s ≡ standing g n img o) (h : n ≡ 0 → ⊥) where
      pub list_stale : not s ≡ true → told Stale b ≡ as_outcome (list_with g img o low high b)
      unfolding list_with
      list_stale f = ap as_outcome (call_stale s es h (lists_none 1 0 0 b) (lists_none 8 0 0 b) _ f)

      pub list_listed : (l : ℕ) (r : Outcome) → l ≡ min (height_at g img o.root - 1) (g.top - 1)
          → r ≡ as_outcome (lists (take pairs_most (ranged_of (chip_with g img l o.root) low high)) b) → not s ≡ false
          → r ≡ as_outcome (list_with g img o low high b)
      unfolding list_with
      list_listed l r el er e =
          er ∙ ap (λ (m : ℕ). as_outcome (lists (take pairs_most (ranged_of (chip_with g img m o.root) low high)) b)) (call_level s es h l el e)
          ∙ ap as_outcome (call_rest s es h (lists_none 1 0 0 b) (lists_none 8 0 0 b) _ e)

pub ruleset opening_laws = (survey_judged, opening_broken, opened_broken, opening_sound, opened_sound, opening_length, opened_length, opening_blocks, opened_blocks_lem, lookup_length, lookup_stale, lookup_sought, list_length, list_stale, list_listed)
