-- The pages of a block, in the form in which the code has the premises. Assumes nothing.
use Rattle.std.specs.Prelude.{ℕ, ◌+◌, ◌*◌, ◌<◌, ◌≤◌, Bool, true, false, not, ◌≡◌, refl, List}
use Rattle.std.proofs.lemmas.Bool.{false≢true, not-true, not-false}
use Rattle.std.proofs.Common.{sym, ◌∙◌, arith, add-zero}
use Rattle.geometry.specs.declared.Geometry.{Geometry}
use Rattle.geometry.specs.Tests.{◌&◌, and_true, and_false}
use Rattle.model.specs.Bytes.{erased, seq_at}
use Rattle.model.specs.Rules.{well_formed}
use Rattle.theory_counts.specs.Least.{by_lt}
use Rattle.chip_survey.specs.declared.Seen.{Seen}
use Rattle.chip_survey.specs.Survey.{seen_to}
use Rattle.sound_numbers.specs.declared.Range.{Range}
use Rattle.sound_numbers.specs.Ranges.{range_to}
use Rattle.sound_sight.specs.Sight.{Told, Front, Fronted, Back, Late, Spoilt}

pub told_yes : (A B : Type 0) → A → Told true A B
told_yes A B a = record { yes = λ e. a; no = λ e. absurd (false≢true (sym e)) }

pub told_no : (A B : Type 0) → B → Told false A B
told_no A B b = record { yes = λ e. absurd (false≢true e); no = λ e. b }

pub both_yes : (a b : Bool) → a ≡ true → b ≡ (a & b)
both_yes a b e = sym (rw e (and_true b))

pub both_no : (a b : Bool) → a ≡ false → false ≡ (a & b)
both_no a b e = sym (rw e (and_false b))

-- the front of a block
module _ (g : Geometry) (img : List ℕ) (b : ℕ) where
  pub front_start : Front g img b 0
  front_start = record { programmed = λ i h. absurd (omega arith); formed = λ i h. absurd (omega arith) }

  pub seen_first : (s : Seen) → s ≡ seen_to g img (g.pages * b) → s ≡ seen_to g img (g.pages * b + 0)
  seen_first s e = rw (add-zero (g.pages * b)) e

  pub seen_here : (s : Seen) (j q : ℕ) → s ≡ seen_to g img (g.pages * b + j) → q ≡ g.pages * b + j → s ≡ seen_to g img q
  seen_here s j q e eq = rw eq e

  pub seen_next : (s : Seen) (j q : ℕ) → s ≡ seen_to g img (q + 1) → q ≡ g.pages * b + j → s ≡ seen_to g img
      (g.pages * b + (j + 1))
  seen_next s j q e eq =
      let w : q + 1 ≡ g.pages * b + (j + 1) = omega (arith, eq) in
      rw (← w) e

  module _ (j q : ℕ) (eq : q ≡ g.pages * b + j) (e : Bool) (ee : e ≡ erased g img q) where
    pub front_go : (r : Bool) → Front g img b j → e ≡ false → r ≡ well_formed g img q → not r ≡ false
        → Front g img b (j + 1)
    front_go r x z er n = record {
      programmed = λ i h. by_lt i j (λ k. x.programmed i k) (λ k. (let w : i ≡ j = omega arith in
          rw (w, ← eq) (sym ee ∙ z)));
      formed = λ i h. by_lt i j (λ k. x.formed i k) (λ k. (let w : i ≡ j = omega arith in
          rw (w, ← eq) (sym er ∙ not-false r n)));
    }

    pub front_ends : (B : Type 0) (s : Seen) (r : Range) → j < g.pages → Front g img b j → e ≡ true → s ≡ seen_to g img
        (g.pages * b + j)
        → r ≡ range_to (erased g img) (seq_at g img) (g.pages * b) j → Told true (Fronted g img b j s r) B
    front_ends B s r h x z es er = told_yes _ B (record { most = omega arith; front = x; ended = λ k. (rw (← eq) (sym ee ∙ z)); seen = es; range = er })

  pub front_bad : (A : Type 0) (j q : ℕ) (r : Bool) → q ≡ g.pages * b + j → r ≡ well_formed g img q → not r ≡ true
      → j < g.pages → Told false A (Spoilt g img b)
  front_bad A j q r eq er n h = told_no A _ (record { spoilt = λ f o. false≢true (sym (sym er ∙ not-true r n ∙ refl) ∙ rw eq (f j h)) })

  pub front_full : (B : Type 0) (j : ℕ) (s : Seen) (r : Range) → j ≤ g.pages → g.pages ≤ j → Front g img b j
      → s ≡ seen_to g img (g.pages * b + j)
      → r ≡ range_to (erased g img) (seq_at g img) (g.pages * b) j → Told true (Fronted g img b j s r) B
  front_full B j s r h k x es er = told_yes _ B (record { most = h; front = x; ended = λ m. absurd (omega arith); seen = es; range = er })

  -- the erased pages after it
  pub back_start : (f : ℕ) → Back g img b f f
  back_start f = record { blank = λ i h k. absurd (omega arith) }

  pub back_go : (f j q : ℕ) (e : Bool) → Back g img b f j → q ≡ g.pages * b + j → e ≡ erased g img q → not e ≡ false
      → Back g img b f (j + 1)
  back_go f j q e x eq ee n = record {
    blank = λ i h k. by_lt i j (λ m. x.blank i h m) (λ m. (let w : i ≡ j = omega arith in
        rw (w, ← eq) (sym ee ∙ not-false e n)));
  }

  pub back_late : (A : Type 0) (f j q : ℕ) (e : Bool) → f ≤ j → j < g.pages → q ≡ g.pages * b + j → e ≡ erased g img q
      → not e ≡ true → Told false A (Late g img b f)
  back_late A f j q e h k eq ee n = told_no A _ (record { place = j; after = h; inside = k; programmed = rw (← eq) (sym ee ∙ not-true e n) })

  pub back_end : (B : Type 0) (f j : ℕ) → Back g img b f j → g.pages ≤ j → Told true (Back g img b f g.pages) B
  back_end B f j x h = told_yes _ B (record { blank = λ i k m. x.blank i k (omega arith) })

pub ruleset page_laws = (both_yes, both_no, front_start, seen_first, seen_here, seen_next, front_go, front_ends, front_bad, front_full, back_start, back_go, back_late, back_end)
