-- The verdict from each rule on, and what its code may count on. Definitions alone; assumes nothing.
use Rattle.std.specs.Prelude.{ℕ, ◌*◌, ◌<◌, ◌≤◌, Bool, ◌≡◌, List, leb, length}
use Rattle.geometry.specs.declared.Geometry.{Geometry}
use Rattle.geometry.specs.Findings.{Verdict, Sound}
use Rattle.geometry.specs.Tests.{◌&◌}
use Rattle.model.specs.Bytes.{erased}
use Rattle.model.specs.Image.{Chip, chip_of, pages_of}
use Rattle.model.specs.Next.{full, in_block}
use Rattle.model.specs.Rules.{r2, r3, r4, r5, r6, r7, r8, asked, or_else, verdict}
use Rattle.chip_survey.specs.declared.Survey.{Survey}
use Rattle.chip_survey.specs.Survey.{survey_of}
use Rattle.live_walk.specs.Table.{live_in, Marked}
use Rattle.sound_verdict.specs.declared.Judgement.{Judgement}

-- R7's test of a block, by the table of live pages
unfoldable pub clearable : ℕ → (ℕ → Bool) → List ℕ → ℕ → ℕ → Bool
clearable p er tbl free b = full p er b & leb (in_block p (live_in tbl) b) free

-- the verdict from a rule on
abbrev pub from8 : Geometry → ℕ → List ℕ → Verdict
from8 g n img = or_else 8 (r8 g.pages n (chip_of g n img)) Sound

abbrev pub from7 : Geometry → ℕ → List ℕ → Verdict
from7 g n img =
    or_else 7 (asked g (r7 g.pages n (chip_of g n img))) (or_else 8 (asked g (r8 g.pages n (chip_of g n img))) Sound)

abbrev pub from6 : Geometry → ℕ → List ℕ → Verdict
from6 g n img = or_else 6 (r6 (pages_of g n) (chip_of g n img)) (from7 g n img)

abbrev pub from5 : Geometry → ℕ → List ℕ → Verdict
from5 g n img = or_else 5 (r5 g (pages_of g n) (chip_of g n img)) (from6 g n img)

abbrev pub from4 : Geometry → ℕ → List ℕ → Verdict
from4 g n img = or_else 4 (r4 g n img) (from5 g n img)

abbrev pub from3 : Geometry → ℕ → List ℕ → Verdict
from3 g n img = or_else 3 (r3 g n img) (from4 g n img)

abbrev pub from2 : Geometry → ℕ → List ℕ → Verdict
from2 g n img = or_else 2 (r2 g.pages n (erased g img)) (from3 g n img)

-- a table of m places has room for the pages of n blocks
pub record Roomy (g : Geometry) (n m : ℕ) : Type 0 where
  pub some : 1 ≤ m
  pub room : g.pages * n ≤ m

-- a survey of the image, and a table of m places that has room for its pages
pub record Surveyed (g : Geometry) (n : ℕ) (img : List ℕ) (s : Survey) (m : ℕ) : Type 0 where
  pub survey : s ≡ survey_of g n img
  pub level : s.level < 255
  pub some : 1 ≤ m
  pub room : g.pages * n ≤ m

-- a verdict of Sound comes with the table filled
pub record Tells (c : Chip) (tbl : List ℕ) (v : Verdict) : Type 0 where
  pub marked : v ≡ Sound → Marked c tbl

-- a verdict that is not Sound
pub record Never (v : Verdict) : Type 0 where
  pub never : v ≡ Sound → ⊥

-- a judgement of n blocks: the verdict, the survey, and the table, as long as before
pub record Judged (g : Geometry) (n : ℕ) (img : List ℕ) (j : Judgement) (before after : List ℕ) : Type 0 where
  pub verdict : j.verdict ≡ verdict g n img
  pub survey : j.survey ≡ survey_of g n img
  pub level : j.survey.level < 255
  pub table : Tells (chip_of g n img) after j.verdict
  pub same : length after ≡ length before
