-- What the survey says. Definitions alone; assumes nothing.
use Rattle.std.specs.Prelude.{ℕ, ◌-◌, List}
use Rattle.geometry.specs.declared.Geometry.{Geometry}
use Rattle.model.specs.Bytes.{erased}
use Rattle.model.specs.Count.{count, peak, arg}
use Rattle.model.specs.Image.{pages_of, seq_of, height_of, max_seq, root_score, root_of}
use Rattle.chip_survey.specs.declared.Seen.{Seen}
use Rattle.chip_survey.specs.declared.Survey.{Survey}

-- of the pages below p
unfoldable pub seen_to : Geometry → List ℕ → ℕ → Seen
seen_to g img p = record {
  root = arg p (root_score g img);
  score = peak p (root_score g img);
  most = peak p (seq_of g img);
  last = arg p (seq_of g img);
  erased = count p (erased g img);
}

-- of n blocks
unfoldable pub survey_of : Geometry → ℕ → List ℕ → Survey
survey_of g n img = record {
  root = root_of g n img;
  height = height_of g img (root_of g n img);
  level = height_of g img (root_of g n img) - 1;
  most = max_seq g n img;
  last = arg (pages_of g n) (seq_of g img);
  erased = count (pages_of g n) (erased g img);
}
