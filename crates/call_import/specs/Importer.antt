-- The import as the code does it, by rows. Definitions alone; assumes nothing.
use Rattle.std.specs.Prelude.{ℕ, suc, ◌+◌, List, eqb, ltb}
use Rattle.geometry.specs.declared.Geometry.{Geometry}
use Rattle.geometry.specs.Tests.{pick, bit}
use Rattle.model.specs.Calls.{Outcome, gives, format}
use Rattle.call_answers.specs.declared.Row.{Row}
use Rattle.text_carrying.specs.Carrying.{most_records, word}
use Rattle.text_reader.specs.declared.Spot.{Spot}

-- an insert's row after those of the records before
abbrev pub counted_row : Row → Row → Row
counted_row s w = record {
  answer = w.answer;
  address = word (s.address + bit (eqb w.answer 0));
  programmed = word (s.programmed + w.programmed);
  erased = word (s.erased + w.erased);
  rule = w.rule;
  page = w.page;
}

-- what the reader says of a text of so many bytes: refused with a line, or the image is formatted
unfoldable pub begun : Geometry → List ℕ → Spot → ℕ → Outcome
begun g img t end = pick (eqb t.bad 0) (pick (ltb t.at end) (gives 9 (suc most_records) 0 0 img) (format g img)) (gives 9 t.bad 0 0 img)
