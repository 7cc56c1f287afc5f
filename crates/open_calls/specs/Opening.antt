-- Opening an image of n blocks. Definitions alone; assumes nothing.
use Rattle.std.specs.Prelude.{ℕ, List}
use Rattle.geometry.specs.declared.Geometry.{Geometry}
use Rattle.model.specs.Rules.{verdict}
use Rattle.model.specs.Calls.{Outcome, gives, damaged, by_verdict}
use Rattle.open_record.specs.declared.Opened.{Opened}
use Rattle.open_record.specs.Opened.{opened_in, no_record}

unfoldable pub opening_in : Geometry → ℕ → List ℕ → Outcome
opening_in g n img = by_verdict (verdict g n img) (damaged img) (gives 0 0 0 0 img)

unfoldable pub opened_blocks : Geometry → ℕ → List ℕ → Opened
opened_blocks g n img = by_verdict (verdict g n img) (λ rule page. no_record) (opened_in g n img)
