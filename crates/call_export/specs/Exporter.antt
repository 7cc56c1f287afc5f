-- The export as the code does it, line by line. Definitions alone; assumes nothing.
use Rattle.std.specs.Prelude.{ℕ, ◌+◌, ◌-◌, ◌*◌, List, [], ◌∷◌, ◌++◌, length}
use Rattle.geometry.specs.declared.Geometry.{Geometry}
use Rattle.geometry.specs.declared.Entry.{Entry}
use Rattle.model.specs.Bytes.{entries_at, node_at}
use Rattle.model.specs.Image.{chip_of}
use Rattle.model.specs.Tree.{gather, under, map_of}
use Rattle.model.specs.Rules.{verdict}
use Rattle.model.specs.Calls.{Outcome, damaged, by_verdict}
use Rattle.text_carrying.specs.Carrying.{record_text, text_of, exports}
use Rattle.call_export.specs.declared.Written.{Written}

-- a record's line
abbrev pub line_text : Entry → List ℕ
line_text e = record_text e ++ (10 ∷ [])

-- how far the writer has come after records
abbrev pub after : Written → List Entry → Written
after w es = record { records = w.records + length es; at = w.at + length (text_of es) }

-- the records under a node's entries after i of the n from byte `at`, the nodes below at level l - 1
unfoldable pub rest : Geometry → List ℕ → ℕ → ℕ → ℕ → ℕ → List Entry
rest g img l at n i = gather (under (node_at g img) (l - 1)) (entries_at img (at + 8 * i) (n - i))

-- an export on an image of n blocks
unfoldable pub exported_in : Geometry → ℕ → List ℕ → List ℕ → Outcome
exported_in g n img buffer = by_verdict (verdict g n img) (damaged buffer) (exports (map_of (chip_of g n img)) buffer)
