use Rattle.std.proofs.Common.{◌≡◌, ◌≤◌, ◌-◌}
use Rattle.model.specs.Bytes.{node_at}
use Rattle.chip_read.specs.Chip.{naming}
use Rattle.live_words.specs.Words.{Past}
use Rattle.live_beside.specs.Table.{table_in, off_path}
use Rattle.live_marks.proofs.off_path.Given as goal

abbrev pub invariant-loop-below : goal.invariant-loop-below
invariant-loop-below l =
    (1 ≤ l.below) × Past l.m l.initial.words l.words
    × (off_path l.m (node_at l.g l.img) l.key l.low l.level (naming l.root) (table_in l.initial.table l.initial.words)
    ≡ off_path l.m (node_at l.g l.img) l.key l.low (l.below - 1) (naming l.page) (table_in l.table l.words))
