use Rattle.std.proofs.Common.{rules}
use Rattle.chip_read.specs.Blank.{blank_laws}
use Rattle.chip_read.proofs.bytes_blank.Goals as goal

pub returns-then-wide_at-ne255 : goal.returns-then-wide_at-ne255
returns-then-wide_at-ne255 c = search (rules, blank_laws)
