use Rattle.std.proofs.Common.{rules}
use Rattle.chip_read.specs.Blank.{blank_laws}
use Rattle.chip_read.proofs.line_blank.Goals as goal

pub loop-i-preserved : goal.loop-i-preserved
loop-i-preserved c = search (rules, blank_laws)
