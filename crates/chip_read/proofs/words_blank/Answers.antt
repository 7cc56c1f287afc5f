use Rattle.std.proofs.Common.{rules}
use Rattle.chip_read.specs.Blank.{blank_laws}
use Rattle.chip_read.proofs.words_blank.Goals as goal

pub returns-then-not-eight_blank : goal.returns-then-not-eight_blank
returns-then-not-eight_blank c = search (rules, blank_laws)

pub loop-k-preserved : goal.loop-k-preserved
loop-k-preserved c = search (rules, blank_laws)
