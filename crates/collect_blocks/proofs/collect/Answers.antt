use Rattle.std.proofs.Common.{rules}
use Rattle.collect_blocks.specs.Collecting.{collect_laws}
use Rattle.collect_blocks.proofs.collect.Goals as goal

pub returns-then-enough-w : goal.returns-then-enough-w
returns-then-enough-w c = search (rules, collect_laws)

pub returns-then-w : goal.returns-then-w
returns-then-w c = search (rules, collect_laws)
