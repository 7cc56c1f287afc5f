use Rattle.std.proofs.Common.{rules}
use Rattle.collect_blocks.specs.Collecting.{collect_laws}
use Rattle.collect_blocks.proofs.clear.Goals as goal

pub returns-then-not-v : goal.returns-then-not-v
returns-then-not-v c = search (rules, collect_laws)

pub returns : goal.returns
returns c = search (rules, collect_laws)
