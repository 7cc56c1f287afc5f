use Rattle.std.proofs.Common.{rules}
use Rattle.collect_blocks.specs.Collecting.{collect_laws}
use Rattle.collect_blocks.proofs.clear_block.Goals as goal

pub returns-then-r : goal.returns-then-r
returns-then-r c = search (rules, collect_laws)

pub returns : goal.returns
returns c = search (rules, collect_laws)
