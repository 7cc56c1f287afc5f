use Rattle.std.proofs.Common.{rules}
use Rattle.collect_blocks.specs.Collecting.{collect_laws}
use Rattle.collect_blocks.proofs.move_live.Goals as goal

pub returns-then-r-clause-sweeps : goal.returns-then-r-clause-sweeps
returns-then-r-clause-sweeps c = search (rules, collect_laws)

pub returns-clause-sweeps : goal.returns-clause-sweeps
returns-clause-sweeps c = search (rules, collect_laws)
