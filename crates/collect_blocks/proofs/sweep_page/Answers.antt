use Rattle.std.proofs.Common.{rules}
use Rattle.collect_blocks.specs.Collecting.{collect_laws}
use Rattle.collect_blocks.proofs.sweep_page.Goals as goal

pub returns-then-low-eq0-clause-sweeps : goal.returns-then-low-eq0-clause-sweeps
returns-then-low-eq0-clause-sweeps c = search (rules, collect_laws)

pub returns-clause-sweeps : goal.returns-clause-sweeps
returns-clause-sweeps c = search (rules, collect_laws)
