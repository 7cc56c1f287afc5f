use Rattle.std.proofs.Common.{rules}
use Rattle.chip_store.specs.Runs.{run_laws}
use Rattle.chip_store.proofs.put_page.Goals as goal

pub returns-then-b-eq0 : goal.returns-then-b-eq0
returns-then-b-eq0 c = search (rules, run_laws)

pub returns-then-free : goal.returns-then-free
returns-then-free c = search (rules, run_laws)

pub returns : goal.returns
returns c = search (rules, run_laws)
