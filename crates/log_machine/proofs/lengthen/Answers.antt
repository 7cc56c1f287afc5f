use Rattle.std.proofs.Common.{rules}
use Rattle.log_machine.proofs.Steps.{step_laws}
use Rattle.log_machine.proofs.lengthen.Goals as goal

pub returns-then-filled-lt34-clause-run : goal.returns-then-filled-lt34-clause-run
returns-then-filled-lt34-clause-run c = search (rules, step_laws)

pub returns-clause-run : goal.returns-clause-run
returns-clause-run c = search (rules, step_laws)

pub returns-clause-line : goal.returns-clause-line
returns-clause-line c = search (rules, step_laws)
