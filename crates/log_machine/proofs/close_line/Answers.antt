use Rattle.std.proofs.Common.{rules}
use Rattle.log_machine.proofs.Steps.{step_laws}
use Rattle.log_machine.proofs.close_line.Goals as goal

pub returns-then-full-clause-run : goal.returns-then-full-clause-run
returns-then-full-clause-run c = search (rules, step_laws)

pub returns-in_default-clause-run : goal.returns-in_default-clause-run
returns-in_default-clause-run c = search (rules, step_laws)
