use Rattle.std.proofs.Common.{rules}
use Rattle.log_lines.specs.FieldByField.{line_laws}
use Rattle.log_lines.proofs.last_form.Goals as goal

pub returns : goal.returns
returns c = search (rules, line_laws, c.in_ok-allowance.was)
