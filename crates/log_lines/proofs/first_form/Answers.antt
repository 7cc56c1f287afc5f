use Rattle.std.proofs.Common.{rules}
use Rattle.log_lines.specs.FieldByField.{line_laws}
use Rattle.log_lines.proofs.first_form.Goals as goal

pub returns-then-end-s : goal.returns-then-end-s
returns-then-end-s c = search (rules, line_laws, c.in_ok-key.was)

pub returns : goal.returns
returns c = search (rules, line_laws, c.in_ok-key.was)
