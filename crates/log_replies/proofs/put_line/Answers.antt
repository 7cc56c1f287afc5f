use Rattle.std.proofs.Common.{rules}
use Rattle.log_replies.specs.Written.{line_laws}
use Rattle.log_replies.proofs.put_line.Goals as goal

pub returns-clause-place : goal.returns-clause-place
returns-clause-place c = search (rules, line_laws)
