use Rattle.std.proofs.Common.{rules}
use Rattle.log_replies.specs.Written.{fields_laws}
use Rattle.log_replies.proofs.put_field.Goals as goal

ruleset all = (rules, fields_laws)

pub returns-clause-most : goal.returns-clause-most
returns-clause-most c = search all
