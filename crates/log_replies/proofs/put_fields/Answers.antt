use Rattle.std.proofs.Common.{rules}
use Rattle.log_replies.specs.Written.{fields_laws}
use Rattle.log_replies.proofs.put_fields.Goals as goal

ruleset all = (rules, fields_laws)

pub loop-x-init : goal.loop-x-init
loop-x-init c = search all

pub loop-x-preserved : goal.loop-x-preserved
loop-x-preserved c = record { most = search all; place = search all; bytes = search all }
