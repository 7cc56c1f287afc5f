use Rattle.std.proofs.Common.{rules}
use Rattle.call_export.specs.Exports.{value_laws}
use Rattle.call_export.proofs.put_value.Goals as goal

ruleset all = (rules, value_laws)

pub returns-clause-place : goal.returns-clause-place
returns-clause-place c = (search all, search all)
