use Rattle.std.proofs.Common.{rules}
use Rattle.call_export.specs.Exports.{record_laws}
use Rattle.call_export.proofs.write_record.Goals as goal

ruleset all = (rules, record_laws)

pub returns-clause-count : goal.returns-clause-count
returns-clause-count c = (search all, search all)
