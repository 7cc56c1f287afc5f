use Rattle.std.proofs.Common.{rules}
use Rattle.call_export.specs.Exports.{exporter_laws}
use Rattle.call_export.proofs.export_blocks.Goals as goal

pub returns-in-Err : goal.returns-in-Err
returns-in-Err c = search (rules, exporter_laws)
