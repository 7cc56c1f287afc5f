use Rattle.std.proofs.Common.{rules}
use Rattle.call_import.specs.Imports.{importer_laws}
use Rattle.call_import.proofs.store_one.Goals as goal

pub returns : goal.returns
returns c = search (rules, importer_laws)
