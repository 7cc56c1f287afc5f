use Rattle.std.proofs.Common.{rules}
use Rattle.call_lookup.specs.Lookup.{lookup_laws}
use Rattle.call_lookup.proofs.lookup_blocks.Goals as goal

pub returns-in-Err : goal.returns-in-Err
returns-in-Err c = search (rules, lookup_laws)

pub returns-in-Ok : goal.returns-in-Ok
returns-in-Ok c = search (rules, lookup_laws)
