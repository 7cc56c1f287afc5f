use Rattle.std.proofs.Common.{rules}
use Rattle.call_update.specs.Stores.{store_laws}
use Rattle.call_update.proofs.own_stores.Goals as goal

pub returns-in-Insert : goal.returns-in-Insert
returns-in-Insert c = search (rules, store_laws)

pub returns-in-Delete : goal.returns-in-Delete
returns-in-Delete c = search (rules, store_laws)
