use Rattle.std.proofs.Common.{rules}
use Rattle.call_update.specs.Stores.{asks_laws}
use Rattle.call_update.proofs.insert_asks.Goals as goal

pub returns : goal.returns
returns c = search (rules, asks_laws)
