use Rattle.std.proofs.Common.{rules}
use Rattle.call_update.specs.Stores.{store_laws}
use Rattle.call_update.proofs.update_made.Goals as goal

pub returns : goal.returns
returns c = search (rules, store_laws)
