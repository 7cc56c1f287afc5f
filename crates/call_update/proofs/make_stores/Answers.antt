use Rattle.std.proofs.Common.{rules}
use Rattle.call_update.specs.Stores.{store_laws}
use Rattle.call_update.proofs.make_stores.Goals as goal

pub returns-then-r : goal.returns-then-r
returns-then-r c = search (rules, store_laws)

pub returns : goal.returns
returns c = search (rules, store_laws)
