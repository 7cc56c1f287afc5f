use Rattle.std.proofs.Common.{rules}
use Rattle.plain_calls.specs.Losses.{loss_laws}
use Rattle.plain_calls.proofs.leaf_loss.Goals as goal

pub returns-in-Some : goal.returns-in-Some
returns-in-Some c = search (rules, loss_laws)

pub returns-in-None : goal.returns-in-None
returns-in-None c = search (rules, loss_laws)
