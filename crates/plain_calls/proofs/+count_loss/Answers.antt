use Rattle.std.proofs.Common.{rules}
use Rattle.plain_calls.specs.Losses.{loss_laws}
use Rattle.plain_calls.proofs.+count_loss.Goals as goal

pub returns-then-r-ne0 : goal.returns-then-r-ne0
returns-then-r-ne0 t c = search (rules, loss_laws, c.in_ok-r.ensures)

pub returns : goal.returns
returns t c = search (rules, loss_laws, c.in_ok-r.ensures)
