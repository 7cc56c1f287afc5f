use borrow.Author.Rules.{rules}
use Rattle.open_update.specs.With.{with_laws}
use Rattle.open_update.proofs.plenty.Statement.{statement}
use Rattle.open_update.proofs.plenty.Tie as tie
use Rattle.open_update.proofs.plenty.Reads as reads
use Rattle.open_update.proofs.plenty.Lts as lts
use Rattle.call_account.proofs.needed.Reads as needed-reads
use Rattle.collect_blocks.proofs.enough.Reads as enough-reads

ruleset all = (rules, with_laws)

pub plenty_spec : {M : Type 1} → statement M
plenty_spec = tie.close (tie.spec (λ c κs. search all) (λ c. search all) (λ c κs. search all) (λ c. search all))
