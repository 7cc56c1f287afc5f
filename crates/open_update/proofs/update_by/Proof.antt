use borrow.Author.Rules.{rules}
use Rattle.open_update.specs.With.{with_laws}
use Rattle.open_update.proofs.update_by.Statement.{statement}
use Rattle.open_update.proofs.update_by.Tie as tie
use Rattle.open_update.proofs.update_by.Reads as reads
use Rattle.open_update.proofs.update_by.Lts as lts
use Rattle.call_account.proofs.refuse.Reads as refuse-reads
use Rattle.call_update.proofs.asks_of.Reads as asks-of-reads
use Rattle.open_update.proofs.update_planned.Reads as update-planned-reads

ruleset all = (rules, with_laws)

pub update_by_spec : {M : Type 1} → statement M
update_by_spec =
    tie.close
    (tie.spec
    (λ c κs. search all)
    (λ c. search all)
    (λ c. search all)
    (λ c. search all)
    (λ c κs. search all)
    (λ c κs. search all)
    (λ c. search all)
    (λ c. search all)
    (λ c. search all)
    (λ c κs. search all)
    (λ c. search all)
    (λ c. search all)
    (λ c. search all))
