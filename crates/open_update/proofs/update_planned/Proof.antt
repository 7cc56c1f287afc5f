use borrow.Author.Rules.{rules}
use Rattle.open_update.specs.With.{with_laws, planned_direct}
use Rattle.open_update.proofs.update_planned.Statement.{statement}
use Rattle.open_update.proofs.update_planned.Tie as tie
use Rattle.open_update.proofs.update_planned.Reads as reads
use Rattle.open_update.proofs.update_planned.Lts as lts
use Rattle.open_update.proofs.plenty.Reads as plenty-reads
use Rattle.open_update.proofs.update_direct.Reads as update-direct-reads
use Rattle.open_update.proofs.update_told.Reads as update-told-reads

ruleset all = (rules, with_laws)

pub update_planned_spec : {M : Type 1} → statement M
update_planned_spec =
    tie.close
    (tie.spec
    (λ c κs. search all)
    (λ c κs. search all)
    (λ c. search all)
    (λ c. search all)
    (λ c.
    planned_direct _ _ _ _ _ _ _ _ _ _ c.update_direct.ensures c.plenty.ensures c.if-plenty-o.true)
    (λ c κs. search all)
    (λ c. search all)
    (λ c. search all)
    (λ c. search all))
