use borrow.Author.Rules.{rules}
use Rattle.open_update.specs.With.{with_laws, told_room, told_made}
use Rattle.open_update.proofs.update_told.Statement.{statement}
use Rattle.open_update.proofs.update_told.Tie as tie
use Rattle.open_update.proofs.update_told.Reads as reads
use Rattle.open_update.proofs.update_told.Lts as lts
use Rattle.call_account.proofs.is_roomless.Reads as is-roomless-reads
use Rattle.call_account.proofs.tell.Reads as tell-reads
use Rattle.open_update.proofs.update_roomy.Reads as update-roomy-reads

ruleset all = (rules, with_laws)

pub update_told_spec : {M : Type 1} → statement M
update_told_spec =
    tie.close
    (tie.spec
    (λ c κs. search all)
    (λ c κs. search all)
    (λ c. search all)
    (λ c. search all)
    (λ c.
    told_room _ _ _ _ _ _ _ _ _ c.tell.ensures _ c.is_roomless.ensures c.if-is_roomless.true)
    (λ c κs. search all)
    (λ c. search all)
    (λ c. search all)
    (λ c.
    told_made _ _ _ _ _ _ _ _ _ c.tell.ensures _ c.is_roomless.ensures _ c.update_roomy.ensures c.if-is_roomless.false))
