use borrow.Author.Rules.{rules}
use Rattle.open_update.specs.With.{with_laws, direct_is}
use Rattle.open_update.proofs.update_direct.Statement.{statement}
use Rattle.open_update.proofs.update_direct.Tie as tie
use Rattle.open_update.proofs.update_direct.Reads as reads
use Rattle.open_update.proofs.update_direct.Lts as lts
use Rattle.call_account.proofs.finish.Reads as finish-reads
use Rattle.call_account.proofs.fresh.Reads as fresh-reads
use Rattle.call_update.proofs.own_stores.Reads as own-stores-reads

ruleset all = (rules, with_laws)

pub update_direct_spec : {M : Type 1} → statement M
update_direct_spec =
    tie.close
    (tie.spec
    (λ c κs. search all)
    (λ c κs. search all)
    (λ c κs. search all)
    (λ c. search all)
    (λ c. search all)
    (λ c.
    direct_is _ _ _ _ _ _ _ _ _ c.own_stores-own.ensures _ _ _ _ c.finish.ensures c.fresh-b.ensures.0 c.requires.3 c.requires.0 c.requires.2))
