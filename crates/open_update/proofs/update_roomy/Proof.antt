use borrow.Author.Rules.{rules}
use Rattle.open_update.specs.With.{with_laws, roomy_direct}
use Rattle.open_update.proofs.update_roomy.Statement.{statement}
use Rattle.open_update.proofs.update_roomy.Tie as tie
use Rattle.open_update.proofs.update_roomy.Reads as reads
use Rattle.open_update.proofs.update_roomy.Lts as lts
use Rattle.collect_blocks.proofs.enough.Reads as enough-reads
use Rattle.open_update.proofs.update_collected.Reads as update-collected-reads
use Rattle.open_update.proofs.update_direct.Reads as update-direct-reads

ruleset all = (rules, with_laws)

pub update_roomy_spec : {M : Type 1} → statement M
update_roomy_spec =
    tie.close
    (tie.spec
    (λ c κs. search all)
    (λ c κs. search all)
    (λ c. search all)
    (λ c. search all)
    (λ c.
    roomy_direct _ _ _ _ _ _ _ _ _ _ c.update_direct.ensures c.enough.ensures c.if-enough-o.true)
    (λ c κs. search all)
    (λ c. search all)
    (λ c. search all)
    (λ c. search all))
