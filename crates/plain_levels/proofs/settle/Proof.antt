use borrow.Author.Rules.{rules}
use Rattle.plain_levels.proofs.WayUp.{level_laws}
use Rattle.plain_levels.proofs.settle.Statement.{statement}
use Rattle.plain_levels.proofs.settle.Tie as tie
use Rattle.plain_levels.proofs.settle.Reads as reads
use Rattle.plain_levels.proofs.settle.Lts as lts
use Rattle.plain_levels.proofs.settle_put.Reads as settle-put-reads
use Rattle.plain_levels.proofs.settle_remove.Reads as settle-remove-reads

ruleset all = (rules, level_laws)

pub settle_spec : {M : Type 1} → statement M
settle_spec =
    tie.close
    (tie.spec
    (λ c. search all)
    (λ c κs. search all)
    (λ c. search all)
    (λ c κs. search all)
    (λ c. search all)
    (λ c. search all)
    (λ c. search all)
    (λ c. search all))
