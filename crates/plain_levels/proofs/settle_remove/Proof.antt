use borrow.Author.Rules.{rules}
use Rattle.plain_levels.proofs.WayUp.{level_laws}
use Rattle.plain_levels.proofs.settle_remove.Statement.{statement}
use Rattle.plain_levels.proofs.settle_remove.Tie as tie
use Rattle.plain_levels.proofs.settle_remove.Reads as reads
use Rattle.plain_levels.proofs.settle_remove.Lts as lts
use Rattle.tree_node.proofs.size.Reads as size-reads
use Rattle.plain_levels.proofs.kept_place.Reads as kept-place-reads
use Rattle.plain_levels.proofs.page_at.Reads as page-at-reads
use Rattle.plain_levels.proofs.store_node.Reads as store-node-reads

ruleset all = (rules, level_laws)

pub settle_remove_spec : {M : Type 1} → statement M
settle_remove_spec =
    tie.close
    (tie.spec
    (λ c κs. search all)
    (λ c. search all)
    (λ c κs. search all)
    (λ c κs. search all)
    (λ c κs. search all)
    (λ c. search all)
    (λ c. search all))
