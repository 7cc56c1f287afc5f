use borrow.Author.Rules.{rules}
use Rattle.plain_levels.proofs.WayUp.{level_laws}
use Rattle.plain_levels.proofs.settle_put.Statement.{statement}
use Rattle.plain_levels.proofs.settle_put.Tie as tie
use Rattle.plain_levels.proofs.settle_put.Reads as reads
use Rattle.plain_levels.proofs.settle_put.Lts as lts
use Rattle.geometry.proofs.half.Reads as half-reads
use Rattle.tree_node.proofs.size.Reads as size-reads
use Rattle.plain_levels.proofs.left_place.Reads as left-place-reads
use Rattle.plain_levels.proofs.page_at.Reads as page-at-reads
use Rattle.plain_levels.proofs.part.Reads as part-reads
use Rattle.plain_levels.proofs.store_node.Reads as store-node-reads
use Rattle.tree_split.proofs.least.Reads as least-reads

ruleset all = (rules, level_laws)

pub settle_put_spec : {M : Type 1} → statement M
settle_put_spec =
    tie.close
    (tie.spec
    (λ c κs. search all)
    (λ c κs. search all)
    (λ c κs. search all)
    (λ c. search all)
    (λ c κs. search all)
    (λ c. search all)
    (λ c. search all)
    (λ c κs. search all)
    (λ c κs. search all)
    (λ c κs. search all)
    (λ c. search all)
    (λ c. search all))
