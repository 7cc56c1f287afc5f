use borrow.Author.Rules.{rules}
use Rattle.plain_levels.proofs.WayUp.{level_laws}
use Rattle.plain_levels.proofs.store_root.Statement.{statement}
use Rattle.plain_levels.proofs.store_root.Tie as tie
use Rattle.plain_levels.proofs.store_root.Reads as reads
use Rattle.plain_levels.proofs.store_root.Lts as lts
use Rattle.geometry.proofs.half.Reads as half-reads
use Rattle.tree_node.proofs.size.Reads as size-reads
use Rattle.plain_levels.proofs.grow.Reads as grow-reads
use Rattle.plain_levels.proofs.left_place.Reads as left-place-reads
use Rattle.plain_levels.proofs.store_node.Reads as store-node-reads

ruleset all = (rules, level_laws)

pub store_root_spec : {M : Type 1} → statement M
store_root_spec =
    tie.close
    (tie.spec
    (λ c κs. search all)
    (λ c κs. search all)
    (λ c. search all)
    (λ c κs. search all)
    (λ c. search all)
    (λ c. search all)
    (λ c κs. search all)
    (λ c κs. search all)
    (λ c. search all)
    (λ c. search all))
