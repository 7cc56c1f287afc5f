use borrow.Author.Rules.{rules}
use Rattle.plain_levels.proofs.WayUp.{level_laws}
use Rattle.plain_levels.proofs.grow.Statement.{statement}
use Rattle.plain_levels.proofs.grow.Tie as tie
use Rattle.plain_levels.proofs.grow.Reads as reads
use Rattle.plain_levels.proofs.grow.Lts as lts
use Rattle.tree_root.proofs.node_of.Reads as node-of-reads
use Rattle.tree_node.proofs.first_key.Reads as first-key-reads
use Rattle.plain_levels.proofs.left_place.Reads as left-place-reads
use Rattle.plain_levels.proofs.part.Reads as part-reads
use Rattle.plain_levels.proofs.store_node.Reads as store-node-reads

ruleset all = (rules, level_laws)

pub grow_spec : {M : Type 1} → statement M
grow_spec =
    tie.close
    (tie.spec
    (λ c κs. search all)
    (λ c κs. search all)
    (λ c κs. search all)
    (λ c. search all)
    (λ c κs. search all)
    (λ c. search all)
    (λ c. search all)
    (λ c κs. search all)
    (λ c. search all)
    (λ c. search all))
