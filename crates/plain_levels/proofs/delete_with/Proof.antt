use borrow.Author.Rules.{rules}
use Rattle.plain_levels.proofs.WayUp.{level_laws}
use Rattle.plain_levels.proofs.delete_with.Statement.{statement}
use Rattle.plain_levels.proofs.delete_with.Tie as tie
use Rattle.plain_levels.proofs.delete_with.Reads as reads
use Rattle.plain_levels.proofs.delete_with.Lts as lts
use Rattle.tree_load.proofs.collapse.Reads as collapse-reads
use Rattle.plain_levels.proofs.look.Reads as look-reads
use Rattle.plain_levels.proofs.store_node.Reads as store-node-reads
use Rattle.plain_levels.proofs.store_path.Reads as store-path-reads

ruleset all = (rules, level_laws)

pub delete_with_spec : {M : Type 1} → statement M
delete_with_spec =
    tie.close
    (tie.spec
    (λ c κs. search all)
    (λ c κs. search all)
    (λ c κs. search all)
    (λ c. search all)
    (λ c. search all)
    (λ c. search all)
    (λ c κs. search all)
    (λ c. search all)
    (λ c. search all))
