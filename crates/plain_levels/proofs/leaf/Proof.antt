use borrow.Author.Rules.{rules}
use Rattle.plain_levels.proofs.WayUp.{level_laws}
use Rattle.plain_levels.proofs.leaf.Statement.{statement}
use Rattle.plain_levels.proofs.leaf.Tie as tie
use Rattle.plain_levels.proofs.leaf.Reads as reads
use Rattle.plain_levels.proofs.leaf.Lts as lts
use Rattle.tree_load.proofs.put_leaf.Reads as put-leaf-reads
use Rattle.tree_load.proofs.remove_leaf.Reads as remove-leaf-reads

ruleset all = (rules, level_laws)

pub leaf_spec : {M : Type 1} → statement M
leaf_spec =
    tie.close
    (tie.spec (λ c. search all) (λ c κs. search all) (λ c. search all) (λ c κs. search all) (λ c. search all) (λ c. search all))
