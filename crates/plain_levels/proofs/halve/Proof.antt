use borrow.Author.Rules.{rules}
use Rattle.plain_levels.proofs.WayUp.{level_laws}
use Rattle.plain_levels.proofs.halve.Statement.{statement}
use Rattle.plain_levels.proofs.halve.Tie as tie
use Rattle.plain_levels.proofs.halve.Reads as reads
use Rattle.plain_levels.proofs.halve.Lts as lts
use Rattle.geometry.proofs.half.Reads as half-reads
use Rattle.tree_node.proofs.first_key.Reads as first-key-reads
use Rattle.tree_node.proofs.left_half.Reads as left-half-reads
use Rattle.tree_node.proofs.right_half.Reads as right-half-reads
use Rattle.plain_levels.proofs.pair.Reads as Pair-reads

ruleset all = (rules, level_laws)

pub halve_spec : {M : Type 1} → statement M
halve_spec =
    tie.close
    (tie.spec
    (λ c κs. search all)
    (λ c κs. search all)
    (λ c κs. search all)
    (λ c κs. search all)
    (λ c κs. search all)
    (λ c. search all))
