use borrow.Author.Rules.{rules}
use Rattle.plain_levels.proofs.WayUp.{level_laws}
use Rattle.plain_levels.proofs.part.Statement.{statement}
use Rattle.plain_levels.proofs.part.Tie as tie
use Rattle.plain_levels.proofs.part.Reads as reads
use Rattle.plain_levels.proofs.part.Lts as lts
use Rattle.plain_levels.proofs.halve.Reads as halve-reads
use Rattle.plain_levels.proofs.left_place.Reads as left-place-reads
use Rattle.plain_levels.proofs.right_place.Reads as right-place-reads
use Rattle.plain_levels.proofs.store_node.Reads as store-node-reads

ruleset all = (rules, level_laws)

pub part_spec : {M : Type 1} → statement M
part_spec =
    tie.close
    (tie.spec
    (λ c κs. search all)
    (λ c κs. search all)
    (λ c κs. search all)
    (λ c κs. search all)
    (λ c κs. search all)
    (λ c. search all)
    (λ c. search all))
