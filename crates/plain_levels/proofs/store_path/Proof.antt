use borrow.Author.Rules.{rules}
use Rattle.plain_levels.proofs.WayUp.{level_laws}
use Rattle.plain_levels.proofs.store_path.Statement.{statement}
use Rattle.plain_levels.proofs.store_path.Tie as tie
use Rattle.plain_levels.proofs.store_path.Reads as reads
use Rattle.plain_levels.proofs.store_path.Lts as lts
use Rattle.plain_levels.proofs.climb.Reads as climb-reads
use Rattle.plain_levels.proofs.kept_place.Reads as kept-place-reads
use Rattle.plain_levels.proofs.store_node.Reads as store-node-reads

ruleset all = (rules, level_laws)

pub store_path_spec : {M : Type 1} → statement M
store_path_spec =
    tie.close
    (tie.spec
    (λ c κs. search all)
    (λ c. search all)
    (λ c κs. search all)
    (λ c. search all)
    (λ c. search all)
    (λ c κs. search all)
    (λ c. search all)
    (λ c. search all))
