use borrow.Author.Rules.{rules}
use Rattle.plain_levels.proofs.WayUp.{level_laws}
use Rattle.plain_levels.proofs.insert_with.Statement.{statement}
use Rattle.plain_levels.proofs.insert_with.Tie as tie
use Rattle.plain_levels.proofs.insert_with.Reads as reads
use Rattle.plain_levels.proofs.insert_with.Lts as lts
use Rattle.plain_levels.proofs.climb.Reads as climb-reads
use Rattle.plain_levels.proofs.store_root.Reads as store-root-reads

ruleset all = (rules, level_laws)

pub insert_with_spec : {M : Type 1} → statement M
insert_with_spec =
    tie.close (tie.spec (λ c κs. search all) (λ c. search all) (λ c κs. search all) (λ c. search all) (λ c. search all))
