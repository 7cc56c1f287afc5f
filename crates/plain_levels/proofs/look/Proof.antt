use borrow.Author.Rules.{rules}
use Rattle.plain_levels.proofs.WayUp.{level_laws}
use Rattle.plain_levels.proofs.look.Statement.{statement}
use Rattle.plain_levels.proofs.look.Tie as tie
use Rattle.plain_levels.proofs.look.Reads as reads
use Rattle.plain_levels.proofs.look.Lts as lts
use Rattle.plain_levels.proofs.climb.Reads as climb-reads

ruleset all = (rules, level_laws)

pub look_spec : {M : Type 1} → statement M
look_spec = tie.close (tie.spec (λ c κs. search all) (λ c. search all) (λ c. search all))
