use borrow.Author.Rules.{rules}
use Rattle.plain_levels.proofs.WayUp.{level_laws}
use Rattle.plain_levels.proofs.job_of.Statement.{statement}
use Rattle.plain_levels.proofs.job_of.Tie as tie
use Rattle.plain_levels.proofs.job_of.Reads as reads
use Rattle.plain_levels.proofs.job_of.Lts as lts
use Rattle.geometry.proofs.index.Reads as index_Reads
use Rattle.chip_next.proofs.coming_from.Reads as coming-from-reads
use Rattle.chip_next.proofs.next_by.Reads as next-by-reads
use Rattle.plain_levels.proofs.long.Reads as long-reads

ruleset all = (rules, level_laws)

pub job_of_spec : {M : Type 1} → statement M
job_of_spec =
    tie.close (tie.spec (λ c κs. search all) (λ c κs. search all) (λ c κs. search all) (λ c κs. search all) (λ c. search all))
