use borrow.Author.Rules.{rules}
use Rattle.plain_levels.proofs.Tied.{tie_laws}
use Rattle.plain_levels.proofs.insert_pages.Statement.{statement}
use Rattle.plain_levels.proofs.insert_pages.Tie as tie
use Rattle.plain_levels.proofs.insert_pages.Reads as reads
use Rattle.plain_levels.proofs.insert_pages.Lts as lts
use Rattle.plain_levels.proofs.insert_with.Reads as insert-with-reads
use Rattle.plain_levels.proofs.job_of.Reads as job-of-reads

ruleset all = (rules, tie_laws)

pub insert_pages_spec : {M : Type 1} → statement M
insert_pages_spec =
    tie.close
    (tie.spec (λ c. search all) (λ c. search all) (λ c κs. search all) (λ c κs. search all) (λ c. search all) (λ c. search all))
