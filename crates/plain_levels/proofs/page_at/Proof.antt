use borrow.Author.Rules.{rules}
use Rattle.plain_levels.proofs.WayUp.{level_laws}
use Rattle.plain_levels.proofs.page_at.Statement.{statement}
use Rattle.plain_levels.proofs.page_at.Tie as tie
use Rattle.plain_levels.proofs.page_at.Reads as reads
use Rattle.plain_levels.proofs.page_at.Lts as lts
use Rattle.geometry.proofs.index.Reads as index_Reads

ruleset all = (rules, level_laws)

pub page_at_spec : {M : Type 1} → statement M
page_at_spec =
    tie.close (tie.spec (λ c κs. search all) (λ c. search all) (λ c. search all) (λ c. search all) (λ c. search all))
