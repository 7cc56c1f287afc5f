use borrow.Author.Rules.{rules}
use Rattle.plain_levels.proofs.WayUp.{level_laws}
use Rattle.plain_levels.proofs.pair.Statement.{statement}
use Rattle.plain_levels.proofs.pair.Tie as tie
use Rattle.plain_levels.proofs.pair.Reads as reads
use Rattle.plain_levels.proofs.pair.Lts as lts
use Rattle.plain_levels.proofs.left_place.Reads as left-place-reads
use Rattle.plain_levels.proofs.page_at.Reads as page-at-reads
use Rattle.plain_levels.proofs.right_place.Reads as right-place-reads

ruleset all = (rules, level_laws)

pub pair_spec : {M : Type 1} → statement M
pair_spec =
    tie.close
    (tie.spec (λ c κs. search all) (λ c κs. search all) (λ c κs. search all) (λ c κs. search all) (λ c. search all))
