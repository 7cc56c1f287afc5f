use borrow.Author.Rules.{rules}
use Rattle.plain_levels.proofs.WayUp.{level_laws}
use Rattle.plain_levels.proofs.rejoin.Statement.{statement}
use Rattle.plain_levels.proofs.rejoin.Tie as tie
use Rattle.plain_levels.proofs.rejoin.Reads as reads
use Rattle.plain_levels.proofs.rejoin.Lts as lts
use Rattle.tree_node.proofs.splice.Reads as splice-reads
use Rattle.plain_levels.proofs.settle.Reads as settle-reads

ruleset all = (rules, level_laws)

pub rejoin_spec : {M : Type 1} → statement M
rejoin_spec = tie.close (tie.spec (λ c κs. search all) (λ c κs. search all) (λ c. search all) (λ c. search all))
