use borrow.Author.Rules.{rules}
use Rattle.call_patrol.specs.Patrols.{patrol_laws}
use Rattle.call_patrol.proofs.in_pairs.Statement.{statement}
use Rattle.call_patrol.proofs.in_pairs.Tie as tie
use Rattle.call_patrol.proofs.in_pairs.Reads as reads
use Rattle.call_patrol.proofs.in_pairs.Lts as lts

ruleset all = (rules, patrol_laws)

pub in_pairs_spec : {M : Type 1} → statement M
in_pairs_spec = tie.close (tie.spec (λ c. search all) (λ c. search all))
