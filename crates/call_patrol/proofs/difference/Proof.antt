use borrow.Author.Rules.{rules}
use Rattle.call_patrol.specs.Patrols.{patrol_laws}
use Rattle.call_patrol.proofs.difference.Statement.{statement}
use Rattle.call_patrol.proofs.difference.Tie as tie
use Rattle.call_patrol.proofs.difference.Reads as reads
use Rattle.call_patrol.proofs.difference.Lts as lts

ruleset all = (rules, patrol_laws)

pub difference_spec : {M : Type 1} → statement M
difference_spec = tie.close (tie.spec (λ c. search all))
