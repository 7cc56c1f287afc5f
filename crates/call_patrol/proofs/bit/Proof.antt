use borrow.Author.Rules.{rules}
use Rattle.call_patrol.specs.Patrols.{patrol_laws}
use Rattle.call_patrol.proofs.bit.Statement.{statement}
use Rattle.call_patrol.proofs.bit.Tie as tie
use Rattle.call_patrol.proofs.bit.Reads as reads
use Rattle.call_patrol.proofs.bit.Lts as lts

ruleset all = (rules, patrol_laws)

pub bit_spec : {M : Type 1} → statement M
bit_spec = tie.close (tie.spec (λ c. search all) (λ c. search all) (λ c. search all))
