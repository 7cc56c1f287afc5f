use borrow.Author.Rules.{rules}
use Rattle.compare_machine.proofs.Steps.{step_laws}
use Rattle.compare_machine.proofs.lengthen.Statement.{statement}
use Rattle.compare_machine.proofs.lengthen.Tie as tie

ruleset all = (rules, step_laws)

pub lengthen_spec : {M : Type 1} → statement M
lengthen_spec =
    tie.close (tie.spec (λ c κs. search all) (λ c. search all) (λ c. search all) (λ c. search all) (λ c κs. search all) (λ c. search all))
