use borrow.Author.Rules.{rules}
use Rattle.compare_machine.proofs.Steps.{settle_laws}
use Rattle.compare_machine.proofs.settle.Statement.{statement}
use Rattle.compare_machine.proofs.settle.Tie as tie

ruleset all = (rules, settle_laws)

pub settle_spec : {M : Type 1} → statement M
settle_spec =
    tie.close
    (tie.spec
    (λ c κs. search all)
    (λ c κs. search all)
    (λ c. search all)
    (λ c κs. search all)
    (λ c κs. search all)
    (λ c. search all)
    (λ c κs. search all)
    (λ c. search all))
