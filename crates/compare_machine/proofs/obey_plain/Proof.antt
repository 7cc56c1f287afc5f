use borrow.Author.Rules.{rules}
use Rattle.compare_machine.proofs.Steps.{plain_laws}
use Rattle.compare_machine.proofs.obey_plain.Statement.{statement}
use Rattle.compare_machine.proofs.obey_plain.Tie as tie

ruleset all = (rules, plain_laws)

pub obey_plain_spec : {M : Type 1} → statement M
obey_plain_spec =
    tie.close
    (tie.spec
    (λ c. search all)
    (λ c κs. search all)
    (λ c. search all)
    (λ c κs. search all)
    (λ c. search all)
    (λ c κs. search all)
    (λ c. search all)
    (λ c κs. search all)
    (λ c. search all)
    (λ c κs. search all)
    (λ c. search all)
    (λ c. search all)
    (λ c. search all)
    (λ c. search all)
    (λ c. search all)
    (λ c. search all)
    (λ c. search all)
    (λ c. search all)
    (λ c. search all)
    (λ c. search all))
