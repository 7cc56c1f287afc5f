use borrow.Author.Rules.{rules}
use Rattle.compare_machine.proofs.Steps.{step_laws}
use Rattle.compare_machine.proofs.close_line.Statement.{statement}
use Rattle.compare_machine.proofs.close_line.Tie as tie

ruleset all = (rules, step_laws)

pub close_line_spec : {M : Type 1} → statement M
close_line_spec =
    tie.close
    (tie.spec
    (λ c κs. search all)
    (λ c. (search all, (search all, (search all, search all))))
    (λ c κs. search all)
    (λ c. search all)
    (λ c. search all)
    (λ c κs. search all)
    (λ c. (search all, (search all, (search all, search all))))
    (λ c κs. search all)
    (λ c. search all)
    (λ c. search all)
    (λ c. (search all, (search all, (search all, search all)))))
