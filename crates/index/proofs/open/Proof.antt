use borrow.Author.Rules.{rules}
use Rattle.index.specs.Opened.{opened_laws}
use Rattle.index.proofs.open.Statement.{statement}
use Rattle.index.proofs.open.Tie as tie

ruleset all = (rules, opened_laws)

pub open_spec : {M : Type 1} → statement M
open_spec =
    tie.close
    (tie.spec
    (λ c κs. search all)
    (λ c. search all)
    (λ c. search all)
    (λ c κs. search all)
    (λ c. search all)
    (λ c κs. search all)
    (λ c. search all))
