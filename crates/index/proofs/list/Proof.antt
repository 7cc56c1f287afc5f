use borrow.Author.Rules.{rules}
use Rattle.index.specs.ByNumber.{index_laws}
use Rattle.index.proofs.list.Statement.{statement}
use Rattle.index.proofs.list.Tie as tie

ruleset all = (rules, index_laws)

pub list_spec : {M : Type 1} → statement M
list_spec =
    tie.close
    (tie.spec
    (λ c κs. search all)
    (λ c. search all)
    (λ c. search all)
    (λ c. search all)
    (λ c κs. search all)
    (λ c. search all)
    (λ c. search all))
