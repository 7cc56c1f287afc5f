use borrow.Author.Rules.{rules}
use Rattle.index.specs.ByNumber.{index_laws}
use Rattle.index.proofs.delete.Statement.{statement}
use Rattle.index.proofs.delete.Tie as tie

ruleset all = (rules, index_laws)

pub delete_spec : {M : Type 1} → statement M
delete_spec =
    tie.close
    (tie.spec
    (λ c κs. search all)
    (λ c. search all)
    (λ c. search all)
    (λ c. search all)
    (λ c κs. search all)
    (λ c. search all)
    (λ c. search all)
    (λ c. search all))
