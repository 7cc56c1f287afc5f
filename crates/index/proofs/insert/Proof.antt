use borrow.Author.Rules.{rules}
use Rattle.index.specs.ByNumber.{index_laws}
use Rattle.index.proofs.insert.Statement.{statement}
use Rattle.index.proofs.insert.Tie as tie

ruleset all = (rules, index_laws)

pub insert_spec : {M : Type 1} → statement M
insert_spec =
    tie.close
    (tie.spec
    (λ c κs. search all)
    (λ c. search all)
    (λ c. search all)
    (λ c. search all)
    (λ c κs. search all)
    (λ c. search all)
    (λ c. search all)
    (λ c. search all))
