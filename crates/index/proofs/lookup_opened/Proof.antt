use borrow.Author.Rules.{rules}
use Rattle.index.specs.Opened.{opened_laws}
use Rattle.index.proofs.lookup_opened.Statement.{statement}
use Rattle.index.proofs.lookup_opened.Tie as tie

ruleset all = (rules, opened_laws)

pub lookup_opened_spec : {M : Type 1} → statement M
lookup_opened_spec =
    tie.close
    (tie.spec
    (λ c κs. search all)
    (λ c. search all)
    (λ c. search all)
    (λ c. search all)
    (λ c κs. search all)
    (λ c. search all))
