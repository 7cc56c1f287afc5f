use borrow.Author.Rules.{rules}
use Rattle.index.specs.ByNumber.{index_laws}
use Rattle.index.proofs.export_text.Statement.{statement}
use Rattle.index.proofs.export_text.Tie as tie

ruleset all = (rules, index_laws)

pub export_text_spec : {M : Type 1} → statement M
export_text_spec =
    tie.close
    (tie.spec
    (λ c κs. search all)
    (λ c. search all)
    (λ c. search all)
    (λ c κs. search all)
    (λ c. search all)
    (λ c κs. search all)
    (λ c. search all)
    (λ c. search all))
