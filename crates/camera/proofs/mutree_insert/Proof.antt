use borrow.Author.Rules.{rules}
use Rattle.camera.specs.Results.{short_answer, short_image, short_live, short_result, lent_laws}
use Rattle.camera.proofs.mutree_insert.Statement.{statement}
use Rattle.camera.proofs.mutree_insert.Tie as tie
use Rattle.camera.proofs.mutree_insert.Reads as reads
use Rattle.camera.proofs.mutree_insert.Lts as lts
use Rattle.camera.proofs.report.Reads as report-reads
use Rattle.index.proofs.insert.Reads as insert-reads

ruleset all = (rules, lent_laws)

pub mutree_insert_spec : {M : Type 1} → statement M
mutree_insert_spec =
    tie.close
    (tie.spec
    (λ c. (let h = c.if-res-lt24.true in (short_answer _ _ _ h, (short_image _ _ _ h, (short_live _ _ _ h, short_result _ _ _ h)))))
    (λ c κs. search all)
    (λ c κs. search all)
    (λ c. search all)
    (λ c. search all)
    (λ c. search all)
    (λ c. (search all, (search all, (search all, search all)))))
