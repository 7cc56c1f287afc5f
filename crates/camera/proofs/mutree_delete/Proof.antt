use borrow.Author.Rules.{rules}
use Rattle.camera.specs.Results.{short_answer, short_image, short_live, short_result, lent_laws}
use Rattle.camera.proofs.mutree_delete.Statement.{statement}
use Rattle.camera.proofs.mutree_delete.Tie as tie
use Rattle.camera.proofs.mutree_delete.Reads as reads
use Rattle.camera.proofs.mutree_delete.Lts as lts
use Rattle.camera.proofs.report.Reads as report-reads
use Rattle.index.proofs.delete.Reads as delete-reads

ruleset all = (rules, lent_laws)

pub mutree_delete_spec : {M : Type 1} → statement M
mutree_delete_spec =
    tie.close
    (tie.spec
    (λ c. (let h = c.if-res-lt24.true in (short_answer _ _ _ h, (short_image _ _ _ h, (short_live _ _ _ h, short_result _ _ _ h)))))
    (λ c κs. search all)
    (λ c κs. search all)
    (λ c. search all)
    (λ c. search all)
    (λ c. search all)
    (λ c. (search all, (search all, (search all, search all)))))
