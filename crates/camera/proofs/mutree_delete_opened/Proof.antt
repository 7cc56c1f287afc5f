use borrow.Author.Rules.{rules}
use Rattle.camera.specs.Opened.{call_laws, kept_short}
use Rattle.camera.specs.Results.{short_answer, short_image, short_result}
use Rattle.camera.proofs.mutree_delete_opened.Statement.{statement}
use Rattle.camera.proofs.mutree_delete_opened.Tie as tie
use Rattle.camera.proofs.mutree_delete_opened.Reads as reads
use Rattle.camera.proofs.mutree_delete_opened.Lts as lts
use Rattle.camera.proofs.delete_bytes.Reads as delete-bytes-reads
use Rattle.camera.proofs.report.Reads as report-reads

ruleset all = (rules, call_laws)

pub mutree_delete_opened_spec : {M : Type 1} → statement M
mutree_delete_opened_spec =
    tie.close
    (tie.spec
    (λ c. (let h = c.if-res-lt24.true in (short_answer _ _ _ h, (short_image _ _ _ h, (kept_short _ _ _ h, (kept_short _ _ _ h, short_result _ _ _ h))))))
    (λ c κs. search all)
    (λ c κs. search all)
    (λ c. search all)
    (λ c. search all)
    (λ c. search all)
    (λ c. search all)
    (λ c. (search all, (search all, (search all, (search all, search all))))))
