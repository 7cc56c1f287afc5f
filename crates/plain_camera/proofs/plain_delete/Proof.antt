use borrow.Author.Rules.{rules}
use Rattle.camera.specs.Results.{camera_laws}
use Rattle.plain_camera.proofs.plain_delete.Statement.{statement}
use Rattle.plain_camera.proofs.plain_delete.Tie as tie
use Rattle.plain_camera.proofs.plain_delete.Reads as reads
use Rattle.plain_camera.proofs.plain_delete.Lts as lts
use Rattle.camera.proofs.report.Reads as report-reads
use Rattle.plain_calls.proofs.delete.Reads as delete-reads

ruleset all = (rules, camera_laws)

pub plain_delete_spec : {M : Type 1} → statement M
plain_delete_spec =
    tie.close
    (tie.spec (λ c. search all) (λ c κs. search all) (λ c κs. search all) (λ c. search all) (λ c. search all) (λ c. search all))
