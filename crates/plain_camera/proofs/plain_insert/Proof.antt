use borrow.Author.Rules.{rules}
use Rattle.camera.specs.Results.{camera_laws}
use Rattle.plain_camera.proofs.plain_insert.Statement.{statement}
use Rattle.plain_camera.proofs.plain_insert.Tie as tie
use Rattle.plain_camera.proofs.plain_insert.Reads as reads
use Rattle.plain_camera.proofs.plain_insert.Lts as lts
use Rattle.camera.proofs.report.Reads as report-reads
use Rattle.plain_calls.proofs.insert.Reads as insert-reads

ruleset all = (rules, camera_laws)

pub plain_insert_spec : {M : Type 1} → statement M
plain_insert_spec =
    tie.close
    (tie.spec (λ c. search all) (λ c κs. search all) (λ c κs. search all) (λ c. search all) (λ c. search all) (λ c. search all))
