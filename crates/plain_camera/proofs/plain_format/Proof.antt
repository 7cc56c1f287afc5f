use borrow.Author.Rules.{rules}
use Rattle.camera.specs.Results.{camera_laws}
use Rattle.plain_camera.proofs.plain_format.Statement.{statement}
use Rattle.plain_camera.proofs.plain_format.Tie as tie
use Rattle.plain_camera.proofs.plain_format.Reads as reads
use Rattle.plain_camera.proofs.plain_format.Lts as lts
use Rattle.camera.proofs.report.Reads as report-reads
use Rattle.plain_calls.proofs.format.Reads as format-reads

ruleset all = (rules, camera_laws)

pub plain_format_spec : {M : Type 1} → statement M
plain_format_spec =
    tie.close
    (tie.spec (λ c. search all) (λ c κs. search all) (λ c κs. search all) (λ c. search all) (λ c. search all) (λ c. search all))
