use borrow.Author.Rules.{rules}
use Rattle.camera.specs.Results.{camera_laws}
use Rattle.camera.proofs.report.Statement.{statement}
use Rattle.camera.proofs.report.Tie as tie
use Rattle.camera.proofs.report.Reads as reads
use Rattle.camera.proofs.report.Lts as lts
use Rattle.call_answers.proofs.row_of.Reads as row-of-reads
use Rattle.camera.proofs.report_row.Reads as report-row-reads

ruleset all = (rules, camera_laws)

pub report_spec : {M : Type 1} → statement M
report_spec = tie.close (tie.spec (λ c κs. search all) (λ c κs. search all) (λ c. search all) (λ c. search all))
