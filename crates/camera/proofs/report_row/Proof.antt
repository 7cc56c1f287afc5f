use borrow.Author.Rules.{rules}
use Rattle.camera.specs.Results.{camera_laws}
use Rattle.camera.proofs.report_row.Statement.{statement}
use Rattle.camera.proofs.report_row.Tie as tie
use Rattle.camera.proofs.report_row.Reads as reads
use Rattle.camera.proofs.report_row.Lts as lts
use Rattle.camera.proofs.put_numbers.Reads as put-numbers-reads

ruleset all = (rules, camera_laws)

pub report_row_spec : {M : Type 1} → statement M
report_row_spec = tie.close (tie.spec (λ c κs. search all) (λ c. search all) (λ c. search all))
