use borrow.Author.Rules.{rules}
use Rattle.camera.specs.Results.{row_laws}
use Rattle.camera.proofs.mutree_export.Statement.{statement}
use Rattle.camera.proofs.mutree_export.Tie as tie
use Rattle.camera.proofs.mutree_export.Reads as reads
use Rattle.camera.proofs.mutree_export.Lts as lts
use Rattle.camera.proofs.report_row.Reads as report-row-reads
use Rattle.index.proofs.export_text.Reads as export-text-reads

ruleset all = (rules, row_laws)

pub mutree_export_spec : {M : Type 1} → statement M
mutree_export_spec =
    tie.close
    (tie.spec (λ c. search all) (λ c κs. search all) (λ c κs. search all) (λ c. search all) (λ c. search all) (λ c. search all))
