use borrow.Author.Rules.{rules}
use Rattle.camera.specs.Results.{row_laws}
use Rattle.camera.proofs.mutree_import.Statement.{statement}
use Rattle.camera.proofs.mutree_import.Tie as tie
use Rattle.camera.proofs.mutree_import.Reads as reads
use Rattle.camera.proofs.mutree_import.Lts as lts
use Rattle.camera.proofs.report_row.Reads as report-row-reads
use Rattle.index.proofs.import_text.Reads as import-text-reads

ruleset all = (rules, row_laws)

pub mutree_import_spec : {M : Type 1} → statement M
mutree_import_spec =
    tie.close
    (tie.spec (λ c. search all) (λ c κs. search all) (λ c κs. search all) (λ c. search all) (λ c. search all) (λ c. search all))
