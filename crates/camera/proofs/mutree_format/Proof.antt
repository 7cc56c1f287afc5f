use borrow.Author.Rules.{rules}
use Rattle.camera.specs.Results.{camera_laws}
use Rattle.camera.proofs.mutree_format.Statement.{statement}
use Rattle.camera.proofs.mutree_format.Tie as tie
use Rattle.camera.proofs.mutree_format.Reads as reads
use Rattle.camera.proofs.mutree_format.Lts as lts
use Rattle.camera.proofs.report.Reads as report-reads
use Rattle.index.proofs.format.Reads as format-reads

ruleset all = (rules, camera_laws)

pub mutree_format_spec : {M : Type 1} → statement M
mutree_format_spec =
    tie.close
    (tie.spec (λ c. search all) (λ c κs. search all) (λ c κs. search all) (λ c. search all) (λ c. search all) (λ c. search all))
