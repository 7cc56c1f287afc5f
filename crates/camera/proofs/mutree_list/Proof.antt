use borrow.Author.Rules.{rules}
use Rattle.camera.specs.Results.{camera_laws}
use Rattle.camera.proofs.mutree_list.Statement.{statement}
use Rattle.camera.proofs.mutree_list.Tie as tie
use Rattle.camera.proofs.mutree_list.Reads as reads
use Rattle.camera.proofs.mutree_list.Lts as lts
use Rattle.camera.proofs.report.Reads as report-reads
use Rattle.index.proofs.list.Reads as list-reads

ruleset all = (rules, camera_laws)

pub mutree_list_spec : {M : Type 1} → statement M
mutree_list_spec =
    tie.close
    (tie.spec (λ c. search all) (λ c κs. search all) (λ c κs. search all) (λ c. search all) (λ c. search all) (λ c. search all))
