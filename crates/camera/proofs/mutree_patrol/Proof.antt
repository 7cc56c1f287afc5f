use borrow.Author.Rules.{rules}
use Rattle.camera.specs.Results.{camera_laws}
use Rattle.camera.proofs.mutree_patrol.Statement.{statement}
use Rattle.camera.proofs.mutree_patrol.Tie as tie
use Rattle.camera.proofs.mutree_patrol.Reads as reads
use Rattle.camera.proofs.mutree_patrol.Lts as lts
use Rattle.camera.proofs.report.Reads as report-reads
use Rattle.index.proofs.patrol.Reads as patrol-reads

ruleset all = (rules, camera_laws)

pub mutree_patrol_spec : {M : Type 1} → statement M
mutree_patrol_spec =
    tie.close
    (tie.spec (λ c. search all) (λ c κs. search all) (λ c κs. search all) (λ c. search all) (λ c. search all) (λ c. search all))
