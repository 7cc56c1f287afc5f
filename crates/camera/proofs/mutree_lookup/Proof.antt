use borrow.Author.Rules.{rules}
use Rattle.camera.specs.Results.{camera_laws}
use Rattle.camera.proofs.mutree_lookup.Statement.{statement}
use Rattle.camera.proofs.mutree_lookup.Tie as tie
use Rattle.camera.proofs.mutree_lookup.Reads as reads
use Rattle.camera.proofs.mutree_lookup.Lts as lts
use Rattle.camera.proofs.report.Reads as report-reads
use Rattle.index.proofs.lookup.Reads as lookup_reads

ruleset all = (rules, camera_laws)

pub mutree_lookup_spec : {M : Type 1} → statement M
mutree_lookup_spec =
    tie.close (tie.spec (λ c. search all) (λ c κs. search all) (λ c κs. search all) (λ c. search all) (λ c. search all))
