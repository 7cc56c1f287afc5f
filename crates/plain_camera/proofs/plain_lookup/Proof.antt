use borrow.Author.Rules.{rules}
use Rattle.camera.specs.Results.{camera_laws}
use Rattle.plain_camera.proofs.plain_lookup.Statement.{statement}
use Rattle.plain_camera.proofs.plain_lookup.Tie as tie
use Rattle.plain_camera.proofs.plain_lookup.Reads as reads
use Rattle.plain_camera.proofs.plain_lookup.Lts as lts
use Rattle.camera.proofs.report.Reads as report-reads
use Rattle.plain_calls.proofs.lookup.Reads as lookup_reads

ruleset all = (rules, camera_laws)

pub plain_lookup_spec : {M : Type 1} → statement M
plain_lookup_spec =
    tie.close (tie.spec (λ c. search all) (λ c κs. search all) (λ c κs. search all) (λ c. search all) (λ c. search all))
