use borrow.Author.Rules.{rules}
use Rattle.camera.specs.Opened.{call_laws}
use Rattle.camera.proofs.mutree_lookup_opened.Statement.{statement}
use Rattle.camera.proofs.mutree_lookup_opened.Tie as tie
use Rattle.camera.proofs.mutree_lookup_opened.Reads as reads
use Rattle.camera.proofs.mutree_lookup_opened.Lts as lts
use Rattle.camera.proofs.lookup_bytes.Reads as lookup-bytes-reads
use Rattle.camera.proofs.report.Reads as report-reads

ruleset all = (rules, call_laws)

pub mutree_lookup_opened_spec : {M : Type 1} → statement M
mutree_lookup_opened_spec =
    tie.close (tie.spec (λ c. search all) (λ c κs. search all) (λ c κs. search all) (λ c. search all) (λ c. search all))
