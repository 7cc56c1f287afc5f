use borrow.Author.Rules.{rules}
use Rattle.camera.specs.Opened.{call_laws}
use Rattle.camera.proofs.mutree_open.Statement.{statement}
use Rattle.camera.proofs.mutree_open.Tie as tie
use Rattle.camera.proofs.mutree_open.Reads as reads
use Rattle.camera.proofs.mutree_open.Lts as lts
use Rattle.camera.proofs.open_bytes.Reads as open-bytes-reads
use Rattle.camera.proofs.report.Reads as report-reads

ruleset all = (rules, call_laws)

pub mutree_open_spec : {M : Type 1} → statement M
mutree_open_spec =
    tie.close
    (tie.spec (λ c. search all) (λ c κs. search all) (λ c κs. search all) (λ c. search all) (λ c. search all) (λ c. search all))
