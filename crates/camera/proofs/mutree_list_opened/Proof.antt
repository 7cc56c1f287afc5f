use borrow.Author.Rules.{rules}
use Rattle.camera.specs.Opened.{call_laws}
use Rattle.camera.proofs.mutree_list_opened.Statement.{statement}
use Rattle.camera.proofs.mutree_list_opened.Tie as tie
use Rattle.camera.proofs.mutree_list_opened.Reads as reads
use Rattle.camera.proofs.mutree_list_opened.Lts as lts
use Rattle.camera.proofs.list_bytes.Reads as list-bytes-reads
use Rattle.camera.proofs.report.Reads as report-reads

ruleset all = (rules, call_laws)

pub mutree_list_opened_spec : {M : Type 1} → statement M
mutree_list_opened_spec =
    tie.close
    (tie.spec (λ c. search all) (λ c κs. search all) (λ c κs. search all) (λ c. search all) (λ c. search all) (λ c. (search all, (search all, search all))))
