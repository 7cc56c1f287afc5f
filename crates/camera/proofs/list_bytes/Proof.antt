use borrow.Author.Rules.{rules}
use Rattle.camera.specs.Opened.{bytes_laws}
use Rattle.camera.proofs.list_bytes.Statement.{statement}
use Rattle.camera.proofs.list_bytes.Tie as tie
use Rattle.camera.proofs.list_bytes.Reads as reads
use Rattle.camera.proofs.list_bytes.Lts as lts
use Rattle.index.proofs.list_opened.Reads as list-opened-reads
use Rattle.camera.proofs.record_in.Reads as record-in-reads

ruleset all = (rules, bytes_laws)

pub list_bytes_spec : {M : Type 1} → statement M
list_bytes_spec =
    tie.close (tie.spec (λ c. search all) (λ c κs. search all) (λ c κs. search all) (λ c. search all) (λ c. search all))
