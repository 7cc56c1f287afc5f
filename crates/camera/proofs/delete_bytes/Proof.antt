use borrow.Author.Rules.{rules}
use Rattle.camera.specs.Opened.{bytes_laws}
use Rattle.camera.proofs.delete_bytes.Statement.{statement}
use Rattle.camera.proofs.delete_bytes.Tie as tie
use Rattle.camera.proofs.delete_bytes.Reads as reads
use Rattle.camera.proofs.delete_bytes.Lts as lts
use Rattle.index.proofs.delete_opened.Reads as delete-opened-reads
use Rattle.camera.proofs.put_record.Reads as put-record-reads
use Rattle.camera.proofs.record_in.Reads as record-in-reads

ruleset all = (rules, bytes_laws)

pub delete_bytes_spec : {M : Type 1} → statement M
delete_bytes_spec =
    tie.close
    (tie.spec
    (λ c. search all)
    (λ c κs. search all)
    (λ c κs. search all)
    (λ c κs. search all)
    (λ c. search all)
    (λ c. search all)
    (λ c. search all)
    (λ c. search all))
