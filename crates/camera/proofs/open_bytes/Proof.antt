use borrow.Author.Rules.{rules}
use Rattle.camera.specs.Opened.{bytes_laws}
use Rattle.camera.proofs.open_bytes.Statement.{statement}
use Rattle.camera.proofs.open_bytes.Tie as tie
use Rattle.camera.proofs.open_bytes.Reads as reads
use Rattle.camera.proofs.open_bytes.Lts as lts
use Rattle.index.proofs.open.Reads as open_reads
use Rattle.camera.proofs.put_record.Reads as put-record-reads

ruleset all = (rules, bytes_laws)

pub open_bytes_spec : {M : Type 1} → statement M
open_bytes_spec =
    tie.close (tie.spec (λ c. search all) (λ c κs. search all) (λ c κs. search all) (λ c. search all) (λ c. search all))
