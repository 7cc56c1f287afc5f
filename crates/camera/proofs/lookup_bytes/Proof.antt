use borrow.Author.Rules.{rules}
use Rattle.camera.specs.Opened.{bytes_laws}
use Rattle.camera.proofs.lookup_bytes.Statement.{statement}
use Rattle.camera.proofs.lookup_bytes.Tie as tie
use Rattle.camera.proofs.lookup_bytes.Reads as reads
use Rattle.camera.proofs.lookup_bytes.Lts as lts
use Rattle.index.proofs.lookup_opened.Reads as lookup-opened-reads
use Rattle.camera.proofs.record_in.Reads as record-in-reads

ruleset all = (rules, bytes_laws)

pub lookup_bytes_spec : {M : Type 1} → statement M
lookup_bytes_spec =
    tie.close (tie.spec (λ c. search all) (λ c κs. search all) (λ c κs. search all) (λ c. search all))
