use borrow.Author.Rules.{rules}
use Rattle.camera.specs.Opened.{bytes_laws}
use Rattle.camera.proofs.record_in.Statement.{statement}
use Rattle.camera.proofs.record_in.Tie as tie
use Rattle.camera.proofs.record_in.Reads as reads
use Rattle.camera.proofs.record_in.Lts as lts
use Rattle.chip_read.proofs.read_u32.Reads as read-u32-reads

ruleset all = (rules, bytes_laws)

pub record_in_spec : {M : Type 1} → statement M
record_in_spec =
    tie.close
    (tie.spec
    (λ c κs. search all)
    (λ c κs. search all)
    (λ c κs. search all)
    (λ c κs. search all)
    (λ c κs. search all)
    (λ c κs. search all)
    (λ c. search all))
