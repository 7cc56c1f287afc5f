use borrow.Author.Rules.{rules}
use Rattle.camera.specs.Opened.{bytes_laws}
use Rattle.camera.proofs.put_record.Statement.{statement}
use Rattle.camera.proofs.put_record.Tie as tie
use Rattle.camera.proofs.put_record.Reads as reads
use Rattle.camera.proofs.put_record.Lts as lts
use Rattle.camera.proofs.put_numbers.Reads as put-numbers-reads

ruleset all = (rules, bytes_laws)

pub put_record_spec : {M : Type 1} → statement M
put_record_spec = tie.close (tie.spec (λ c κs. search all) (λ c. search all) (λ c. search all))
