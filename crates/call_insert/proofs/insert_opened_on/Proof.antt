use borrow.Author.Rules.{rules}
use Rattle.call_update.specs.Update.{update_opened}
use Rattle.call_insert.proofs.insert_opened_on.Statement.{statement}
use Rattle.call_insert.proofs.insert_opened_on.Tie as tie
use Rattle.call_insert.proofs.insert_opened_on.Reads as reads
use Rattle.call_insert.proofs.insert_opened_on.Lts as lts
use Rattle.open_update.proofs.update_opened_on.Reads as update-opened-on-reads

-- the update that is an insert is the insert
pub insert_opened_on_spec : {M : Type 1} → statement M
unfolding update_opened
insert_opened_on_spec =
    tie.close (tie.spec (λ c κs. search rules) (λ c. search rules) (λ c. search rules) (λ c. search rules))
