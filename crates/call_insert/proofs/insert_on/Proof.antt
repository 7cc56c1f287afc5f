use borrow.Author.Rules.{rules}
use Rattle.call_update.specs.Update.{update_live, Small}
use Rattle.call_insert.proofs.insert_on.Statement.{statement}
use Rattle.call_insert.proofs.insert_on.Tie as tie
use Rattle.call_insert.proofs.insert_on.Reads as reads
use Rattle.call_insert.proofs.insert_on.Lts as lts
use Rattle.call_update.proofs.update_on.Reads as update-on-reads

-- the update that is an insert is the insert
pub insert_on_spec : {M : Type 1} → statement M
unfolding update_live Small
insert_on_spec =
    tie.close (tie.spec (λ c κs. (search rules, (search rules, search rules))) (λ c. search rules) (λ c. search rules) (λ c. search rules))
