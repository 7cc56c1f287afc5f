use borrow.Author.Rules.{rules}
use Rattle.open_update.specs.With.{with_laws, collected_is}
use Rattle.open_update.proofs.update_noted.Statement.{statement}
use Rattle.open_update.proofs.update_noted.Tie as tie
use Rattle.open_update.proofs.update_noted.Reads as reads
use Rattle.open_update.proofs.update_noted.Lts as lts
use Rattle.call_account.proofs.note_levels.Reads as note-levels-reads
use Rattle.call_update.proofs.update_made.Reads as update-made-reads

ruleset all = (rules, with_laws)

pub update_noted_spec : {M : Type 1} → statement M
update_noted_spec =
    tie.close
    (tie.spec
    (λ c κs. search all)
    (λ c κs. search all)
    (λ c. search all)
    (λ c. search all)
    (λ c. search all)
    (λ c.
    collected_is _ _ _ _ _ _ _ _ _ _ c.update_made.ensures c.note_levels.ensures))
