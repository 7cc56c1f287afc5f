use mathlib.Core.Path.{ap}
use mathlib.Core.Bool.{not}
use Rattle.call_account.specs.Low.{known_sized}
use borrow.Author.Rules.{rules}
use Rattle.open_update.specs.With.{with_laws, with_length, with_short, with_stale, with_rest, stands_low}
use Rattle.open_update.proofs.update_opened_on.Statement.{statement}
use Rattle.open_update.proofs.update_opened_on.Tie as tie
use Rattle.open_update.proofs.update_opened_on.Reads as reads
use Rattle.open_update.proofs.update_opened_on.Lts as lts
use Rattle.chip_read.proofs.good_blocks.Reads as good-blocks-reads
use Rattle.live_fill.proofs.words_of.Reads as words-of-reads
use Rattle.open_renew.proofs.standing.Reads as standing-reads
use Rattle.open_update.proofs.update_by.Reads as update-by-reads

ruleset all = (rules, with_laws)

pub update_opened_on_spec : {M : Type 1} → statement M
update_opened_on_spec =
    tie.close
    (tie.spec
    (λ c κs. search all)
    (λ c. search all)
    (λ c. with_length _ _ _ _ _ _ _ c.good_blocks-n.ensures.0 c.if-n-eq0.true)
    (λ c κs. search all)
    (λ c. search all)
    (λ c.
    with_short _ _ _ _ _ _ _ c.good_blocks-n.ensures.0 c.if-n-eq0.false _ c.words_of-enough.ensures.0 c.if-lent-enough.true)
    (λ c κs. search all)
    (λ c. search all)
    (λ c.
    with_stale _ _ _ _ _ _ _ c.good_blocks-n.ensures.0 c.if-n-eq0.false _ c.words_of-enough.ensures.0 c.if-lent-enough.false _ c.standing.ensures (ap not c.if-not-standing.true))
    (λ c κs.
    (known_sized _ _ c.requires c.good_blocks-n.ensures.1, stands_low _ _ _ _ _ c.standing.ensures (ap not c.if-not-standing.false) (search rules)))
    (λ c. search all)
    (λ c. search all)
    (λ c.
    with_rest _ _ _ _ _ _ _ c.good_blocks-n.ensures.0 c.if-n-eq0.false _ c.words_of-enough.ensures.0 c.if-lent-enough.false _ c.standing.ensures _ c.update_by.ensures (ap not c.if-not-standing.false)))
