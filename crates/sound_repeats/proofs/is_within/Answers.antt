use Rattle.sound_repeats.specs.ByParts.{within_high, within_by}
use Rattle.sound_repeats.proofs.is_within.Goals as goal

pub returns-then-high-number-clause-value : goal.returns-then-high-number-clause-value
returns-then-high-number-clause-value c =
    within_high _ _ _ _ _ _ _ c.from-number.ensures c.seq_at.ensures c.if-high-number.true

pub returns-clause-value : goal.returns-clause-value
returns-clause-value c =
    within_by _ _ _ _ _ _ _ _ c.from-number.ensures c.seq_at.ensures c.if-number-low.false c.if-high-number.false
    c.page_erased.ensures
