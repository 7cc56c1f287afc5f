use Rattle.std.proofs.Common.{◌∙◌}
use Rattle.chip_next.specs.PagesToCome.{free_taken, free_clear}
use Rattle.chip_next.proofs.is_free.Goals as goal

pub returns-then-not-contains : goal.returns-then-not-contains
returns-then-not-contains c =
    c.page_erased.ensures ∙ free_clear _ _ _ _ c.contains.ensures.value c.if-not-contains.true

pub returns-else-not-contains : goal.returns-else-not-contains
returns-else-not-contains c =
    rw c.if-not-contains.false (free_taken _ _ _ _ c.contains.ensures.value c.if-not-contains.false)
