use Rattle.std.proofs.Common.{rules, arith}
use Rattle.live_marks.specs.Marking.{marks_laws, off_stop, off_go, off_last, off_none}
use Rattle.live_marks.proofs.off_path.Goals as goal

pub returns-then-below-low-clause-words_after : goal.returns-then-below-low-clause-words_after
returns-then-below-low-clause-words_after c =
    off_stop _ _ _ _ _ _ _ _ c.loop-below.invariant.2 (omega arith) (omega arith)

pub loop-below-preserved : goal.loop-below-preserved
loop-below-preserved c = (
  omega arith,
  search (rules, marks_laws),
  off_go _ _ _ _ _ _ _ _ _ _ _ c.loop-below.invariant.2 c.chosen_entry-entry.ensures (search rules)
      (omega arith) (omega arith),
)

pub returns-then-low-le1-clause-words_after : goal.returns-then-low-le1-clause-words_after
returns-then-low-le1-clause-words_after c =
    off_last _ _ _ _ _ _ _ _ _ c.loop-below.invariant.2 (omega arith) (omega arith)
    c.unmark-then-low-le1.ensures.words_after

pub returns-else-low-le1-clause-words_after : goal.returns-else-low-le1-clause-words_after
returns-else-low-le1-clause-words_after c =
    off_none _ _ _ _ _ _ _ _ c.loop-below.invariant.2 (omega arith) (omega arith)
