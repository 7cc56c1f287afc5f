use Rattle.std.proofs.Common.{rules}
use Rattle.live_marks.specs.Marking.{marks_laws}
use Rattle.live_marks.proofs.unmark.Goals as goal

pub returns-then-noted-level-clause-words_after : goal.returns-then-noted-level-clause-words_after
returns-then-noted-level-clause-words_after c = search (rules, marks_laws)
