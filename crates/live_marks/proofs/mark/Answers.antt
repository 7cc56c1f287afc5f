use Rattle.std.proofs.Common.{rules}
use Rattle.live_marks.specs.Marking.{marks_laws}
use Rattle.live_marks.proofs.mark.Goals as goal

pub returns-then-i-m-clause-words_after : goal.returns-then-i-m-clause-words_after
returns-then-i-m-clause-words_after c = search (rules, marks_laws)

pub returns-else-i-m-clause-words_after : goal.returns-else-i-m-clause-words_after
returns-else-i-m-clause-words_after c = search (rules, marks_laws)
