use Rattle.std.proofs.Common.{◌≡◌}
use Rattle.live_words.specs.Words.{filled}
use Rattle.live_walk.specs.Table.{live_in}
use Rattle.live_fill.proofs.fill.Given as goal

abbrev pub invariant-loop-i : goal.invariant-loop-i
invariant-loop-i l = l.words ≡ filled (live_in l.table) l.i l.initial.words
