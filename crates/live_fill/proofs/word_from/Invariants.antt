use Rattle.std.proofs.Common.{◌≡◌, ◌-◌, ◌+◌}
use Rattle.live_words.specs.Words.{word_of}
use Rattle.live_walk.specs.Table.{live_in}
use Rattle.live_fill.proofs.word_from.Given as goal

abbrev pub invariant-loop-j : goal.invariant-loop-j
invariant-loop-j g l = l.w ≡ word_of (live_in l.table) (32 - l.j) (l.at + l.j)
