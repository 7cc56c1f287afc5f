use Rattle.std.proofs.Common.{◌*◌, ◌≤◌}
use Rattle.live_fill.specs.LentWords.{Counted}
use Rattle.live_fill.proofs.ones_from.Given as goal

abbrev pub invariant-loop-i : goal.invariant-loop-i
invariant-loop-i l = (l.n ≤ 32 * l.i) × Counted l.words l.at l.q l.i l.n
