use Rattle.std.proofs.Common.{◌≤◌}
use Rattle.sound_numbers.specs.Ranges.{Counts}
use Rattle.sound_numbers.proofs.apart_below.Given as goal

abbrev pub invariant-loop-i : goal.invariant-loop-i
invariant-loop-i l = (l.k ≤ l.i) × Counts l.lows l.highs l.block l.i l.k
