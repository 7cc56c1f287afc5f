use Rattle.std.proofs.Common.{◌≡◌, length}
use Rattle.live_tell.specs.Counts.{Counts}
use Rattle.live_tell.proofs.counts_below.Given as goal

abbrev pub invariant-loop-i : goal.invariant-loop-i
invariant-loop-i l = (length l.counts ≡ 256) × Counts l.g l.img l.level l.at l.i l.counts
