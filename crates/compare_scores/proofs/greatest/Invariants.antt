use Rattle.std.proofs.Common.{◌≡◌}
use Rattle.compare_scores.specs.Ratio.{greatest}
use Rattle.compare_scores.proofs.greatest.Given as goal

abbrev pub invariant-loop-y : goal.invariant-loop-y
invariant-loop-y l = greatest l.a l.b ≡ greatest l.x l.y

abbrev pub decreases-loop-y : goal.decreases-loop-y
decreases-loop-y l = l.y
