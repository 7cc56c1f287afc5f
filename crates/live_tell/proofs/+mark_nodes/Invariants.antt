use Rattle.std.proofs.Common.{length}
use Rattle.live_walk.specs.Stops.{Going}
use Rattle.live_tell.specs.Telling.{mark_all}
use Rattle.live_tell.proofs.+mark_nodes.Given as goal

abbrev pub decreases-mark_nodes : goal.decreases-mark_nodes
decreases-mark_nodes l = l.level

abbrev pub invariant-loop-i : goal.invariant-loop-i
invariant-loop-i l =
    Going (mark_all (length l.fn.words)) l.g l.img l.level l.at l.n l.initial.more l.initial.words l.i l.more l.words
