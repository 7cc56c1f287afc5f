use Rattle.live_walk.specs.Table.{note_all}
use Rattle.live_walk.specs.Stops.{Going}
use Rattle.live_walk.proofs.+note_nodes.Given as goal

abbrev pub decreases-note_nodes : goal.decreases-note_nodes
decreases-note_nodes l = l.level

abbrev pub invariant-loop-i : goal.invariant-loop-i
invariant-loop-i l = Going note_all l.g l.img l.level l.at l.n l.initial.more l.initial.table l.i l.more l.table
