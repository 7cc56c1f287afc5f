use Rattle.std.proofs.Common.{◌≡◌}
use Rattle.live_walk.specs.Table.{note_all}
use Rattle.live_walk.specs.Stops.{leaves_at}
use Rattle.live_walk.proofs.note_each.Given as goal

abbrev pub invariant-loop-i : goal.invariant-loop-i
invariant-loop-i g l = l.table ≡ note_all (leaves_at l.img l.at l.i) l.initial.table
