use Rattle.std.proofs.Common.{◌≡◌, length}
use Rattle.live_walk.specs.Stops.{leaves_at}
use Rattle.live_tell.specs.Telling.{mark_all}
use Rattle.live_tell.proofs.mark_each.Given as goal

abbrev pub invariant-loop-i : goal.invariant-loop-i
invariant-loop-i g l = l.words ≡ mark_all (length l.initial.words) (leaves_at l.img l.at l.i) l.initial.words
