use Rattle.sound_sight.specs.Sight.{Back}
use Rattle.sound_sight.proofs.rest_blank.Given as goal

abbrev pub invariant-loop-j : goal.invariant-loop-j
invariant-loop-j l = Back l.g l.img l.block l.from l.j
