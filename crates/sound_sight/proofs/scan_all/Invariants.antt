use Rattle.sound_sight.specs.Sight.{Strips}
use Rattle.sound_sight.proofs.scan_all.Given as goal

abbrev pub invariant-loop-block : goal.invariant-loop-block
invariant-loop-block l = Strips l.g l.img l.block l.seen l.rising l.programmed l.lows l.highs
