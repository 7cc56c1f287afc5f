use Rattle.sound_sight.specs.Sight.{Bare}
use Rattle.sound_sight.proofs.first_parted.Given as goal

abbrev pub invariant-loop-block : goal.invariant-loop-block
invariant-loop-block l = Bare l.pages l.programmed l.from l.block
