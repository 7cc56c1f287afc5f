use Rattle.sound_numbers.specs.Ranges.{Spaced}
use Rattle.sound_numbers.proofs.all_apart.Given as goal

abbrev pub invariant-loop-block : goal.invariant-loop-block
invariant-loop-block l = Spaced l.lows l.highs l.block l.space.floor l.space.ceiling
