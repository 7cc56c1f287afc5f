use Rattle.sound_repeats.specs.Repeats.{Sieved}
use Rattle.sound_repeats.proofs.keep.Given as goal

abbrev pub invariant-loop-k : goal.invariant-loop-k
invariant-loop-k l = Sieved l.initial.keys l.keys l.bound l.k l.kept
