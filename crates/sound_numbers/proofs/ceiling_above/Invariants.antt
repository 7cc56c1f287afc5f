use Rattle.sound_numbers.specs.Ranges.{Over}
use Rattle.sound_numbers.proofs.ceiling_above.Given as goal

abbrev pub invariant-loop-i : goal.invariant-loop-i
invariant-loop-i l = Over l.lows l.i l.high l.ceiling
