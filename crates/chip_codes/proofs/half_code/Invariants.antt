use Rattle.chip_codes.specs.Folds.{Folded}
use Rattle.chip_codes.proofs.half_code.Given as goal

abbrev pub invariant-loop-k : goal.invariant-loop-k
invariant-loop-k l = Folded l.img l.at l.k l.words l.rows
