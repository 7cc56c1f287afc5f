use Rattle.std.proofs.Common.{◌≡◌, ◌*◌, eqb}
use Rattle.model.specs.Bytes.{blank}
use Rattle.chip_read.proofs.line_blank.Given as goal

abbrev pub invariant-loop-i : goal.invariant-loop-i
invariant-loop-i l = eqb l.all 18446744073709551615 ≡ blank l.img l.at (8 * l.i)
