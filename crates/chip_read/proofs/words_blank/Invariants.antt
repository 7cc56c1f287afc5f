use Rattle.std.proofs.Common.{◌≡◌, ◌*◌}
use Rattle.model.specs.Bytes.{blank}
use Rattle.chip_read.proofs.words_blank.Given as goal

abbrev pub invariant-loop-k : goal.invariant-loop-k
invariant-loop-k l = blank l.img l.at (8 * l.n) ≡ blank l.img l.at (8 * l.k)
