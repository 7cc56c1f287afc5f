use Rattle.std.proofs.Common.{◌≡◌}
use Rattle.model.specs.Bytes.{blank}
use Rattle.chip_read.proofs.bytes_blank.Given as goal

abbrev pub invariant-loop-k : goal.invariant-loop-k
invariant-loop-k l = blank l.img l.at l.n ≡ blank l.img l.at l.k
