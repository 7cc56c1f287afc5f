use Rattle.std.proofs.Common.{◌≡◌}
use Rattle.model.specs.Bytes.{byte_at}
use Rattle.model.specs.Stores.{written}
use Rattle.chip_store.proofs.copy_bytes.Given as goal

abbrev pub invariant-loop-j : goal.invariant-loop-j
invariant-loop-j l = l.img ≡ written l.initial.img l.at (byte_at l.bytes) l.j
