use Rattle.std.proofs.Common.{◌≡◌, length}
use Rattle.model.specs.Bytes.{byte_at}
use Rattle.model.specs.Stores.{written}
use Rattle.chip_store.proofs.copy_part.Given as goal

abbrev pub invariant-loop-j : goal.invariant-loop-j
invariant-loop-j l = (l.part ≡ written l.initial.part 0 (byte_at l.bytes) l.j) × (length l.part ≡ length l.initial.part)
