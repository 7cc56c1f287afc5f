use Rattle.std.proofs.Common.{◌≡◌, ◌+◌, ◌*◌}
use Rattle.chip_read.specs.Chip.{entry_at}
use Rattle.model.specs.Stores.{written}
use Rattle.tree_load.proofs.load.Given as goal

abbrev pub invariant-loop-k : goal.invariant-loop-k
invariant-loop-k l = (l.m.e ≡ written l.initial.m.e 0 (λ j. entry_at l.img (l.at + 8 * j)) l.k) × (l.m.count ≡ l.n)
