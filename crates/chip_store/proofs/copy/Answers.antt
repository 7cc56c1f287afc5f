use Rattle.std.proofs.Common.{rules}
use Rattle.chip_store.specs.TwoStores.{part_is}
use Rattle.chip_store.proofs.copy.Goals as goal

pub returns : goal.returns
returns c = search (rules, part_is)
