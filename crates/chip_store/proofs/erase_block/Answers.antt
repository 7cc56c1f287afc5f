use Rattle.std.proofs.Common.{rules}
use Rattle.chip_store.specs.TwoStores.{store_laws}
use Rattle.chip_store.proofs.erase_block.Goals as goal

pub returns : goal.returns
returns c = search (rules, store_laws)
