use Rattle.std.proofs.Common.{rules}
use Rattle.chip_store.specs.TwoStores.{store_laws}
use Rattle.chip_store.proofs.program_page.Goals as goal

pub returns : goal.returns
returns c = search (rules, store_laws)
