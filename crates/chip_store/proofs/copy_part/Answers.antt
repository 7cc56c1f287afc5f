use Rattle.std.proofs.Common.{rules}
use Rattle.chip_store.specs.TwoStores.{fill_more, loop_same}
use Rattle.chip_store.proofs.copy_part.Goals as goal

pub loop-j-preserved : goal.loop-j-preserved
loop-j-preserved c = search (rules, fill_more, loop_same)
