use Rattle.std.proofs.Common.{rules}
use Rattle.chip_store.specs.TwoStores.{blank_is}
use Rattle.chip_store.proofs.blank.Goals as goal

pub returns : goal.returns
returns c = let e = c.fill.ensures.after (λ y q. q) in search (rules, blank_is)
