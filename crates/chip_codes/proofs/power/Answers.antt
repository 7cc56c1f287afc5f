use Rattle.std.proofs.Common.{rules}
use Rattle.chip_codes.specs.Folds.{power_is}
use Rattle.chip_codes.proofs.power.Goals as goal

pub returns : goal.returns
returns c = search (rules, power_is)
