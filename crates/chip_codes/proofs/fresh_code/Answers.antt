use Rattle.std.proofs.Common.{rules}
use Rattle.chip_codes.specs.Parts.{part_laws}
use Rattle.chip_codes.proofs.fresh_code.Goals as goal

pub returns-then-img-at : goal.returns-then-img-at
returns-then-img-at c = search (rules, part_laws)

pub returns : goal.returns
returns c = search (rules, part_laws)
