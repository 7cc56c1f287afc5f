use Rattle.std.proofs.Common.{rules}
use Rattle.chip_page.specs.Page.{blanks}
use Rattle.chip_page.proofs.blank.Goals as goal

pub returns : goal.returns
unfolding blanks
returns c = search rules
