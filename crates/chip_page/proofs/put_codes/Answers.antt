use Rattle.std.proofs.Common.{rules}
use Rattle.chip_page.specs.Building.{page_laws}
use Rattle.chip_page.proofs.put_codes.Goals as goal

pub loop-k-preserved : goal.loop-k-preserved
loop-k-preserved c = search (rules, page_laws)
