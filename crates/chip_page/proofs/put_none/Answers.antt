use Rattle.std.proofs.Common.{rules}
use Rattle.chip_page.specs.Building.{page_laws}
use Rattle.chip_page.proofs.put_none.Goals as goal

pub returns : goal.returns
returns c = search (rules, page_laws)
