use Rattle.std.proofs.Common.{rules}
use Rattle.chip_page.specs.Building.{page_laws}
use Rattle.chip_page.proofs.put_node.Goals as goal

pub loop-k-init : goal.loop-k-init
loop-k-init c = search (rules, page_laws)

pub returns : goal.returns
returns c = search (rules, page_laws)
