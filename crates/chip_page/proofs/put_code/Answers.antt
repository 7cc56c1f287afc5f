use Rattle.chip_page.specs.Building.{code_is}
use Rattle.chip_page.proofs.put_code.Goals as goal

pub returns : goal.returns
returns c = code_is _ _ _ _ _ _ _ c.put_low-3.ensures c.put_low-2.ensures c.put_low.ensures c.from-w.ensures
