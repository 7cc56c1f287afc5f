use Rattle.chip_page.specs.Building.{word_is}
use Rattle.chip_page.proofs.put_u32.Goals as goal

pub returns : goal.returns
returns c = word_is _ _ _ _ _ _ _ c.put_low-4.ensures c.put_low-3.ensures c.put_low-2.ensures c.put_low.ensures
