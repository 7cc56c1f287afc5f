use Rattle.std.proofs.Common.{◌<◌, arith, rules}
use Rattle.chip_next.specs.PagesToCome.{coming_one, coming_more, page_one, page_more, set_length}
use Rattle.chip_next.proofs.coming_from.Goals as goal

pub loop-i-init : goal.loop-i-init
loop-i-init c = (omega arith, search (rules, set_length), search (rules, coming_one), search (rules, page_one))

pub loop-i-preserved : goal.loop-i-preserved
loop-i-preserved c =
    let h : c.loop-i.i < 256 = omega arith in
    (omega arith, search (rules, set_length), search (rules, coming_more, h), search (rules, page_more, h))
