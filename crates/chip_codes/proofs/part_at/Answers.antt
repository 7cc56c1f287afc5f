use Rattle.std.proofs.Common.{◌<◌, ◌∙◌, length, length-set, arith, rules}
use Rattle.chip_codes.specs.Parts.{copied_none, copied_more}
use Rattle.chip_codes.proofs.part_at.Goals as goal

pub loop-i-init : goal.loop-i-init
loop-i-init c = (search rules, copied_none _ _ _)

pub loop-i-preserved : goal.loop-i-preserved
loop-i-preserved c =
    let l : c.loop-i.i < length c.loop-i.part = omega (arith, c.loop-i.invariant.0) in
    (length-set _ _ _ ∙ c.loop-i.invariant.0, copied_more _ _ _ _ _ c.loop-i.invariant.1 c.byte_at.ensures l)
