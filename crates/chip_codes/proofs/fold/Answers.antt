use Rattle.std.proofs.Common.{◌<◌, ◌∙◌, length, length-set, arith, rules}
use Rattle.chip_codes.specs.Folds.{folding_none, folding_more, upper_none, upper_more}
use Rattle.chip_codes.proofs.fold.Goals as goal

pub loop-i-init : goal.loop-i-init
loop-i-init c = (upper_none _, folding_none _ _, search rules)

pub loop-i-preserved : goal.loop-i-preserved
loop-i-preserved c =
    let l : c.loop-i.i < length c.loop-i.words = omega (arith, c.loop-i.invariant.2) in (
      upper_more _ _ _ _ _ _ c.loop-i.invariant.1 c.loop-i-test.true c.loop-i.invariant.0 (search rules),
      folding_more _ _ _ _ c.loop-i.invariant.1 c.loop-i-test.true l,
      length-set _ _ _ ∙ c.loop-i.invariant.2,
    )
