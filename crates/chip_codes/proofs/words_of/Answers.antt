use Rattle.std.proofs.Common.{◌<◌, ◌∙◌, length, length-set, arith}
use Rattle.chip_codes.specs.Folds.{word_put}
use Rattle.chip_codes.proofs.words_of.Goals as goal

pub loop-i-preserved : goal.loop-i-preserved
loop-i-preserved c =
    let l : c.loop-i.i < length c.loop-i.words = omega (arith, c.loop-i.invariant.0) in
    (length-set _ _ _ ∙ c.loop-i.invariant.0, word_put _ _ _ _ _ c.eight.ensures l c.loop-i.invariant.1)
