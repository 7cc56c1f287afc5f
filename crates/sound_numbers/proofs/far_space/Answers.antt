use Rattle.sound_numbers.specs.RuleThree.{space_far}
use Rattle.sound_numbers.proofs.far_space.Goals as goal

pub returns : goal.returns
returns c =
    (space_far _ _ _ _ _ _ _ c.requires.all_clear c.apart_below.ensures c.ceiling_above-ceiling.ensures
    c.requires.low_value.0 c.requires.low_value.1 c.requires.low_value.2 c.requires.low_value.3).holds
    c.if-not-apart_below.false
