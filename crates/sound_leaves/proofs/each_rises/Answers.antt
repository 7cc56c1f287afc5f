use Rattle.sound_leaves.specs.LeafKeys.{each_high}
use Rattle.sound_leaves.proofs.each_rises.Goals as goal

pub returns-then-hi-key : goal.returns-then-hi-key
returns-then-hi-key c =
    each_high _ _ _ _ _ _ _ c.loop-i.invariant _ c.key_at-key.ensures.0 c.loop-i-test.true c.if-key-low.false
    c.if-hi-key.true
