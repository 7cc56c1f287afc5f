use Rattle.sound_leaves.specs.LeafKeys.{keys_on}
use Rattle.sound_leaves.proofs.keys_rise.Goals as goal

pub returns : goal.returns
returns c =
    keys_on _ _ _ _ _ c.if-n-eq0.false _ _ c.raw_u32.ensures.value c.raw_u32-2.ensures.value _ _ _ c.from.ensures
    c.if-from-lo.false c.from-2.ensures c.if-hi-from.false c.falls.ensures
