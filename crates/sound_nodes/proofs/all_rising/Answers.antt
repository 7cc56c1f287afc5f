use Rattle.std.proofs.Common.{not, ap}
use Rattle.sound_nodes.specs.RuleFive.{rising_low, rising_high, rising_refused, rising_go}
use Rattle.sound_nodes.proofs.all_rising.Goals as goal

pub returns-then-key-low : goal.returns-then-key-low
returns-then-key-low c =
    rising_low _ _ _ _ _ _ _ _ c.loop-i.invariant _ c.key_at-key.ensures.0 c.loop-i-test.true c.if-key-low.true

pub returns-then-hi-key : goal.returns-then-hi-key
returns-then-hi-key c =
    rising_high _ _ _ _ _ _ _ _ c.loop-i.invariant _ c.key_at-key.ensures.0 c.loop-i-test.true c.if-key-low.false
    c.if-hi-key.true

pub returns-then-not-may_name : goal.returns-then-not-may_name
returns-then-not-may_name c =
    rising_refused _ _ _ _ _ _ _ _ c.loop-i.invariant _ _ _ c.key_at-key.ensures.0 c.read_u32-page.ensures
    c.may_name.ensures (ap not c.if-not-may_name.true) c.loop-i-test.true c.if-key-low.false c.if-hi-key.false

pub loop-i-preserved : goal.loop-i-preserved
loop-i-preserved c =
    rising_go _ _ _ _ _ _ _ _ c.loop-i.invariant _ _ _ c.key_at-key.ensures.0 c.read_u32-page.ensures
    c.may_name.ensures (ap not c.if-not-may_name.false) c.loop-i-test.true c.if-key-low.false c.if-hi-key.false
