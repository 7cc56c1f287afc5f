use Rattle.std.proofs.Common.{rules, arith}
use Rattle.live_tell.specs.SettingBits.{telling_laws, marked_turn}
use Rattle.live_tell.proofs.+mark_nodes.Goals as goal

pub returns-then-level-eq0 : goal.returns-then-level-eq0
returns-then-level-eq0 t c = search (rules, telling_laws)

pub returns-then-level-eq1 : goal.returns-then-level-eq1
returns-then-level-eq1 t c = search (rules, telling_laws)

pub loop-i-preserved : goal.loop-i-preserved
loop-i-preserved t c =
    marked_turn _ _ _ _ _ _ _ _ _ _ _ _ _ _ _ c.loop-i.invariant c.below_at-node.ensures.page_value
    c.mark_nodes-more.ensures (omega arith) c.loop-i-test.true

pub returns : goal.returns
returns t c = search (rules, telling_laws)
