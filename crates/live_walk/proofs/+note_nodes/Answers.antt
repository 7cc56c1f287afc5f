use Rattle.std.proofs.Common.{rules}
use Rattle.live_walk.specs.Walking.{walk_laws}
use Rattle.live_walk.specs.Stops.{note_laws}
use Rattle.live_walk.proofs.+note_nodes.Goals as goal

ruleset all = (rules, walk_laws, note_laws)

pub returns-then-level-eq0 : goal.returns-then-level-eq0
returns-then-level-eq0 t c = search all

pub returns-then-level-eq1 : goal.returns-then-level-eq1
returns-then-level-eq1 t c = search all

pub loop-i-preserved : goal.loop-i-preserved
loop-i-preserved t c = search all

pub returns : goal.returns
returns t c = search all
