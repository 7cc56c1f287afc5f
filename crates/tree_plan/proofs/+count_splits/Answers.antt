use Rattle.std.proofs.Common.{rules}
use Rattle.tree_plan.specs.Planning.{plan_laws}
use Rattle.tree_plan.proofs.+count_splits.Goals as goal

pub returns-then-below-eq0 : goal.returns-then-below-eq0
returns-then-below-eq0 t c = search (rules, plan_laws)

pub returns-then-not-is_full : goal.returns-then-not-is_full
returns-then-not-is_full t c = search (rules, plan_laws)

pub returns-then-not-r : goal.returns-then-not-r
returns-then-not-r t c = search (rules, plan_laws)

pub returns : goal.returns
returns t c = search (rules, plan_laws)
