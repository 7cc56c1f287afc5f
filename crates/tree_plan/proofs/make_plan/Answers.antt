use Rattle.std.proofs.Common.{rules}
use Rattle.tree_plan.specs.Planning.{plan_laws}
use Rattle.tree_plan.proofs.make_plan.Goals as goal

pub returns : goal.returns
returns c = search (rules, plan_laws)
