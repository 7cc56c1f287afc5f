use Rattle.std.proofs.Common.{rules}
use Rattle.tree_split.specs.StepUp.{step_laws}
use Rattle.tree_split.proofs.store_side.Goals as goal

pub returns-then-split : goal.returns-then-split
returns-then-split c = search (rules, step_laws)

pub returns : goal.returns
returns c = search (rules, step_laws)
