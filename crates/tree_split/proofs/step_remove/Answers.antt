use Rattle.std.proofs.Common.{rules}
use Rattle.tree_split.specs.StepUp.{step_laws}
use Rattle.tree_split.proofs.step_remove.Goals as goal

pub returns-then-size-eq0 : goal.returns-then-size-eq0
returns-then-size-eq0 c = search (rules, step_laws)

pub returns : goal.returns
returns c = search (rules, step_laws)
