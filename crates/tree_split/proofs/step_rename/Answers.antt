use Rattle.std.proofs.Common.{rules}
use Rattle.tree_split.specs.StepUp.{step_laws}
use Rattle.tree_split.proofs.step_rename.Goals as goal

pub returns-then-level-low : goal.returns-then-level-low
returns-then-level-low c = search (rules, step_laws)

pub returns : goal.returns
returns c = search (rules, step_laws)
