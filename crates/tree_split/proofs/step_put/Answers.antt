use Rattle.std.proofs.Common.{rules}
use Rattle.tree_split.specs.StepUp.{step_laws}
use Rattle.tree_split.proofs.step_put.Goals as goal

pub returns-then-n-h : goal.returns-then-n-h
returns-then-n-h c = search (rules, step_laws)

pub returns : goal.returns
returns c = search (rules, step_laws)
