use Rattle.std.proofs.Common.{rules}
use Rattle.tree_split.specs.StepUp.{step_laws}
use Rattle.tree_split.proofs.split_at.Goals as goal

pub returns-then-key-job : goal.returns-then-key-job
returns-then-key-job c = search (rules, step_laws)

pub returns : goal.returns
returns c = search (rules, step_laws)
