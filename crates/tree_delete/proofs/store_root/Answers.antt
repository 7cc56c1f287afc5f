use Rattle.std.proofs.Common.{rules}
use Rattle.tree_delete.specs.Tie.{tie_laws}
use Rattle.tree_delete.specs.OwnStore.{deletion_laws}
use Rattle.tree_delete.proofs.store_root.Goals as goal

pub returns-then-t-level : goal.returns-then-t-level
returns-then-t-level c = search (rules, tie_laws, deletion_laws)

pub returns : goal.returns
returns c = search (rules, tie_laws, deletion_laws)
