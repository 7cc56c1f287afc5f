use Rattle.std.proofs.Common.{rules}
use Rattle.tree_delete.specs.Tie.{tie_laws}
use Rattle.tree_delete.specs.OwnStore.{deletion_laws}
use Rattle.tree_delete.proofs.delete_own.Goals as goal

pub returns : goal.returns
returns c = search (rules, tie_laws, deletion_laws)
