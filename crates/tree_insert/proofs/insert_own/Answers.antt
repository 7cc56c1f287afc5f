use Rattle.std.proofs.Common.{rules}
use Rattle.tree_insert.specs.Tie.{tie_laws}
use Rattle.tree_insert.specs.OwnStores.{insertion_laws}
use Rattle.tree_insert.proofs.insert_own.Goals as goal

pub returns : goal.returns
returns c = search (rules, tie_laws, insertion_laws)
