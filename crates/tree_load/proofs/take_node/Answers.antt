use Rattle.std.proofs.Common.{rules}
use Rattle.tree_load.specs.ByValue.{load_laws}
use Rattle.tree_load.proofs.take_node.Goals as goal

pub returns-then-n-eq0 : goal.returns-then-n-eq0
returns-then-n-eq0 c = search (rules, load_laws)
