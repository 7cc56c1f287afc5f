use Rattle.std.proofs.Common.{rules}
use Rattle.tree_path.specs.WayUp.{edit_laws}
use Rattle.tree_path.proofs.+change.Goals as goal

pub returns-then-below-eq0 : goal.returns-then-below-eq0
returns-then-below-eq0 t c = search (rules, edit_laws)

pub returns : goal.returns
returns t c = search (rules, edit_laws)
