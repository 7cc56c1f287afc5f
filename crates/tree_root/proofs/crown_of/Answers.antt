use Rattle.std.proofs.Common.{rules}
use Rattle.tree_root.specs.Tops.{crown_laws}
use Rattle.tree_root.proofs.crown_of.Goals as goal

pub returns-then-not-root_fills : goal.returns-then-not-root_fills
returns-then-not-root_fills c = search (rules, crown_laws)

pub returns : goal.returns
returns c = search (rules, crown_laws)
