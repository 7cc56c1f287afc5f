use Rattle.std.proofs.Common.{rules}
use Rattle.tree_root.specs.Tops.{crown_laws}
use Rattle.tree_root.proofs.settle.Goals as goal

pub returns : goal.returns
returns c = search (rules, crown_laws)
