use Rattle.std.proofs.Common.{rules}
use Rattle.tree_load.specs.ByValue.{load_go, load_laws}
use Rattle.tree_load.proofs.load.Goals as goal

pub loop-k-preserved : goal.loop-k-preserved
loop-k-preserved c = (load_go _ _ _ _ _ _ c.loop-k.invariant.0 c.entry_at.ensures, search rules)

pub returns : goal.returns
returns c = search (rules, load_laws)
