use Rattle.std.proofs.Common.{◌≡◌}
use Rattle.model.specs.Page.{put_levels, only}
use Rattle.tree_node.specs.Node.{entries}
use Rattle.chip_page.proofs.lay_only.Given as goal

abbrev pub invariant-loop-below : goal.invariant-loop-below
invariant-loop-below l = l.buf ≡ put_levels l.g (only l.level (entries l.n)) l.below l.initial.buf
