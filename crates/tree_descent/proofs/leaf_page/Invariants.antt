use Rattle.std.proofs.Common.{◌≡◌}
use Rattle.model.specs.Bytes.{node_at}
use Rattle.model.specs.Tree.{leaf}
use Rattle.chip_read.specs.Chip.{naming}
use Rattle.tree_descent.proofs.leaf_page.Given as goal

abbrev pub invariant-loop-below : goal.invariant-loop-below
invariant-loop-below l =
    leaf (node_at l.g l.img) l.key l.level (naming l.root) ≡ leaf (node_at l.g l.img) l.key l.below (naming l.page)
