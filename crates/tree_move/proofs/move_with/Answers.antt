use Rattle.std.proofs.Common.{rules}
use Rattle.tree_move.specs.Tie.{tie_laws}
use Rattle.tree_move.specs.Moves.{moving_laws}
use Rattle.tree_move.proofs.move_with.Goals as goal

pub returns : goal.returns
returns c = search (rules, tie_laws, moving_laws)
