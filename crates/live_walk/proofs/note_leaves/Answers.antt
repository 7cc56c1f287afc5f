use Rattle.std.proofs.Common.{rules}
use Rattle.live_walk.specs.Stops.{note_laws}
use Rattle.live_walk.proofs.note_leaves.Goals as goal

pub returns : goal.returns
returns c = search (rules, note_laws)
