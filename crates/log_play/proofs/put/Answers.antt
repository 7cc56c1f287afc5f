use Rattle.std.proofs.Common.{rules}
use Rattle.log_play.specs.SmallCalls.{playing_laws}
use Rattle.log_play.proofs.put.Goals as goal

pub returns : goal.returns
returns c = search (rules, playing_laws)
