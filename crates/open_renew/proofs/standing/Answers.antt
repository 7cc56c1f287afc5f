use Rattle.std.proofs.Common.{rules}
use Rattle.open_renew.specs.Recorded.{recording_laws}
use Rattle.open_renew.proofs.standing.Goals as goal

pub returns : goal.returns
returns c = search (rules, recording_laws)
