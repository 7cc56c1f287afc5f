use Rattle.std.proofs.Common.{rules}
use Rattle.model.specs.Rules.{or_else}
use Rattle.sound_verdict.proofs.tell.Goals as goal

pub returns : goal.returns
unfolding or_else
returns c = search rules
