use Rattle.std.proofs.Common.{rules}
use Rattle.sound_verdict.proofs.Laws.{verdict_laws}
use Rattle.sound_verdict.proofs.rule_8.Goals as goal

pub returns : goal.returns
returns c = search (rules, verdict_laws)
