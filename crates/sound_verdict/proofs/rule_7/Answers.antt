use Rattle.std.proofs.Common.{rules}
use Rattle.sound_verdict.proofs.Laws.{verdict_laws}
use Rattle.sound_verdict.proofs.rule_7.Goals as goal

pub returns-then-wide-index : goal.returns-then-wide-index
returns-then-wide-index c = search (rules, verdict_laws)

pub returns-then-some_clearable : goal.returns-then-some_clearable
returns-then-some_clearable c = search (rules, verdict_laws)

pub returns : goal.returns
returns c = search (rules, verdict_laws)
