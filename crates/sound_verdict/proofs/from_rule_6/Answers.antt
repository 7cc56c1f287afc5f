use Rattle.std.proofs.Common.{rules}
use Rattle.sound_verdict.proofs.Laws.{verdict_laws}
use Rattle.sound_verdict.proofs.from_rule_6.Goals as goal

pub rule_6-links-requires-clause-marked : goal.rule_6-links-requires-clause-marked
rule_6-links-requires-clause-marked c = search (rules, verdict_laws)

pub rule_6-links-requires-clause-inside : goal.rule_6-links-requires-clause-inside
rule_6-links-requires-clause-inside c = search (rules, verdict_laws)
