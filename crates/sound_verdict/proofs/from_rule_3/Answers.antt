use Rattle.std.proofs.Common.{◌≡◌, ◌∙◌, refl, sym, rules}
use Rattle.geometry.specs.Findings.{Finding, Good}
use Rattle.sound_verdict.specs.InOrder.{told_good, or_good}
use Rattle.sound_verdict.specs.Verdict.{from5, from6}
use Rattle.sound_verdict.proofs.Laws.{verdict_laws}
use Rattle.sound_verdict.proofs.from_rule_3.Goals as goal

pub from_rule_6-requires-clause-marked : goal.from_rule_6-requires-clause-marked
from_rule_6-requires-clause-marked c =
    let good : ◌≡◌ {A = Finding} c.rule_5-nodes.result Good = told_good _ _ _ c.tell-3.ensures c.in_ok-tell-3.was in
    search (rules, verdict_laws)

pub from_rule_6-requires-clause-inside : goal.from_rule_6-requires-clause-inside
from_rule_6-requires-clause-inside c =
    let good : ◌≡◌ {A = Finding} c.rule_5-nodes.result Good = told_good _ _ _ c.tell-3.ensures c.in_ok-tell-3.was in
    search (rules, verdict_laws)

pub returns-clause-value : goal.returns-clause-value
returns-clause-value c =
    let numbers : ◌≡◌ {A = Finding} c.rule_3.result Good = told_good _ _ _ c.tell.ensures c.in_ok-tell.was in
    let root : ◌≡◌ {A = Finding} c.rule_4.result Good = told_good _ _ _ c.tell-2.ensures c.in_ok-tell-2.was in
    let nodes : ◌≡◌ {A = Finding} c.rule_5-nodes.result Good = told_good _ _ _ c.tell-3.ensures c.in_ok-tell-3.was in
    let by_nodes : from5 c.args.g c.args.n c.args.img.now ≡ from6 c.args.g c.args.n c.args.img.now =
    sym (or_good 5 _ _ _ (search (rules, verdict_laws)) refl) in
    (or_good 3 _ _ _ (search rules) (or_good 4 _ _ _ (search rules) (c.from_rule_6.ensures ∙ sym by_nodes)), search (rules, verdict_laws))
