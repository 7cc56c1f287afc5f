use Rattle.std.proofs.Common.{◌≡◌, ◌∙◌, rules}
use Rattle.sound_nodes.specs.RuleFive.{judge_bad, judge_good}
use Rattle.sound_nodes.specs.Levels.{left_go}
use Rattle.sound_nodes.proofs.judge_leaves.Goals as goal

pub loop-i-preserved : goal.loop-i-preserved
loop-i-preserved c = record {
  value = judge_good _ _ _ _ _ _ _ c.loop-i.invariant.value c.loop-i-test.true _ c.leaf_at.ensures.value
      (search rules);
  noted = left_go _ _ _ _ _ _ _ _ _ _ c.loop-i.invariant.noted c.leaf_at.ensures.noted (search rules)
      c.loop-i-test.true;
}

pub returns-in_err-leaf_at-clause-value : goal.returns-in_err-leaf_at-clause-value
returns-in_err-leaf_at-clause-value c =
    let same : c.from_residual.result ≡ c.leaf_at.result = search rules in
    same ∙ c.in_err-leaf_at.was
    ∙ judge_bad _ _ _ _ _ _ _ c.loop-i.invariant.value c.loop-i-test.true _ c.leaf_at.ensures.value _ c.in_err-leaf_at.was
