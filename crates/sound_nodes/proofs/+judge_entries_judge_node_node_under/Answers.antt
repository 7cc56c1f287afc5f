use Rattle.std.proofs.Common.{rules}
use Rattle.sound_nodes.specs.RuleFive.{judge_bad, judge_good, judge_end}
use Rattle.sound_nodes.specs.Levels.{left_go, left_end}
use Rattle.sound_nodes.proofs.+judge_entries_judge_node_node_under.Goals as goal

pub judge_entries-returns-in-Err-clause-value : goal.judge_entries-returns-in-Err-clause-value
judge_entries-returns-in-Err-clause-value t c = search judge_bad

pub judge_entries-loop-i-preserved : goal.judge_entries-loop-i-preserved
judge_entries-loop-i-preserved t c = record {
  value = judge_good _ _ _ _ _ _ _ c.loop-i.invariant.value c.loop-i-test.true _ c.node_under.ensures.value
      (search rules);
  noted = left_go _ _ _ _ _ _ _ _ _ _ c.loop-i.invariant.noted c.node_under.ensures.noted (search rules)
      c.loop-i-test.true;
}

pub judge_entries-returns-clause-value : goal.judge_entries-returns-clause-value
judge_entries-returns-clause-value t c = judge_end _ _ _ _ _ _ _ c.loop-i.invariant.value c.loop-i-test.false

pub judge_entries-returns-clause-noted : goal.judge_entries-returns-clause-noted
judge_entries-returns-clause-noted t c = left_end _ _ _ _ _ _ _ _ _ c.loop-i.invariant.noted c.loop-i-test.false
