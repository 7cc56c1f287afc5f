use Rattle.sound_nodes.specs.Levels.{root_marks}
use Rattle.sound_nodes.proofs.rule_5.Goals as goal

pub returns-clause-marks : goal.returns-clause-marks
returns-clause-marks c =
    root_marks _ _ _ _ _ c.judge_root.ensures.noted c.clear.ensures.zeros c.clear.ensures.table_len_unchanged
