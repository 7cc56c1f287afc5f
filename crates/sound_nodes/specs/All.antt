-- All laws by which the code of this crate is proved. Assumes nothing.
use Rattle.sound_nodes.specs.RuleFive.{judge_laws}
use Rattle.sound_nodes.specs.Levels.{level_laws}

pub ruleset all_laws = (judge_laws, level_laws)
