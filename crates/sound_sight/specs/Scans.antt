-- All laws by which the code of this crate is proved. Assumes nothing.
use Rattle.sound_numbers.specs.RuleThree.{range_start, range_go}
use Rattle.chip_survey.specs.Pass.{seen_start, page_there, survey_is}
use Rattle.sound_sight.specs.Pages.{page_laws}
use Rattle.sound_sight.specs.Blocks.{block_laws}
use Rattle.sound_sight.specs.Whole.{whole_laws}

pub ruleset sight_laws = (range_start, range_go, seen_start, page_there, survey_is, page_laws, block_laws, whole_laws)
