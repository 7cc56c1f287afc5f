-- The laws by which the scores' code is proved.
use Rattle.compare_scores.specs.Scoring.{euclid_goes, euclid_ends, euclid_falls, ratio_none, ratio_some, part_some, stops_below, stops_from, counts_none, counts_first, counts_second, scored_none, scored_one}

pub ruleset score_laws = (euclid_goes, euclid_ends, euclid_falls, ratio_none, ratio_some, part_some, stops_below, stops_from, counts_none, counts_first, counts_second, scored_none, scored_one)
