-- The laws by which the verdict's code is proved, by kind.
use Rattle.theory_counts.specs.Scan.{scan_laws}
use Rattle.sound_verdict.specs.SpareRoom.{room_laws}
use Rattle.sound_verdict.specs.InOrder.{told_good, told_bad, or_good, verdict_is, nodes_by, links_by, not_asked, asked_is, asked_or, roomy_many, roomy_few, tells_broken, tells_rule, surveyed_is, surveyed_same, marked_rule, marked_with, inside_with, inside_good, never_broken, order_breaks, judged_never, sight_broken, sight_surveyed, sight_counted, sight_ranges, sight_judged, programmed_is}

pub ruleset rule_laws = (told_good, told_bad, or_good, verdict_is, nodes_by, links_by, not_asked, asked_is, asked_or)

pub ruleset table_laws = (roomy_many, roomy_few, tells_broken, tells_rule, surveyed_is, surveyed_same, marked_rule, marked_with)

pub ruleset inside_laws = (inside_with, inside_good)

pub ruleset broken_laws = (never_broken, order_breaks, judged_never)

pub ruleset sight_laws = (sight_broken, sight_surveyed, sight_counted, sight_ranges, sight_judged, programmed_is)

pub ruleset verdict_laws = (scan_laws, room_laws, rule_laws, table_laws, inside_laws, broken_laws, sight_laws)
