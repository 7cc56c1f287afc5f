use Rattle.std.proofs.Common.{◌≡◌, ◌≤◌}
use Rattle.chip_survey.specs.Survey.{seen_to}
use Rattle.chip_survey.proofs.see_all.Given as goal

abbrev pub invariant-loop-page : goal.invariant-loop-page
invariant-loop-page l = (l.seen.erased ≤ l.page) × (l.seen ≡ seen_to l.g l.img l.page)
