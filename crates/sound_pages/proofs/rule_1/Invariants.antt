use Rattle.std.proofs.Common.{◌≡◌}
use Rattle.model.specs.Count.{least}
use Rattle.sound_pages.specs.Formed.{malformed}
use Rattle.sound_pages.proofs.rule_1.Given as goal

abbrev pub invariant-loop-page : goal.invariant-loop-page
invariant-loop-page l = least l.page (malformed l.g l.img) ≡ l.page
