use Rattle.std.proofs.Common.{◌≡◌, ◌+◌, ◌*◌, ◌-◌}
use Rattle.model.specs.Bytes.{entries_at}
use Rattle.model.specs.Rules.{names_page}
use Rattle.sound_links.proofs.names_page.Given as goal

abbrev pub invariant-loop-i : goal.invariant-loop-i
invariant-loop-i l =
    names_page l.page (entries_at l.img l.at l.n) ≡ names_page l.page (entries_at l.img (l.at + 8 * l.i) (l.n - l.i))
