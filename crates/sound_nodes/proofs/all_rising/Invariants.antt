use Rattle.std.proofs.Common.{◌≡◌, ◌+◌, ◌*◌, ◌-◌}
use Rattle.model.specs.Bytes.{erased, entries_at}
use Rattle.model.specs.Rules.{names, rising}
use Rattle.sound_nodes.proofs.all_rising.Given as goal

abbrev pub invariant-loop-i : goal.invariant-loop-i
invariant-loop-i l =
    rising (names (erased l.g l.img) l.pages l.level) (entries_at l.img l.at l.n) l.lo l.hi
    ≡ rising (names (erased l.g l.img) l.pages l.level) (entries_at l.img (l.at + 8 * l.i) (l.n - l.i)) l.low l.hi
