use Rattle.std.proofs.Common.{◌≡◌, ◌+◌, ◌*◌, ◌-◌}
use Rattle.model.specs.Bytes.{entries_at}
use Rattle.model.specs.Rules.{rising}
use Rattle.sound_leaves.specs.Leaves.{any_page}
use Rattle.sound_leaves.proofs.each_rises.Given as goal

abbrev pub invariant-loop-i : goal.invariant-loop-i
invariant-loop-i l =
    rising any_page (entries_at l.img l.at l.n) l.lo l.hi ≡ rising any_page (entries_at l.img (l.at + 8 * l.i) (l.n - l.i)) l.low l.hi
