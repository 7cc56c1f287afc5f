use Rattle.std.proofs.Common.{◌+◌, ◌-◌, ◌≤◌, ◌<◌, length}
use Rattle.model.specs.Bytes.{erased, seq_at}
use Rattle.sound_repeats.specs.Repeats.{Held}
use Rattle.sound_repeats.proofs.gather.Given as goal

abbrev pub invariant-loop-page : goal.invariant-loop-page
invariant-loop-page l = record {
  fits : l.count ≤ length l.keys;
  above : l.low < l.high;
  below : l.high ≤ 4294967296;
  reached : l.page ≤ l.best;
  held : Held (erased l.g l.img) (seq_at l.g l.img) l.low l.high l.page l.count l.keys;
}

abbrev pub decreases-loop-page : goal.decreases-loop-page
decreases-loop-page l = l.best - l.page + l.high
