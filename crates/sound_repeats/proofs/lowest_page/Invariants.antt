use Rattle.std.proofs.Common.{◌-◌}
use Rattle.model.specs.Bytes.{erased, seq_at}
use Rattle.sound_repeats.specs.Repeats.{Swept}
use Rattle.sound_repeats.proofs.lowest_page.Given as goal

abbrev pub invariant-loop-low : goal.invariant-loop-low
invariant-loop-low l = Swept (erased l.g l.img) (seq_at l.g l.img) l.pages l.low l.best

abbrev pub decreases-loop-low : goal.decreases-loop-low
decreases-loop-low l = 4294967296 - l.low
