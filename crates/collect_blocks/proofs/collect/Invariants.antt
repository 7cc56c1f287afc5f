use Rattle.std.proofs.Common.{◌≡◌, ◌-◌, ◌<◌, false}
use Rattle.chip_store.specs.Run.{Countable}
use Rattle.collect_blocks.specs.Collecting.{Rounds}
use Rattle.collect_blocks.proofs.collect.Given as goal

abbrev pub invariant-loop-round : goal.invariant-loop-round
invariant-loop-round l =
    Rounds l.g l.n l.k l.m l.fn.o l.fn.b l.initial.img l.initial.table l.initial.words (l.m - l.round) l.w l.img
    l.table l.words
    × (l.w.opened.height < 256) × Countable l.w.budget × (l.w.budget.stopped ≡ false)
