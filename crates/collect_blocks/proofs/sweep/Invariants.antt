use Rattle.std.proofs.Common.{◌≡◌, ◌+◌, ◌-◌, ◌<◌, false}
use Rattle.geometry.specs.Bounds.{four_bytes}
use Rattle.chip_store.specs.Run.{Countable}
use Rattle.collect_blocks.specs.Collecting.{Sweeping}
use Rattle.collect_blocks.proofs.sweep.Given as goal

abbrev pub invariant-loop-j : goal.invariant-loop-j
invariant-loop-j l =
    Sweeping l.g l.n l.level l.v l.fn.h l.fn.b l.initial.img l.initial.table l.initial.words
    (l.g.pages - l.j) l.w.kept l.w.budget l.img l.table l.words
    × (l.w.kept.most + (l.g.pages - l.j) < 8589934592)
    × (l.w.kept.next + (l.g.pages - l.j) < four_bytes)
    × Countable l.w.budget × (l.w.budget.stopped ≡ false)
