use Rattle.std.proofs.Common.{◌≡◌, ◌+◌, ◌-◌, ◌≤◌, length}
use Rattle.model.specs.Bytes.{erased}
use Rattle.live_beside.specs.Beside.{page_from}
use Rattle.chip_next.specs.Coming.{Coming}
use Rattle.chip_next.proofs.coming_from.Given as goal

abbrev pub invariant-loop-i : goal.invariant-loop-i
invariant-loop-i l =
    (l.page ≤ 4294836225 + l.i) × (length l.taken ≡ 256) × Coming l.g.pages l.n (erased l.g l.img) l.next l.i l.taken
    × (l.page ≡ page_from l.g.pages l.n (erased l.g l.img) l.next (l.i - 1))
