use Rattle.std.proofs.Common.{◌≡◌, ◌-◌, ◌≤◌}
use Rattle.chip_page.specs.Page.{bare}
use Rattle.chip_page.proofs.lay_rest.Given as goal

abbrev pub invariant-loop-k : goal.invariant-loop-k
invariant-loop-k l = (l.k - l.from ≤ l.g.top - l.from) × (l.buf ≡ bare l.g l.from (l.k - l.from) l.initial.buf)
