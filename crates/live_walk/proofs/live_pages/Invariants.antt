use Rattle.std.proofs.Common.{◌≡◌, ◌≤◌}
use Rattle.model.specs.Count.{count}
use Rattle.live_walk.specs.Table.{live_in}
use Rattle.live_walk.proofs.live_pages.Given as goal

abbrev pub invariant-loop-page : goal.invariant-loop-page
invariant-loop-page l = (l.lives ≤ l.page) × (l.lives ≡ count l.page (live_in l.table))
