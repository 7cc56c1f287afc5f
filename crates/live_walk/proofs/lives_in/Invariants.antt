use Rattle.std.proofs.Common.{◌≡◌, ◌≤◌}
use Rattle.model.specs.Count.{count}
use Rattle.theory_counts.specs.Blocks.{within}
use Rattle.live_walk.specs.Table.{live_in}
use Rattle.live_walk.proofs.lives_in.Given as goal

abbrev pub invariant-loop-j : goal.invariant-loop-j
invariant-loop-j l = (l.lives ≤ l.j) × (l.lives ≡ count l.j (within l.g.pages (live_in l.table) l.block))
