use Rattle.std.proofs.Common.{◌≡◌, ◌-◌, ◌≤◌}
use Rattle.model.specs.Bytes.{entries_at}
use Rattle.model.specs.Tree.{halve, place}
use Rattle.tree_search.proofs.chosen_index.Given as goal

abbrev pub invariant-loop-low : goal.invariant-loop-low
invariant-loop-low l =
    (l.low ≤ l.n - 1) × (l.high ≤ l.n)
    × (place l.key (entries_at l.img l.at l.n) ≡ halve (l.high - l.low) l.key (entries_at l.img l.at l.n) l.low l.high)

abbrev pub decreases-loop-low : goal.decreases-loop-low
decreases-loop-low l = l.high - l.low
