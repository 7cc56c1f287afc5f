use Rattle.call_list.specs.Listing.{Goes}
use Rattle.call_list.proofs.+list_under.Given as goal

abbrev pub decreases-list_under : goal.decreases-list_under
decreases-list_under l = l.level

-- the entries from the first on, as far as i
abbrev pub invariant-loop-i : goal.invariant-loop-i
invariant-loop-i l = Goes l.g l.img l.low l.high l.level l.at l.n l.first l.exist l.fn.pairs l.i l.count l.pairs
