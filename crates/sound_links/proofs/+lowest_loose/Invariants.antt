use Rattle.std.proofs.Common.{◌≡◌}
use Rattle.model.specs.Bytes.{node_at}
use Rattle.model.specs.Rules.{lowest_page}
use Rattle.live_walk.specs.Table.{rest}
use Rattle.sound_links.specs.Loose.{loose_at}
use Rattle.sound_links.proofs.+lowest_loose.Given as goal

abbrev pub decreases-lowest_loose : goal.decreases-lowest_loose
decreases-lowest_loose l = l.level

abbrev pub invariant-loop-i : goal.invariant-loop-i
invariant-loop-i l =
    lowest_page (loose_at (node_at l.g l.img) l.table) (rest l.g l.img l.level l.at l.n 0) l.initial.low
    ≡ lowest_page (loose_at (node_at l.g l.img) l.table) (rest l.g l.img l.level l.at l.n l.i) l.low
