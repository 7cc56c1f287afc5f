use Rattle.std.proofs.Common.{◌≡◌, ◌<◌, eqb}
use Rattle.geometry.specs.Tests.{◌&◌}
use Rattle.model.specs.Bytes.{u32_at}
use Rattle.sound_leaves.specs.Leaves.{after}
use Rattle.sound_leaves.proofs.falls.Given as goal

abbrev pub invariant-loop-i : goal.invariant-loop-i
invariant-loop-i l =
    (l.count < l.i) × (after l.img l.at l.n 1 (u32_at l.img l.at) ≡ (eqb l.count 0 & after l.img l.at l.n l.i l.before))
