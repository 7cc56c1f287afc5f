use Rattle.std.proofs.Common.{◌≤◌, ◌*◌}
use Rattle.sound_nodes.proofs.read_ahead.Given as goal

abbrev pub invariant-loop-i : goal.invariant-loop-i
invariant-loop-i l = l.sum ≤ 2199023255552 * l.i
