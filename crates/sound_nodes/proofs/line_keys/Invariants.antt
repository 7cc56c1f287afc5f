use Rattle.std.proofs.Common.{◌≤◌, ◌*◌}
use Rattle.sound_nodes.proofs.line_keys.Given as goal

abbrev pub invariant-loop-i : goal.invariant-loop-i
invariant-loop-i l = l.sum ≤ 4294967296 * l.i
