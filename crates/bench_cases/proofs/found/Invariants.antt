use Rattle.std.proofs.Common.{◌≤◌}
use Rattle.bench_cases.proofs.found.Given as goal

abbrev pub invariant-loop-key : goal.invariant-loop-key
invariant-loop-key g l = l.held ≤ l.key
