use Rattle.std.proofs.Common.{◌≡◌, List, ◌++◌, ℕ, ◌-◌, ◌≤◌, length, drop}
use Rattle.compare_machine.specs.Machine.{ran}
use Rattle.compare_machine.specs.Run.{state_of, Steady}
use Rattle.compare_input.specs.Left.{left}
use Rattle.compare_input.proofs.play_part.Given as goal

abbrev pub invariant-loop-at : goal.invariant-loop-at
invariant-loop-at l = record {
  within : l.at ≤ length l.part;
  steady : Steady l.state l.line;
  fewer : left l.state ≤ left l.fn.run - l.at;
  same : (rest : List ℕ) → ran (state_of l.fn.run l.fn.line l.fn.mu l.fn.plain) (l.part ++ rest)
      ≡ ran (state_of l.state l.line l.mu l.plain) (drop l.at l.part ++ rest);
}

abbrev pub decreases-loop-at : goal.decreases-loop-at
decreases-loop-at l = length l.part - l.at
