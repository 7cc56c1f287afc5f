use Rattle.std.proofs.Common.{◌-◌, ◌≡◌, List, ◌++◌, ℕ, ◌≤◌, length, drop}
use Rattle.log_machine.specs.Run.{Steady}
use Rattle.log_feed.specs.Left.{left}
use Rattle.log_feed.specs.Parts.{whole}
use Rattle.log_feed.proofs.play_part.Given as goal

-- what the part's bytes from here on still write is what they wrote from the start on
abbrev pub invariant-loop-at : goal.invariant-loop-at
invariant-loop-at l = record {
  begun : l.from ≤ l.at;
  within : l.at ≤ length l.part;
  steady : Steady l.state l.line;
  room : l.state.wrote ≤ length l.out;
  first : l.at ≡ l.from → l.state ≡ l.fn.run;
  fewer : left l.state ≤ left l.fn.run - (l.at - l.from);
  same : (rest : List ℕ) → whole l.fn.run l.fn.line l.fn.img l.fn.out (drop l.from l.part ++ rest)
      ≡ whole l.state l.line l.img l.out (drop l.at l.part ++ rest);
}
