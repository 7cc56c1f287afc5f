use Rattle.std.proofs.Common.{length, ◌-◌, ◌≤◌, drop}
use Rattle.log_machine.specs.Run.{state_of}
use Rattle.log_feed.specs.Left.{left}
use Rattle.log_day.specs.Emptied.{Drained}
use Rattle.log_day.specs.Answered.{Answers}
use Rattle.log_day.proofs.play_read.Given as goal

abbrev pub invariant-loop-at : goal.invariant-loop-at
invariant-loop-at g l = record {
  within : l.at ≤ length l.part;
  drained : Drained l.state l.line;
  fewer : left l.state ≤ left l.fn.run - l.at;
  answers : Answers (g.W.Write.contents l.fn.to) (g.W.Write.contents l.to)
      (state_of l.fn.run l.fn.line l.fn.img) (state_of l.state l.line l.img) l.part (drop l.at l.part);
}

abbrev pub decreases-loop-at : goal.decreases-loop-at
decreases-loop-at g l = length l.part - l.at
