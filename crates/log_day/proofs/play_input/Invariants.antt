use Rattle.log_machine.specs.Run.{state_of}
use Rattle.log_feed.specs.Left.{left}
use Rattle.log_day.specs.Emptied.{Drained}
use Rattle.log_day.specs.Answered.{Passes}
use Rattle.log_day.proofs.play_input.Given as goal

abbrev pub invariant-loop-state : goal.invariant-loop-state
invariant-loop-state g l = record {
  drained : Drained l.state l.line;
  passes : Passes (g.R.Read.remaining l.fn.from) (g.R.Read.remaining l.from)
      (g.W.Write.contents l.fn.to) (g.W.Write.contents l.to)
      (state_of l.fn.run l.fn.line l.fn.img) (state_of l.state l.line l.img);
}

abbrev pub decreases-loop-state : goal.decreases-loop-state
decreases-loop-state g l = left l.state
