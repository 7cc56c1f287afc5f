use Rattle.compare_machine.specs.Run.{state_of, Steady}
use Rattle.compare_input.specs.Left.{left}
use Rattle.compare_input.specs.Taken.{Takes}
use Rattle.compare_input.proofs.play_input.Given as goal

abbrev pub invariant-loop-from : goal.invariant-loop-from
invariant-loop-from g l = record {
  steady : Steady l.state l.line;
  takes : Takes (g.R.Read.remaining l.fn.from) (g.R.Read.remaining l.from)
      (state_of l.fn.run l.fn.line l.fn.mu l.fn.plain) (state_of l.state l.line l.mu l.plain);
}

abbrev pub decreases-loop-from : goal.decreases-loop-from
decreases-loop-from g l = left l.state
