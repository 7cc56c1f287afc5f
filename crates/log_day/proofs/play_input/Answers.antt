use Rattle.log_day.proofs.Answering.{passes_more}
use Rattle.log_day.proofs.play_input.Goals as goal

pub loop-state-preserved : goal.loop-state-preserved
loop-state-preserved g c =
    record {
      drained = c.in_ok-state.ensures.ready;
      passes = passes_more _ _ _ _ _ _ _ _ _ _ c.loop-state.invariant.passes c.in_ok-n.ensures.bytes.0 c.in_ok-state.ensures.answers;
    }
