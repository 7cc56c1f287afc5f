use Rattle.compare_input.proofs.Taking.{takes_more}
use Rattle.compare_input.proofs.play_input.Goals as goal

pub loop-from-preserved : goal.loop-from-preserved
loop-from-preserved g c =
    record {
      steady = c.play_part-state.ensures.steady;
      takes = takes_more _ _ _ _ _ _ _ c.loop-from.invariant.takes c.in_ok-n.ensures.bytes.0 c.play_part-state.ensures.ran;
    }
