use Rattle.std.proofs.Common.{arith}
use Rattle.sound_repeats.specs.ByParts.{sieved_skip, sieved_more}
use Rattle.sound_repeats.proofs.keep.Goals.{then-key-bound, else-key-bound}
use Rattle.sound_repeats.proofs.keep.Goals as goal

pub loop-k-preserved : goal.loop-k-preserved
loop-k-preserved c = elim c.if-key-bound.branch [
  | then-key-bound w ↦ rw (w.keys-is, w.kept-is)
      (sieved_more _ _ _ _ _ c.loop-k.invariant _ w.if-key-bound.true c.loop-k-test.true (omega arith))
  | else-key-bound w ↦ rw (w.keys-is, w.kept-is)
      (sieved_skip _ _ _ _ _ c.loop-k.invariant w.if-key-bound.false)
]
