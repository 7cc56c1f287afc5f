use Rattle.std.proofs.Common.{arith, length-set, not, ap}
use Rattle.sound_repeats.specs.ByParts.{held_skip, held_more, held_stops, held_sieve}
use Rattle.sound_repeats.proofs.gather.Goals as goal

pub loop-page-preserved-then-not-is_within : goal.loop-page-preserved-then-not-is_within
loop-page-preserved-then-not-is_within c = record {
  fits = c.loop-page.invariant.fits;
  above = c.loop-page.invariant.above;
  below = c.loop-page.invariant.below;
  reached = omega arith;
  held = held_skip _ _ _ _ _ _ _ c.loop-page.invariant.held _ c.is_within.ensures.value c.is_within.ensures.page_bound
      (ap not c.if-not-is_within.true);
}

pub loop-page-preserved-then-count-room : goal.loop-page-preserved-then-count-room
loop-page-preserved-then-count-room c = record {
  fits = simp length-set (omega arith);
  above = c.loop-page.invariant.above;
  below = c.loop-page.invariant.below;
  reached = omega arith;
  held = held_more _ _ _ _ _ _ _ c.loop-page.invariant.held _ c.is_within.ensures.value c.is_within.ensures.page_bound
      (ap not c.if-not-is_within.false) _ c.key_of.ensures.0 c.key_of.ensures.1 c.key_of.ensures.2 (omega arith);
}

pub returns-then-high-low-clause-stops : goal.returns-then-high-low-clause-stops
returns-then-high-low-clause-stops c =
    held_stops _ _ _ _ _ _ _ c.loop-page.invariant.held _ c.is_within.ensures.value c.is_within.ensures.page_bound _
    (ap not c.if-not-is_within.false) c.if-high-low.true (omega arith) c.loop-page-test.true

pub loop-page-preserved : goal.loop-page-preserved
loop-page-preserved c = record {
  fits = omega arith;
  above = c.bound_for-high.ensures.0;
  below = omega arith;
  reached = c.loop-page.invariant.reached;
  held = held_sieve _ _ _ _ _ _ _ _ _ _ c.loop-page.invariant.held c.keep-count.ensures.sieved
      c.bound_for-high.ensures.0 c.bound_for-high.ensures.1;
}
