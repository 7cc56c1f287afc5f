use Rattle.sound_repeats.specs.ByParts.{swept_more}
use Rattle.sound_repeats.proofs.lowest_page.Goals as goal

pub loop-low-preserved : goal.loop-low-preserved
loop-low-preserved c =
    swept_more _ _ _ _ _ _ _ _ _ _ c.loop-low.invariant c.gather-part.ensures.held c.gather-part.ensures.stops
    c.lowest-best.ensures.cut
