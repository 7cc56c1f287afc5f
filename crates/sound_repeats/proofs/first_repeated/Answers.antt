use Rattle.sound_repeats.specs.ByParts.{swept_good}
use Rattle.sound_repeats.proofs.first_repeated.Goals as goal

pub returns : goal.returns
returns c = swept_good _ _ _ _ _ c.first_page-pages.ensures.0 c.lowest_page-page.ensures c.if-page-pages.false
