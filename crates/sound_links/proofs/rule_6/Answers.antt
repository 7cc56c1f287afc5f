use Rattle.sound_links.specs.RuleSix.{loose_bad, loose_good}
use Rattle.sound_links.proofs.rule_6.Goals as goal

pub returns-then-page-pages : goal.returns-then-page-pages
returns-then-page-pages c =
    loose_bad _ _ _ _ _ _ _ c.requires.marked c.requires.inside c.lowest_loose-page.ensures c.if-page-pages.true

pub returns : goal.returns
returns c =
    loose_good _ _ _ _ _ _ _ c.requires.marked c.requires.inside c.lowest_loose-page.ensures c.if-page-pages.false
