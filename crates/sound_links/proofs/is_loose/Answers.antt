use Rattle.sound_links.specs.RuleSix.{loose_is}
use Rattle.sound_links.proofs.is_loose.Goals as goal

pub returns : goal.returns
returns c =
    loose_is _ _ _ _ _ _ _ _ _ c.noted.ensures.0 c.node_place-at.ensures.0 c.node_count-n.ensures.0 c.names_page.ensures
    c.if-level-noted.false
