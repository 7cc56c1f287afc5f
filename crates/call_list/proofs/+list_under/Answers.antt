use Rattle.std.proofs.Common.{rules}
use Rattle.call_list.specs.Listings.{listing_laws}
use Rattle.call_list.proofs.+list_under.Goals as goal

ruleset all = (rules, listing_laws)

pub returns-then-level-eq0 : goal.returns-then-level-eq0
returns-then-level-eq0 t c = search all

pub returns-then-past : goal.returns-then-past
returns-then-past t c = search all

pub loop-i-preserved : goal.loop-i-preserved
loop-i-preserved t c = search all

pub returns : goal.returns
returns t c = search all
