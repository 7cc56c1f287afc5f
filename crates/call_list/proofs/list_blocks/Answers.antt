use Rattle.std.proofs.Common.{rules}
use Rattle.call_list.specs.Listings.{listing_laws}
use Rattle.call_list.proofs.list_blocks.Goals as goal

ruleset all = (rules, listing_laws)

pub returns-in-Ok : goal.returns-in-Ok
returns-in-Ok c = search all

pub returns-in-Err : goal.returns-in-Err
returns-in-Err c = search all
