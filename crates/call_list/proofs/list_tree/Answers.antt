use Rattle.std.proofs.Common.{rules}
use Rattle.call_list.specs.Listings.{listing_laws}
use Rattle.call_list.proofs.list_tree.Goals as goal

ruleset all = (rules, listing_laws)

pub overflow_cast-result : goal.overflow_cast-result
overflow_cast-result c = search all

pub overflow_cast-result-2 : goal.overflow_cast-result-2
overflow_cast-result-2 c = search all

pub returns : goal.returns
returns c = search all
