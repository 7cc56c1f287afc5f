use Rattle.std.proofs.Common.{rules}
use Rattle.index.specs.ByNumber.{index_laws}
use Rattle.index.proofs.lookup.Goals as goal

ruleset all = (rules, index_laws)

pub returns-in_default : goal.returns-in_default
returns-in_default c = search all

pub returns : goal.returns
returns c = search all
