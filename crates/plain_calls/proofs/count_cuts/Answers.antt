use Rattle.std.proofs.Common.{rules}
use Rattle.plain_calls.specs.Judged.{count_laws}
use Rattle.plain_calls.proofs.count_cuts.Goals as goal

pub returns : goal.returns
returns c = search (rules, count_laws)
