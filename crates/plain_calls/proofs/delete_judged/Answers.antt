use Rattle.std.proofs.Common.{rules}
use Rattle.plain_calls.specs.Judged.{rest_laws}
use Rattle.plain_calls.proofs.delete_judged.Goals as goal

pub returns : goal.returns
returns c = search (rules, rest_laws)
