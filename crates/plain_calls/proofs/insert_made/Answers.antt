use Rattle.std.proofs.Common.{rules}
use Rattle.plain_calls.specs.Judged.{made_laws}
use Rattle.plain_calls.proofs.insert_made.Goals as goal

pub returns : goal.returns
returns c = search (rules, made_laws)
