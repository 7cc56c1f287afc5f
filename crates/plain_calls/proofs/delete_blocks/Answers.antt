use Rattle.std.proofs.Common.{rules}
use Rattle.plain_calls.specs.Judged.{call_laws}
use Rattle.plain_calls.proofs.delete_blocks.Goals as goal

pub returns-in-Err : goal.returns-in-Err
returns-in-Err c = search (rules, call_laws)
