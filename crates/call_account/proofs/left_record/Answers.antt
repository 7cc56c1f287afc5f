use Rattle.std.proofs.Common.{rules}
use Rattle.call_account.specs.Accounting.{account_laws}
use Rattle.call_account.proofs.left_record.Goals as goal

pub returns : goal.returns
returns c = search (rules, account_laws)
