use Rattle.std.proofs.Common.{rules}
use Rattle.text_decimals.specs.Writing.{writing_laws}
use Rattle.text_decimals.proofs.+put_number.Goals as goal

pub returns-clause-place : goal.returns-clause-place
returns-clause-place t c = search (rules, writing_laws)
