use Rattle.std.proofs.Common.{rules, refl, get_or}
use Rattle.text_decimals.specs.Reading.{number_more}
use Rattle.text_decimals.proofs.parse_number.Goals as goal

pub returns : goal.returns
returns c = search (rules, number_more c.args.s.now c.digits_value-2.result (get_or c.args.s.now 0 0) refl)
