use Rattle.std.proofs.Common.{rules}
use Rattle.text_decimals.specs.Reading.{reading_laws}
use Rattle.text_decimals.proofs.digits_value.Goals as goal

ruleset all = (rules, reading_laws)

pub returns-then-b-lt48 : goal.returns-then-b-lt48
returns-then-b-lt48 c = search all

pub returns-then-b-gt57 : goal.returns-then-b-gt57
returns-then-b-gt57 c = search all

pub returns-then-v-gt4294967295 : goal.returns-then-v-gt4294967295
returns-then-v-gt4294967295 c = search all

pub loop-x-preserved : goal.loop-x-preserved
loop-x-preserved c = search all
