use Rattle.std.proofs.Common.{◌≡◌, ◌≤◌, drop}
use Rattle.text_decimals.specs.Reading.{number_from}
use Rattle.text_decimals.proofs.digits_value.Given as goal

-- what the digits so far come to, the others carry on from
abbrev pub invariant-loop-x : goal.invariant-loop-x
invariant-loop-x l = record {
  fits : l.v ≤ 4294967295;
  left : number_from 0 l.s ≡ number_from l.v (drop l.x-index l.s);
}
