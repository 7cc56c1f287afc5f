use Rattle.std.proofs.Common.{◌≡◌, ◌^◌}
use Rattle.model.specs.Codes.{◌⊕◌}
use Rattle.chip_codes.specs.Words.{in_word}
use Rattle.chip_codes.proofs.in_64.Given as goal

abbrev pub invariant-loop-p : goal.invariant-loop-p
invariant-loop-p l = in_word 64 l.w ≡ l.numbers ⊕ in_word (2 ^ l.p) l.left
