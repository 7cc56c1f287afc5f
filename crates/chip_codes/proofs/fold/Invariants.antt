use Rattle.std.proofs.Common.{◌≡◌, ◌+◌, length}
use Rattle.model.specs.Codes.{xor_below}
use Rattle.chip_codes.specs.Folds.{word, Folding}
use Rattle.chip_codes.proofs.fold.Given as goal

abbrev pub invariant-loop-i : goal.invariant-loop-i
invariant-loop-i l =
    (l.upper ≡ xor_below (λ i. word l.initial.words (l.half + i)) l.i)
    × Folding l.initial.words l.words l.half l.i
    × (length l.words ≡ 32)
