use Rattle.std.proofs.Common.{◌≡◌, ℕ, ◌<◌, length}
use Rattle.chip_codes.specs.Words.{word_in}
use Rattle.chip_codes.specs.Folds.{word}
use Rattle.chip_codes.proofs.words_of.Given as goal

abbrev pub invariant-loop-i : goal.invariant-loop-i
invariant-loop-i l = (length l.words ≡ 32) × ((k : ℕ) → k < l.i → word l.words k ≡ word_in l.img l.at k)
