use Rattle.std.proofs.Common.{◌≡◌, length}
use Rattle.chip_codes.specs.Parts.{Copied}
use Rattle.chip_codes.proofs.part_at.Given as goal

abbrev pub invariant-loop-i : goal.invariant-loop-i
invariant-loop-i l = (length l.part ≡ 256) × Copied l.img l.at l.part l.i
