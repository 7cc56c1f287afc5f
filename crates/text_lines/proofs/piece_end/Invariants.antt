use Rattle.std.proofs.Common.{◌≡◌, ◌+◌, drop}
use Rattle.text_lines.specs.Lines.{reach}
use Rattle.text_lines.proofs.piece_end.Given as goal

-- what is before i holds no such byte
abbrev pub invariant-loop-i : goal.invariant-loop-i
invariant-loop-i l = l.from + reach l.at (drop l.from l.s) ≡ l.i + reach l.at (drop l.i l.s)
