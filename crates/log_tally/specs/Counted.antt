-- Request 3: "One tally record, changed in place after every line".
--     none_yet     before the first line
--     counted      one line more, and both sums with the line's numbers
--     Within       what at most 1,000,000 lines can come to, each with numbers of 32 bits
-- Assumes nothing.
use Rattle.std.specs.Prelude.{ℕ, ◌+◌, ◌*◌, ◌<◌, ◌≤◌}
use Rattle.std.proofs.Common.{arith}
use Rattle.log_tally.specs.declared.Tally.{Tally}

abbrev pub none_yet : Tally
none_yet = record { lines = 0; programmed = 0; erased = 0 }

abbrev pub counted : Tally → ℕ → ℕ → Tally
counted t programmed erased = record { lines = t.lines + 1; programmed = t.programmed + programmed; erased = t.erased + erased }

abbrev pub Within : Tally → Type 0
Within t = (t.lines ≤ 1000000) × (t.programmed ≤ 4294967295 * t.lines) × (t.erased ≤ 4294967295 * t.lines)

pub within_more : (t : Tally) (p e : ℕ) → Within t → t.lines < 1000000 → p ≤ 4294967295 → e ≤ 4294967295
    → Within (counted t p e)
within_more t p e w h i j = (omega arith, omega arith, omega arith)

-- a number more can be added to each
pub roomy : (t : Tally) → Within t → (t.lines ≤ 4294967295000000) × (t.programmed ≤ 4294967295000000) ×
    (t.erased ≤ 4294967295000000)
roomy t w = (omega arith, omega arith, omega arith)
