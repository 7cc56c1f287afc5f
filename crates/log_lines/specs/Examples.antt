-- The forms of lines by computation. Assumes nothing.
use Rattle.std.specs.Prelude.{◌≡◌, refl, [], ◌∷◌, map}
use Rattle.geometry.specs.Tests.{◌&◌}
use Rattle.text_lines.specs.Lines.{pieces}
use Rattle.text_decimals.specs.Decimals.{number_of, digit, all_digits, value, proper, digits_of, decimal}
use Rattle.log_lines.specs.declared.Order.TheVariants.{Format, Insert, Lookup, Limited}
use Rattle.log_lines.specs.Line.{Of, Other}
use Rattle.log_lines.specs.Forms.{is_letter, given, form_of, parsed}
use Rattle.log_lines.specs.Replay.{tabbed, line_text, last_line, error_line, form_after}

-- "I 7 1000", "I 07 1" (a leading zero), "L 4294967295", "L 4294967296" (too large), "F " (a field too many), "" (an
-- empty line), "D 9" and byte 13, "S 0 0 1"
pub forms : map parsed (
    (73 ∷ 9 ∷ 55 ∷ 9 ∷ 49 ∷ 48 ∷ 48 ∷ 48 ∷ [])
    ∷ (73 ∷ 9 ∷ 48 ∷ 55 ∷ 9 ∷ 49 ∷ [])
    ∷ (76 ∷ 9 ∷ 52 ∷ 50 ∷ 57 ∷ 52 ∷ 57 ∷ 54 ∷ 55 ∷ 50 ∷ 57 ∷ 53 ∷ [])
    ∷ (76 ∷ 9 ∷ 52 ∷ 50 ∷ 57 ∷ 52 ∷ 57 ∷ 54 ∷ 55 ∷ 50 ∷ 57 ∷ 54 ∷ [])
    ∷ (70 ∷ 9 ∷ [])
    ∷ []
    ∷ (68 ∷ 9 ∷ 57 ∷ 13 ∷ [])
    ∷ (83 ∷ 9 ∷ 48 ∷ 9 ∷ 48 ∷ 9 ∷ 49 ∷ [])
    ∷ [])
    ≡ (Of (Insert 7 1000) ∷ Other ∷ Of (Lookup 4294967295) ∷ Other ∷ Other ∷ Other ∷ Other ∷ Of (Limited 0 0 1) ∷ [])
unfolding pieces number_of digit all_digits value proper form_of given is_letter ◌&◌
forms = refl

-- "T 4 2 3", a line
pub last : last_line (record { lines = 4; programmed = 2; erased = 3 }) ≡ (84 ∷ 9 ∷ 52 ∷ 9 ∷ 50 ∷ 9 ∷ 51 ∷ 10 ∷ [])
unfolding decimal digits_of tabbed line_text
last = refl

-- "E 5", a line: the line after the four that are counted
pub error : error_line (record { lines = 4; programmed = 2; erased = 3 }) ≡ (69 ∷ 9 ∷ 53 ∷ 10 ∷ [])
unfolding decimal digits_of tabbed line_text
error = refl

-- line 1,000,000 is read as it stands, line 1,000,001 is of no form
pub most : (form_after 999999 (70 ∷ []) ≡ Of Format) × (form_after 1000000 (70 ∷ []) ≡ Other)
unfolding form_after pieces form_of given is_letter ◌&◌
most = (refl, refl)
