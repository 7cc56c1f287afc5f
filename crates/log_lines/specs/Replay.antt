-- Request 3: what a day's log is answered by. The whole output is a function of the whole input. Definitions alone;
-- assumes nothing.
use Rattle.std.specs.Prelude.{ℕ, ◌+◌, ◌*◌, List, [], ◌∷◌, ◌++◌, ltb, replicate}
use Rattle.geometry.specs.declared.Geometry.{Geometry}
use Rattle.geometry.specs.Tests.{pick}
use Rattle.model.specs.Image.{block_bytes}
use Rattle.model.specs.Calls.{Outcome, format, lookup, insert, delete}
use Rattle.text_lines.specs.Lines.{lines}
use Rattle.text_decimals.specs.Decimals.{decimal}
use Rattle.log_tally.specs.declared.Tally.{Tally}
use Rattle.log_tally.specs.Counted.{none_yet, counted}
use Rattle.log_lines.specs.declared.Order.{Order}
use Rattle.log_lines.specs.declared.Order.TheVariants.{Format, Insert, Delete, Lookup, Limited}
use Rattle.log_lines.specs.Line.{Line, Of, Other}
use Rattle.log_lines.specs.Forms.{parsed}

-- ---- an order on the image. "I and D have the largest allowance"
abbrev pub largest_allowance : ℕ
largest_allowance = 4294967295

unfoldable pub obeyed : Geometry → Order → List ℕ → Outcome
obeyed g Format img = format g img
obeyed g (Insert k a) img = insert g img k a largest_allowance
obeyed g (Delete k) img = delete g img k largest_allowance
obeyed g (Lookup k) img = lookup g img k
obeyed g (Limited k a allowance) img = insert g img k a allowance

-- "a three-block image held by the program"; "Before any F the image is all 255"
abbrev pub blank_image : Geometry → List ℕ
blank_image g = replicate (3 * block_bytes g) 255

-- ---- lines that are written: a letter, and numbers after tabs
unfoldable pub tabbed : List ℕ → List ℕ
tabbed [] = []
tabbed (n ∷ ns) = (9 ∷ decimal n) ++ tabbed ns

unfoldable pub line_text : ℕ → List ℕ → List ℕ
line_text letter ns = (letter ∷ tabbed ns) ++ (10 ∷ [])

-- numbers alone, parted by tabs (request 12)
unfoldable pub numbers_text : List ℕ → List ℕ
numbers_text [] = 10 ∷ []
numbers_text (n ∷ ns) = decimal n ++ (tabbed ns ++ (10 ∷ []))

abbrev pub letter_of : Order → ℕ
letter_of Format = 70
letter_of (Insert k a) = 73
letter_of (Delete k) = 68
letter_of (Lookup k) = 76
letter_of (Limited k a allowance) = 83

-- "Each line is answered by its letter, answer number, address, programmed, erased"
abbrev pub answer_line : Order → Outcome → List ℕ
answer_line order o = line_text (letter_of order) (o.answer ∷ o.address ∷ o.programmed ∷ o.erased ∷ [])

-- "E and its line number": the line after those that are counted
abbrev pub error_after : ℕ → List ℕ
error_after count = line_text 69 ((count + 1) ∷ [])

abbrev pub error_line : Tally → List ℕ
error_line t = error_after t.lines

-- "at the end T, line count, and both sums"
abbrev pub last_line : Tally → List ℕ
last_line t = line_text 84 (t.lines ∷ t.programmed ∷ t.erased ∷ [])

-- ---- the run
-- "changed in place after every line"
abbrev pub tally_after : Tally → Outcome → Tally
tally_after t o = counted t o.programmed o.erased

-- the end of the input: a piece without byte 10 is "a line of any other form"
unfoldable pub ending : Tally → List ℕ → List ℕ
ending t [] = last_line t
ending t (b ∷ bs) = error_line t

-- one line, then what comes next. "answered by E and its line number, and the run ends without T"
unfoldable pub reply : Geometry → Tally → List ℕ → (Tally → List ℕ → List ℕ) → Line → List ℕ
reply g t img next Other = error_line t
reply g t img next (Of order) =
    answer_line order (obeyed g order img) ++ next (tally_after t (obeyed g order img)) (obeyed g order img).image

-- the next line's form; "or line 1,000,001"
abbrev pub most_lines : ℕ
most_lines = 1000000

unfoldable pub form_after : ℕ → List ℕ → Line
form_after count line = pick (ltb count most_lines) (parsed line) Other

abbrev pub form_at : Tally → List ℕ → Line
form_at t line = form_after t.lines line

unfoldable pub answers : Geometry → Tally → List ℕ → List (List ℕ) → List ℕ → List ℕ
answers g t img [] rest = ending t rest
answers g t img (l ∷ ls) rest = reply g t img (λ u x. answers g u x ls rest) (form_at t l)

-- the whole output
unfoldable pub replayed : Geometry → List ℕ → List ℕ
replayed g input = answers g none_yet (blank_image g) (lines input).ended (lines input).rest
