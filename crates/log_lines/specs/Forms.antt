-- Request 3: "F ..., `I key address`, `D key`, `L key`, and `S key address allowance`", "fields parted by tabs".
-- Definitions alone; assumes nothing.
use Rattle.std.specs.Prelude.{ℕ, Bool, false, List, [], ◌∷◌, eqb, None, Option, Some}
use Rattle.geometry.specs.Tests.{pick}
use Rattle.text_lines.specs.Lines.{fields}
use Rattle.text_decimals.specs.Decimals.{number_of}
use Rattle.log_lines.specs.declared.Order.TheVariants.{Format, Insert, Delete, Lookup, Limited}
use Rattle.log_lines.specs.Line.{Line, Of, Other}

-- a field that is one letter
unfoldable pub is_letter : ℕ → List ℕ → Bool
is_letter c [] = false
is_letter c (b ∷ []) = eqb b c
is_letter c (b ∷ d ∷ bs) = false

-- what a field's number makes of a line; a field that is no number makes it one of another form
unfoldable pub given : Option ℕ → (ℕ → Line) → Line
given None f = Other
given (Some n) f = f n

-- the first field is the letter alone, the others are its numbers; else it is "a line of any other form"
unfoldable pub form_of : List (List ℕ) → Line
form_of [] = Other
form_of (w ∷ []) = pick (is_letter 70 w) (Of Format) Other
form_of (w ∷ x ∷ []) =
    pick (is_letter 68 w) (given (number_of x) (λ k. Of (Delete k))) (
    pick (is_letter 76 w) (given (number_of x) (λ k. Of (Lookup k)))
    Other)
form_of (w ∷ x ∷ y ∷ []) =
    pick (is_letter 73 w) (given (number_of x) (λ k. given (number_of y) (λ a. Of (Insert k a)))) Other
form_of (w ∷ x ∷ y ∷ z ∷ []) =
    pick (is_letter 83 w) (given (number_of x) (λ k. given (number_of y) (λ a. given (number_of z) (λ m. Of (Limited k a m))))) Other
form_of (w ∷ x ∷ y ∷ z ∷ u ∷ us) = Other

abbrev pub parsed : List ℕ → Line
parsed line = form_of (fields line)
