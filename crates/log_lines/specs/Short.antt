-- A line that has a form is at most 34 bytes long: S, three tabs and three numbers of at most ten digits. Assumes
-- nothing.
use Rattle.std.specs.Prelude.{◌≡◌, refl, List, [], ◌∷◌, ◌++◌, Bool, true, false, ℕ, suc, ◌+◌, ◌<◌, ◌≤◌, length, None, Option, Some}
use Rattle.std.proofs.Common.{subst, arith, length-append}
use Rattle.std.proofs.lemmas.Bool.{false≢true}
use Rattle.geometry.specs.Tests.{pick}
use Rattle.text_lines.specs.Lines.{pieces}
use Rattle.text_lines.specs.Pieces.{joined, pieces_join}
use Rattle.text_decimals.specs.Decimals.{number_of}
use Rattle.text_decimals.specs.Back.{number_short}
use Rattle.log_lines.specs.declared.Order.TheVariants.{Format, Insert, Delete, Lookup, Limited}
use Rattle.log_lines.specs.Line.{Line, Of, Other}
use Rattle.log_lines.specs.Forms.{is_letter, given, form_of, parsed}

abbrev pub longest : ℕ
longest = 34

abbrev pub Short : Line → ℕ → Type 0
Short Other n = Unit {0}
Short (Of order) n = n ≤ longest

letter_short : (c : ℕ) (w : List ℕ) → is_letter c w ≡ true → length w ≤ 1
unfolding is_letter
letter_short c [] h = omega arith
letter_short c (b ∷ []) h = omega arith
letter_short c (b ∷ d ∷ w) h = absurd (false≢true h)

pick_short : (t : Bool) (x y : Line) (n : ℕ) → (t ≡ true → Short x n) → Short y n → Short (pick t x y) n
pick_short true x y n f h = f refl
pick_short false x y n f h = h

given_short : (ds : List ℕ) (f : ℕ → Line) (n : ℕ) → (length ds ≤ 10 → (k : ℕ) → Short (f k) n)
    → Short (given (number_of ds) f) n
unfolding given
given_short ds f n h = go (number_of ds) refl
  where
    go : (o : Option ℕ) → number_of ds ≡ o → Short (given o f) n
    go None e = tt
    go (Some k) e = h (number_short ds k e) k

parts_length : (w r : List ℕ) → length ((w ++ (9 ∷ [])) ++ r) ≡ length w + suc (length r)
parts_length w r = let a = length-append (w ++ (9 ∷ [])) r in let b = length-append w (9 ∷ []) in omega (arith, a, b)

fields_short : (E : List (List ℕ)) (R : List ℕ) → Short (form_of (E ++ (R ∷ []))) (length (joined 9 E R))
unfolding form_of joined
fields_short [] R = pick_short (is_letter 70 R) (Of Format) Other (length R) (λ t. let a = letter_short 70 R t in
    omega (arith, a)) tt
fields_short (w ∷ []) R =
    let n = parts_length w R in
    pick_short (is_letter 68 w) _ _ (length ((w ++ (9 ∷ [])) ++ R))
    (λ t. let a = letter_short 68 w t in given_short R (λ k. Of (Delete k)) _ (λ b k. omega (arith, a, b, n)))
    (pick_short (is_letter 76 w) _ Other (length ((w ++ (9 ∷ [])) ++ R))
    (λ t. let a = letter_short 76 w t in given_short R (λ k. Of (Lookup k)) _ (λ b k. omega (arith, a, b, n))) tt)
fields_short (w ∷ x ∷ []) R =
    let n = parts_length w ((x ++ (9 ∷ [])) ++ R) in
    let m = parts_length x R in
    pick_short (is_letter 73 w) _ Other (length ((w ++ (9 ∷ [])) ++ ((x ++ (9 ∷ [])) ++ R)))
    (λ t. let a = letter_short 73 w t in
    given_short x (λ k. given (number_of R) (λ d. Of (Insert k d))) _ (λ b k. given_short R (λ d. Of (Insert k d)) _ (λ c d. omega (arith, a, b, c, n, m)))) tt
fields_short (w ∷ x ∷ y ∷ []) R =
    let n = parts_length w ((x ++ (9 ∷ [])) ++ ((y ++ (9 ∷ [])) ++ R)) in
    let m = parts_length x ((y ++ (9 ∷ [])) ++ R) in
    let k = parts_length y R in
    pick_short (is_letter 83 w) _ Other (length ((w ++ (9 ∷ [])) ++ ((x ++ (9 ∷ [])) ++ ((y ++ (9 ∷ [])) ++ R))))
    (λ t. let a = letter_short 83 w t in
    given_short x (λ i. given (number_of y) (λ d. given (number_of R) (λ e. Of (Limited i d e)))) _ (λ b i.
    given_short y (λ d. given (number_of R) (λ e. Of (Limited i d e))) _ (λ c d.
    given_short R (λ e. Of (Limited i d e)) _ (λ f e. omega (arith, a, b, c, f, n, m, k))))) tt
fields_short (w ∷ x ∷ y ∷ z ∷ []) R = tt
fields_short (w ∷ x ∷ y ∷ z ∷ u ∷ E) R = tt

line_short : (l : List ℕ) → Short (parsed l) (length l)
line_short l = subst (λ m. Short (parsed l) (length m)) (pieces_join 9 l) (fields_short (pieces 9 l).ended (pieces 9 l).rest)

-- a longer line is one of another form
pub long_other : (l : List ℕ) → longest < length l → parsed l ≡ Other
long_other l h = go (parsed l) (line_short l)
  where
    go : (x : Line) → Short x (length l) → x ≡ Other
    go Other s = refl
    go (Of order) s = absurd (omega (arith, s, h))
