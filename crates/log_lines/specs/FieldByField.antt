-- Laws for the code that reads a line field by field. Assumes nothing.
use Rattle.std.specs.Prelude.{ℕ, suc, ◌+◌, ◌-◌, ◌<◌, ◌≤◌, Bool, true, false, ◌≡◌, eqb, take, drop, None, Option, Some}
use Rattle.std.proofs.Math.Path.{refl, sym}
use Rattle.std.proofs.Common.{◌∙◌, arith, length-drop, take_all, drop-drop, length-take-le, eq-eqb, ne_eqb}
use mathlib.Core.List.{List, [], ◌∷◌, ◌++◌}
use Rattle.std.proofs.Math.Decide.{dec_lt}
use Rattle.std.proofs.Math.ListN.{length, get_or}
use Rattle.geometry.specs.Tests.{pick}
use Rattle.text_lines.specs.Lines.{pieces, fields, reach}
use Rattle.text_lines.specs.Pieces.{reach_within, fields_more, fields_last}
use Rattle.text_decimals.specs.Decimals.{number_of}
use Rattle.log_lines.specs.declared.Order.TheVariants.{Format, Insert, Delete, Lookup, Limited}
use Rattle.log_lines.specs.Line.{Line, Of, Other}
use Rattle.log_lines.specs.Forms.{is_letter, given, form_of}

-- ---- by the letter, after one, two and three numbers
abbrev pub form_alone : ℕ → Line
form_alone l = pick (eqb l 70) (Of Format) Other

abbrev pub form_one : ℕ → ℕ → Line
form_one l k = pick (eqb l 68) (Of (Delete k)) (pick (eqb l 76) (Of (Lookup k)) Other)

abbrev pub form_two : ℕ → ℕ → ℕ → Line
form_two l k a = pick (eqb l 73) (Of (Insert k a)) Other

abbrev pub form_three : ℕ → ℕ → ℕ → ℕ → Line
form_three l k a m = pick (eqb l 83) (Of (Limited k a m)) Other

-- ---- the fields that are left: a number, then nothing more or what comes after it
unfoldable pub number_then : (ℕ → Line) → (ℕ → List (List ℕ) → Line) → List (List ℕ) → Line
number_then one more [] = Other
number_then one more (x ∷ []) = given (number_of x) one
number_then one more (x ∷ y ∷ ys) = given (number_of x) (λ n. more n (y ∷ ys))

-- after a letter and two, one or no numbers
abbrev pub last_form : ℕ → ℕ → ℕ → List (List ℕ) → Line
last_form l k a xs = number_then (λ m. form_three l k a m) (λ m ys. Other) xs

abbrev pub next_form : ℕ → ℕ → List (List ℕ) → Line
next_form l k xs = number_then (λ a. form_two l k a) (λ a ys. last_form l k a ys) xs

abbrev pub first_form : ℕ → List (List ℕ) → Line
first_form l xs = number_then (λ k. form_one l k) (λ k ys. next_form l k ys) xs

-- a letter and one field more
pub form_letter : (l : ℕ) (x : List ℕ) (xs : List (List ℕ)) → form_of ((l ∷ []) ∷ x ∷ xs) ≡ first_form l (x ∷ xs)
unfolding form_of number_then is_letter given
form_letter l x [] = go (eqb l 68) (eqb l 76) (number_of x)
  where
    go : (t u : Bool) (o : Option ℕ) → pick t (given o (λ k. Of (Delete k)))
        (pick u (given o (λ k. Of (Lookup k))) Other)
        ≡ given o (λ k. pick t (Of (Delete k)) (pick u (Of (Lookup k)) Other))
    go true u None = refl
    go false true None = refl
    go false false None = refl
    go true u (Some k) = refl
    go false true (Some k) = refl
    go false false (Some k) = refl
form_letter l x (y ∷ []) = go (eqb l 73) (number_of x) (number_of y)
  where
    go : (t : Bool) (o p : Option ℕ) → pick t (given o (λ k. given p (λ a. Of (Insert k a)))) Other ≡ given o
        (λ k. given p (λ a. pick t (Of (Insert k a)) Other))
    go true None p = refl
    go false None p = refl
    go true (Some k) None = refl
    go false (Some k) None = refl
    go true (Some k) (Some a) = refl
    go false (Some k) (Some a) = refl
form_letter l x (y ∷ z ∷ []) = go (eqb l 83) (number_of x) (number_of y) (number_of z)
  where
    go : (t : Bool) (o p q : Option ℕ) → pick t (given o (λ k. given p (λ a. given q (λ m. Of (Limited k a m))))) Other
        ≡ given o (λ k. given p (λ a. given q (λ m. pick t (Of (Limited k a m)) Other)))
    go true None p q = refl
    go false None p q = refl
    go true (Some k) None q = refl
    go false (Some k) None q = refl
    go true (Some k) (Some a) None = refl
    go false (Some k) (Some a) None = refl
    go true (Some k) (Some a) (Some m) = refl
    go false (Some k) (Some a) (Some m) = refl
form_letter l x (y ∷ z ∷ u ∷ us) = go (number_of x) (number_of y) (number_of z)
  where
    go : (o p q : Option ℕ) → Other ≡ given o (λ k. given p (λ a. given q (λ m. Other)))
    go None p q = refl
    go (Some k) None q = refl
    go (Some k) (Some a) None = refl
    go (Some k) (Some a) (Some m) = refl

-- a first field that is not one byte
form_word : (w : List ℕ) (xs : List (List ℕ)) → (length w ≡ 1 → ⊥) → form_of (w ∷ xs) ≡ Other
unfolding form_of is_letter
form_word [] [] h = refl
form_word [] (x ∷ []) h = refl
form_word [] (x ∷ y ∷ []) h = refl
form_word [] (x ∷ y ∷ z ∷ []) h = refl
form_word [] (x ∷ y ∷ z ∷ u ∷ us) h = refl
form_word (b ∷ []) xs h = absurd (h refl)
form_word (b ∷ d ∷ w) [] h = refl
form_word (b ∷ d ∷ w) (x ∷ []) h = refl
form_word (b ∷ d ∷ w) (x ∷ y ∷ []) h = refl
form_word (b ∷ d ∷ w) (x ∷ y ∷ z ∷ []) h = refl
form_word (b ∷ d ∷ w) (x ∷ y ∷ z ∷ u ∷ us) h = refl

-- ---- a field from a place on
module _ (s : List ℕ) (from end : ℕ) (e : end ≡ from + reach 9 (drop from s)) (q : from ≤ length s) where
  field_more : end < length s → fields (drop from s) ≡ take (end - from) (drop from s) ∷ fields (drop (end + 1) s)
  field_more h =
      let r : end - from ≡ reach 9 (drop from s) = omega arith in
      let n = length-drop from s in
      let d : from + suc (reach 9 (drop from s)) ≡ end + 1 = omega arith in
      rw r (fields_more (drop from s) (omega (arith, n)) ∙ rw (drop-drop, d) refl)

  field_last : length s ≤ end → fields (drop from s) ≡ take (end - from) (drop from s) ∷ []
  field_last h =
      let n = length-drop from s in
      fields_last (drop from s) (omega (arith, n)) ∙ rw (take_all (end - from) (drop from s) (omega (arith, n))) refl

  -- what the number of that field makes of a line, in the code's words
  module _ (one : ℕ → Line) (more : ℕ → List (List ℕ) → Line) where
    many : (x : List ℕ) (r : List ℕ) → number_then one more (x ∷ fields r) ≡ given (number_of x) (λ n. more n (fields r))
    unfolding number_then
    many x r = go (pieces 9 r).ended (pieces 9 r).rest
      where
        go : (E : List (List ℕ)) (R : List ℕ) → number_then one more (x ∷ (E ++ (R ∷ []))) ≡ given (number_of x)
            (λ n. more n (E ++ (R ∷ [])))
        go [] R = refl
        go (y ∷ E) R = refl

    module _ (n : Option ℕ) (is : n ≡ number_of (take (end - from) (drop from s))) where
      pub form_none : n ≡ None → Other ≡ number_then one more (fields (drop from s))
      unfolding given number_then
      form_none e = elim (dec_lt end (length s)) [
        | yes h ↦ sym (rw (field_more h, many, ← is, e) refl)
        | no h ↦ sym (rw (field_last (omega arith), ← is, e) refl)
      ]

      pub form_more : (k : ℕ) (r : Line) → n ≡ Some k → end < length s → r ≡ more k (fields (drop (end + 1) s))
          → r ≡ number_then one more (fields (drop from s))
      unfolding given
      form_more k r e h f = f ∙ sym (rw (field_more h, many, ← is, e) refl)

      pub form_last : (k : ℕ) (r : Line) → n ≡ Some k → length s ≤ end → r ≡ one k → r ≡ number_then one more
          (fields (drop from s))
      unfolding given number_then
      form_last k r e h f = f ∙ sym (rw (field_last h, ← is, e) refl)

  -- a field too many
  pub form_long : (one : ℕ → Line) → end < length s → Other ≡ number_then one (λ n ys. Other) (fields (drop from s))
  unfolding given
  form_long one h = sym (rw (field_more h, many one (λ n ys. Other)) (go (number_of (take (end - from) (drop from s)))))
    where
      go : (o : Option ℕ) → given o (λ n. Other) ≡ Other
      go None = refl
      go (Some n) = refl

-- ---- the letter, at the line's first tab or end
module _ (s : List ℕ) (end : ℕ) (e : end ≡ 0 + reach 9 (drop 0 s)) where
  at_first : end ≡ reach 9 s
  at_first = omega (arith, e)

  pub line_word : (end ≡ 1 → ⊥) → Other ≡ form_of (fields s)
  line_word h = elim (dec_lt end (length s)) [
    | yes k ↦ sym (rw (field_more s 0 end e (omega arith) k) (form_word (take (end - 0) s) (fields (drop (end + 1) s)) (λ q. h (
        let n = length-take-le (end - 0) s (omega arith) in omega arith))))
    | no k ↦ sym (rw (field_last s 0 end e (omega arith) (omega arith)) (form_word (take (end - 0) s) [] (λ q. h (
        let w = reach_within 9 s in
        let n = length-take-le (end - 0) s (omega (arith, at_first)) in omega (arith, at_first)))))
  ]

  module _ (h : end ≡ 1) (l : ℕ) (f : l ≡ get_or s 0 0) (r : Line) where
    pub line_alone : length s ≡ 1 → r ≡ form_alone l → r ≡ form_of (fields s)
    unfolding form_of is_letter
    line_alone k g = g ∙ sym (rw (field_last s 0 end e (omega arith) (omega arith), h) (go s k f))
      where
        go : (s : List ℕ) → length s ≡ 1 → l ≡ get_or s 0 0 → form_of (take (1 - 0) s ∷ []) ≡ form_alone l
        go [] q w = absurd (omega arith)
        go (b ∷ []) q w = rw w refl
        go (b ∷ c ∷ s) q w = absurd (omega arith)

    pub line_letter : (length s ≡ 1 → ⊥) → r ≡ first_form l (fields (drop 2 s)) → r ≡ form_of (fields s)
    line_letter k g =
        let w = reach_within 9 s in
        let z : end < length s = elim (dec_lt 1 (length s)) [ yes q ↦ omega arith | no q ↦ absurd (k (omega (arith, at_first))) ] in
        g ∙ sym (rw (field_more s 0 end e (omega arith) z, h) (go s f z))
      where
        go : (s : List ℕ) → l ≡ get_or s 0 0 → end < length s → form_of (take (1 - 0) s ∷ fields (drop (1 + 1) s))
            ≡ first_form l (fields (drop 2 s))
        go [] w q = absurd (omega arith)
        go (b ∷ s) w q = rw w (all (pieces 9 (drop 1 s)).ended (pieces 9 (drop 1 s)).rest)
          where
            all : (E : List (List ℕ)) (R : List ℕ) → form_of ((b ∷ []) ∷ (E ++ (R ∷ []))) ≡ first_form b (E ++ (R ∷ []))
            all [] R = form_letter b R []
            all (y ∷ E) R = form_letter b y (E ++ (R ∷ []))

-- ---- a letter's test
pub letter_is : (l c : ℕ) (r x y : Line) → l ≡ c → r ≡ x → r ≡ pick (eqb l c) x y
letter_is l c r x y e f = f ∙ rw (eq-eqb l c e) refl

pub letter_other : (l c : ℕ) (r x y : Line) → (l ≡ c → ⊥) → r ≡ y → r ≡ pick (eqb l c) x y
letter_other l c r x y e f = f ∙ rw (ne_eqb l c e) refl

pub ruleset letter_laws = (letter_is, letter_other)

pub ruleset line_laws = (form_none, form_more, form_last, form_long, line_word, line_alone, line_letter)
