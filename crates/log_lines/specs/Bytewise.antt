-- A log that comes byte by byte: the line that has begun, lines longer than any form, and the next line's form. Assumes
-- nothing.
use Rattle.std.specs.Prelude.{◌≡◌, List, [], ◌∷◌, ◌++◌, Bool, true, false, ℕ, ◌+◌, ◌-◌, ◌*◌, ◌<◌, ◌≤◌, eqb, length, take}
use Rattle.std.proofs.Math.Path.{refl}
use Rattle.std.proofs.Common.{ap, sym, subst, ◌∙◌, append_assoc, append-nil, arith, length-append, length-take-le, lt-ltb, le-ltb, eqb-true}
use Rattle.geometry.specs.Tests.{pick}
use Rattle.text_lines.specs.Lines.{Pieces, before, pieces, lines}
use Rattle.log_lines.specs.Line.{Line, Other}
use Rattle.log_lines.specs.Forms.{parsed}
use Rattle.log_lines.specs.Replay.{most_lines, form_after}
use Rattle.log_lines.specs.Short.{longest, long_other}

-- ---- bytes without byte 10
abbrev pub Whole : List ℕ → Type 0
Whole [] = Unit {0}
Whole (b ∷ bs) = (eqb b 10 ≡ false) × Whole bs

pub whole_more : (p : List ℕ) (b : ℕ) → Whole p → eqb b 10 ≡ false → Whole (p ++ (b ∷ []))
whole_more [] b h e = (e, tt)
whole_more (c ∷ p) b h e = (h.0, whole_more p b h.1 e)

pub lines_rest : (p : List ℕ) → Whole p → lines p ≡ record { ended = []; rest = p }
unfolding pieces
lines_rest [] h = refl
lines_rest (b ∷ p) h = rw h.0 (ap (λ (x : Pieces). before b x.ended x.rest) (lines_rest p h.1))

pub lines_line : (p bs : List ℕ) → Whole p → lines (p ++ (10 ∷ bs)) ≡ record {
  ended = p ∷ (lines bs).ended;
  rest = (lines bs).rest;
}
unfolding pieces
lines_line [] bs h = refl
lines_line (b ∷ p) bs h = rw h.0 (ap (λ (x : Pieces). before b x.ended x.rest) (lines_line p bs h.1))

-- ---- a line that is longer than any form
-- the first line has another form, or there is none and bytes are left
abbrev pub Foreign : List (List ℕ) → List ℕ → Type 0
Foreign [] [] = ⊥
Foreign [] (b ∷ bs) = Unit {0}
Foreign (l ∷ ls) rest = parsed l ≡ Other

-- whatever follows
pub long_foreign : (bs p : List ℕ) → Whole p → longest < length p → Foreign (lines (p ++ bs)).ended
    (lines (p ++ bs)).rest
long_foreign [] p h q = rw (append-nil p, lines_rest p h) (go p q)
  where
    go : (p : List ℕ) → longest < length p → Foreign [] p
    go [] q = absurd (omega arith)
    go (b ∷ p) q = tt
long_foreign (b ∷ bs) p h q = go (eqb b 10) refl (λ r i k. long_foreign bs r i k)
  where
    go : (e : Bool) → eqb b 10 ≡ e → ((r : List ℕ) → Whole r → longest < length r → Foreign (lines (r ++ bs)).ended
        (lines (r ++ bs)).rest)
        → Foreign (lines (p ++ (b ∷ bs))).ended (lines (p ++ (b ∷ bs))).rest
    go true e ih = rw (eqb-true b 10 e, lines_line p bs h) (long_other p q)
    go false e ih = subst (λ m. Foreign (lines m).ended (lines m).rest) (append_assoc p (b ∷ []) bs)
        (ih (p ++ (b ∷ [])) (whole_more p b h e) (let n = length-append p (b ∷ []) in omega (arith, n)))

-- ---- in the code's words
pub part_length : (line : List ℕ) (n : ℕ) → n ≤ 34 → length line ≡ 34 → length (take n line) ≡ n
part_length line n h e = length-take-le n line (omega arith)

module _ (count : ℕ) (line : List ℕ) where
  pub form_late : 1000000 ≤ count → form_after count line ≡ Other
  unfolding form_after
  form_late h = rw (le-ltb count most_lines (omega (arith, h))) refl

  pub form_as : (form x : Line) → count < 1000000 → form ≡ parsed line → form ≡ x → form_after count line ≡ x
  unfolding form_after
  form_as form x h e f = rw (lt-ltb count 1000000 h) (sym e ∙ f)

-- how many bytes may still come before a run is over: 35 for each line, less those of the line that has begun
abbrev pub bytes_left : Bool → ℕ → ℕ → ℕ
bytes_left over count filled = pick over 0 (1 + 35 * (most_lines - count) + (longest - filled))
