-- Request 3 byte by byte: what the machine writes is `replayed`. Assumes nothing.
use Rattle.std.specs.Prelude.{◌≡◌, Bool, ℕ, ◌<◌, ◌≤◌}
use Rattle.std.proofs.Math.Path.{refl, ap, sym}
use Rattle.std.proofs.Common.{◌∙◌, arith}
use mathlib.Core.List.{List, [], ◌∷◌, ◌++◌, append_assoc, append-nil}
use Rattle.std.proofs.Math.Bool.{true, false}
use Rattle.std.proofs.Math.Dec.{eqb, ltb}
use Rattle.std.proofs.Math.ListN.{length, length-append}
use borrow.Author.Tests.{ltb-true, ltb-false, eqb-true}
use Rattle.geometry.specs.declared.Geometry.{Geometry}
use Rattle.geometry.specs.Tests.{pick}
use Rattle.text_lines.specs.Lines.{Pieces, lines}
use Rattle.log_tally.specs.declared.Tally.{Tally}
use Rattle.log_tally.specs.Counted.{none_yet}
use Rattle.log_lines.specs.Line.{Line, Of, Other}
use Rattle.log_lines.specs.Replay.{obeyed, blank_image, answer_line, error_line, tally_after, ending, reply, most_lines, form_after, form_at, answers, replayed}
use Rattle.log_lines.specs.Short.{longest}
use Rattle.log_lines.specs.Bytewise.{Whole, whole_more, lines_rest, lines_line, Foreign, long_foreign}
use Rattle.log_machine.specs.Machine.{State, start, close, longer, feed, finish, ran}

-- ---- from the middle of a line
module _ (g : Geometry) where
  -- the answers to a text from a tally and an image on
  abbrev answered : Tally → List ℕ → List ℕ → List ℕ
  answered t img text = answers g t img (lines text).ended (lines text).rest

  at_end : (p : List ℕ) (t : Tally) (img : List ℕ) → Whole p → answered t img p ≡ ending t p
  unfolding answers
  at_end p t img h = ap (λ (x : Pieces). answers g t img x.ended x.rest) (lines_rest p h)

  at_line : (p bs : List ℕ) (t : Tally) (img : List ℕ) → Whole p
      → answered t img (p ++ (10 ∷ bs)) ≡ reply g t img (λ u x. answered u x bs) (form_at t p)
  unfolding answers
  at_line p bs t img h = ap (λ (x : Pieces). answers g t img x.ended x.rest) (lines_line p bs h)

  -- a line that is longer than any form, whatever follows
  foreign : (t : Tally) (img : List ℕ) (ls : List (List ℕ)) (rest : List ℕ) → Foreign ls rest
      → answers g t img ls rest ≡ error_line t
  unfolding answers ending reply form_after
  foreign t img [] [] f = absurd f
  foreign t img [] (b ∷ bs) f = refl
  foreign t img (l ∷ ls) rest f = rw f (go (ltb t.lines most_lines))
    where
      go : (u : Bool) → reply g t img (λ u x. answers g u x ls rest) (pick u Other Other) ≡ error_line t
      go true = refl
      go false = refl

  too_long : (bs p : List ℕ) (t : Tally) (img : List ℕ) → Whole p → longest < length p
      → answered t img (p ++ bs) ≡ error_line t
  too_long bs p t img h q = foreign t img (lines (p ++ bs)).ended (lines (p ++ bs)).rest (long_foreign bs p h q)

  -- ---- the machine is the definition
  ran_over : (t : Tally) (img bs : List ℕ) → ran g (record { line = []; tally = t; image = img; over = true }) bs ≡ []
  unfolding ran feed finish
  ran_over t img [] = refl
  ran_over t img (b ∷ bs) = ran_over t img bs

  -- a run in a line p
  abbrev in_line : List ℕ → Tally → List ℕ → State
  in_line p t img = record { line = p; tally = t; image = img; over = false }

  closed : (t : Tally) (img bs : List ℕ) (x : Line)
      → ((t : Tally) (img : List ℕ) → ran g (in_line [] t img) bs ≡ answered t img bs)
      → (close g t img x).out ++ ran g (close g t img x).state bs ≡ reply g t img (λ u y. answered u y bs) x
  unfolding close reply
  closed t img bs Other ih = rw (ran_over t img bs) (append-nil (error_line t))
  closed t img bs (Of order) ih = ap (λ m. answer_line order (obeyed g order img) ++ m) (ih (tally_after t (obeyed g order img)) (obeyed g order img).image)

  from : (bs p : List ℕ) (t : Tally) (img : List ℕ) → Whole p → length p ≤ longest
      → ran g (in_line p t img) bs ≡ answered t img (p ++ bs)
  unfolding ran feed finish longer close
  from [] p t img h q = sym (ap (answered t img) (append-nil p) ∙ at_end p t img h)
  from (b ∷ bs) p t img h q = go (eqb b 10) refl (λ p t img h q. from bs p t img h q)
    where
      more : (u : Bool) → ltb (length p) longest ≡ u → eqb b 10 ≡ false
          → ((p : List ℕ) (t : Tally) (img : List ℕ) → Whole p → length p ≤ longest
          → ran g (in_line p t img) bs ≡ answered t img (p ++ bs))
          → (pick u (record { state = in_line (p ++ (b ∷ [])) t img; out = [] }) (close g t img Other)).out
          ++ ran g (pick u (record { state = in_line (p ++ (b ∷ [])) t img; out = [] }) (close g t img Other)).state bs ≡ answered t img (p ++ (b ∷ bs))
      more true w e ih = ih (p ++ (b ∷ [])) t img (whole_more p b h e) (let n = length-append p (b ∷ []) in let z =
          ltb-true (length p) longest w in omega (arith, n, z))
          ∙ ap (answered t img) (append_assoc p (b ∷ []) bs)
      more false w e ih = rw (ran_over t img bs) (append-nil (error_line t)
          ∙ sym (ap (answered t img) (sym (append_assoc p (b ∷ []) bs))
          ∙ too_long bs (p ++ (b ∷ [])) t img (whole_more p b h e) (let n = length-append p (b ∷ []) in let z =
          ltb-false (length p) longest w in omega (arith, n, z))))

      go : (e : Bool) → eqb b 10 ≡ e
          → ((p : List ℕ) (t : Tally) (img : List ℕ) → Whole p → length p ≤ longest
          → ran g (in_line p t img) bs ≡ answered t img (p ++ bs))
          → (pick e (close g t img (form_at t p)) (longer g (in_line p t img) b)).out
          ++ ran g (pick e (close g t img (form_at t p)) (longer g (in_line p t img) b)).state bs ≡ answered t img (p ++ (b ∷ bs))
      go true e ih = closed t img bs (form_at t p) (λ t img. ih [] t img tt (omega arith))
          ∙ rw (eqb-true b 10 e) (sym (at_line p bs t img h))
      go false e ih = more (ltb (length p) longest) refl e ih

  pub machine : (input : List ℕ) → ran g (start g) input ≡ replayed g input
  unfolding replayed
  machine input = from input [] none_yet (blank_image g) tt (omega arith)
