-- Request 12 byte by byte: what the machine writes is `compared`. Assumes nothing.
use Rattle.std.specs.Prelude.{◌≡◌, refl, List, [], ◌∷◌, ◌++◌, Bool, true, false, not, ℕ, ◌≤◌, eqb, ltb, length}
use Rattle.std.proofs.Common.{ap, sym, ◌∙◌, append_assoc, append-nil, arith, length-append, ltb-true, ltb-false, eqb-true}
use Rattle.geometry.specs.Geometry.{small, plain}
use Rattle.geometry.specs.Tests.{pick, ◌&◌}
use Rattle.model.specs.Calls.{Outcome}
use Rattle.text_lines.specs.Lines.{Pieces, lines}
use Rattle.log_lines.specs.Line.{Line, Of, Other}
use Rattle.log_lines.specs.Replay.{obeyed, blank_image, error_after, most_lines, form_after}
use Rattle.log_lines.specs.Short.{longest}
use Rattle.log_lines.specs.Bytewise.{Whole, whole_more, lines_rest, lines_line, Foreign, long_foreign}
use Rattle.compare_scores.specs.declared.Score.{Score}
use Rattle.compare_scores.specs.Scores.{plain_obeyed, stops, none_yet, scored}
use Rattle.compare_scores.specs.Compare.{report, ending, met, reported, compared}
use Rattle.compare_machine.specs.declared.Course.TheVariants.{Stopped}
use Rattle.compare_machine.specs.Machine.{State, goes, in_line, start, refused, played, close, longer, feed, finish, ran}

-- ---- from the middle of a line
-- what is written for a text from a score and two images on
abbrev answered : Score → List ℕ → List ℕ → List ℕ → List ℕ
answered s mu pl text = reported s mu pl (lines text).ended (lines text).rest

at_end : (p : List ℕ) (s : Score) (mu pl : List ℕ) → Whole p → answered s mu pl p ≡ ending s p
unfolding reported
at_end p s mu pl h = ap (λ (x : Pieces). reported s mu pl x.ended x.rest) (lines_rest p h)

at_line : (p bs : List ℕ) (s : Score) (mu pl : List ℕ) → Whole p
    → answered s mu pl (p ++ (10 ∷ bs)) ≡ met s mu pl (λ t x y. answered t x y bs) (form_after s.lines p)
unfolding reported
at_line p bs s mu pl h = ap (λ (x : Pieces). reported s mu pl x.ended x.rest) (lines_line p bs h)

-- a line that is longer than any form, whatever follows
foreign : (s : Score) (mu pl : List ℕ) (ls : List (List ℕ)) (rest : List ℕ) → Foreign ls rest
    → reported s mu pl ls rest ≡ error_after s.lines
unfolding reported ending met form_after
foreign s mu pl [] [] f = absurd f
foreign s mu pl [] (b ∷ bs) f = refl
foreign s mu pl (l ∷ ls) rest f = rw f (go (ltb s.lines most_lines))
  where
    go : (u : Bool) → met s mu pl (λ t x y. reported t x y ls rest) (pick u Other Other) ≡ error_after s.lines
    go true = refl
    go false = refl

-- ---- the machine is the definition
ran_over : (s : State) (bs : List ℕ) → goes s.course ≡ false → ran s bs ≡ finish s.course s.score s.line
unfolding ran feed
ran_over s [] e = refl
ran_over s (b ∷ bs) e = rw e (ran_over s bs e)

closed : (s : Score) (mu pl bs : List ℕ) (x : Line)
    → ((t : Score) (x y : List ℕ) → ran (in_line [] t x y) bs ≡ answered t x y bs)
    → ran (close s mu pl x) bs ≡ met s mu pl (λ t x y. answered t x y bs) x
unfolding close met finish played
closed s mu pl bs Other ih = ran_over (refused s mu pl) bs refl
closed s mu pl bs (Of order) ih = go (not (stops a) & not (stops b))
  where
    a : Outcome
    a = obeyed small order mu

    b : Outcome
    b = plain_obeyed order pl

    go : (t : Bool) → ran (pick t (in_line [] (scored s order a b) a.image b.image)
        (record { line = []; score = s; mu = a.image; plain = b.image; course = Stopped })) bs
        ≡ pick t (answered (scored s order a b) a.image b.image bs) (report s)
    go true = ih (scored s order a b) a.image b.image
    go false = ran_over (record { line = []; score = s; mu = a.image; plain = b.image; course = Stopped }) bs refl

-- what follows from a line p of at most 34 bytes
abbrev From : List ℕ → Type 0
From bs = (p : List ℕ) (s : Score) (mu pl : List ℕ) → Whole p → length p ≤ longest → ran (in_line p s mu pl) bs ≡ answered s mu pl (p ++ bs)

from : (bs : List ℕ) → From bs
unfolding ran feed finish longer
from [] p s mu pl h q = sym (ap (answered s mu pl) (append-nil p) ∙ at_end p s mu pl h)
from (b ∷ bs) p s mu pl h q = go (eqb b 10) refl (from bs)
  where
    more : (u : Bool) → ltb (length p) longest ≡ u → eqb b 10 ≡ false → From bs
        → ran (pick u (in_line (p ++ (b ∷ [])) s mu pl) (refused s mu pl)) bs ≡ answered s mu pl (p ++ (b ∷ bs))
    more true w e ih = ih (p ++ (b ∷ [])) s mu pl (whole_more p b h e) (let n = length-append p (b ∷ []) in let z =
        ltb-true (length p) longest w in omega (arith, n, z))
        ∙ ap (answered s mu pl) (append_assoc p (b ∷ []) bs)
    more false w e ih = ran_over (refused s mu pl) bs refl
        ∙ sym (ap (answered s mu pl) (sym (append_assoc p (b ∷ []) bs))
        ∙ foreign s mu pl _ _ (long_foreign bs (p ++ (b ∷ [])) (whole_more p b h e) (let n = length-append p (b ∷ []) in
        let z = ltb-false (length p) longest w in omega (arith, n, z))))

    go : (e : Bool) → eqb b 10 ≡ e → From bs
        → ran (pick e (close s mu pl (form_after s.lines p)) (longer (in_line p s mu pl) b)) bs ≡ answered s mu pl
        (p ++ (b ∷ bs))
    go true e ih = closed s mu pl bs (form_after s.lines p) (λ t x y. ih [] t x y tt (omega arith))
        ∙ rw (eqb-true b 10 e) (sym (at_line p bs s mu pl h))
    go false e ih = more (ltb (length p) longest) refl e ih

pub machine : (input : List ℕ) → ran start input ≡ compared input
unfolding compared
machine input = from input [] none_yet (blank_image small) (blank_image plain) tt (omega arith)
