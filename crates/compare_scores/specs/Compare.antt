-- Request 12: what the comparing program reports of a log. The whole output is a function of the whole input.
-- Definitions alone; assumes nothing.
use Rattle.std.specs.Prelude.{ℕ, not, List, [], ◌∷◌}
use Rattle.geometry.specs.Geometry.{small, plain}
use Rattle.geometry.specs.Tests.{pick, ◌&◌}
use Rattle.text_lines.specs.Lines.{lines}
use Rattle.log_lines.specs.Line.{Line, Of, Other}
use Rattle.log_lines.specs.Replay.{obeyed, blank_image, numbers_text, error_after, form_after}
use Rattle.compare_scores.specs.declared.Score.{Score}
use Rattle.compare_scores.specs.Ratio.{ratio}
use Rattle.compare_scores.specs.Scores.{plain_obeyed, stops, none_yet, scored}

-- ---- the report: five numbers parted by tabs, then byte 10:
-- updates, the μ-Tree's pages, the plain tree's, and the ratio of these two
abbrev pub report : Score → List ℕ
report s =
    let r = ratio s.mu s.plain in
    numbers_text (s.updates ∷ s.mu ∷ s.plain ∷ r.upper ∷ r.lower ∷ [])

-- ---- the run
-- the end of the input: a piece without byte 10 is a line of another form, "E and its number, no report"
unfoldable pub ending : Score → List ℕ → List ℕ
ending s [] = report s
ending s (b ∷ bs) = error_after s.lines

-- one line on both images, then what comes next; "stops at the first 5, 6 or 7, not counted, and reports"
unfoldable pub met : Score → List ℕ → List ℕ → (Score → List ℕ → List ℕ → List ℕ) → Line → List ℕ
met s mu pl next Other = error_after s.lines
met s mu pl next (Of order) =
    let a = obeyed small order mu in
    let b = plain_obeyed order pl in
    pick (not (stops a) & not (stops b)) (next (scored s order a b) a.image b.image) (report s)

unfoldable pub reported : Score → List ℕ → List ℕ → List (List ℕ) → List ℕ → List ℕ
reported s mu pl [] rest = ending s rest
reported s mu pl (l ∷ ls) rest = met s mu pl (λ t x y. reported t x y ls rest) (form_after s.lines l)

-- the whole output
unfoldable pub compared : List ℕ → List ℕ
compared input = reported none_yet (blank_image small) (blank_image plain) (lines input).ended (lines input).rest
