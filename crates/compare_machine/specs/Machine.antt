-- Request 12 byte by byte, with a line of at most 34 bytes: what the code does with an input of any length. Nothing is
-- written before the end. Definitions alone; that it is `compared` stands in proofs/Machine.antt.
use Rattle.std.specs.Prelude.{List, [], ◌∷◌, ◌++◌, Bool, true, false, not, ℕ, eqb, ltb, length}
use Rattle.geometry.specs.Geometry.{small, plain}
use Rattle.geometry.specs.Tests.{pick, ◌&◌}
use Rattle.model.specs.Calls.{Outcome}
use Rattle.text_lines.specs.Lines.{lines}
use Rattle.log_lines.specs.declared.Order.{Order}
use Rattle.log_lines.specs.Line.{Line, Of, Other}
use Rattle.log_lines.specs.Replay.{obeyed, blank_image, error_after, form_after}
use Rattle.log_lines.specs.Short.{longest}
use Rattle.compare_scores.specs.declared.Score.{Score}
use Rattle.compare_scores.specs.Scores.{plain_obeyed, stops, none_yet, scored}
use Rattle.compare_scores.specs.Compare.{report, ending}
use Rattle.compare_machine.specs.declared.Course.{Course}
use Rattle.compare_machine.specs.declared.Course.TheVariants.{Going, Stopped, Refused}

-- the line that has begun, the score, both images, and how the run stands
pub record State : Type 0 where
  pub line : List ℕ
  pub score : Score
  pub mu : List ℕ
  pub plain : List ℕ
  pub course : Course

abbrev pub goes : Course → Bool
goes Going = true
goes Stopped = false
goes Refused = false

-- a run in a line p
abbrev pub in_line : List ℕ → Score → List ℕ → List ℕ → State
in_line p s mu pl = record { line = p; score = s; mu = mu; plain = pl; course = Going }

abbrev pub start : State
start = in_line [] none_yet (blank_image small) (blank_image plain)

-- a line of another form
abbrev pub refused : Score → List ℕ → List ℕ → State
refused s mu pl = record { line = []; score = s; mu = mu; plain = pl; course = Refused }

-- an order that both images were played on
unfoldable pub played : Score → Order → Outcome → Outcome → State
played s order a b = pick (not (stops a) & not (stops b))
    (in_line [] (scored s order a b) a.image b.image)
    (record { line = []; score = s; mu = a.image; plain = b.image; course = Stopped })

-- a line that is whole, by its form
unfoldable pub close : Score → List ℕ → List ℕ → Line → State
close s mu pl Other = refused s mu pl
close s mu pl (Of order) = played s order (obeyed small order mu) (plain_obeyed order pl)

-- a byte more of a line; one that is longer than any form is refused at once
unfoldable pub longer : State → ℕ → State
longer s b = pick (ltb (length s.line) longest)
    (in_line (s.line ++ (b ∷ [])) s.score s.mu s.plain)
    (refused s.score s.mu s.plain)

unfoldable pub feed : State → ℕ → State
feed s b = pick (goes s.course)
    (pick (eqb b 10) (close s.score s.mu s.plain (form_after s.score.lines s.line)) (longer s b))
    s

-- the end of the input
unfoldable pub finish : Course → Score → List ℕ → List ℕ
finish Going s line = ending s line
finish Stopped s line = report s
finish Refused s line = error_after s.lines

-- all that is written from a state on
unfoldable pub ran : State → List ℕ → List ℕ
ran s [] = finish s.course s.score s.line
ran s (b ∷ bs) = ran (feed s b) bs
