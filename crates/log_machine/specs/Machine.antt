-- Request 3 byte by byte, with a line of at most 34 bytes: what the code does with an input of any length. Definitions
-- alone; that it is `replayed` stands in proofs/Machine.antt.
use Rattle.std.specs.Prelude.{Bool, ℕ}
use mathlib.Core.List.{List, [], ◌∷◌, ◌++◌}
use Rattle.std.proofs.Math.Bool.{true, false}
use Rattle.std.proofs.Math.Dec.{eqb, ltb}
use Rattle.std.proofs.Math.ListN.{length}
use Rattle.geometry.specs.declared.Geometry.{Geometry}
use Rattle.geometry.specs.Tests.{pick}
use Rattle.log_tally.specs.declared.Tally.{Tally}
use Rattle.log_tally.specs.Counted.{none_yet}
use Rattle.log_lines.specs.Line.{Line, Of, Other}
use Rattle.log_lines.specs.Replay.{obeyed, blank_image, answer_line, error_line, tally_after, ending, form_at}
use Rattle.log_lines.specs.Short.{longest}

-- the line that has begun, the tally, the image, and whether the run has ended with E
pub record State : Type 0 where
  pub line : List ℕ
  pub tally : Tally
  pub image : List ℕ
  pub over : Bool

-- a state, and what is written on the way to it
pub record Fed : Type 0 where
  pub state : State
  pub out : List ℕ

abbrev pub start : Geometry → State
start g = record { line = []; tally = none_yet; image = blank_image g; over = false }

-- a line that is whole, by its form
unfoldable pub close : Geometry → Tally → List ℕ → Line → Fed
close g t img Other = record { state = record { line = []; tally = t; image = img; over = true }; out = error_line t }
close g t img (Of order) = record {
  state = record { line = []; tally = tally_after t (obeyed g order img); image = (obeyed g order img).image; over = false };
  out = answer_line order (obeyed g order img);
}

-- a byte more of a line; one that is longer than any form is answered at once
unfoldable pub longer : Geometry → State → ℕ → Fed
longer g s b = pick (ltb (length s.line) longest)
    (record { state = record { line = s.line ++ (b ∷ []); tally = s.tally; image = s.image; over = false }; out = [] })
    (close g s.tally s.image Other)

unfoldable pub feed : Geometry → State → ℕ → Fed
feed g s b = pick s.over (record { state = s; out = [] })
    (pick (eqb b 10) (close g s.tally s.image (form_at s.tally s.line)) (longer g s b))

-- the end of the input
unfoldable pub finish : State → List ℕ
finish s = pick s.over [] (ending s.tally s.line)

-- all that is written from a state on
unfoldable pub ran : Geometry → State → List ℕ → List ℕ
ran g s [] = finish s
ran g s (b ∷ bs) = (feed g s b).out ++ ran g (feed g s b).state bs
