-- The machine's state as the code has it: a run by value, the line and both images in lent buffers. Assumes nothing.
use Rattle.std.specs.Prelude.{◌≡◌, List, [], ℕ, ◌≤◌, length, take}
use Rattle.compare_scores.specs.declared.Score.{Score}
use Rattle.compare_scores.specs.Scores.{none_yet}
use Rattle.compare_scores.specs.Scoring.{Within}
use Rattle.compare_machine.specs.declared.Course.TheVariants.{Going, Stopped, Refused}
use Rattle.compare_machine.specs.declared.Run.{Run}
use Rattle.compare_machine.specs.Machine.{State, in_line, longer}

abbrev pub start_of : Run
start_of = record { filled = 0; score = none_yet; course = Going }

abbrev pub state_of : Run → List ℕ → List ℕ → List ℕ → State
state_of r line mu pl = record { line = take r.filled line; score = r.score; mu = mu; plain = pl; course = r.course }

abbrev pub run_of : State → Run
run_of s = record { filled = length s.line; score = s.score; course = s.course }

-- a run that a line of another form has ended
abbrev pub refused_run : Score → Run
refused_run s = record { filled = 0; score = s; course = Refused }

-- a run that an answer has stopped
abbrev pub stopped_run : Score → Run
stopped_run s = record { filled = 0; score = s; course = Stopped }

-- a byte more of a line; the images stay as they are
abbrev pub longer_from : Score → List ℕ → ℕ → State
longer_from s line b = longer (in_line line s [] []) b

-- what every step keeps
pub record Steady (r : Run) (line : List ℕ) : Type 0 where
  pub filled : r.filled ≤ 34
  pub room : length line ≡ 34
  pub within : Within r.score
