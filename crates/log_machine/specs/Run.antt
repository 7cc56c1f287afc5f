-- The machine's state as the code has it: a run by value, the line and the image in lent buffers. Assumes nothing.
use Rattle.std.specs.Prelude.{◌≡◌, true, false, List, [], ℕ, ◌+◌, ◌≤◌, length, take}
use Rattle.geometry.specs.Geometry.{small}
use Rattle.log_tally.specs.declared.Tally.{Tally}
use Rattle.log_tally.specs.Counted.{none_yet, Within}
use Rattle.log_lines.specs.Replay.{error_line}
use Rattle.log_machine.specs.declared.Run.{Run}
use Rattle.log_machine.specs.Machine.{State, Fed, longer}

abbrev pub start_of : Run
start_of = record { filled = 0; tally = none_yet; over = false; wrote = 0 }

abbrev pub state_of : Run → List ℕ → List ℕ → State
state_of r line img = record { line = take r.filled line; tally = r.tally; image = img; over = r.over }

-- the run after a step, with its output behind what waited before
abbrev pub run_of : Fed → ℕ → Run
run_of f wrote = record { filled = length f.state.line; tally = f.state.tally; over = f.state.over; wrote = wrote + length f.out }

-- a run that E has ended
abbrev pub over_at : Tally → ℕ → Run
over_at t wrote = record { filled = 0; tally = t; over = true; wrote = wrote }

abbrev pub refused_run : Tally → ℕ → Run
refused_run t wrote = over_at t (wrote + length (error_line t))

-- a byte more of a line; the image stays as it is
abbrev pub longer_from : Tally → List ℕ → ℕ → Fed
longer_from t line b = longer small (record { line = line; tally = t; image = []; over = false }) b

-- what every step keeps
pub record Steady (r : Run) (line : List ℕ) : Type 0 where
  pub filled : r.filled ≤ 34
  pub room : length line ≡ 34
  pub within : Within r.tally
