-- What a run writes for what it reads, at a reader and a writer whose bytes are known. Assumes nothing.
use Rattle.std.specs.Prelude.{◌≡◌, List, [], ◌++◌, ℕ, Option}
use Rattle.std.specs.Io.KnownBytes.{Appends, Consumes}
use Rattle.geometry.specs.Geometry.{small}
use Rattle.log_machine.specs.Machine.{State, ran}

-- while the machine is fed a text up to what is left of it, all that it writes goes to the writer
pub record Answers (to to' : Option (List ℕ)) (before after : State) (text left : List ℕ) : Type 0 where
  pub written : List ℕ
  pub appended : Appends to to' written
  pub same : (rest : List ℕ) → ran small before (text ++ rest) ≡ written ++ ran small after (left ++ rest)

-- what is taken from the reader is what the machine is fed
pub record Passes (from from' to to' : Option (List ℕ)) (before after : State) : Type 0 where
  pub taken : List ℕ
  pub consumed : Consumes from from' taken
  pub answers : Answers to to' before after taken []
