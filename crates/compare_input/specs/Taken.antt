-- What a run takes from a reader whose bytes are known. Assumes nothing.
use Rattle.std.specs.Prelude.{◌≡◌, List, ◌++◌, ℕ, Option}
use Rattle.std.specs.Io.KnownBytes.{Consumes}
use Rattle.compare_machine.specs.Machine.{State, ran}

-- what is taken from the reader is what the machine is fed
pub record Takes (from from' : Option (List ℕ)) (before after : State) : Type 0 where
  pub taken : List ℕ
  pub consumed : Consumes from from' taken
  pub same : (rest : List ℕ) → ran before (taken ++ rest) ≡ ran after rest
