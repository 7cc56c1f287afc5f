-- A page whose lowest live node is on a path has all its live nodes there, by R6. Assumes nothing.
use Rattle.std.specs.Prelude.{◌≡◌}
use mathlib.Core.List.{List}
use Prim.Native.Nat.{ℕ}
use Rattle.model.specs.Tree.{Place}
use Rattle.theory_lists.specs.All.{Mem}

-- a place on page q is on the path
abbrev pub OnIt : ℕ → List Place → Place → Type 0
OnIt q path z = z.page ≡ q → Mem z path
