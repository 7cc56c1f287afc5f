-- A run of stores under an allowance. Definitions alone; assumes nothing.
use Rattle.std.specs.Prelude.{◌≡◌, true, List, ℕ, ◌+◌, ◌-◌, ◌<◌, ◌≤◌, ltb, length}
use Rattle.geometry.specs.declared.Geometry.{Geometry}
use Rattle.geometry.specs.Bounds.{four_bytes}
use Rattle.geometry.specs.Tests.{pick}
use Rattle.model.specs.Stores.{Store, apply_all, programs, erases}
use Rattle.chip_store.specs.declared.Budget.{Budget}
use Rattle.chip_store.specs.Careful.{made_of}

-- the budget once a store is asked for that is not made: nothing more is made then
abbrev pub halt : Budget → Budget
halt b = record { left = 0; programmed = b.programmed; erased = b.erased; stopped = true }

-- what is left to make and what was made are together a number of four bytes, so that no count overflows
abbrev pub Countable : Budget → Type 0
Countable b = b.left + b.programmed + b.erased < four_bytes

-- What a call that has the stores ss to make leaves of the budget b and the image i: the image after the first stores,
-- as many as b allows and as program erased pages only, the counts of those, and whether one more was asked for.
pub record Ran (g : Geometry) (ss : List Store) (b r : Budget) (i o : List ℕ) : Type 0 where
  pub image : o ≡ apply_all g (made_of g ss b.left i) i
  pub allowance : r.left ≡ pick (ltb (length (made_of g ss b.left i)) (length ss)) 0 (b.left - length ss)
  pub programmed : r.programmed ≡ b.programmed + programs (made_of g ss b.left i)
  pub erased : r.erased ≡ b.erased + erases (made_of g ss b.left i)
  pub stopped : r.stopped ≡ pick b.stopped true (ltb (length (made_of g ss b.left i)) (length ss))
  pub total : r.left + r.programmed + r.erased ≤ b.left + b.programmed + b.erased
