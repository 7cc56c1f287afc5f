-- Request 13: an import's counts are the sums of format's and its inserts' counts. Proofs for Carrying. Assumes
-- nothing.
use Rattle.std.specs.Prelude.{ℕ, ◌+◌, ◌≤◌, eqb}
use mathlib.Core.List.{List, [], ◌∷◌}
use Rattle.geometry.specs.declared.Geometry.{Geometry}
use Rattle.geometry.specs.declared.Entry.{Entry}
use Rattle.geometry.specs.Tests.{pick}
use Rattle.model.specs.Calls.{Outcome, insert}
use Rattle.text_decimals.specs.Decimals.{largest}
use Rattle.theory_demands.specs.Words.{programmed_most, erased_most}

-- the counts of the inserts, one after the other until one is refused
unfoldable pub sum_of : Geometry → (Outcome → ℕ) → List ℕ → List Entry → ℕ
sum_of g count img [] = 0
sum_of g count img (e ∷ es) =
    let o = insert g img e.key e.addr largest in
    count o + pick (eqb o.answer 0) (sum_of g count o.image es) 0

-- a refused insert counts nothing; a finished one no more than demand 3 allows
pub record Limits (g : Geometry) (o : Outcome) : Type 0 where
  pub programmed : o.programmed ≤ programmed_most g
  pub erased : o.erased ≤ erased_most g
