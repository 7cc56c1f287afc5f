-- Request 3: the answers to a log's orders, their sums and the whole output. Definitions alone; the theorems stand in proofs/Tallied.antt.
use Rattle.std.specs.Prelude.{◌≡◌, List, [], ◌∷◌, ◌++◌, ℕ, ◌+◌}
use Rattle.geometry.specs.declared.Geometry.{Geometry}
use Rattle.model.specs.Calls.{Outcome}
use Rattle.log_tally.specs.declared.Tally.{Tally}
use Rattle.log_lines.specs.declared.Order.{Order}
use Rattle.log_lines.specs.Line.{Of}
use Rattle.log_lines.specs.Forms.{parsed}
use Rattle.log_lines.specs.Replay.{obeyed, answer_line, tally_after}

-- the answers to a log's orders, one after the other
unfoldable pub outcomes : Geometry → List ℕ → List Order → List Outcome
outcomes g img [] = []
outcomes g img (c ∷ cs) = obeyed g c img ∷ outcomes g (obeyed g c img).image cs

unfoldable pub programmed_sum : List Outcome → ℕ
programmed_sum [] = 0
programmed_sum (o ∷ os) = o.programmed + programmed_sum os

unfoldable pub erased_sum : List Outcome → ℕ
erased_sum [] = 0
erased_sum (o ∷ os) = o.erased + erased_sum os

-- "changed in place after every line"
unfoldable pub tallied : Tally → List Outcome → Tally
tallied t [] = t
tallied t (o ∷ os) = tallied (tally_after t o) os

-- ---- the whole output of a log of at most 1,000,000 lines that all have a form
unfoldable pub answer_lines : List Order → List Outcome → List ℕ
answer_lines [] os = []
answer_lines (c ∷ cs) [] = []
answer_lines (c ∷ cs) (o ∷ os) = answer_line c o ++ answer_lines cs os

abbrev pub Formed : List (List ℕ) → List Order → Type 0
Formed [] [] = Unit {0}
Formed [] (c ∷ cs) = ⊥
Formed (l ∷ ls) [] = ⊥
Formed (l ∷ ls) (c ∷ cs) = (parsed l ≡ Of c) × Formed ls cs
