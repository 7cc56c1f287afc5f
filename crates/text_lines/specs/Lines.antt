-- A text is a list of bytes: its lines and their fields. Definitions alone; assumes nothing.
use Rattle.std.specs.Prelude.{ℕ, suc, List, [], ◌∷◌, ◌++◌, eqb}
use Rattle.geometry.specs.Tests.{pick}

-- a text cut at each byte `at`: the pieces that end with it, and what stands after the last one
pub record Pieces : Type 0 where
  pub ended : List (List ℕ)
  pub rest : List ℕ

-- b before the first piece
abbrev pub before : ℕ → List (List ℕ) → List ℕ → Pieces
before b [] r = record { ended = []; rest = b ∷ r }
before b (p ∷ ps) r = record { ended = (b ∷ p) ∷ ps; rest = r }

unfoldable pub pieces : ℕ → List ℕ → Pieces
pieces at [] = record { ended = []; rest = [] }
pieces at (b ∷ bs) = pick (eqb b at)
    (record { ended = [] ∷ (pieces at bs).ended; rest = (pieces at bs).rest })
    (before b (pieces at bs).ended (pieces at bs).rest)

-- "each line ends with byte 10": the lines of a text, and what stands after the last byte 10
abbrev pub lines : List ℕ → Pieces
lines text = pieces 10 text

-- "fields parted by tabs": one more than there are tabs
abbrev pub fields : List ℕ → List (List ℕ)
fields line = (pieces 9 line).ended ++ ((pieces 9 line).rest ∷ [])

-- how many bytes stand before the first byte `at`; all of them if there is none
unfoldable pub reach : ℕ → List ℕ → ℕ
reach at [] = 0
reach at (b ∷ bs) = pick (eqb b at) 0 (suc (reach at bs))
