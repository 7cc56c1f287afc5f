-- The table of each page's lowest live level. Definitions alone; assumes nothing.
use Rattle.std.specs.Prelude.{ℕ, ◌+◌, ◌-◌, ◌*◌, ◌<◌, min, Bool, not, ◌≡◌, List, [], ◌∷◌, eqb, length, get_or, set}
use Rattle.geometry.specs.declared.Geometry.{Geometry}
use Rattle.geometry.specs.Tests.{pick}
use Rattle.model.specs.Bytes.{entries_at, node_at}
use Rattle.model.specs.Image.{Chip}
use Rattle.model.specs.Tree.{gather, Place, places, places_of, low_level}

-- the lower of two levels, 0 being none
unfoldable pub lower : ℕ → ℕ → ℕ
lower old l = pick (eqb old 0) l (min l old)

unfoldable pub note_one : List ℕ → ℕ → ℕ → List ℕ
note_one tbl p l = set tbl p (lower (get_or tbl p 0) l)

-- a table after a list of places is noted
unfoldable pub note_all : List Place → List ℕ → List ℕ
note_all [] tbl = tbl
note_all (x ∷ xs) tbl = note_all xs (note_one tbl x.page x.level)

-- what is left of a node's entries after i of the n from byte `at`, the nodes below at level l - 1
unfoldable pub rest : Geometry → List ℕ → ℕ → ℕ → ℕ → ℕ → List Place
rest g img l at n i = gather (places (node_at g img) (l - 1)) (entries_at img (at + 8 * i) (n - i))

pub record Zeros (tbl : List ℕ) (n : ℕ) : Type 0 where
  pub zeros : (p : ℕ) → p < n → get_or tbl p 0 ≡ 0

-- the table tells the lowest live level of each of its pages
pub record Marked (c : Chip) (tbl : List ℕ) : Type 0 where
  pub lows : (p : ℕ) → p < length tbl → get_or tbl p 0 ≡ low_level (places_of c) p

-- a page is live by the table
unfoldable pub live_in : List ℕ → ℕ → Bool
live_in tbl p = not (eqb (get_or tbl p 0) 0)
