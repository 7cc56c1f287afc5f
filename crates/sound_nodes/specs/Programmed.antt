-- Which pages are programmed, by a count for each block. Definitions alone; assumes nothing.
use Rattle.std.specs.Prelude.{ℕ, ◌/◌, ◌%◌, ◌<◌, ◌≡◌, List, leb, length, get_or}
use Rattle.geometry.specs.declared.Geometry.{Geometry}
use Rattle.model.specs.Bytes.{erased}

-- the pages below t: in each block the programmed ones come first, and the list has their number
pub record Programmed (g : Geometry) (img : List ℕ) (t : ℕ) (programmed : List ℕ) : Type 0 where
  pub some : (a : ℕ) → a < t → 0 < g.pages
  pub inside : (a : ℕ) → a < t → a / g.pages < length programmed
  pub kinds : (a : ℕ) → a < t → erased g img a ≡ leb (get_or programmed (a / g.pages) 0) (a % g.pages)
