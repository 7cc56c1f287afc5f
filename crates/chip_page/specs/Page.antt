-- A page as the code lays it, level by level from below. Definitions alone; assumes nothing.
use Rattle.std.specs.Prelude.{ℕ, zero, suc, ◌+◌, min, List, [], leb, replicate}
use Rattle.geometry.specs.declared.Geometry.{Geometry}
use Rattle.geometry.specs.declared.Entry.{Entry}
use Rattle.geometry.specs.Tests.{pick}
use Rattle.model.specs.Page.{put_level, put_levels}

unfoldable pub blanks : ℕ → List ℕ
blanks n = replicate n 255

-- a level's node, if the geometry has the level
unfoldable pub laid_level : Geometry → List ℕ → ℕ → List Entry → List ℕ
laid_level g b l es = pick (leb l g.top) (put_level g b l es) b

-- levels 1 to l that the geometry has
unfoldable pub laid : Geometry → (ℕ → List Entry) → ℕ → List ℕ → List ℕ
laid g parts l b = put_levels g parts (min l g.top) b

-- no node at the n levels above `from`
unfoldable pub bare : Geometry → ℕ → ℕ → List ℕ → List ℕ
bare g from zero b = b
bare g from (suc n) b = put_level g (bare g from n b) (suc (from + n)) []
