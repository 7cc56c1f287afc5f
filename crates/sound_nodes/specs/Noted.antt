-- The entries that R5 has still to judge, and the live levels that it notes on its way. Definitions alone; assumes
-- nothing.
use Rattle.std.specs.Prelude.{ℕ, ◌+◌, ◌-◌, ◌*◌, ◌≡◌, List}
use Rattle.geometry.specs.declared.Geometry.{Geometry}
use Rattle.geometry.specs.Findings.{Finding, Good}
use Rattle.model.specs.Bytes.{u32_at, entries_at, node_at}
use Rattle.model.specs.Image.{Chip}
use Rattle.model.specs.Tree.{following, gather, Place, places}
use Rattle.model.specs.Rules.{judge_entries}
use Rattle.chip_read.specs.Chip.{naming}
use Rattle.live_walk.specs.Table.{note_all, Marked}

-- the live places at level l and below, under the entries that are left after i of the n from byte `at`
unfoldable pub left : Geometry → List ℕ → ℕ → ℕ → ℕ → ℕ → List Place
left g img l at n i = gather (places (node_at g img) l) (entries_at img (at + 8 * i) (n - i))

-- what the nodes give that are under them, each judged by `sub`
unfoldable pub judged_from : (ℕ → ℕ → ℕ → Finding) → List ℕ → ℕ → ℕ → ℕ → ℕ → Finding
judged_from sub img at n hi i = judge_entries sub (entries_at img (at + 8 * i) (n - i)) hi

-- what the node under the i-th of them gives
unfoldable pub judged_at : (ℕ → ℕ → ℕ → Finding) → List ℕ → ℕ → ℕ → ℕ → ℕ → Finding
judged_at sub img at n hi i = sub (u32_at img (at + 8 * i + 4)) (u32_at img (at + 8 * i)) (following (entries_at img (at + 8 * (i + 1)) (n - (i + 1))) hi)

-- the live places at level l and below, under the i-th of them
unfoldable pub places_at : Geometry → List ℕ → ℕ → ℕ → ℕ → List Place
places_at g img l at i = places (node_at g img) l (naming (u32_at img (at + 8 * i + 4)))

-- where all is good the places are noted
pub record Noted (v : Finding) (before after : List ℕ) (xs : List Place) : Type 0 where
  pub noted : v ≡ Good → after ≡ note_all xs before

-- where all is good the table tells the live levels
pub record Marks (v : Finding) (c : Chip) (tbl : List ℕ) : Type 0 where
  pub marks : v ≡ Good → Marked c tbl
