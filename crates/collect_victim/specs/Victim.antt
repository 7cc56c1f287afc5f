-- The victim as the code finds it. Definitions alone; assumes nothing.
use Rattle.std.specs.Prelude.{ℕ, ◌<◌, Bool, true, ◌≡◌, List, None, Option, Some}
use Rattle.geometry.specs.declared.Geometry.{Geometry}
use Rattle.geometry.specs.Tests.{pick}
use Rattle.model.specs.Bytes.{erased}
use Rattle.model.specs.Collect.{victim}
use Rattle.model.specs.Next.{full}
use Rattle.live_words.specs.Words.{block_ones}
use Rattle.collect_victim.specs.declared.Best.{Best}

-- block b has no erased page
unfoldable pub full_in : Geometry → List ℕ → ℕ → Bool
full_in g img b = full g.pages (erased g img) b

-- the live pages of block b by the words
unfoldable pub ones_by : Geometry → List ℕ → ℕ → ℕ
ones_by g words b = block_ones g words b

unfoldable pub best_of : Best → Option ℕ
best_of r = pick r.found (Some r.block) None

pub record Bests (full : ℕ → Bool) (lives : ℕ → ℕ) (n : ℕ) (r : Best) : Type 0 where
  pub best : best_of r ≡ victim full lives n
  pub count : r.found ≡ true → r.lives ≡ lives r.block
  pub below : r.found ≡ true → r.block < n
