-- R6's test by a table of lowest live levels. Definitions alone; assumes nothing.
use Rattle.std.specs.Prelude.{ℕ, ◌<◌, Bool, not, List, ltb, get_or}
use Rattle.geometry.specs.Tests.{pick, ◌&◌}
use Rattle.model.specs.Image.{Nodes, Chip}
use Rattle.model.specs.Tree.{Place, places_of}
use Rattle.model.specs.Rules.{names_page}
use Rattle.theory_lists.specs.All.{All}

unfoldable pub loose_in : Nodes → List ℕ → ℕ → ℕ → Bool
loose_in r tbl l p = ltb (get_or tbl p 0) l & not (names_page p (r p l))

-- a leaf is never loose: no live node stands below it
unfoldable pub loose_at : Nodes → List ℕ → Place → Bool
loose_at r tbl x = ltb 1 x.level & loose_in r tbl x.level x.page

unfoldable pub lowered : Nodes → List ℕ → ℕ → ℕ → ℕ → ℕ
lowered r tbl l p low = pick (loose_in r tbl l p & ltb p low) p low

-- all live pages are below m
pub record Inside (c : Chip) (m : ℕ) : Type 0 where
  pub inside : All (λ x. x.page < m) (places_of c)
