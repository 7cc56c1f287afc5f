-- What an update's own stores leave. Definitions alone; assumes nothing.
use Rattle.std.specs.Prelude.{ℕ, ◌≡◌, List}
use Rattle.geometry.specs.declared.Geometry.{Geometry}
use Rattle.model.specs.Stores.{Store}
use Rattle.chip_store.specs.Run.{Ran}
use Rattle.chip_store.specs.declared.Budget.{Budget}
use Rattle.live_beside.specs.Update.{Crest}
use Rattle.tree_root.specs.declared.Own.{Own}

abbrev pub crest_of : Own → Crest
crest_of r = record { page = r.page; level = r.level }

-- the stores ss, after which the root stands at t
pub record Owns (g : Geometry) (ss : List Store) (t : Crest) (b : Budget) (r : Own) (i o : List ℕ) : Type 0 where
  pub ran : Ran g ss b r.budget i o
  pub crest : crest_of r ≡ t
