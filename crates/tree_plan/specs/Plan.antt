-- What the code works out before an update. Definitions alone; assumes nothing.
use Rattle.std.specs.Prelude.{ℕ, ◌+◌, ◌≤◌, Bool, ◌≡◌, List, eqb, is_none}
use Rattle.geometry.specs.declared.Geometry.{Geometry}
use Rattle.geometry.specs.declared.Entry.{Entry}
use Rattle.geometry.specs.Geometry.{half, root_slots}
use Rattle.geometry.specs.Tests.{◌&◌}
use Rattle.model.specs.Bytes.{node_at}
use Rattle.model.specs.Image.{Chip}
use Rattle.model.specs.Tree.{sought}
use Rattle.model.specs.Edit.{gains, splits}
use Rattle.model.specs.Update.{needs, too_high}
use Rattle.tree_plan.specs.declared.Run.{Run}
use Rattle.tree_plan.specs.declared.Plan.{Plan}

-- HEIGHT at level l, of a root of m entries
unfoldable pub high : Geometry → ℕ → ℕ → Bool → Bool
high g l m more = eqb l g.top & eqb m (root_slots g l) & more

pub record Counts (g : Geometry) (img : List ℕ) (k : ℕ) (absent : Bool) (l : ℕ) (e : Entry) (r : Run) : Type 0 where
  pub count : r.splits ≡ splits (node_at g img) k (half g) absent l e
  pub more : r.gains ≡ gains (node_at g img) k (half g) absent l e
  pub few : r.splits ≤ l

pub record Plans (g : Geometry) (c : Chip) (k : ℕ) (r : Plan) : Type 0 where
  pub absent : r.absent ≡ is_none (sought c k)
  pub needs : r.needs ≡ needs g c k
  pub high : r.high ≡ too_high g c k
  pub few : r.needs ≤ c.level + 2
  pub some : 1 ≤ r.needs
