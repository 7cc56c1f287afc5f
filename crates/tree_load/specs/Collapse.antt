-- The root that is left, as the code has it. Definitions alone; assumes nothing.
use Rattle.std.specs.Prelude.{ℕ, ◌≤◌, ◌≡◌, List, [], ◌∷◌}
use Rattle.geometry.specs.declared.Entry.{Entry}
use Rattle.model.specs.Edit.{collapse}
use Rattle.model.specs.Image.{Nodes}
use Rattle.tree_node.specs.Node.{entries}
use Rattle.tree_load.specs.declared.Top.{Top}

unfoldable pub first_of : List Entry → Entry
first_of [] = record { key = 0; addr = 0 }
first_of (e ∷ es) = e

pub record Collapses (r : Nodes) (l : ℕ) (c : List Entry) (t : Top) : Type 0 where
  pub level : t.level ≡ (collapse r l c).level
  pub list : entries t.node ≡ (collapse r l c).list
  pub few : t.node.count ≤ 256
  pub low : t.level ≤ l
