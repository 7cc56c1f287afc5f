-- What a node taken by value stands for. Definitions alone; assumes nothing.
use Rattle.std.specs.Prelude.{◌≡◌, List, ℕ, suc, ◌-◌, ◌≤◌}
use Rattle.geometry.specs.declared.Entry.{Entry}
use Rattle.model.specs.Tree.{place, chosen}
use Rattle.tree_node.specs.Node.{entries}
use Rattle.tree_load.specs.declared.Taken.{Taken}

-- a node with the place and the entry that descent takes
pub record Takes (es : List Entry) (k : ℕ) (r : Taken) : Type 0 where
  pub node : entries r.node ≡ es
  pub at : r.at ≡ place k es
  pub entry : r.entry ≡ chosen k es
  pub inside : r.at ≤ r.node.count - 1
  pub few : suc r.node.count ≤ 256
