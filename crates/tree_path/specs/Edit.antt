-- The path as an update changes it: its nodes, page N, the stores of the other halves. Definitions alone; assumes
-- nothing.
use Rattle.std.specs.Prelude.{ℕ, zero, suc, ◌≤◌, ◌≡◌, List, [], ◌++◌}
use Rattle.geometry.specs.declared.Geometry.{Geometry}
use Rattle.geometry.specs.declared.Entry.{Entry}
use Rattle.model.specs.Bytes.{node_at}
use Rattle.model.specs.Edit.{edited, on_path}
use Rattle.model.specs.Stores.{Store}
use Rattle.tree_node.specs.Node.{entries, replace_by}
use Rattle.chip_page.specs.Page.{laid_level, laid}
use Rattle.chip_store.specs.Run.{Ran}
use Rattle.chip_store.specs.declared.Budget.{Budget}
use Rattle.tree_split.specs.declared.Job.{Job}
use Rattle.tree_split.specs.Step.{leaf_of, name_of, part_of, stores_of}
use Rattle.tree_load.specs.declared.Taken.{Taken}
use Rattle.tree_path.specs.declared.Changed.{Changed}

-- the changed node that e names, with l levels below it
unfoldable pub changed : Geometry → Job → List ℕ → ℕ → Entry → List Entry
changed g j i l e = edited (node_at g i) j.key (leaf_of j.change j.key) (name_of g j.change j) l e

-- the changed node of the path at level m
unfoldable pub path_of : Geometry → Job → List ℕ → ℕ → Entry → ℕ → List Entry
path_of g j i l e m = on_path (node_at g i) j.key (leaf_of j.change j.key) (name_of g j.change j) l e m

-- what page N takes of it
unfoldable pub parts_of : Geometry → Job → List ℕ → ℕ → Entry → ℕ → List Entry
parts_of g j i l e m = part_of g j.change j.key m (path_of g j i l e m)

-- the stores of the other halves at levels 1 to l, lower level first
unfoldable pub sides_up : Geometry → Job → (ℕ → List Entry) → ℕ → List Store
sides_up g j lists zero = []
sides_up g j lists (suc l) = sides_up g j lists l ++ stores_of g j.change j (suc l) (lists (suc l))

pub record Rejoined (g : Geometry) (j : Job) (l : ℕ) (t : Taken) (c : List Entry)
    (b : Budget) (r : Changed) (i o p q : List ℕ) : Type 0 where
  pub node : entries r.node ≡ replace_by t.at (name_of g j.change j l t.entry c) (entries t.node)
  pub few : r.node.count ≤ 256
  pub page : q ≡ laid_level g p l (part_of g j.change j.key l c)
  pub ran : Ran g (stores_of g j.change j l c) b r.budget i o

pub record Changes (g : Geometry) (j : Job) (l : ℕ) (e : Entry) (b : Budget) (r : Changed) (i o p q : List ℕ) : Type 0
  where
    pub node : entries r.node ≡ changed g j i l e
    pub few : r.node.count ≤ 256
    pub page : q ≡ laid g (parts_of g j i l e) l p
    pub ran : Ran g (sides_up g j (path_of g j i l e) l) b r.budget i o
