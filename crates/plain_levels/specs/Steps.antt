-- An update of the plain tree by its job, as the code makes it on the way up. Definitions alone; assumes nothing.
use Rattle.std.specs.Prelude.{ℕ, zero, suc, ◌-◌, ◌<◌, ◌≤◌, ◌≡◌, List, [], ◌∷◌, ◌++◌, eqb, take, drop, get_or}
use Rattle.geometry.specs.declared.Geometry.{Geometry}
use Rattle.geometry.specs.declared.Entry.{Entry}
use Rattle.geometry.specs.Geometry.{half}
use Rattle.geometry.specs.Tests.{pick}
use Rattle.geometry.specs.Bounds.{four_bytes}
use Rattle.model.specs.Bytes.{node_at}
use Rattle.model.specs.Tree.{following}
use Rattle.model.specs.Stores.{Store}
use Rattle.model.specs.Edit.{edited, on_path, put_in, remove_in, collapse}
use Rattle.model.specs.Plain.{kept_on, none_left}
use Rattle.tree_node.specs.Node.{entries, carried, replace_by}
use Rattle.chip_store.specs.Run.{Ran}
use Rattle.chip_store.specs.declared.Budget.{Budget}
use Rattle.tree_load.specs.declared.Taken.{Taken}
use Rattle.tree_split.specs.declared.Climbed.{Climbed}
use Rattle.tree_path.specs.declared.Changed.{Changed}
use Rattle.plain_levels.specs.declared.Change.{Change}
use Rattle.plain_levels.specs.declared.Change.TheVariants.{Put, Remove}
use Rattle.plain_levels.specs.declared.Job.{Job}
use Rattle.plain_levels.specs.declared.Halves.{Halves}
use Rattle.plain_levels.specs.Levels.{node_store, left_place, right_place, renewed_at, level_stores, root_stores}

-- the page at place i among the pages to come
unfoldable pub page_at : Job → ℕ → ℕ
page_at j i = get_or j.pages i 0

-- a node alone on it
unfoldable pub alone_store : Geometry → Job → ℕ → ℕ → ℕ → List Entry → Store
alone_store g j i height l es = node_store g (page_at j) j.seq i height l es

-- the changed leaf
unfoldable pub leaf_by : Change → ℕ → List Entry → List Entry
leaf_by (Put a) k = put_in k a
leaf_by Remove k = remove_in k

-- what stands above a changed node
unfoldable pub name_by : Geometry → Change → Job → ℕ → Entry → List Entry → List Entry
name_by g (Put a) j = renewed_at g (page_at j) j.levels j.key
name_by g Remove j = kept_on (λ l. page_at j (l - 1 - j.levels))

-- its own stores
unfoldable pub stores_by : Geometry → Change → Job → ℕ → List Entry → List Store
stores_by g (Put a) j l c = level_stores g (page_at j) j.seq j.levels l c
stores_by g Remove j l c = pick (none_left c) [] (alone_store g j (l - 1 - j.levels) 0 l c ∷ [])

-- what stands above two halves: their keys there are z and y
unfoldable pub pair_of : Job → ℕ → ℕ → ℕ → List Entry
pair_of j l z y = record { key = z; addr = page_at j (left_place j.levels l) } ∷ record { key = y; addr = page_at j (right_place j.levels l) } ∷ []

-- the halves of c at level l, z the left one's key above
pub record Halved (g : Geometry) (j : Job) (l z : ℕ) (c : List Entry) (r : Halves) : Type 0 where
  pub left : entries r.left ≡ take (half g l) c
  pub right : entries r.right ≡ drop (half g l) c
  pub carry : carried r.carry ≡ pair_of j l z (following (drop (half g l) c) 0)
  pub few : r.left.count ≤ 256
  pub some : r.right.count ≤ 256

unfoldable pub half_stores : Geometry → Job → ℕ → List Entry → List Store
half_stores g j l c = alone_store g j (left_place j.levels l) 0 l (take (half g l) c) ∷ alone_store g j (right_place j.levels l) 0 l (drop (half g l) c) ∷ []

pub record Parted (g : Geometry) (j : Job) (l z : ℕ) (c : List Entry) (b : Budget) (r : Climbed) (i o : List ℕ) : Type 0
  where
    pub carry : carried r.carry ≡ pair_of j l z (following (drop (half g l) c) 0)
    pub ran : Ran g (half_stores g j l c) b r.budget i o

pub record Settled (g : Geometry) (j : Job) (w : Change) (l : ℕ) (e : Entry) (c : List Entry)
    (b : Budget) (r : Climbed) (i o : List ℕ) : Type 0 where
  pub carry : carried r.carry ≡ name_by g w j l e c
  pub ran : Ran g (stores_by g w j l c) b r.budget i o

-- ---- the path
-- the changed node that e names, with l levels below it
unfoldable pub changed : Geometry → Job → List ℕ → ℕ → Entry → List Entry
changed g j i l e = edited (node_at g i) j.key (leaf_by j.change j.key) (name_by g j.change j) l e

-- the changed node of the path at level m
unfoldable pub path_of : Geometry → Job → List ℕ → ℕ → Entry → ℕ → List Entry
path_of g j i l e m = on_path (node_at g i) j.key (leaf_by j.change j.key) (name_by g j.change j) l e m

-- the stores of levels 1 to l, lower level first
unfoldable pub stores_up : Geometry → Job → (ℕ → List Entry) → ℕ → List Store
stores_up g j lists zero = []
stores_up g j lists (suc l) = stores_up g j lists l ++ stores_by g j.change j (suc l) (lists (suc l))

pub record Rejoined (g : Geometry) (j : Job) (l : ℕ) (t : Taken) (c : List Entry)
    (b : Budget) (r : Changed) (i o : List ℕ) : Type 0 where
  pub node : entries r.node ≡ replace_by t.at (name_by g j.change j l t.entry c) (entries t.node)
  pub few : r.node.count ≤ 256
  pub ran : Ran g (stores_by g j.change j l c) b r.budget i o

pub record Changes (g : Geometry) (j : Job) (l : ℕ) (e : Entry) (b : Budget) (r : Changed) (i o : List ℕ) : Type 0 where
  pub node : entries r.node ≡ changed g j i l e
  pub few : r.node.count ≤ 256
  pub ran : Ran g (stores_up g j (path_of g j i l e) l) b r.budget i o

-- ---- the root of an insert, at level l
-- halved under a new one
unfoldable pub grown_stores : Geometry → Job → ℕ → List Entry → List Store
grown_stores g j l c = half_stores g j l c
    ++ (alone_store g j (left_place j.levels (suc l)) (suc l) (suc l) (pair_of j l (following c 0) (following (drop (half g l) c) 0)) ∷ [])

unfoldable pub top_stores : Geometry → Job → ℕ → List Entry → List Store
top_stores g j l c = root_stores g (page_at j) j.seq j.levels l c

-- ---- the whole, by its job
-- e names the root, l levels are below it
unfoldable pub put_stores : Geometry → Job → ℕ → Entry → List ℕ → List Store
put_stores g j l e i = stores_up g j (path_of g j i l e) l ++ top_stores g j (suc l) (changed g j i l e)

-- a delete where the root stays
unfoldable pub stay_stores : Geometry → Job → ℕ → Entry → List ℕ → List Store
stay_stores g j l e i = stores_up g j (path_of g j i l e) l ++ (alone_store g j (l - j.levels) (suc l) (suc l) (changed g j i l e) ∷ [])

-- and where the tree shrinks
unfoldable pub remove_stores : Geometry → Job → ℕ → Entry → List ℕ → List Store
remove_stores g j l e i =
    let t = collapse (node_at g i) l (changed g j i l e) in
    pick (eqb t.level l) (stay_stores g j l e i) (alone_store g j 0 (suc t.level) (suc t.level) t.list ∷ [])

-- the job of an update w of key k: its first m pages are those to come, v the levels that split or are emptied
pub record Given (page : ℕ → ℕ) (seq v k m : ℕ) (w : Change) (j : Job) : Type 0 where
  pub key : j.key ≡ k
  pub change : j.change ≡ w
  pub number : j.seq ≡ seq
  pub small : j.seq < four_bytes
  pub levels : j.levels ≡ v
  pub pages : (i : ℕ) → i < m → page_at j i ≡ page i
