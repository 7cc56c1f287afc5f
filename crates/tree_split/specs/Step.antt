-- What a change makes of a leaf, of an entry above, of page N and of other pages. Definitions alone; assumes nothing.
use Rattle.std.specs.Prelude.{ℕ, ◌-◌, ◌≤◌, Bool, true, ◌≡◌, List, [], ◌∷◌, leb, get_or}
use Rattle.geometry.specs.declared.Geometry.{Geometry}
use Rattle.geometry.specs.declared.Entry.{Entry}
use Rattle.geometry.specs.Geometry.{half}
use Rattle.geometry.specs.Tests.{pick}
use Rattle.model.specs.Edit.{put_in, remove_in, same, named, kept, renamed, path_part, path_half, side_half, two}
use Rattle.model.specs.Stores.{Store}
use Rattle.model.specs.Update.{side_store, split_store}
use Rattle.tree_node.specs.Node.{entries, carried}
use Rattle.chip_page.specs.Page.{laid_level}
use Rattle.chip_store.specs.Run.{Ran}
use Rattle.chip_store.specs.declared.Budget.{Budget}
use Rattle.tree_split.specs.declared.Change.{Change}
use Rattle.tree_split.specs.declared.Change.TheVariants.{Put, Remove, Rename}
use Rattle.tree_split.specs.declared.Job.{Job}
use Rattle.tree_split.specs.declared.Cut.{Cut}
use Rattle.tree_split.specs.declared.Climbed.{Climbed}

-- the page of the other half at level l
unfoldable pub side_of : Job → ℕ → ℕ
side_of j l = get_or j.sides (l - 1) 0

-- the changed leaf
unfoldable pub leaf_of : Change → ℕ → List Entry → List Entry
leaf_of (Put a) k = put_in k a
leaf_of Remove k = remove_in k
leaf_of (Rename m) k = same

-- what stands above a changed node
unfoldable pub name_of : Geometry → Change → Job → ℕ → Entry → List Entry → List Entry
name_of g (Put a) j = named j.key j.page (side_of j) (half g)
name_of g Remove j = kept j.page
name_of g (Rename m) j = renamed m j.page

-- what page N takes of it
unfoldable pub part_of : Geometry → Change → ℕ → ℕ → List Entry → List Entry
part_of g (Put a) k l c = path_part k (half g) l c
part_of g Remove k l c = c
part_of g (Rename m) k l c = pick (leb m l) c []

-- what goes on a page alone
unfoldable pub stores_of : Geometry → Change → Job → ℕ → List Entry → List Store
stores_of g (Put a) j l c = split_store g j.seq j.key (side_of j) l c
stores_of g Remove j l c = []
stores_of g (Rename m) j l c = []

-- the store of a node es on its page alone, where the node is split
unfoldable pub cut_stores : Geometry → Job → ℕ → Bool → List Entry → List Store
cut_stores g j l t es = pick t (side_store g j.seq (side_of j) l es ∷ []) []

-- the halves of c at place m: k is the key, n the path half's page, o the other's, z the key above
pub record Halved (k n o m z : ℕ) (c : List Entry) (r : Cut) : Type 0 where
  pub path : entries r.path ≡ path_half k m c
  pub side : entries r.side ≡ side_half k m c
  pub carry : carried r.carry ≡ two k n o m z c
  pub both : r.split ≡ true
  pub few : r.path.count ≤ 256
  pub some : r.side.count ≤ 256

pub record Stepped (g : Geometry) (j : Job) (w : Change) (l : ℕ) (e : Entry) (c : List Entry) (r : Cut) : Type 0 where
  pub path : entries r.path ≡ part_of g w j.key l c
  pub side : cut_stores g j l r.split (entries r.side) ≡ stores_of g w j l c
  pub carry : carried r.carry ≡ name_of g w j l e c
  pub few : r.path.count ≤ 256
  pub some : r.side.count ≤ 256

pub record Finished (g : Geometry) (j : Job) (l : ℕ) (e : Entry) (c : List Entry)
    (b : Budget) (r : Climbed) (i o p q : List ℕ) : Type 0 where
  pub carry : carried r.carry ≡ name_of g j.change j l e c
  pub page : q ≡ laid_level g p l (part_of g j.change j.key l c)
  pub ran : Ran g (stores_of g j.change j l c) b r.budget i o
