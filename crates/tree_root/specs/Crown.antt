-- The changed root as the code settles it. Definitions alone; assumes nothing.
use Rattle.std.specs.Prelude.{ℕ, suc, ◌-◌, ◌*◌, ◌≤◌, true, ◌≡◌, List, length, take}
use Rattle.geometry.specs.declared.Geometry.{Geometry}
use Rattle.geometry.specs.declared.Entry.{Entry}
use Rattle.geometry.specs.Geometry.{half, page_bytes}
use Rattle.model.specs.Page.{sealed}
use Rattle.model.specs.Stores.{Store, program}
use Rattle.model.specs.Tree.{following}
use Rattle.model.specs.Edit.{path_half, side_half, two}
use Rattle.model.specs.Update.{fills, crown_part, crown_store, crown_height}
use Rattle.tree_node.specs.Node.{entries}
use Rattle.chip_page.specs.Page.{laid_level, bare}
use Rattle.chip_store.specs.Run.{Ran}
use Rattle.chip_store.specs.declared.Budget.{Budget}
use Rattle.tree_split.specs.declared.Job.{Job}
use Rattle.tree_split.specs.Step.{side_of, cut_stores}
use Rattle.tree_root.specs.declared.Crown.{Crown}
use Rattle.tree_root.specs.declared.Summit.{Summit}

-- a root c at level l that is halved
pub record Grows (g : Geometry) (j : Job) (l : ℕ) (c : List Entry) (r : Crown) : Type 0 where
  pub path : entries r.path ≡ path_half j.key (2 * half g l) c
  pub above : entries r.above ≡ two j.key j.page (side_of j l) (2 * half g l) (following c 0) c
  pub side : entries r.side ≡ side_half j.key (2 * half g l) c
  pub both : r.grows ≡ true
  pub few : r.path.count ≤ 256
  pub some : r.side.count ≤ 256
  pub pair : r.above.count ≤ 256

-- a root c at level l, halved or not: what page N takes at level m
unfoldable pub top_part : Geometry → Job → ℕ → List Entry → ℕ → List Entry
top_part g j l c m = crown_part g j.key j.page (side_of j) l c m

pub record Crowns (g : Geometry) (j : Job) (l : ℕ) (c : List Entry) (r : Crown) : Type 0 where
  pub path : entries r.path ≡ top_part g j l c l
  pub above : entries r.above ≡ top_part g j l c (suc l)
  pub side : cut_stores g j l r.grows (entries r.side) ≡ crown_store g j.seq j.key (side_of j) l c
  pub grows : r.grows ≡ fills g l (length c)
  pub few : r.path.count ≤ 256
  pub some : r.side.count ≤ 256
  pub pair : r.above.count ≤ 256

pub record Crowned (g : Geometry) (j : Job) (l : ℕ) (c : List Entry)
    (b : Budget) (r : Summit) (i o p q : List ℕ) : Type 0 where
  pub page : q ≡ laid_level g (laid_level g p l (top_part g j l c l)) (suc l) (top_part g j l c (suc l))
  pub height : r.height ≡ crown_height g l c
  pub low : r.height ≤ suc l
  pub ran : Ran g (crown_store g j.seq j.key (side_of j) l c) b r.budget i o

-- page N where the root c stays above the levels laid on the buffer p
unfoldable pub path_store : Geometry → ℕ → ℕ → ℕ → List Entry → List ℕ → Store
path_store g at seq l c p =
    program at (take (page_bytes g) (sealed g (bare g (suc l) (g.top - suc l) (laid_level g p (suc l) c)) seq (suc l)))
