-- The store that moves a page, by its job. Definitions alone; assumes nothing.
use Rattle.std.specs.Prelude.{ℕ, suc, ◌≡◌, List, [], ◌∷◌, leb}
use Rattle.geometry.specs.declared.Geometry.{Geometry}
use Rattle.geometry.specs.declared.Entry.{Entry}
use Rattle.geometry.specs.Tests.{pick}
use Rattle.geometry.specs.Bounds.{longest_page}
use Rattle.model.specs.Bytes.{node_at}
use Rattle.model.specs.Stores.{Store}
use Rattle.model.specs.Tree.{following}
use Rattle.live_beside.specs.Table.{Table, low_in}
use Rattle.live_beside.specs.Beside.{move_store_by}
use Rattle.chip_page.specs.Page.{blanks, laid}
use Rattle.chip_store.specs.declared.Budget.{Budget}
use Rattle.chip_store.specs.Run.{Ran}
use Rattle.tree_split.specs.declared.Change.TheVariants.{Rename}
use Rattle.tree_split.specs.declared.Job.{Job}
use Rattle.tree_path.specs.Edit.{changed, parts_of}
use Rattle.tree_root.specs.Crown.{path_store}

-- the store of a job, with the path laid on a blank buffer
unfoldable pub store_by : Geometry → Job → ℕ → ℕ → Entry → List ℕ → Store
store_by g j low l e i =
    path_store g j.page (suc j.seq) l (pick (leb low (suc l)) (changed g j i l e) []) (laid g (parts_of g j i l e) l (blanks longest_page))

-- the job of moving the path of a key from level low up to page m
pub record Moves (most m low k : ℕ) (j : Job) : Type 0 where
  pub key : j.key ≡ k
  pub change : j.change ≡ Rename low
  pub number : j.seq ≡ most
  pub page : j.page ≡ m

-- a run of the store that moves page q, whatever the page and the table that give this level and this key
pub record Moved (g : Geometry) (root most l m low k : ℕ) (b r : Budget) (i o : List ℕ) : Type 0 where
  pub ran : (t : Table) (q : ℕ) → low ≡ low_in t q → k ≡ following (node_at g i q low) 0
      → Ran g (move_store_by g (record { root = root; most = most; level = l; next = m; table = t }) q i ∷ []) b r i o
