-- Delete's own store by its job. Definitions alone; assumes nothing.
use Rattle.std.specs.Prelude.{ℕ, suc, ◌<◌, ◌≡◌, List, eqb}
use Rattle.geometry.specs.declared.Geometry.{Geometry}
use Rattle.geometry.specs.declared.Entry.{Entry}
use Rattle.geometry.specs.Tests.{pick}
use Rattle.geometry.specs.Bounds.{four_bytes, longest_page}
use Rattle.model.specs.Bytes.{node_at}
use Rattle.model.specs.Edit.{collapse}
use Rattle.model.specs.Page.{built, only}
use Rattle.model.specs.Stores.{Store, program}
use Rattle.chip_page.specs.Page.{blanks, laid}
use Rattle.tree_split.specs.declared.Change.TheVariants.{Remove}
use Rattle.tree_split.specs.declared.Job.{Job}
use Rattle.tree_path.specs.Edit.{changed, parts_of}
use Rattle.tree_root.specs.Crown.{path_store}
use Rattle.live_beside.specs.Update.{Crest}

-- page N where the new root stands alone
unfoldable pub top_store : Geometry → ℕ → ℕ → ℕ → List Entry → Store
top_store g at seq l c = program at (built g seq (suc l) (only (suc l) c))

unfoldable pub root_store : Geometry → Job → ℕ → List ℕ → List ℕ → List Entry → Store
root_store g j l i p c = pick (eqb (collapse (node_at g i) l c).level l)
    (path_store g j.page (suc j.seq) l c p)
    (top_store g j.page (suc j.seq) (collapse (node_at g i) l c).level (collapse (node_at g i) l c).list)

-- where the root then stands
abbrev pub left_at : Geometry → Job → ℕ → List ℕ → List Entry → Crest
left_at g j l i c = record { page = j.page; level = (collapse (node_at g i) l c).level }

-- the whole, with the path laid on a blank buffer
unfoldable pub store_by : Geometry → Job → ℕ → Entry → List ℕ → Store
store_by g j l e i = root_store g j l i (laid g (parts_of g j i l e) l (blanks longest_page)) (changed g j i l e)

abbrev pub top_by : Geometry → Job → ℕ → Entry → List ℕ → Crest
top_by g j l e i = left_at g j l i (changed g j i l e)

-- the job of removing key k, its page given
pub record Removes (at seq k : ℕ) (j : Job) : Type 0 where
  pub key : j.key ≡ k
  pub change : j.change ≡ Remove
  pub number : j.seq ≡ seq
  pub small : j.seq < four_bytes
  pub page : j.page ≡ at
