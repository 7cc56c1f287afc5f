-- Insert's own stores by its job. Definitions alone; assumes nothing.
use Rattle.std.specs.Prelude.{ℕ, suc, ◌-◌, ◌<◌, ◌≤◌, ◌≡◌, List, [], ◌∷◌, ◌++◌, leb}
use Rattle.geometry.specs.declared.Geometry.{Geometry}
use Rattle.geometry.specs.declared.Entry.{Entry}
use Rattle.geometry.specs.Tests.{pick}
use Rattle.geometry.specs.Bounds.{four_bytes}
use Rattle.model.specs.Page.{built}
use Rattle.model.specs.Stores.{Store, program}
use Rattle.model.specs.Update.{crown_store, crown_height}
use Rattle.chip_page.specs.Page.{laid}
use Rattle.chip_store.specs.Run.{Ran}
use Rattle.chip_store.specs.declared.Budget.{Budget}
use Rattle.tree_split.specs.declared.Change.TheVariants.{Put}
use Rattle.tree_split.specs.declared.Job.{Job}
use Rattle.tree_split.specs.Step.{side_of}
use Rattle.tree_path.specs.Edit.{changed, path_of, parts_of, sides_up}
use Rattle.tree_root.specs.declared.Summit.{Summit}
use Rattle.tree_root.specs.Crown.{top_part}
use Rattle.open_record.specs.declared.Opened.{Opened}
use Rattle.live_beside.specs.Update.{Crest, sides_by}

-- what page N takes at level m
unfoldable pub crown_parts : Geometry → Job → List ℕ → ℕ → Entry → ℕ → List Entry
crown_parts g j i l e m = pick (leb m l) (parts_of g j i l e m) (top_part g j (suc l) (changed g j i l e) m)

-- the other halves, then page N
unfoldable pub stores_by : Geometry → Job → List ℕ → ℕ → ℕ → Entry → List Store
stores_by g j i last l e =
    sides_up g j (path_of g j i l e) l
    ++ (crown_store g j.seq j.key (side_of j) (suc l) (changed g j i l e)
    ++ (program j.page (built g last (crown_height g (suc l) (changed g j i l e)) (crown_parts g j i l e)) ∷ []))

pub record Climbs (g : Geometry) (j : Job) (l : ℕ) (e : Entry) (b : Budget) (r : Summit) (i o p q : List ℕ) : Type 0
  where
    pub page : q ≡ laid g (crown_parts g j i l e) (suc (suc l)) p
    pub height : r.height ≡ crown_height g (suc l) (changed g j i l e)
    pub some : 1 ≤ r.height
    pub ran : Ran g (sides_up g j (path_of g j i l e) l ++ crown_store g j.seq j.key (side_of j) (suc l)
        (changed g j i l e)) b r.budget i o

-- where the root stands once all are made
abbrev pub top_by : Geometry → Job → List ℕ → ℕ → Entry → Crest
top_by g j i l e = record { page = j.page; level = crown_height g (suc l) (changed g j i l e) - 1 }

-- the pages of the levels by the record
unfoldable pub sides_on : Geometry → ℕ → List ℕ → Opened → ℕ → ℕ
sides_on g n i o x = sides_by g n i o x

-- the job of putting key k at address a, the page of each level given, and N's for m
pub record Puts (side : ℕ → ℕ) (seq l m k a : ℕ) (j : Job) : Type 0 where
  pub key : j.key ≡ k
  pub change : j.change ≡ Put a
  pub number : j.seq ≡ seq
  pub small : j.seq < four_bytes
  pub page : j.page ≡ side m
  pub sides : (x : ℕ) → 1 ≤ x → x ≤ suc l → side_of j x ≡ side x
