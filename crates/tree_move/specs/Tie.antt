-- The store of the job of moving a page is the one by what is kept beside the image. Assumes nothing.
use Prim.Native.Nat.{ℕ, suc, ◌-◌, ◌<◌, ◌≤◌}
use Rattle.std.specs.Prelude.{Bool, true, false, ◌≡◌, leb, take}
use Rattle.std.proofs.Math.Path.{refl, sym, ap}
use Rattle.std.proofs.Common.{◌∙◌}
use mathlib.Core.List.{List, [], ◌∷◌}
use Rattle.geometry.specs.declared.Geometry.{Geometry}
use Rattle.geometry.specs.declared.Entry.{Entry}
use Rattle.geometry.specs.Geometry.{page_bytes}
use Rattle.geometry.specs.Tests.{pick}
use Rattle.geometry.specs.Bounds.{longest_page}
use Rattle.model.specs.Bytes.{node_at}
use Rattle.model.specs.Page.{built, sealed}
use Rattle.model.specs.Stores.{program}
use Rattle.model.specs.Tree.{following}
use Rattle.model.specs.Edit.{same, renamed, on_path}
use Rattle.chip_read.specs.Chip.{naming}
use Rattle.live_beside.specs.Table.{Table, low_in}
use Rattle.live_beside.specs.Beside.{Beside, key_by, move_part_by, move_store_by}
use Rattle.chip_page.specs.Page.{blanks, laid_level, laid, bare}
use Rattle.chip_page.specs.Levels.{laid_more, laid_agree, page_is}
use Rattle.chip_store.specs.declared.Budget.{Budget}
use Rattle.chip_store.specs.Run.{Ran}
use Rattle.tree_split.specs.declared.Change.{Change}
use Rattle.tree_split.specs.declared.Job.{Job}
use Rattle.tree_split.specs.Step.{leaf_of, name_of, part_of}
use Rattle.tree_path.specs.Edit.{changed, path_of, parts_of}
use Rattle.tree_path.specs.Paths.{path_top, path_above}
use Rattle.tree_root.specs.Crown.{path_store}
use Rattle.tree_move.specs.Own.{store_by, Moves, Moved}

-- the path of a move from level low up to page m
moved : Geometry → List ℕ → ℕ → ℕ → ℕ → ℕ → ℕ → ℕ → List Entry
moved g i l p low k m x = on_path (node_at g i) k same (renamed low m) l (naming p) x

either : (t : Bool) → pick {A = List Entry} t [] [] ≡ []
either true = refl
either false = refl

module _ (g : Geometry) (i : List ℕ) (p most l m low k : ℕ) (j : Job) (pj : Moves most m low k j) where
  list_of : (x : ℕ) → path_of g j i l (naming p) x ≡ moved g i l p low j.key j.page x
  unfolding path_of moved leaf_of name_of
  list_of x = ap (λ (v : Change). on_path (node_at g i) j.key (leaf_of v j.key) (name_of g v j) l (naming p) x) pj.change

  top_of : changed g j i l (naming p) ≡ moved g i l p low j.key j.page (suc l)
  unfolding changed path_of
  top_of = sym (path_top (node_at g i) j.key (leaf_of j.change j.key) (name_of g j.change j) l (naming p))
      ∙ list_of (suc l)

  parts : ℕ → List Entry
  parts x = pick (leb low x) (moved g i l p low j.key j.page x) []

  part_of_lem : (x : ℕ) → parts_of g j i l (naming p) x ≡ parts x
  unfolding parts_of part_of parts
  part_of_lem x = ap (λ (v : Change). part_of g v j.key x (path_of g j i l (naming p) x)) pj.change
      ∙ (λ z. pick (leb low x) (list_of x z) [])

  top_part : pick (leb low (suc l)) (changed g j i l (naming p)) [] ≡ parts (suc l)
  unfolding parts
  top_part = λ z. pick (leb low (suc l)) (top_of z) []

  above : (x : ℕ) → suc l < x → parts x ≡ []
  unfolding parts moved
  above x h = (λ z. pick (leb low x) (path_above (node_at g i) j.key same (renamed low j.page) l (naming p) x h z) []) ∙ either (leb low x)

  bytes_is : page_bytes g ≤ longest_page → store_by g j low l (naming p) i ≡ program j.page
      (built g (suc most) (suc l) parts)
  unfolding store_by path_store
  bytes_is le =
      let low_is : laid g (parts_of g j i l (naming p)) l (blanks longest_page) ≡ laid g parts l (blanks longest_page) =
      laid_agree g (parts_of g j i l (naming p)) parts l (blanks longest_page) (λ x a h. part_of_lem x) in
      let up : laid_level g (laid g (parts_of g j i l (naming p)) l (blanks longest_page)) (suc l)
      (pick (leb low (suc l)) (changed g j i l (naming p)) []) ≡ laid g parts (suc l) (blanks longest_page) =
      (λ z. laid_level g (low_is z) (suc l) (top_part z)) ∙ laid_more g parts l (blanks longest_page) in
      (λ z. program j.page (take (page_bytes g) (sealed g (bare g (suc l) (g.top - suc l) (up z)) (suc (pj.number z)) (suc l))))
      ∙ ap (λ (bs : List ℕ). program j.page bs) (page_is g parts (suc l) (suc most) (suc l) (blanks longest_page) _ refl refl le above)

  module _ (t : Table) (q : ℕ) (el : low ≡ low_in t q) (ek : k ≡ following (node_at g i q low) 0) where
    h : Beside
    h = record { root = p; most = most; level = l; next = m; table = t }

    key_of : j.key ≡ key_by g h q i
    unfolding h
    key_of = pj.key ∙ ek ∙ (λ z. following (node_at g i q (el z)) 0)

    parts_is : (x : ℕ) → parts x ≡ move_part_by g h q i x
    unfolding parts moved move_part_by h
    parts_is x = λ z. pick (leb (el z) x) (on_path (node_at g i) (key_of z) same (renamed (el z) (pj.page z)) l (naming p) x) []

    store_is : page_bytes g ≤ longest_page → store_by g j low l (naming p) i ≡ move_store_by g h q i
    unfolding move_store_by h
    store_is le = bytes_is le ∙ (λ z. program (pj.page z) (built g (suc most) (suc l) (λ x. parts_is x z)))

  pub was_moved : (b r : Budget) (o : List ℕ) → Ran g (store_by g j low l (naming p) i ∷ []) b r i o
      → page_bytes g ≤ longest_page → Moved g p most l m low k b r i o
  unfolding h
  was_moved b r o run le = record { ran = λ t q el ek. rw (store_is t q el ek le) at run }

pub ruleset tie_laws = (was_moved)
