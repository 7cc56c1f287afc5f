-- The stores of a job are those of the definition. Assumes nothing.
use Prim.Native.Nat.{ℕ, zero, suc, ◌+◌, ◌-◌, ◌<◌, ◌≤◌}
use Rattle.std.specs.Prelude.{◌≡◌, eqb}
use Rattle.std.proofs.Math.Path.{refl, sym, ap}
use Rattle.std.proofs.Common.{◌∙◌}
use mathlib.Core.List.{List, [], ◌∷◌, ◌++◌}
use native.Mathlib.Omega.{arith}
use Rattle.geometry.specs.declared.Geometry.{Geometry}
use Rattle.geometry.specs.declared.Entry.{Entry}
use Rattle.geometry.specs.Tests.{pick}
use Rattle.model.specs.Bytes.{node_at}
use Rattle.model.specs.Edit.{on_path, put_in, remove_in, Top, collapse}
use Rattle.model.specs.Plain.{kept_on, none_left}
use Rattle.chip_read.specs.Chip.{chip_with, naming}
use Rattle.chip_store.specs.declared.Budget.{Budget}
use Rattle.chip_store.specs.Run.{Ran}
use Rattle.tree_path.specs.Paths.{path_top, path_agree}
use Rattle.open_record.specs.declared.Opened.{Opened}
use Rattle.live_beside.specs.Beside.{page_by}
use Rattle.plain_levels.specs.declared.Change.{Change}
use Rattle.plain_levels.specs.declared.Change.TheVariants.{Put, Remove}
use Rattle.plain_levels.specs.declared.Job.{Job}
use Rattle.plain_levels.specs.Levels.{node_store, left_place, right_place, level_stores, stores_to, root_stores, renewed_at, list_at, insert_stores_at}
use Rattle.plain_levels.specs.Levels.{kept_stores, less_at, top_at, delete_stores_at}
use Rattle.plain_levels.specs.Steps.{page_at, alone_store, leaf_by, name_by, stores_by, changed, path_of, stores_up}
use Rattle.plain_levels.specs.Steps.{top_stores, put_stores, stay_stores, remove_stores, Given}

-- ---- a level hangs on the pages at its own places alone
level_agree : (g : Geometry) (f h : ℕ → ℕ) (seq v l : ℕ) (c : List Entry) → f (left_place v l) ≡ h (left_place v l)
    → f (right_place v l) ≡ h (right_place v l)
    → level_stores g f seq v l c ≡ level_stores g h seq v l c
unfolding level_stores
level_agree g f h seq v l c el er = rw (el, er)

root_agree : (g : Geometry) (f h : ℕ → ℕ) (seq v l : ℕ) (c : List Entry) → f (left_place v l) ≡ h (left_place v l)
    → f (right_place v l) ≡ h (right_place v l)
    → f (left_place v (suc l)) ≡ h (left_place v (suc l)) → root_stores g f seq v l c ≡ root_stores g h seq v l c
unfolding root_stores level_stores
root_agree g f h seq v l c el er eu = rw (el, er, eu)

-- ---- insert
module _ (g : Geometry) (i : List ℕ) (page : ℕ → ℕ) (seq v l p k a : ℕ) (j : Job) (gj : Given page seq v k
    (l + v + 2) (Put a) j) where
  left_is : (x : ℕ) → x ≤ suc (suc l) → page_at j (left_place v x) ≡ page (left_place v x)
  left_is x h = gj.pages (left_place v x) (omega arith)

  right_is : (x : ℕ) → x ≤ suc l → page_at j (right_place v x) ≡ page (right_place v x)
  right_is x h = gj.pages (right_place v x) (omega arith)

  name_is : (x : ℕ) (e : Entry) (c : List Entry) → 1 ≤ x → x ≤ l → name_by g j.change j x e c ≡ renewed_at g page v k x
      e c
  unfolding name_by
  name_is x e c lo hi =
      ap (λ (w : Change). name_by g w j x e c) gj.change
      ∙ (λ z. renewed_at g (page_at j) (gj.levels z) (gj.key z) x e c)
      ∙ rw (left_is x (omega arith), right_is x (omega arith))

  lists : ℕ → List Entry
  lists x = list_at g (chip_with g i l p) k a page v x

  list_is : (x : ℕ) → path_of g j i l (naming p) x ≡ lists x
  unfolding path_of lists list_at leaf_by
  list_is x =
      ap (λ (y : ℕ). on_path (node_at g i) y (leaf_by j.change y) (name_by g j.change j) l (naming p) x) gj.key
      ∙ ap (λ (w : Change). on_path (node_at g i) k (leaf_by w k) (name_by g j.change j) l (naming p) x) gj.change
      ∙ path_agree (node_at g i) k (put_in k a) (name_by g j.change j) (renewed_at g page v k) l (naming p) x name_is

  top_is : changed g j i l (naming p) ≡ lists (suc l)
  unfolding changed path_of
  top_is = sym (path_top (node_at g i) j.key (leaf_by j.change j.key) (name_by g j.change j) l (naming p))
      ∙ list_is (suc l)

  stores_is : (x : ℕ) → x ≤ l → stores_by g j.change j x (path_of g j i l (naming p) x) ≡ level_stores g page seq v x
      (lists x)
  unfolding stores_by
  stores_is x hi =
      ap (λ (w : Change). stores_by g w j x (path_of g j i l (naming p) x)) gj.change
      ∙ (λ z. level_stores g (page_at j) (gj.number z) (gj.levels z) x (list_is x z))
      ∙ level_agree g (page_at j) page seq v x (lists x) (left_is x (omega arith)) (right_is x (omega arith))

  up_is : (x : ℕ) → x ≤ l → stores_up g j (path_of g j i l (naming p)) x ≡ stores_to g page seq v lists x
  unfolding stores_up stores_to
  up_is zero h = refl
  up_is (suc x) h = λ z. up_is x (omega arith) z ++ stores_is (suc x) h z

  root_is : top_stores g j (suc l) (changed g j i l (naming p)) ≡ root_stores g page seq v (suc l) (lists (suc l))
  unfolding top_stores
  root_is =
      (λ z. root_stores g (page_at j) (gj.number z) (gj.levels z) (suc l) (top_is z))
      ∙ root_agree g (page_at j) page seq v (suc l) (lists (suc l)) (left_is (suc l) (omega arith))
      (right_is (suc l) (omega arith)) (left_is (suc (suc l)) (omega arith))

  insert_is : put_stores g j l (naming p) i ≡ insert_stores_at g (chip_with g i l p) k a page seq v
  unfolding put_stores insert_stores_at lists
  insert_is = λ z. up_is l (omega arith) z ++ root_is z

-- ---- delete
module _ (g : Geometry) (i : List ℕ) (page : ℕ → ℕ) (seq v l p k : ℕ) (j : Job) (gj : Given page seq v k
    (l + 1) Remove j) where
  kept_is : (x : ℕ) → x ≤ l → page_at j (x - v) ≡ page (x - v)
  kept_is x h = gj.pages (x - v) (omega arith)

  less_name : (x : ℕ) (e : Entry) (c : List Entry) → 1 ≤ x → x ≤ l → name_by g j.change j x e c
      ≡ kept_on (λ m. page (m - 1 - v)) x e c
  unfolding name_by
  less_name x e c lo hi =
      ap (λ (w : Change). name_by g w j x e c) gj.change
      ∙ (λ z. kept_on (λ m. page_at j (m - 1 - gj.levels z)) x e c)
      ∙ rw (kept_is (x - 1) (omega arith))

  less : ℕ → List Entry
  less x = less_at (chip_with g i l p) k page v x

  less_is : (x : ℕ) → path_of g j i l (naming p) x ≡ less x
  unfolding path_of less less_at leaf_by
  less_is x =
      ap (λ (y : ℕ). on_path (node_at g i) y (leaf_by j.change y) (name_by g j.change j) l (naming p) x) gj.key
      ∙ ap (λ (w : Change). on_path (node_at g i) k (leaf_by w k) (name_by g j.change j) l (naming p) x) gj.change
      ∙ path_agree (node_at g i) k (remove_in k) (name_by g j.change j) (kept_on (λ m. page (m - 1 - v))) l (naming p) x less_name

  last_is : changed g j i l (naming p) ≡ less (suc l)
  unfolding changed path_of
  last_is = sym (path_top (node_at g i) j.key (leaf_by j.change j.key) (name_by g j.change j) l (naming p))
      ∙ less_is (suc l)

  -- a node alone, at place x
  alone_is : (x h m : ℕ) (c : List Entry) → page_at j x ≡ page x → alone_store g j x h m c ≡ node_store g page seq x h m c
  unfolding alone_store
  alone_is x h m c e = (λ z. node_store g (page_at j) (gj.number z) x h m c) ∙ rw e

  left_stores : (x : ℕ) → x < l
      → stores_by g j.change j (suc x) (path_of g j i l (naming p) (suc x))
      ≡ pick (none_left (less (suc x))) [] (node_store g page seq (x - v) 0 (suc x) (less (suc x)) ∷ [])
  unfolding stores_by
  left_stores x h =
      let s : suc x - 1 - v ≡ x - v = omega arith in
      ap (λ (w : Change). stores_by g w j (suc x) (path_of g j i l (naming p) (suc x))) gj.change
      ∙ (λ z. pick (none_left (less_is (suc x) z)) [] (alone_store g j (suc x - 1 - gj.levels z) 0 (suc x) (less_is (suc x) z) ∷ []))
      ∙ rw (s, alone_is (x - v) 0 (suc x) (less (suc x)) (kept_is x (omega arith)))

  kept_up : (x : ℕ) → x ≤ l → stores_up g j (path_of g j i l (naming p)) x ≡ kept_stores g page seq v less x
  unfolding stores_up kept_stores
  kept_up zero h = refl
  kept_up (suc x) h = λ z. kept_up x (omega arith) z ++ left_stores x (omega arith) z

  stay_is : stay_stores g j l (naming p) i ≡ kept_stores g page seq v less l ++ (node_store g page seq (l - v) (suc l)
      (suc l) (less (suc l)) ∷ [])
  unfolding stay_stores
  stay_is =
      (λ z. kept_up l (omega arith) z ++ (alone_store g j (l - gj.levels z) (suc l) (suc l) (last_is z) ∷ []))
      ∙ rw (alone_is (l - v) (suc l) (suc l) (less (suc l)) (kept_is l (omega arith)))

  fall_is : (t : Top) → alone_store g j 0 (suc t.level) (suc t.level) t.list ≡ node_store g page seq 0
      (suc t.level) (suc t.level) t.list
  fall_is t = alone_is 0 (suc t.level) (suc t.level) t.list (gj.pages 0 (omega arith))

  delete_is : remove_stores g j l (naming p) i ≡ delete_stores_at g (chip_with g i l p) k page seq v
  unfolding remove_stores delete_stores_at top_at less
  delete_is =
      (λ z. pick (eqb (collapse (node_at g i) l (last_is z)).level l) (stay_is z) (fall_is (collapse (node_at g i) l (last_is z)) z ∷ []))

-- ---- by the record
pub insert_by_lem : (g : Geometry) (n : ℕ) (i : List ℕ) (o : Opened) (l v k a : ℕ) (j : Job) (b r : Budget) (then : List ℕ)
    → Ran g (put_stores g j l (naming o.root) i) b r i then
    → Given (page_by g n i o) o.most v k (l + v + 2) (Put a) j
    → Ran g (insert_stores_at g (chip_with g i l o.root) k a (page_by g n i o) o.most v) b r i then
insert_by_lem g n i o l v k a j b r then run gj =
    rw (insert_is g i (page_by g n i o) o.most v l o.root k a j gj) at run

pub delete_by_lem : (g : Geometry) (n : ℕ) (i : List ℕ) (o : Opened) (l v k : ℕ) (j : Job) (b r : Budget) (then : List ℕ)
    → Ran g (remove_stores g j l (naming o.root) i) b r i then
    → Given (page_by g n i o) o.most v k (l + 1) Remove j → Ran g (delete_stores_at g (chip_with g i l o.root) k
    (page_by g n i o) o.most v) b r i then
delete_by_lem g n i o l v k j b r then run gj = rw (delete_is g i (page_by g n i o) o.most v l o.root k j gj) at run

pub ruleset tie_laws = (insert_by_lem, delete_by_lem)
