-- An update of the plain tree (request 12) level by level, as the code makes it, over any pages to come: page i is the
-- i-th of them. Definitions alone; assumes nothing.
use Rattle.std.specs.Prelude.{ℕ, zero, suc, ◌+◌, ◌-◌, ◌*◌, min, List, [], ◌∷◌, ◌++◌, eqb, leb, length, take, drop, is_none}
use Rattle.geometry.specs.declared.Geometry.{Geometry}
use Rattle.geometry.specs.declared.Entry.{Entry}
use Rattle.geometry.specs.Geometry.{half}
use Rattle.geometry.specs.Tests.{pick}
use Rattle.model.specs.Image.{Chip, chip_of, the_root, max_seq}
use Rattle.model.specs.Tree.{following, sought}
use Rattle.model.specs.Page.{built, only}
use Rattle.model.specs.Stores.{Store, program, apply_all, programs, erases}
use Rattle.model.specs.Edit.{on_path, put_in, remove_in, Top, collapse}
use Rattle.model.specs.Calls.{Outcome, gives, refused, worn}
use Rattle.model.specs.Plain.{both, renewed, kept_on, none_left, plain_cuts, plain_high, plain_needs, plain_leaves, plain_roomless, emptied}
use Rattle.chip_store.specs.Careful.{made_of}
use Rattle.open_record.specs.Opened.{opened_in}
use Rattle.live_beside.specs.Beside.{page_by}

-- a node alone on the i-th page to come
abbrev pub node_store : Geometry → (ℕ → ℕ) → ℕ → ℕ → ℕ → ℕ → List Entry → Store
node_store g page seq i height l es = program (page i) (built g (seq + suc i) height (only l es))

-- ---- insert; the levels that split are 1 to cuts
-- the place of level l among the pages to come: of its node or the left half, and of the right half
abbrev pub left_place : ℕ → ℕ → ℕ
left_place cuts l = l - 1 + min (l - 1) cuts

abbrev pub right_place : ℕ → ℕ → ℕ
right_place cuts l = l - 1 + min l cuts

-- a changed node without the root's height
unfoldable pub level_stores : Geometry → (ℕ → ℕ) → ℕ → ℕ → ℕ → List Entry → List Store
level_stores g page seq cuts l es = pick (leb (length es) (2 * half g l)) (node_store g page seq (left_place cuts l) 0 l es ∷ [])
    (node_store g page seq (left_place cuts l) 0 l (take (half g l) es) ∷ node_store g page seq (right_place cuts l) 0 l (drop (half g l) es) ∷ [])

unfoldable pub stores_to : Geometry → (ℕ → ℕ) → ℕ → ℕ → (ℕ → List Entry) → ℕ → List Store
stores_to g page seq cuts lists zero = []
stores_to g page seq cuts lists (suc l) = stores_to g page seq cuts lists l ++ level_stores g page seq cuts (suc l) (lists (suc l))

-- the new root over the halves of es, that of level h
abbrev pub crown_list : Geometry → (ℕ → ℕ) → ℕ → ℕ → List Entry → List Entry
crown_list g page cuts h es = both (page (left_place cuts h)) (page (right_place cuts h)) (half g h) (following es 0) es

-- the root, at level h: whole, or its halves under a new one
unfoldable pub root_stores : Geometry → (ℕ → ℕ) → ℕ → ℕ → ℕ → List Entry → List Store
root_stores g page seq cuts h es = pick (leb (length es) (2 * half g h)) (node_store g page seq (left_place cuts h) h h es ∷ [])
    (level_stores g page seq cuts h es ++ (node_store g page seq (left_place cuts (suc h)) (suc h) (suc h) (crown_list g page cuts h es) ∷ []))

-- what stands above a changed node: the name of an edit's `on_path`
abbrev pub renewed_at : Geometry → (ℕ → ℕ) → ℕ → ℕ → ℕ → Entry → List Entry → List Entry
renewed_at g page cuts k l e c = renewed k (λ j. page (left_place cuts j)) (λ j. page (right_place cuts j)) (half g) l e c

-- the path's changed node at level j
unfoldable pub list_at : Geometry → Chip → ℕ → ℕ → (ℕ → ℕ) → ℕ → ℕ → List Entry
list_at g c k a page cuts j = on_path c.nodes k (put_in k a) (renewed_at g page cuts k) c.level (the_root c) j

unfoldable pub insert_stores_at : Geometry → Chip → ℕ → ℕ → (ℕ → ℕ) → ℕ → ℕ → List Store
insert_stores_at g c k a page seq cuts = stores_to g page seq cuts (list_at g c k a page cuts) c.level
    ++ root_stores g page seq cuts (suc c.level) (list_at g c k a page cuts (suc c.level))

-- ---- delete; the levels that are emptied are 1 to v
unfoldable pub kept_stores : Geometry → (ℕ → ℕ) → ℕ → ℕ → (ℕ → List Entry) → ℕ → List Store
kept_stores g page seq v lists zero = []
kept_stores g page seq v lists (suc l) = kept_stores g page seq v lists l
    ++ pick (none_left (lists (suc l))) [] (node_store g page seq (l - v) 0 (suc l) (lists (suc l)) ∷ [])

unfoldable pub less_at : Chip → ℕ → (ℕ → ℕ) → ℕ → ℕ → List Entry
less_at c k page v j = on_path c.nodes k (remove_in k) (kept_on (λ l. page (l - 1 - v))) c.level (the_root c) j

unfoldable pub top_at : Chip → ℕ → (ℕ → ℕ) → ℕ → Top
top_at c k page v = collapse c.nodes c.level (less_at c k page v (suc c.level))

-- the root's list es with what is left below it, or where the tree shrinks the new root alone
unfoldable pub delete_stores_at : Geometry → Chip → ℕ → (ℕ → ℕ) → ℕ → ℕ → List Store
delete_stores_at g c k page seq v = pick (eqb (top_at c k page v).level c.level)
    (kept_stores g page seq v (less_at c k page v) c.level
    ++ (node_store g page seq (c.level - v) (suc c.level) (suc c.level) (less_at c k page v (suc c.level)) ∷ []))
    (node_store g page seq 0 (suc (top_at c k page v).level) (suc (top_at c k page v).level) (top_at c k page v).list ∷ [])

-- ---- the calls on an image of n blocks, whatever it holds: erased pages alone are programmed
-- the pages to come, after the next one
abbrev pub pages_by : Geometry → ℕ → List ℕ → ℕ → ℕ
pages_by g n img i = page_by g n img (opened_in g n img) i

-- the stores made of a list under an allowance
unfoldable pub made_with : Geometry → List Store → ℕ → List ℕ → Outcome
made_with g ss allowance img =
    let made = made_of g ss allowance img in
    gives (pick (leb (length ss) (length made)) 0 7) 0 (programs made) (erases made) (apply_all g made img)

unfoldable pub plain_insert_by : Geometry → ℕ → List ℕ → ℕ → ℕ → ℕ → Outcome
plain_insert_by g n img k a allowance =
    let c = chip_of g n img in
    pick (worn g n img) (refused 3 img) (
    pick (plain_high g c k) (refused 5 img) (
    pick (plain_roomless g n c (plain_needs g c k)) (refused 6 img)
    (made_with g (insert_stores_at g c k a (pages_by g n img) (max_seq g n img) (plain_cuts g c k)) allowance img)))

unfoldable pub plain_delete_by : Geometry → ℕ → List ℕ → ℕ → ℕ → Outcome
plain_delete_by g n img k allowance =
    let c = chip_of g n img in
    pick (worn g n img) (refused 3 img) (
    pick (is_none (sought c k)) (refused 4 img) (
    pick (plain_roomless g n c (plain_leaves c k)) (refused 6 img)
    (made_with g (delete_stores_at g c k (pages_by g n img) (max_seq g n img) (emptied c k)) allowance img)))
