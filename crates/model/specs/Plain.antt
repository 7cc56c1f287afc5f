-- The pages of an update of request 12's plain tree, the wandering tree of document 004: one node to a page. It is read
-- as the μ-Tree is, with the geometry `plain`; what differs is which pages an update programs. Definitions alone;
-- assumes nothing.
use Rattle.std.specs.Prelude.{ℕ, zero, suc, ◌+◌, ◌-◌, ◌*◌, min, Bool, true, false, List, [], ◌∷◌, ◌++◌, eqb, leb, ltb, length, take, drop, is_none}
use Rattle.geometry.specs.declared.Geometry.{Geometry}
use Rattle.geometry.specs.declared.Entry.{Entry}
use Rattle.geometry.specs.Geometry.{half}
use Rattle.geometry.specs.Tests.{pick, bit, ◌&◌}
use Rattle.model.specs.Count.{count}
use Rattle.model.specs.Image.{Chip, chip_of, pages_of, blocks_of, the_root, max_seq}
use Rattle.model.specs.Tree.{following, sought, erased_pages}
use Rattle.model.specs.Next.{ahead, nth}
use Rattle.model.specs.Page.{built, only}
use Rattle.model.specs.Stores.{Store, program}
use Rattle.model.specs.Edit.{on_path, put_in, gains, splits, remove_in, kept, Top, collapse}
use Rattle.model.specs.Update.{delete_list}
use Rattle.model.specs.Calls.{Outcome, refused, made, judged_call, worn}

-- ---- what stands above a changed node
-- two entries over the halves of c: z is the key kept, left and right are the pages
abbrev pub both : ℕ → ℕ → ℕ → ℕ → List Entry → List Entry
both left right m z c = record { key = z; addr = left } ∷ record { key = following (drop m c) 0; addr = right } ∷ []

-- what stands above an edited node c at level l: one entry that names `left l`, its key lowered to K where it is above
-- K, or two where c exceeds the level's slots, 2 * half: `left l` is the page of the left half, `right l` that of the
-- right
abbrev pub renewed : ℕ → (ℕ → ℕ) → (ℕ → ℕ) → (ℕ → ℕ) → ℕ → Entry → List Entry → List Entry
renewed k left right half l e c =
    pick (leb (length c) (2 * half l)) (record { key = min e.key k; addr = left l } ∷ []) (both (left l) (right l) (half l) (min e.key k) c)

-- what stands above a node c that loses an entry: none where it is emptied, else one that names `n l`
abbrev pub kept_on : (ℕ → ℕ) → ℕ → Entry → List Entry → List Entry
kept_on n l e c = kept (n l) l e c

-- ---- the pages of an update, in the order in which they are programmed: a node at a level
pub record Plan : Type 0 where
  pub level : ℕ
  pub list : List Entry

-- the i-th plan goes to the i-th page to come; "the root last": the last one carries the root, and its level is the
-- height
unfoldable pub laid : Geometry → ℕ → Chip → ℕ → ℕ → List Plan → List Store
laid g n c seq i [] = []
laid g n c seq i (x ∷ []) =
    program (nth g.pages n (ahead g n c) i) (built g (seq + suc i) x.level (only x.level x.list)) ∷ []
laid g n c seq i (x ∷ y ∷ xs) =
    program (nth g.pages n (ahead g n c) i) (built g (seq + suc i) 0 (only x.level x.list)) ∷ laid g n c seq (suc i) (y ∷ xs)

-- ---- insert
-- the root splits under a new one: K is absent and all nodes of the path are full, the root too
unfoldable pub plain_grows : Geometry → Chip → ℕ → Bool
plain_grows g c k = gains c.nodes k (half g) (is_none (sought c k)) (suc c.level) (the_root c)

-- the levels that split are 1 to this
unfoldable pub plain_cuts : Geometry → Chip → ℕ → ℕ
plain_cuts g c k = splits c.nodes k (half g) (is_none (sought c k)) (suc c.level) (the_root c)

-- HEIGHT: "when that would need height 6"
unfoldable pub plain_high : Geometry → Chip → ℕ → Bool
plain_high g c k = eqb (suc c.level) g.top & plain_grows g c k

-- "lower level first, left half before right": below level l stand l - 1 pages and one more for each level that splits;
-- the right half's page comes after the left one's, where level l splits
unfoldable pub left_page : Geometry → ℕ → Chip → ℕ → ℕ → ℕ
left_page g n c cuts l = nth g.pages n (ahead g n c) (l - 1 + min (l - 1) cuts)

unfoldable pub right_page : Geometry → ℕ → Chip → ℕ → ℕ → ℕ
right_page g n c cuts l = nth g.pages n (ahead g n c) (l - 1 + min l cuts)

-- the path's changed node at level j, the root's too
unfoldable pub plain_list : Geometry → ℕ → Chip → ℕ → ℕ → ℕ → List Entry
plain_list g n c k a j = on_path c.nodes k (put_in k a)
    (renewed k (left_page g n c (plain_cuts g c k)) (right_page g n c (plain_cuts g c k)) (half g)) c.level (the_root c) j

-- a changed node at level l: whole, or its halves where it exceeds the level's slots
unfoldable pub level_plans : Geometry → ℕ → List Entry → List Plan
level_plans g l es = pick (leb (length es) (2 * half g l)) (record { level = l; list = es } ∷ [])
    (record { level = l; list = take (half g l) es } ∷ record { level = l; list = drop (half g l) es } ∷ [])

unfoldable pub plans_to : Geometry → (ℕ → List Entry) → ℕ → List Plan
plans_to g lists zero = []
plans_to g lists (suc l) = plans_to g lists l ++ level_plans g (suc l) (lists (suc l))

-- "a root that would hold 65 entries is split under a new root": keyed by the halves' first keys, as a root that grows
-- is
unfoldable pub crown_plans : Geometry → ℕ → Chip → ℕ → ℕ → List Entry → List Plan
crown_plans g n c cuts l es = pick (leb (length es) (2 * half g l)) []
    (record { level = suc l; list = both (left_page g n c cuts l) (right_page g n c cuts l) (half g l) (following es 0) es } ∷ [])

unfoldable pub insert_plans : Geometry → ℕ → Chip → ℕ → ℕ → List Plan
insert_plans g n c k a = plans_to g (plain_list g n c k a) (suc c.level)
    ++ crown_plans g n c (plain_cuts g c k) (suc c.level) (plain_list g n c k a (suc c.level))

unfoldable pub plain_insert_stores : Geometry → ℕ → List ℕ → ℕ → ℕ → List Store
plain_insert_stores g n img k a = laid g n (chip_of g n img) (max_seq g n img) 0 (insert_plans g n (chip_of g n img) k a)

-- ---- delete
abbrev pub none_left : List Entry → Bool
none_left [] = true
none_left (e ∷ es) = false

-- the levels below the root whose node is emptied are 1 to this (whether a node is emptied does not hang on page
-- numbers)
unfoldable pub emptied : Chip → ℕ → ℕ
emptied c k = count c.level (λ j. none_left (delete_list c k 0 (suc j)))

unfoldable pub kept_page : Geometry → ℕ → Chip → ℕ → ℕ → ℕ
kept_page g n c v l = nth g.pages n (ahead g n c) (l - 1 - v)

unfoldable pub plain_less : Geometry → ℕ → Chip → ℕ → ℕ → List Entry
plain_less g n c k j = on_path c.nodes k (remove_in k) (kept_on (kept_page g n c (emptied c k))) c.level (the_root c) j

unfoldable pub plain_top : Geometry → ℕ → Chip → ℕ → Top
plain_top g n c k = collapse c.nodes c.level (plain_less g n c k (suc c.level))

unfoldable pub kept_plans : (ℕ → List Entry) → ℕ → List Plan
kept_plans lists zero = []
kept_plans lists (suc l) = kept_plans lists l ++ pick (none_left (lists (suc l))) [] (record { level = suc l; list = lists (suc l) } ∷ [])

-- the path's nodes that are left, then the root; where the tree shrinks the new root alone
unfoldable pub delete_plans : Geometry → ℕ → Chip → ℕ → List Plan
delete_plans g n c k = pick (eqb (plain_top g n c k).level c.level) (kept_plans (plain_less g n c k) c.level) []
    ++ (record { level = suc (plain_top g n c k).level; list = (plain_top g n c k).list } ∷ [])

unfoldable pub plain_delete_stores : Geometry → ℕ → List ℕ → ℕ → List Store
plain_delete_stores g n img k = laid g n (chip_of g n img) (max_seq g n img) 0 (delete_plans g n (chip_of g n img) k)

-- ---- the calls: "It refuses, in the order of document 01"
-- the pages that an insert needs: one a level, one more for each level that splits, and the new root
unfoldable pub plain_needs : Geometry → Chip → ℕ → ℕ
plain_needs g c k = suc c.level + plain_cuts g c k + bit (plain_grows g c k)

-- the tree shrinks: its root, above level 1, is left with one entry (which does not hang on page numbers either)
unfoldable pub plain_shrinks : Chip → ℕ → Bool
plain_shrinks c k = leb 1 c.level & eqb (length (delete_list c k 0 (suc c.level))) 1

-- those of a delete: the levels below the root that are left, and the root; where the tree shrinks one
unfoldable pub plain_leaves : Chip → ℕ → ℕ
plain_leaves c k = suc (pick (plain_shrinks c k) 0 (c.level - emptied c k))

-- ROOM: "when fewer erased pages are left than the update needs"
abbrev pub plain_roomless : Geometry → ℕ → Chip → ℕ → Bool
plain_roomless g n c needs = ltb (erased_pages (pages_of g n) c) needs

unfoldable pub plain_insert_rest : Geometry → ℕ → List ℕ → ℕ → ℕ → ℕ → Outcome
plain_insert_rest g n img k a allowance =
    pick (worn g n img) (refused 3 img) (
    pick (plain_high g (chip_of g n img) k) (refused 5 img) (
    pick (plain_roomless g n (chip_of g n img) (plain_needs g (chip_of g n img) k)) (refused 6 img)
    (made g (plain_insert_stores g n img k a) allowance img)))

unfoldable pub plain_insert : Geometry → List ℕ → ℕ → ℕ → ℕ → Outcome
plain_insert g img k a allowance = judged_call g img (plain_insert_rest g (blocks_of g img) img k a allowance)

unfoldable pub plain_delete_rest : Geometry → ℕ → List ℕ → ℕ → ℕ → Outcome
plain_delete_rest g n img k allowance =
    pick (worn g n img) (refused 3 img) (
    pick (is_none (sought (chip_of g n img) k)) (refused 4 img) (
    pick (plain_roomless g n (chip_of g n img) (plain_leaves (chip_of g n img) k)) (refused 6 img)
    (made g (plain_delete_stores g n img k) allowance img)))

unfoldable pub plain_delete : Geometry → List ℕ → ℕ → ℕ → Outcome
plain_delete g img k allowance = judged_call g img (plain_delete_rest g (blocks_of g img) img k allowance)
