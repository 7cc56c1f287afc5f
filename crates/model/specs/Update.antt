-- The stores of insert, delete and format. Definitions alone; assumes nothing.
use Rattle.std.specs.Prelude.{ℕ, zero, suc, ◌+◌, ◌*◌, Bool, List, [], ◌∷◌, ◌++◌, eqb, leb, ltb, length, is_none}
use Rattle.geometry.specs.declared.Geometry.{Geometry}
use Rattle.geometry.specs.declared.Entry.{Entry}
use Rattle.geometry.specs.Geometry.{half, root_slots}
use Rattle.geometry.specs.Tests.{pick, bit, ◌&◌}
use Rattle.model.specs.Image.{Chip, chip_of, the_root, max_seq}
use Rattle.model.specs.Tree.{following, chosen, sought}
use Rattle.model.specs.Next.{ahead, nth}
use Rattle.model.specs.Page.{built, only}
use Rattle.model.specs.Stores.{Store, program, erase, apply_all}
use Rattle.model.specs.Edit.{on_path, put_in, path_half, side_half, two, named, path_part, gains, splits, remove_in, kept, Top, collapse}
use Rattle.model.specs.Collect.{collect_stores}

-- ---- k: "the pages an update needs: 1 + splits + 1 if it grows"
-- the root's entries
abbrev pub root_node : Chip → List Entry
root_node c = c.nodes c.root (suc c.level)

-- K is absent and the path's nodes below the root are full: the root takes one entry more
unfoldable pub root_gains : Geometry → Chip → ℕ → Bool
root_gains g c k = gains c.nodes k (half g) (is_none (sought c k)) c.level (chosen k (root_node c))

-- "A root that reaches its full slots at height 1 to 4": m entries at level l
unfoldable pub fills : Geometry → ℕ → ℕ → Bool
fills g l m = ltb l g.top & eqb m (root_slots g l)

unfoldable pub needs : Geometry → Chip → ℕ → ℕ
needs g c k = suc (splits c.nodes k (half g) (is_none (sought c k)) c.level (chosen k (root_node c))
    + bit (fills g (suc c.level) (length (root_node c) + bit (root_gains g c k))))

-- HEIGHT: "insert of an absent key: height 5, root has 4 entries, path nodes at levels 1 to 4 full"
unfoldable pub too_high : Geometry → Chip → ℕ → Bool
too_high g c k = eqb (suc c.level) g.top & eqb (length (root_node c)) (root_slots g (suc c.level)) & root_gains g c k

-- ---- insert. n is page N, side l the page of the other half at level l
-- the path's changed node at level j, the root's too
unfoldable pub insert_list : Geometry → Chip → ℕ → ℕ → ℕ → (ℕ → ℕ) → ℕ → List Entry
insert_list g c k a n side j = on_path c.nodes k (put_in k a) (named k n side (half g)) c.level (the_root c) j

-- the root's changed node es at level l, as it stands on N at level j: as it is, or halved under a two-entry root
unfoldable pub crown_part : Geometry → ℕ → ℕ → (ℕ → ℕ) → ℕ → List Entry → ℕ → List Entry
crown_part g k n side l es j = pick (fills g l (length es))
    (pick (eqb j l) (path_half k (2 * half g l) es) (pick (eqb j (suc l)) (two k n (side l) (2 * half g l) (following es 0) es) []))
    (pick (eqb j l) es [])

-- what N holds at level j
unfoldable pub insert_part : Geometry → Chip → ℕ → ℕ → ℕ → (ℕ → ℕ) → ℕ → List Entry
insert_part g c k a n side j = pick (leb j c.level) (path_part k (half g) j (insert_list g c k a n side j))
    (crown_part g k n side (suc c.level) (insert_list g c k a n side (suc c.level)) j)

-- "Every other half gets a page alone, height byte 0": es at level l, number seq + l
unfoldable pub side_store : Geometry → ℕ → (ℕ → ℕ) → ℕ → List Entry → Store
side_store g seq side l es = program (side l) (built g (seq + l) 0 (only l es))

-- the other half of a changed node es at level l, where it exceeds the level's slots
unfoldable pub split_store : Geometry → ℕ → ℕ → (ℕ → ℕ) → ℕ → List Entry → List Store
split_store g seq k side l es =
    pick (leb (length es) (2 * half g l)) [] (side_store g seq side l (side_half k (half g l) es) ∷ [])

-- "programmed lower level first": levels 1 to l
unfoldable pub side_stores : Geometry → ℕ → ℕ → (ℕ → ℕ) → (ℕ → List Entry) → ℕ → List Store
side_stores g seq k side lists zero = []
side_stores g seq k side lists (suc l) = side_stores g seq k side lists l ++ split_store g seq k side (suc l) (lists (suc l))

-- the other half of a root that grows
unfoldable pub crown_store : Geometry → ℕ → ℕ → (ℕ → ℕ) → ℕ → List Entry → List Store
crown_store g seq k side l es =
    pick (fills g l (length es)) (side_store g seq side l (side_half k (2 * half g l) es) ∷ []) []

-- the height after: one more where the root grows
unfoldable pub crown_height : Geometry → ℕ → List Entry → ℕ
crown_height g l es = pick (fills g l (length es)) (suc l) l

-- the pages to come: the other half of level l on the (l-1)-th, N on the last of m
abbrev pub side_page : Geometry → ℕ → Chip → ℕ → ℕ
side_page g n c zero = nth g.pages n (ahead g n c) 0
side_page g n c (suc l) = nth g.pages n (ahead g n c) l

-- "Other halves are programmed lower level first, then N": an insert's own m stores, seq the largest number
unfoldable pub own_stores : Geometry → ℕ → ℕ → Chip → ℕ → ℕ → ℕ → List Store
own_stores g n seq c m k a =
    side_stores g seq k (side_page g n c) (insert_list g c k a (side_page g n c m) (side_page g n c)) c.level
    ++ (crown_store g seq k (side_page g n c) (suc c.level) (insert_list g c k a (side_page g n c m) (side_page g n c) (suc c.level))
    ++ (program (side_page g n c m)
    (built g (seq + m) (crown_height g (suc c.level) (insert_list g c k a (side_page g n c m) (side_page g n c) (suc c.level)))
    (insert_part g c k a (side_page g n c m) (side_page g n c))) ∷ []))

-- ---- delete
-- the path's changed node at level j
unfoldable pub delete_list : Chip → ℕ → ℕ → ℕ → List Entry
delete_list c k n j = on_path c.nodes k (remove_in k) (kept n) c.level (the_root c) j

-- the root that is left
unfoldable pub delete_top : Chip → ℕ → ℕ → Top
delete_top c k n = collapse c.nodes c.level (delete_list c k n (suc c.level))

-- "Delete programs N only, holding the root and the path's nodes left below it": at level j. Where the tree shrinks
-- none is left below
unfoldable pub delete_part : Chip → ℕ → ℕ → ℕ → List Entry
delete_part c k n j = pick (eqb j (suc (delete_top c k n).level)) (delete_top c k n).list
    (pick (eqb (delete_top c k n).level c.level & leb j c.level) (delete_list c k n j) [])

unfoldable pub delete_store : Geometry → ℕ → ℕ → Chip → ℕ → Store
delete_store g n seq c k = program (side_page g n c 1)
    (built g (suc seq) (suc (delete_top c k (side_page g n c 1)).level) (delete_part c k (side_page g n c 1)))

-- ---- the whole lists: collection, then the update's own pages on the image that it leaves
unfoldable pub insert_stores : Geometry → ℕ → List ℕ → ℕ → ℕ → List Store
insert_stores g n img k a =
    let m = needs g (chip_of g n img) k in
    let first = collect_stores g n m (suc m) img in
    let then = apply_all g first img in
    first ++ own_stores g n (max_seq g n then) (chip_of g n then) m k a

unfoldable pub delete_stores : Geometry → ℕ → List ℕ → ℕ → List Store
delete_stores g n img k =
    let first = collect_stores g n 1 2 img in
    let then = apply_all g first img in
    first ++ (delete_store g n (max_seq g n then) (chip_of g n then) k ∷ [])

-- ---- format
unfoldable pub erasures : ℕ → List Store
erasures zero = []
erasures (suc n) = erasures n ++ (erase n ∷ [])

-- "it erases every block, programs page 0 as an empty level 1 root of height 1 and sequence number 1"
unfoldable pub format_stores : Geometry → ℕ → List Store
format_stores g n = erasures n ++ (program 0 (built g 1 1 (λ j. [])) ∷ [])
