-- On an image that holds the rules the code's way to an update of the plain tree is the definition's. Assumes nothing.
use Rattle.std.specs.Prelude.{◌≡◌, List, false, ℕ, suc, ◌*◌, ◌<◌, ◌≤◌, is_none}
use Rattle.std.proofs.Common.{arith}
use Rattle.geometry.specs.Geometry.{plain, half, root_most}
use Rattle.geometry.specs.Shape.{plain_core}
use Rattle.geometry.specs.Bounds.{four_bytes}
use Rattle.model.specs.Count.{count}
use Rattle.model.specs.Image.{Chip, chip_of, pages_of, max_seq}
use Rattle.model.specs.Tree.{sought, erased_pages}
use Rattle.model.specs.Plain.{plain_cuts, plain_needs, plain_insert_stores, plain_leaves, emptied, plain_delete_stores}
use Rattle.theory_counts.specs.Tally.{count_most}
use Rattle.theory_images.specs.Held.{Held, height_most}
use Rattle.theory_updates.specs.Pages.{pages_right}
use Rattle.plain_levels.specs.Levels.{insert_stores_at, delete_stores_at, pages_by}
use Rattle.plain_updates.specs.Single.{plain_single}
use Rattle.plain_updates.specs.InsertSame.{insert_same}
use Rattle.plain_updates.specs.DeleteSame.{delete_same}

some_needed : (c : Chip) (k : ℕ) → 1 ≤ plain_needs plain c k
unfolding plain_needs
some_needed c k = omega arith

-- ---- the stores
pub plain_insert_same : (n : ℕ) (img : List ℕ) (k a : ℕ) → Held plain n img → k < four_bytes
    → plain_needs plain (chip_of plain n img) k ≤ count (pages_of plain n) (chip_of plain n img).er
    → plain_insert_stores plain n img k a
    ≡ insert_stores_at plain (chip_of plain n img) k a (pages_by plain n img) (max_seq plain n img)
    (plain_cuts plain (chip_of plain n img) k)
unfolding plain_insert_stores
plain_insert_same n img k a held k_low free =
    let c = chip_of plain n img in
    insert_same plain plain_core n k a k_low c held.whole narrow some_half (plain_single.two (suc (suc c.level)))
    (pages_by plain n img) (max_seq plain n img) (λ i b. pages_right plain plain_core n img held i (omega (arith, b, free)))
  where
    some_page : 1 ≤ pages_of plain n
    some_page = let w = count_most (chip_of plain n img).er (pages_of plain n) in
        omega (arith, w, free, some_needed (chip_of plain n img) k)

    narrow : root_most plain (suc (chip_of plain n img).level) ≡ 2 * half plain (suc (chip_of plain n img).level)
    narrow = plain_single.narrow (suc (chip_of plain n img).level) (omega arith) (height_most plain plain_core n img some_page held)

    some_half : 1 ≤ half plain (suc (chip_of plain n img).level)
    some_half = let w = plain_single.two (suc (chip_of plain n img).level) in omega (arith, w, narrow)

pub plain_delete_same : (n : ℕ) (img : List ℕ) (k : ℕ) → Held plain n img → k < four_bytes
    → is_none (sought (chip_of plain n img) k) ≡ false
    → plain_leaves (chip_of plain n img) k ≤ count (pages_of plain n) (chip_of plain n img).er
    → plain_delete_stores plain n img k
    ≡ delete_stores_at plain (chip_of plain n img) k (pages_by plain n img) (max_seq plain n img)
    (emptied (chip_of plain n img) k)
unfolding plain_delete_stores
plain_delete_same n img k held k_low present free =
    delete_same plain plain_core n k k_low (chip_of plain n img) held.whole present
    (pages_by plain n img) (max_seq plain n img) (λ i b. pages_right plain plain_core n img held i (omega (arith, b, free)))

-- ---- the calls

module _ (n : ℕ) (some : 1 ≤ n) (few : n ≤ 1024) (img : List ℕ) (held : Held plain n img)
    (k al : ℕ) (k_low : k < four_bytes) where
  abbrev c : Chip
  c = chip_of plain n img

  abbrev free : ℕ
  free = erased_pages (pages_of plain n) c
