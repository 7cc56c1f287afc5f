-- Demand 3's word for a store that may be made on an image of n blocks. Definitions alone; assumes nothing.
use Rattle.std.specs.Prelude.{◌≡◌, List, true, false, ℕ, suc, ◌+◌, ◌*◌, ◌<◌, length}
use Rattle.geometry.specs.declared.Geometry.{Geometry}
use Rattle.geometry.specs.Geometry.{page_bytes}
use Rattle.model.specs.Bytes.{u32_at, erased}
use Rattle.model.specs.Image.{pages_of, max_seq, chip_of}
use Rattle.model.specs.Tree.{places_of, live}
use Rattle.model.specs.Next.{ahead, next_page}
use Rattle.model.specs.Stores.{Store, program, erase}

-- "only erased pages are programmed, only blocks without a live page are erased". A program: the whole of the next
-- page, which is erased, with the largest number plus 1. An erase: a block without live pages
unfoldable pub Legal : Geometry → ℕ → List ℕ → Store → Type 0
Legal g n img (program p bs) =
    (p ≡ next_page g.pages n (ahead g n (chip_of g n img))) × (p < pages_of g n) × (erased g img p ≡ true) × (length bs ≡ page_bytes g) ×
    (u32_at bs g.main ≡ suc (max_seq g n img))
Legal g n img (erase b) = (b < n) × ((j : ℕ) → j < g.pages → live (places_of (chip_of g n img)) (g.pages * b + j) ≡ false)
