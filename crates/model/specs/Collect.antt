-- Collection: the victim, the moves, the erase, each on the image as it then stands. Definitions alone; assumes
-- nothing.
use Rattle.std.specs.Prelude.{ℕ, zero, suc, ◌+◌, ◌-◌, ◌*◌, Bool, List, [], ◌∷◌, ◌++◌, leb, ltb, None, Option, Some}
use Rattle.geometry.specs.declared.Geometry.{Geometry}
use Rattle.geometry.specs.declared.Entry.{Entry}
use Rattle.geometry.specs.Tests.{pick}
use Rattle.model.specs.Image.{Chip, chip_of, the_root, pages_of, max_seq}
use Rattle.model.specs.Tree.{following, places_of, live, low_level, erased_pages}
use Rattle.model.specs.Next.{full, in_block, ahead, next_page}
use Rattle.model.specs.Page.{built}
use Rattle.model.specs.Stores.{Store, program, erase, apply_store, apply_all}
use Rattle.model.specs.Edit.{on_path, renamed, same}

-- "the block without erased pages that has fewest live pages, lowest number on a tie", of the blocks below n
unfoldable pub better : (ℕ → Bool) → (ℕ → ℕ) → ℕ → Option ℕ → Option ℕ
better full lives b None = pick (full b) (Some b) None
better full lives b (Some v) = pick (full b) (pick (ltb (lives b) (lives v)) (Some b) (Some v)) (Some v)

unfoldable pub victim : (ℕ → Bool) → (ℕ → ℕ) → ℕ → Option ℕ
victim full lives zero = None
victim full lives (suc b) = better full lives b (victim full lives b)

-- the live pages of a block
abbrev pub lives_in : ℕ → ℕ → Chip → ℕ
lives_in p b c = in_block p (live (places_of c)) b

abbrev pub the_victim : ℕ → ℕ → Chip → Option ℕ
the_victim p n c = victim (full p c.er) (λ b. lives_in p b c) n

-- the key by which descent comes to the lowest live node of page q: its first
abbrev pub move_key : Chip → ℕ → ℕ
move_key c q = following (c.nodes q (low_level (places_of c) q)) 0

-- "one page holding the nodes from the root to that page's lowest live node": at level j, on the new page m
unfoldable pub move_part : Chip → ℕ → ℕ → ℕ → List Entry
move_part c q m j = pick (leb (low_level (places_of c) q) j)
    (on_path c.nodes (move_key c q) same (renamed (low_level (places_of c) q) m) c.level (the_root c) j) []

-- the store that moves page q
unfoldable pub move_store : Geometry → ℕ → ℕ → List ℕ → Store
move_store g n q img = program (next_page g.pages n (ahead g n (chip_of g n img)))
    (built g (suc (max_seq g n img)) (suc (chip_of g n img).level) (move_part (chip_of g n img) q (next_page g.pages n (ahead g n (chip_of g n img)))))

-- "While the victim has a live page, take the lowest-numbered": its last j pages in rising order, each that is then
-- live
unfoldable pub sweep_stores : Geometry → ℕ → ℕ → ℕ → List ℕ → List Store
sweep_stores g n v zero img = []
sweep_stores g n v (suc j) img = pick (live (places_of (chip_of g n img)) (g.pages * v + (g.pages - suc j)))
    (move_store g n (g.pages * v + (g.pages - suc j)) img ∷ sweep_stores g n v j (apply_store g (move_store g n (g.pages * v + (g.pages - suc j)) img) img))
    (sweep_stores g n v j img)

-- "Then erase the victim"
unfoldable pub clear_stores : Geometry → ℕ → Option ℕ → List ℕ → List Store
clear_stores g n None img = []
clear_stores g n (Some v) img = sweep_stores g n v g.pages img ++ (erase v ∷ [])

-- "While F < 32 + k, collect", in at most m rounds
unfoldable pub collect_stores : Geometry → ℕ → ℕ → ℕ → List ℕ → List Store
collect_stores g n k zero img = []
collect_stores g n k (suc m) img = pick (ltb (erased_pages (pages_of g n) (chip_of g n img)) (g.pages + k))
    (clear_stores g n (the_victim g.pages n (chip_of g n img)) img
    ++ collect_stores g n k m (apply_all g (clear_stores g n (the_victim g.pages n (chip_of g n img)) img) img))
    []
