-- Collection by what is kept beside the image: its stores, and what is then kept. Definitions alone; assumes nothing.
use Rattle.std.specs.Prelude.{ℕ, zero, suc, ◌+◌, ◌-◌, ◌*◌, ◌/◌, ◌%◌, min, Bool, not, List, [], ◌∷◌, ◌++◌, eqb, ltb, None, Option, Some}
use Rattle.geometry.specs.declared.Geometry.{Geometry}
use Rattle.geometry.specs.Tests.{pick, ◌&◌}
use Rattle.geometry.specs.Bounds.{four_bytes}
use Rattle.model.specs.Bytes.{erased}
use Rattle.model.specs.Image.{pages_of}
use Rattle.model.specs.Next.{full, round}
use Rattle.model.specs.Stores.{Store, erase, apply_store}
use Rattle.model.specs.Collect.{victim}
use Rattle.live_walk.specs.Table.{live_in}
use Rattle.live_words.specs.Words.{block_ones}
use Rattle.open_record.specs.declared.Opened.{Opened}
use Rattle.open_record.specs.Opened.{opened_in}
use Rattle.live_beside.specs.Table.{Table}
use Rattle.live_beside.specs.Beside.{Held, holding, Beside, beside_by, move_store_by, beside_moved}

-- stores, in order; the image that they leave; and what is then kept, of any kind
pub record Run (A : Type 0) : Type 0 where
  pub stores : List Store
  pub image : List ℕ
  pub kept : A

abbrev pub still : {A : Type 0} → A → List ℕ → Run A
still h img = record { stores = []; image = img; kept = h }

abbrev pub and_then : {A B : Type 0} → Run A → (A → List ℕ → Run B) → Run B
and_then r f = record {
  stores = r.stores ++ (f r.kept r.image).stores;
  image = (f r.kept r.image).image;
  kept = (f r.kept r.image).kept;
}

-- page q moved, and where it is live
unfoldable pub move_by : Geometry → ℕ → ℕ → Beside → List ℕ → Run Beside
move_by g n q h img = record {
  stores = move_store_by g h q img ∷ [];
  image = apply_store g (move_store_by g h q img) img;
  kept = beside_moved g n h q img (apply_store g (move_store_by g h q img) img);
}

unfoldable pub page_by : Geometry → ℕ → ℕ → Beside → List ℕ → Run Beside
page_by g n q h img = pick (live_in h.table.levels q) (move_by g n q h img) (still h img)

-- the last j pages of block v in rising order, each that is then live
unfoldable pub sweep_by : Geometry → ℕ → ℕ → ℕ → Beside → List ℕ → Run Beside
sweep_by g n v zero h img = still h img
sweep_by g n v (suc j) h img = and_then (page_by g n (g.pages * v + (g.pages - suc j)) h img) (sweep_by g n v j)

-- ---- "Then erase the victim": no page of it is live, so the table stays
-- the next page x once a block was erased, the largest number on the root's page: in a partly programmed block it
-- stays, else the first wholly erased block after the root's is looked for anew
unfoldable pub next_erased : ℕ → ℕ → (ℕ → Bool) → ℕ → ℕ → ℕ
next_erased p n er root x = pick (eqb (x % p) 0) (p * round n (root / p) (λ b. er (p * b + 0))) x

-- the record after the erase; o the record before the sweep, h what is kept after it, then the image after the erase.
-- Where the root has the largest number, as it has after a move, the record goes on; else the block may have held that
-- number, and the record is taken anew
unfoldable pub record_erased : Geometry → ℕ → Opened → Beside → List ℕ → Opened
record_erased g n o h then = pick (eqb h.most o.most & not (eqb o.number o.most)) (opened_in g n then) (record {
  root = h.root;
  number = h.most % four_bytes;
  most = h.most % four_bytes;
  height = o.height;
  next = min (pages_of g n) (next_erased g.pages n (erased g then) h.root h.next);
  erased = o.erased - (h.most - o.most) + g.pages;
})

unfoldable pub erase_by : Geometry → ℕ → ℕ → Opened → Beside → List ℕ → Run Held
erase_by g n v o h img = record {
  stores = erase v ∷ [];
  image = apply_store g (erase v) img;
  kept = holding (record_erased g n o h (apply_store g (erase v) img)) h.table;
}

unfoldable pub clear_by : Geometry → ℕ → Option ℕ → Held → List ℕ → Run Held
clear_by g n None h img = still h img
clear_by g n (Some v) h img = and_then (sweep_by g n v g.pages (beside_by g n h) img) (erase_by g n v h.at)

-- "The collector's live count is the count of ones of its words"
abbrev pub victim_by : Geometry → ℕ → Table → List ℕ → Option ℕ
victim_by g n t img = victim (full g.pages (erased g img)) (λ b. block_ones g t.words b) n

-- "While F < 32 + k, collect", in at most m rounds
unfoldable pub collect_by : Geometry → ℕ → ℕ → ℕ → Held → List ℕ → Run Held
collect_by g n k zero h img = still h img
collect_by g n k (suc m) h img = pick (ltb h.at.erased (g.pages + k))
    (and_then (clear_by g n (victim_by g n h.table img) h img) (collect_by g n k m))
    (still h img)
