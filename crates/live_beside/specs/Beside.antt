-- What an update keeps beside the image: the record of request 8 and the table; and one move of a sweep. Definitions
-- alone; assumes nothing.
use Rattle.std.specs.Prelude.{ℕ, zero, suc, ◌+◌, ◌*◌, ◌/◌, ◌%◌, min, Bool, List, [], eqb, leb}
use Rattle.geometry.specs.declared.Geometry.{Geometry}
use Rattle.geometry.specs.declared.Entry.{Entry}
use Rattle.geometry.specs.Tests.{pick}
use Rattle.model.specs.Bytes.{erased, node_at}
use Rattle.model.specs.Image.{pages_of}
use Rattle.model.specs.Tree.{following}
use Rattle.model.specs.Next.{round, after}
use Rattle.model.specs.Page.{built}
use Rattle.model.specs.Stores.{Store, program}
use Rattle.model.specs.Edit.{on_path, renamed, same}
use Rattle.chip_read.specs.Chip.{naming}
use Rattle.live_words.specs.Words.{words_of}
use Rattle.open_record.specs.declared.Opened.{Opened}
use Rattle.open_record.specs.Opened.{level_by}
use Rattle.live_beside.specs.Table.{Table, low_in, table_moved}

-- the record, and the table
pub record Held : Type 0 where
  pub at : Opened
  pub table : Table

abbrev pub holding : Opened → Table → Held
holding o t = record { at = o; table = t }

-- ---- the pages to come
-- the page after page x, which has just been programmed and so has the largest number: the next one of its block; past
-- the block's end page 0 of the first wholly erased block after it, round past the end to the start
unfoldable pub next_after : ℕ → ℕ → (ℕ → Bool) → ℕ → ℕ
next_after p n er x = pick (eqb (suc x % p) 0) (p * round n (x / p) (λ b. er (p * b + 0))) (suc x)

-- the i-th page to come, x the next one
unfoldable pub page_from : ℕ → ℕ → (ℕ → Bool) → ℕ → ℕ → ℕ
page_from p n er x zero = x
page_from p n er x (suc i) = page_from p n (after x er) (next_after p n (after x er) x) i

-- the next page by the record: T where it names one past the image
abbrev pub next_by : Geometry → ℕ → Opened → ℕ
next_by g n o = min (pages_of g n) o.next

-- the i-th page to come by the record
abbrev pub page_by : Geometry → ℕ → List ℕ → Opened → ℕ → ℕ
page_by g n img o i = page_from g.pages n (erased g img) (next_by g n o) i

-- ---- a sweep: the root's page, the largest number, the levels below the root, the next page, and the table
pub record Beside : Type 0 where
  pub root : ℕ
  pub most : ℕ
  pub level : ℕ
  pub next : ℕ
  pub table : Table

-- at its start
abbrev pub beside_by : Geometry → ℕ → Held → Beside
beside_by g n h = record { root = h.at.root; most = h.at.most; level = level_by g h.at; next = next_by g n h.at; table = h.table }

-- the key by which descent comes to the lowest live node of page q
abbrev pub key_by : Geometry → Beside → ℕ → List ℕ → ℕ
key_by g h q img = following (node_at g img q (low_in h.table q)) 0

-- "one page holding the nodes from the root to that page's lowest live node": at level j
unfoldable pub move_part_by : Geometry → Beside → ℕ → List ℕ → ℕ → List Entry
move_part_by g h q img j = pick (leb (low_in h.table q) j)
    (on_path (node_at g img) (key_by g h q img) same (renamed (low_in h.table q) h.next) h.level (naming h.root) j) []

-- the store that moves page q
unfoldable pub move_store_by : Geometry → Beside → ℕ → List ℕ → Store
move_store_by g h q img = program h.next (built g (suc h.most) (suc h.level) (move_part_by g h q img))

-- what is kept once page q has moved; img the image before, then the one after the store
unfoldable pub beside_moved : Geometry → ℕ → Beside → ℕ → List ℕ → List ℕ → Beside
beside_moved g n h q img then = record {
  root = h.next;
  most = suc h.most;
  level = h.level;
  next = next_after g.pages n (erased g then) h.next;
  table = table_moved (words_of g n) (node_at g img) (key_by g h q img) (low_in h.table q) h.level (naming h.root) h.next h.table;
}
