-- An image of n blocks: its numbers, its root, and what the rules see of it. Definitions alone; assumes nothing.
use Rattle.std.specs.Prelude.{ℕ, ◌-◌, ◌*◌, ◌/◌, ◌%◌, Bool, List, eqb, leb, length}
use Rattle.geometry.specs.declared.Geometry.{Geometry}
use Rattle.geometry.specs.declared.Entry.{Entry}
use Rattle.geometry.specs.Geometry.{page_base}
use Rattle.geometry.specs.Tests.{pick, ◌&◌}
use Rattle.model.specs.Bytes.{erased, seq_at, height_at, node_at}
use Rattle.model.specs.Count.{peak, arg}

-- 16,896 bytes
abbrev pub block_bytes : Geometry → ℕ
block_bytes g = page_base g g.pages

-- B
unfoldable pub blocks_of : Geometry → List ℕ → ℕ
blocks_of g img = length img / block_bytes g

-- "16,896 × (3 to 1,024)"
unfoldable pub good_length : Geometry → List ℕ → Bool
good_length g img = eqb (length img % block_bytes g) 0 & leb 3 (blocks_of g img) & leb (blocks_of g img) 1024

-- T, of n blocks
abbrev pub pages_of : Geometry → ℕ → ℕ
pages_of g n = g.pages * n

-- the sequence number and the height byte of a programmed page; 0 of an erased one
unfoldable pub seq_of : Geometry → List ℕ → ℕ → ℕ
seq_of g img p = pick (erased g img p) 0 (seq_at g img p)

unfoldable pub height_of : Geometry → List ℕ → ℕ → ℕ
height_of g img p = pick (erased g img p) 0 (height_at g img p)

-- the largest sequence number on the image, live or dead pages
unfoldable pub max_seq : Geometry → ℕ → List ℕ → ℕ
max_seq g n img = peak (pages_of g n) (seq_of g img)

-- R4: of the pages with byte 4 of 1 or more, the one with the largest sequence number holds the root
unfoldable pub root_score : Geometry → List ℕ → ℕ → ℕ
root_score g img p = pick (leb 1 (height_of g img p)) (seq_of g img p) 0

unfoldable pub root_of : Geometry → ℕ → List ℕ → ℕ
root_of g n img = arg (pages_of g n) (root_score g img)

-- what stands at a page and a level
abbrev pub Nodes : Type 0
Nodes = ℕ → ℕ → List Entry

-- what the rules see: which pages are erased, their numbers, the nodes, the root's page, and the levels below the root
pub record Chip : Type 0 where
  pub er : ℕ → Bool
  pub seq : ℕ → ℕ
  pub nodes : Nodes
  pub level : ℕ
  pub root : ℕ

abbrev pub chip_of : Geometry → ℕ → List ℕ → Chip
chip_of g n img = record {
  er = erased g img;
  seq = seq_of g img;
  nodes = node_at g img;
  level = height_of g img (root_of g n img) - 1;
  root = root_of g n img;
}

-- the root as an entry that names it
abbrev pub the_root : Chip → Entry
the_root c = record { key = 0; addr = c.root }
