-- "The chip as lent bytes": what is read of an image. A byte outside it reads as 0. Definitions alone; assumes nothing.
use Rattle.std.specs.Prelude.{ℕ, zero, suc, ◌+◌, ◌-◌, ◌*◌, min, Bool, true, List, [], ◌∷◌, eqb, get_or}
use Rattle.geometry.specs.declared.Geometry.{Geometry}
use Rattle.geometry.specs.declared.Entry.{Entry}
use Rattle.geometry.specs.Geometry.{page_bytes, halves, code_place, page_base, first_slot, root_slots, in_table}
use Rattle.geometry.specs.Tests.{pick, ◌&◌}

abbrev pub byte_at : List ℕ → ℕ → ℕ
byte_at img at = get_or img at 0

-- an unsigned 32-bit number, least byte first
unfoldable pub u32_at : List ℕ → ℕ → ℕ
u32_at img at =
    byte_at img at + 256 * byte_at img (at + 1) + 65536 * byte_at img (at + 2) + 16777216 * byte_at img (at + 3)

-- n bytes from `at` are all 255
unfoldable pub blank : List ℕ → ℕ → ℕ → Bool
blank img at zero = true
blank img at (suc n) = eqb (byte_at img at) 255 & blank img (at + 1) n

-- "A page is erased if all 528 bytes are 255"
unfoldable pub erased : Geometry → List ℕ → ℕ → Bool
erased g img p = blank img (page_base g p) (page_bytes g)

-- spare bytes 0 to 3: the sequence number
unfoldable pub seq_at : Geometry → List ℕ → ℕ → ℕ
seq_at g img p = u32_at img (page_base g p + g.main)

-- spare byte 4: the height if the page carries a root, else 0
unfoldable pub height_at : Geometry → List ℕ → ℕ → ℕ
height_at g img p = byte_at img (page_base g p + g.main + 4)

-- spare bytes 5 to 9: the entry count of the node at level l
unfoldable pub count_at : Geometry → List ℕ → ℕ → ℕ → ℕ
count_at g img p l = byte_at img (page_base g p + g.main + 4 + l)

-- the spare bytes after the codes of request 4 are 255
unfoldable pub tail_at : Geometry → List ℕ → ℕ → Bool
tail_at g img p = blank img (page_base g p + code_place g (halves g)) (page_bytes g - code_place g (halves g))

-- n slots from the byte `at`: key, then address
unfoldable pub entries_at : List ℕ → ℕ → ℕ → List Entry
entries_at img at zero = []
entries_at img at (suc n) = record { key = u32_at img at; addr = u32_at img (at + 4) } ∷ entries_at img (at + 8) n

-- the byte of the first slot of level l
unfoldable pub node_place : Geometry → ℕ → ℕ → ℕ
node_place g p l = page_base g p + 8 * first_slot g l

-- the entries read of the node at level l: none at a level that the table has not, and at most one more than the slots
-- to the page's end, so that a node never reaches into the next page and a count that is too large still shows
unfoldable pub node_count : Geometry → List ℕ → ℕ → ℕ → ℕ
node_count g img p l = pick (in_table g l) (min (count_at g img p l) (suc (root_slots g l))) 0

-- the node at page p and level l
unfoldable pub node_at : Geometry → List ℕ → ℕ → ℕ → List Entry
node_at g img p l = entries_at img (node_place g p l) (node_count g img p l)
