-- The numbers of a geometry, and document 01's table of levels. Definitions alone; assumes nothing.
use Rattle.std.specs.Prelude.{ℕ, zero, suc, ◌+◌, ◌-◌, ◌*◌, ◌/◌, Bool, List, [], ◌∷◌, eqb, leb, ltb, get_or, None, Option, Some}
use Rattle.geometry.specs.declared.Geometry.{Geometry}
use Rattle.geometry.specs.Tests.{pick, ◌&◌}

-- the small-block chip: 32 pages of 512 main and 16 spare bytes, heights 1 to 5
abbrev pub small : Geometry
small = record { pages = 32; main = 512; spare = 16; top = 5; worn = 4294967000; table = 0 }

-- the large-page chip (request 9): 64 pages of 2,048 main and 64 spare bytes, heights 1 to 7
abbrev pub large : Geometry
large = record { pages = 64; main = 2048; spare = 64; top = 7; worn = 4294966000; table = 1 }

-- request 12's plain tree on the small chip: one node to a page, 64 slots at each level
abbrev pub plain : Geometry
plain = record { pages = 32; main = 512; spare = 16; top = 5; worn = 4294967000; table = 2 }

-- "The caller says which geometry by a number, 0 or 1"
abbrev pub chosen_of : ℕ → Option Geometry
chosen_of zero = Some small
chosen_of (suc zero) = Some large
chosen_of (suc (suc kind)) = None

abbrev pub page_bytes : Geometry → ℕ
page_bytes g = g.main + g.spare

-- the 256-byte halves of a page's main area (request 4): two, and eight on the large chip
abbrev pub halves : Geometry → ℕ
halves g = g.main / 256

-- the byte of a page at which the code of half i stands: spare bytes 10 to 12 and 13 to 15, and 12 to 35 on the large
-- chip
abbrev pub code_place : Geometry → ℕ → ℕ
code_place g i = g.main + 5 + g.top + 3 * i

-- the byte at which page p begins
unfoldable pub page_base : Geometry → ℕ → ℕ
page_base g p = p * page_bytes g

-- slots of 8 bytes
abbrev pub slots : Geometry → ℕ
slots g = g.main / 8

-- columns "first slot" and "slots" of the table, levels 0 to 5
abbrev pub small_first : List ℕ
small_first = 0 ∷ 0 ∷ 32 ∷ 48 ∷ 56 ∷ 60 ∷ []

abbrev pub small_slots : List ℕ
small_slots = 0 ∷ 32 ∷ 16 ∷ 8 ∷ 4 ∷ 0 ∷ []

-- the same columns of the large chip, levels 0 to 7
abbrev pub large_first : List ℕ
large_first = 0 ∷ 0 ∷ 128 ∷ 192 ∷ 224 ∷ 240 ∷ 248 ∷ 252 ∷ []

abbrev pub large_slots : List ℕ
large_slots = 0 ∷ 128 ∷ 64 ∷ 32 ∷ 16 ∷ 8 ∷ 4 ∷ 0 ∷ []

-- the plain tree, levels 0 to 5: a node starts at slot 0
abbrev pub plain_slots : List ℕ
plain_slots = 0 ∷ 64 ∷ 64 ∷ 64 ∷ 64 ∷ 64 ∷ []

-- a level's entry in the table of a μ-Tree's geometry, told by its number
abbrev pub by_table : Geometry → List ℕ → List ℕ → ℕ → ℕ
by_table g s b l = pick (eqb g.table 0) (get_or s l 0) (pick (eqb g.table 1) (get_or b l 0) 0)

-- the first slot of level l, by the table; `halving` (Shape.antt) is its rule
unfoldable pub first_slot : Geometry → ℕ → ℕ
first_slot g l = by_table g small_first large_first l

-- the slots c of a node at level l below the root
unfoldable pub slots_of : Geometry → ℕ → ℕ
slots_of g l = pick (eqb g.table 2) (get_or plain_slots l 0) (by_table g small_slots large_slots l)

-- c/2; the slots are even (`Shape`), so c is 2 * half
abbrev pub half : Geometry → ℕ → ℕ
half g l = slots_of g l / 2

-- column "slots as root"
unfoldable pub root_slots : Geometry → ℕ → ℕ
root_slots g l = slots g - first_slot g l

-- column "most entries stored as root"
unfoldable pub root_most : Geometry → ℕ → ℕ
root_most g l = pick (eqb g.table 2) (root_slots g l) (pick (ltb l g.top) (root_slots g l - 1) (root_slots g l))

-- levels 1 to top
unfoldable pub in_table : Geometry → ℕ → Bool
in_table g l = leb 1 l & leb l g.top
