-- A page as it is built: all 255, then each level's entries and count, then number and height, then the codes. A put
-- outside the page changes nothing. Definitions alone; assumes nothing.
use Rattle.std.specs.Prelude.{ℕ, zero, suc, ◌+◌, ◌*◌, ◌/◌, ◌%◌, List, [], ◌∷◌, eqb, set, length, replicate}
use Rattle.geometry.specs.declared.Geometry.{Geometry}
use Rattle.geometry.specs.declared.Entry.{Entry}
use Rattle.geometry.specs.Geometry.{page_bytes, halves, code_place, first_slot}
use Rattle.geometry.specs.Tests.{pick}
use Rattle.model.specs.Codes.{fresh_code, put_code}

-- 32 bits, least byte first
unfoldable pub put_u32 : List ℕ → ℕ → ℕ → List ℕ
put_u32 b at v = set (set (set (set b at (v % 256)) (at + 1) (v / 256 % 256)) (at + 2) (v / 65536 % 256)) (at + 3) (v / 16777216 % 256)

-- a slot: key, then address
unfoldable pub put_entry : List ℕ → ℕ → Entry → List ℕ
put_entry b at e = put_u32 (put_u32 b at e.key) (at + 4) e.addr

unfoldable pub put_entries : List ℕ → ℕ → List Entry → List ℕ
put_entries b at [] = b
put_entries b at (e ∷ es) = put_entries (put_entry b at e) (at + 8) es

-- level l: its entries from its first slot on, and its count byte (0 for none)
unfoldable pub put_level : Geometry → List ℕ → ℕ → List Entry → List ℕ
put_level g b l es = set (put_entries b (8 * first_slot g l) es) (g.main + 4 + l) (length es % 256)

-- levels 1 to n of a page, lower ones first
unfoldable pub put_levels : Geometry → (ℕ → List Entry) → ℕ → List ℕ → List ℕ
put_levels g parts zero b = b
put_levels g parts (suc l) b = put_level g (put_levels g parts l b) (suc l) (parts (suc l))

-- spare bytes 0 to 4: sequence number and height byte
unfoldable pub numbered : Geometry → List ℕ → ℕ → ℕ → List ℕ
numbered g b seq height = set (put_u32 b g.main seq) (g.main + 4) (height % 256)

-- the codes of the first k halves, by request 4
unfoldable pub coded : Geometry → ℕ → List ℕ → List ℕ
coded g zero b = b
coded g (suc k) b = put_code (coded g k b) (code_place g k) (fresh_code (coded g k b) (256 * k))

-- number, height byte and codes
unfoldable pub sealed : Geometry → List ℕ → ℕ → ℕ → List ℕ
sealed g b seq height = coded g (halves g) (numbered g b seq height)

-- a whole page: what it holds at each level, its number, its height byte
unfoldable pub built : Geometry → ℕ → ℕ → (ℕ → List Entry) → List ℕ
built g seq height parts = sealed g (put_levels g parts g.top (replicate (page_bytes g) 255)) seq height

-- a page that holds a node at level l alone
abbrev pub only : ℕ → List Entry → ℕ → List Entry
only l es j = pick (eqb j l) es []
