-- Bytes, numbers and the fields of a page, in the form in which the code has the premises. Assumes nothing.
use Rattle.std.specs.Prelude.{ℕ, ◌+◌, ◌-◌, ◌*◌, ◌%◌, ◌<◌, ◌≤◌, Bool, true, ◌≡◌, List, length}
use Rattle.std.proofs.Math.Path.{sym}
use Rattle.std.proofs.Common.{◌∙◌, Fits, arith, mul-le-mul, lt_of_le_of_lt}
use Rattle.std.specs.Int.{w8, w32}
use Rattle.std.proofs.Math.ListN.{get_or-eq_default}
use Rattle.geometry.specs.declared.Geometry.{Geometry}
use Rattle.geometry.specs.Geometry.{page_bytes, halves, code_place, page_base, first_slot}
use Rattle.model.specs.Bytes.{byte_at, u32_at, blank, erased, seq_at, height_at, count_at, tail_at, node_place}
use Rattle.model.specs.Codes.{code_at}
use Rattle.chip_read.specs.Chip.{entry_at}

pub byte_past : (img : List ℕ) (at : ℕ) → length img ≤ at → 0 ≡ byte_at img at
byte_past img at h = sym (get_or-eq_default img 0 h)

pub u32_past : (img : List ℕ) (at : ℕ) → length img ≤ at → 0 ≡ u32_at img at
unfolding u32_at
u32_past img at h =
    rw (← (byte_past img at h), ← (byte_past img (at + 1) (omega arith)), ← (byte_past img (at + 2) (omega arith)), ← (byte_past img (at + 3) (omega arith)))

pub u32_is : (img : List ℕ) (at a b c d : ℕ) → a ≡ byte_at img at → b ≡ byte_at img (at + 1) → c ≡ byte_at img (at + 2)
    → d ≡ byte_at img (at + 3)
    → a + 256 * b + 65536 * c + 16777216 * d ≡ u32_at img at
unfolding u32_at
u32_is img at a b c d ea eb ec ed = rw (ea, eb, ec, ed)

-- the low 24 bits of a number are the code
pub code_is : (img : List ℕ) (c w : ℕ) → ((k : ℕ) → Fits w8 (byte_at img k)) → w ≡ u32_at img c
    → w % 16777216 ≡ code_at img c
unfolding u32_at code_at
code_is img c w bytes e = rw e (low (byte_at img c) (byte_at img (c + 1)) (byte_at img (c + 2)) (byte_at img
    (c + 3)) (bytes c).fits (bytes (c + 1)).fits (bytes (c + 2)).fits)
  where
    low : (x y z t : ℕ) → x < 256 → y < 256 → z < 256 → (x + 256 * y + 65536 * z + 16777216 * t) % 16777216
        ≡ x + 256 * y + 65536 * z
    low x y z t hx hy hz = omega arith

pub entry_past : (img : List ℕ) (at : ℕ) → length img ≤ at → record { key = 0; addr = 0 } ≡ entry_at img at
unfolding entry_at
entry_past img at h = rw (← (u32_past img at h), ← (u32_past img (at + 4) (omega arith)))

pub entry_is : (img : List ℕ) (at k a : ℕ) → k ≡ u32_at img at → a ≡ u32_at img (at + 4) → record { key = k; addr = a }
    ≡ entry_at img at
unfolding entry_at
entry_is img at k a e f = rw (e, f)

-- the fields of a page; s is the byte at which its spare bytes begin
pub erased_is : (g : Geometry) (img : List ℕ) (p b n : ℕ) (r : Bool) → b ≡ page_base g p → n ≡ page_bytes g
    → r ≡ blank img b n → r ≡ erased g img p
unfolding erased
erased_is g img p b n r eb en er = er ∙ rw (eb, en)

pub spare_is : (g : Geometry) (p b m : ℕ) → b ≡ page_base g p → m ≡ g.main → b + m ≡ page_base g p + g.main
spare_is g p b m eb em = rw (eb, em)

pub seq_is : (g : Geometry) (img : List ℕ) (p s r : ℕ) → s ≡ page_base g p + g.main → r ≡ u32_at img s
    → r ≡ seq_at g img p
unfolding seq_at
seq_is g img p s r e er = er ∙ rw e

pub height_is : (g : Geometry) (img : List ℕ) (p s r : ℕ) → s ≡ page_base g p + g.main → r ≡ byte_at img (s + 4)
    → r ≡ height_at g img p
unfolding height_at
height_is g img p s r e er = er ∙ rw e

pub count_is : (g : Geometry) (img : List ℕ) (p l s k b r : ℕ) → s ≡ page_base g p + g.main → k ≡ l
    → b ≡ byte_at img (s + 4 + k) → r ≡ b
    → r ≡ count_at g img p l
unfolding count_at
count_is g img p l s k b r e ek eb er = er ∙ eb ∙ rw (e, ek)

-- n: the halves of a page, f: the place after their codes
module _ (g : Geometry) (img : List ℕ) (p a n f : ℕ) (ea : a ≡ page_bytes g) (en : n ≡ halves g) (ef : f ≡ code_place g n)
  where
    pub tail_none : a < f → true ≡ tail_at g img p
    unfolding tail_at blank
    tail_none h =
        let z : page_bytes g - code_place g (halves g) ≡ 0 = rw (← ea, ← en, ← ef) (omega arith) in
        sym (rw z)

    pub tail_is : (b : ℕ) (r : Bool) → b ≡ page_base g p → r ≡ blank img (b + f) (a - f) → r ≡ tail_at g img p
    unfolding tail_at
    tail_is b r eb er = er ∙ rw (eb, ea, ef, en)

pub place_is : (g : Geometry) (p l b f : ℕ) → b ≡ page_base g p → f ≡ first_slot g l → b + 8 * f ≡ node_place g p l
unfolding node_place
place_is g p l b f eb ef = rw (eb, ef)

-- pages of a block
pub pages_are : (p b r s : ℕ) → r ≡ p → s ≡ b → r * s ≡ p * b
pages_are p b r s e f = rw (e, f)

pub pages_below : (a b : ℕ) → a < 65536 → b < 65536 → a * b < 4294836226
pages_below a b ha hb = lt_of_le_of_lt (mul-le-mul {n₁ = a} {m₁ = b} {n₂ = 65535} {m₂ = 65535} (omega arith) (omega arith)) (omega arith)

pub pages_fit : (a b : ℕ) → a < 65536 → b < 65536 → Fits w32 (a * b)
pages_fit a b ha hb = record { fits = omega (arith, pages_below a b ha hb) }

-- the last page of a block
pub last_is : (g : Geometry) (img : List ℕ) (b w : ℕ) (r : Bool) → w ≡ g.pages * b + (g.pages - 1)
    → r ≡ erased g img w
    → r ≡ erased g img (g.pages * b + (g.pages - 1))
last_is g img b w r e er = er ∙ rw e

pub ruleset read_laws = (byte_past, u32_past, u32_is, code_is, entry_past, entry_is, erased_is, spare_is, seq_is, height_is, count_is, tail_none, tail_is, place_is, pages_are, pages_below, pages_fit, last_is)
