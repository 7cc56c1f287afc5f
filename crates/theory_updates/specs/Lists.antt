-- The whole lists: collection, then the update's own pages. Assumes nothing.
use Rattle.std.specs.Prelude.{◌≡◌, List, false, is_none}
use Rattle.std.proofs.Common.{mul-le-mul_left, mul-le-mul_right}
use Prim.Native.Nat.{ℕ, suc, ◌+◌, ◌-◌, ◌*◌, ◌<◌, ◌≤◌}
use native.Mathlib.Omega.{arith}
use borrow.Author.Tests.{ltb-false}
use Rattle.geometry.specs.declared.Geometry.{Geometry}
use Rattle.geometry.specs.declared.Entry.{Entry}
use Rattle.geometry.specs.Shape.{Shape, shape_core}
use Rattle.geometry.specs.Bounds.{four_bytes}
use Rattle.model.specs.Count.{count}
use Rattle.model.specs.Image.{pages_of, max_seq, Chip, chip_of}
use Rattle.model.specs.Tree.{places_of, live, sought}
use Rattle.model.specs.Update.{needs, too_high}
use Rattle.model.specs.Calls.{worn, roomless, free_pages}
use Rattle.theory_chips.specs.Whole.{some_page}
use Rattle.theory_chips.specs.Insertion.{needs_is, needs_top}
use Rattle.theory_images.specs.Held.{height_most}
use Rattle.theory_updates.specs.Along.{Keeps}

pub not_worn : (g : Geometry) (n : ℕ) (img : List ℕ) → worn g n img ≡ false → max_seq g n img ≤ g.worn
unfolding worn
not_worn g n img h = ltb-false g.worn (max_seq g n img) h

-- programs of a list of at most k + 1 rounds and k own pages
abbrev pub program_most : Geometry → ℕ → ℕ
program_most g k = suc k * (g.pages - 1) + k

module _ (g : Geometry) (shape : Shape g) (n : ℕ) (few : pages_of g n + g.pages < four_bytes) (base : List Entry)
    (img : List ℕ)
    (keeps : Keeps g n base img) (unworn : max_seq g n img ≤ g.worn) where
  abbrev c : Chip
  c = chip_of g n img

  abbrev t : ℕ
  t = pages_of g n

  -- an image that is not WORN has numbers left for k + 1 rounds and k own pages
  pub numbers : (k : ℕ) → k ≤ g.top → (max_seq g n img + suc k * g.pages < 4294967295) ×
      (max_seq g n img + (suc k * (g.pages - 1) + k) < 4294967295)
  numbers k h =
      let a : suc k * g.pages ≤ (g.top + 1) * g.pages = mul-le-mul_right g.pages (let z : suc k ≤ g.top + 1 =
      omega (arith, h) in z) in
      let b : suc k * (g.pages - 1) ≤ suc k * g.pages = mul-le-mul_left (suc k) (let z : g.pages - 1 ≤ g.pages =
      omega arith in z) in
      let w = shape.worn_low in
      (omega (arith, a, w, unworn), omega (arith, a, b, w, h, unworn))

  -- not ROOM
  pub roomy : (k : ℕ) → 1 ≤ k → roomless g (free_pages g n c) k ≡ false
      → count t (live (places_of c)) + (2 * g.pages + k) ≤ suc t
  unfolding roomless
  roomy k h r = let z = ltb-false (free_pages g n c) (2 * g.pages - 1 + k) r in let p =
      some_page g (shape_core g shape) in omega (arith, z, p, h)

  -- an insertion
  module _ (some_pages : 1 ≤ t) (k a : ℕ) (k_low : k < four_bytes) (a-low : a < four_bytes) (not-high : too_high g c k
      ≡ false)
      (not-room : roomless g (free_pages g n c) (needs g c k) ≡ false) where
    abbrev m : ℕ
    m = needs g c k

    pub m_top : m ≤ g.top
    m_top = needs_top g shape n k a k_low c keeps.held.whole (height_most g (shape_core g shape) n img some_pages keeps.held)

    pub m_some : 1 ≤ m
    m_some = let z = needs_is g shape n k a k_low c keeps.held.whole in omega (arith, z)

  -- a deletion
  module _ (some_pages : 1 ≤ t) (k : ℕ) (k_low : k < four_bytes) (present : is_none (sought c k) ≡ false) where
    pub one_top : 1 ≤ g.top
    one_top = let z = shape.top_low in omega (arith, z)
