-- Images reached from format by insertions and deletions, with the record that opening gives or without one, each with
-- any allowance, so stopped and refused ones too: they are sound by R1 to R8, so T − L is at least twice a block's
-- pages. Assumes nothing.
use Rattle.std.specs.Prelude.{◌≡◌, refl, false, ℕ, ◌+◌, ◌-◌, ◌*◌, ◌<◌, ◌≤◌}
use Rattle.std.proofs.Common.{arith}
use mathlib.Core.List.{List, [], ◌∷◌}
use borrow.Author.Tests.{le-ltb}
use Rattle.geometry.specs.declared.Geometry.{Geometry}
use Rattle.geometry.specs.Geometry.{small, large}
use Rattle.geometry.specs.Shape.{Shape, shape_core}
use Rattle.geometry.proofs.Shape.{shape}
use Rattle.geometry.specs.Bounds.{four_bytes}
use Rattle.model.specs.Image.{blocks_of, chip_of}
use Rattle.model.specs.Calls.{Outcome, roomless, free_pages, insert, delete}
use Rattle.open_record.specs.Opened.{opened}
use Rattle.live_beside.specs.Calls.{insert_with, delete_with}
use Rattle.theory_chips.specs.Whole.{some_page}
use Rattle.theory_demands.specs.Words.{Ready}
use Rattle.theory_demands.specs.Bridges.{ready_keeps}

-- a call with its arguments; `allowance` is the most stores it may make. Without a record, or with the lent words and
-- the record that opening gives for the image (request 8)
pub data Call : Type 0 where
  put : ℕ → ℕ → ℕ → Call
  take : ℕ → ℕ → Call
  put_opened : List ℕ → ℕ → ℕ → ℕ → Call
  take_opened : List ℕ → ℕ → ℕ → Call

-- keys and addresses below 2^32
abbrev pub Low : Call → Type 0
Low (put k a allowance) = (k < four_bytes) × (a < four_bytes)
Low (take k allowance) = k < four_bytes
Low (put_opened words k a allowance) = (k < four_bytes) × (a < four_bytes)
Low (take_opened words k allowance) = k < four_bytes

abbrev pub outcome : Geometry → List ℕ → Call → Outcome
outcome g img (put k a allowance) = insert g img k a allowance
outcome g img (take k allowance) = delete g img k allowance
outcome g img (put_opened words k a allowance) = (insert_with g img words (opened g img) k a allowance).outcome
outcome g img (take_opened words k allowance) = (delete_with g img words (opened g img) k allowance).outcome

-- the image after the calls, one after the other
unfoldable pub reached : Geometry → List Call → List ℕ → List ℕ
reached g [] img = img
reached g (x ∷ xs) img = reached g xs (outcome g img x).image

module _ (g : Geometry) (shape : Shape g) where
  -- R8 of a sound image
  pub sound_room : (img : List ℕ) → Ready g img → 2 * g.pages ≤ free_pages g (blocks_of g img)
      (chip_of g (blocks_of g img) img)
  sound_room img h = let z = (ready_keeps g shape img h).r8 in omega (arith, z)

  -- so a deletion, which needs one page, is never short of room
  pub delete_roomy : (img : List ℕ) → Ready g img
      → roomless g (free_pages g (blocks_of g img) (chip_of g (blocks_of g img) img)) 1 ≡ false
  unfolding roomless
  delete_roomy img h = let z = sound_room img h in let p = some_page g (shape_core g shape) in
      le-ltb (free_pages g (blocks_of g img) (chip_of g (blocks_of g img) img)) (2 * g.pages - 1 + 1) (omega (arith, z, p))

-- "at least 64 (128 in the large geometry)"
pub room_numbers : (2 * small.pages ≡ 64) × (2 * large.pages ≡ 128)
room_numbers = (refl, refl)
