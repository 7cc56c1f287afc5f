-- Request 4 of the C call mutree_patrol, on both geometries, for every half that has a fitting code (on a sound image
-- every half has: `sound_fits` in crate theory_demands), with a result buffer of 24 bytes or more. Assumes nothing.
use Rattle.std.specs.Prelude.{◌≡◌, List, true, false, ℕ, ◌+◌, ◌*◌, ◌<◌, ◌≤◌, length, Option, Some}
use Rattle.std.proofs.Math.Path.{ap}
use Rattle.std.proofs.Common.{◌∙◌}
use Rattle.geometry.specs.declared.Geometry.{Geometry}
use Rattle.geometry.specs.Geometry.{chosen_of, code_place, page_base}
use Rattle.geometry.specs.Shape.{Shape, chosen_known}
use Rattle.geometry.proofs.Shape.{shape}
use Rattle.model.specs.Bytes.{byte_at}
use Rattle.model.specs.Codes.{fits, flip_bit}
use Rattle.model.specs.Calls.{Outcome, refused, is_half, patrol, chosen_call, patrol_of}
use Rattle.theory_demands.specs.Patrol.{finds, clean_half, data_bit_mended, code_bit_mended, two_bits_told}
use Rattle.camera.specs.Camera.{Left, returned}
use Rattle.theory_service.specs.Left.{on, other_unknown, whole, told_whole}

-- mutree_patrol
abbrev pub patrols : ℕ → List ℕ → ℕ → ℕ → List ℕ → Left
patrols kind image page half result = returned (patrol_of kind image page half) image result

-- a number that is no geometry's
pub no_geometry_patrol : (kind : ℕ) → 2 ≤ kind → (image : List ℕ) (page half : ℕ) (result : List ℕ) → 24 ≤ length result
    → patrols kind image page half result ≡ whole (refused 1 image) result
unfolding patrol_of chosen_call
no_geometry_patrol kind h image page half result room = told_whole (patrol_of kind image page half) image result room
    ∙ ap (λ (c : Option Geometry). whole (chosen_call c (λ g. patrol g image page half) (refused 1 image)) result) (other_unknown kind h)

module _ (kind : ℕ) (g : Geometry) (is : chosen_of kind ≡ Some g) (page half : ℕ) (result : List ℕ)
    (room : 24 ≤ length result) where
  -- the call is the patrol on that geometry
  pub patrol_call : (image : List ℕ) → patrols kind image page half result ≡ whole (patrol g image page half) result
  unfolding patrol_of
  patrol_call image = told_whole (patrol_of kind image page half) image result room
      ∙ ap (λ (o : Outcome). whole o result) (on kind g is (λ x. patrol x image page half) (refused 1 image))

  -- "A bad length, page or half gives LENGTH", and nothing changes
  pub no_half_patrol : (image : List ℕ) → is_half g image page half ≡ false → patrols kind image page half result
      ≡ whole (refused 1 image) result
  unfolding patrol
  no_half_patrol image e = patrol_call image ∙ ap (λ (o : Outcome). whole o result) (rw e)

  formed : Shape g
  formed = shape g (chosen_known kind g is)

  -- the first byte of the half, and of its code
  abbrev from : ℕ
  from = page_base g page + 256 * half

  abbrev code : ℕ
  code = page_base g page + code_place g half

  module _ (image : List ℕ) (asked : is_half g image page half ≡ true)
      (ok : fits image from code ≡ true) where
    abbrev one : ℕ → List ℕ
    one n = flip_bit image from n

    abbrev two : ℕ → ℕ → List ℕ
    two n m = flip_bit (one n) from m

    pub clean_patrol : patrols kind image page half result ≡ whole (finds 0 0 image) result
    clean_patrol = patrol_call image ∙ ap (λ (o : Outcome). whole o result) (clean_half g formed image page half asked ok)

    -- one flipped bit is put right: told with its number, and the image is as before the flip
    pub data_bit_patrol : (n : ℕ) → n < 2048 → patrols kind (one n) page half result ≡ whole (finds 1 n image) result
    data_bit_patrol n h = patrol_call (one n)
        ∙ ap (λ (o : Outcome). whole o result) (data_bit_mended g formed image page half asked ok n h)

    pub code_bit_patrol : ((i : ℕ) → byte_at image i < 256) → (j : ℕ) → j < 24
        → patrols kind (flip_bit image code j) page half result ≡ whole (finds 2 j image) result
    code_bit_patrol bytes j h = patrol_call (flip_bit image code j)
        ∙ ap (λ (o : Outcome). whole o result) (code_bit_mended g formed image page half asked ok bytes j h)

    -- two flipped data bits are told, and nothing changes
    pub two_bits_patrol : (n m : ℕ) → n < 2048 → m < 2048 → (n ≡ m → ⊥)
        → patrols kind (two n m) page half result ≡ whole (finds 3 0 (two n m)) result
    two_bits_patrol n m h k d = patrol_call (two n m)
        ∙ ap (λ (o : Outcome). whole o result) (two_bits_told g formed image page half asked ok n m h k d)
