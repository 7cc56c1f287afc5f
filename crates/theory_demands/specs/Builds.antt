-- The bad builds that document 01 names, excluded on a formatted image: no single answer fits, and a finished insertion
-- has written. An update that has room finishes if its allowance is large enough. Assumes nothing.
use Rattle.std.specs.Prelude.{◌≡◌, true}
use Rattle.std.proofs.Math.Path.{ap}
use Rattle.std.proofs.Common.{sym, subst, ◌∙◌}
use mathlib.Core.List.{List, []}
use Prim.Native.Nat.{ℕ, ◌+◌, ◌-◌, ◌<◌, ◌≤◌}
use Rattle.std.proofs.Math.ListN.{length}
use Rattle.geometry.specs.declared.Geometry.{Geometry}
use Rattle.geometry.specs.declared.Entry.{Entry}
use Rattle.geometry.specs.Shape.{Shape, shape_core}
use Rattle.geometry.specs.Bounds.{four_bytes}
use Rattle.model.specs.Bytes.{byte_at}
use Rattle.model.specs.Image.{blocks_of, good_length, chip_of}
use Rattle.model.specs.Tree.{map_of, find}
use Rattle.model.specs.Rules.{verdict}
use Rattle.model.specs.Stores.{apply_all}
use Rattle.model.specs.Update.{format_stores}
use Rattle.model.specs.Calls.{refused, answered, lookup, worn, format}
use Rattle.theory_images.specs.Held.{held_sound}
use Rattle.theory_images.specs.Lengths.{Blocks, good_blocks_lem, blocks_same, length_same, length_all}
use Rattle.theory_updates.specs.Along.{Keeps}
use Rattle.theory_updates.specs.Format.{formatted_keeps}
use Rattle.theory_demands.specs.Words.{Ready, Holds, programmed_most, erased_most}
use Rattle.theory_demands.specs.Refusals.{format_image}
use Rattle.theory_demands.specs.Demands.{lookup_answers}

-- ---- every store is a program or an erase

-- the most stores of an update: 197 on the small chip, 519 on the large one
abbrev pub stores_most : Geometry → ℕ
stores_most g = programmed_most g + erased_most g

-- ---- a formatted image
module _ (g : Geometry) (shape : Shape g) (some-worn : 1 ≤ g.worn) (img : List ℕ)
    (length_good : good_length g img ≡ true)
    (bytes : (i : ℕ) → byte_at img i < 256) where
  abbrev new : List ℕ
  new = (format g img).image

  abbrev b : ℕ
  b = blocks_of g img

  abbrev good : Blocks g img
  good = good_blocks_lem g img length_good

  pub new_is : (format g img).image ≡ apply_all g (format_stores g b) img
  new_is = format_image g img length_good

  new_length : length new ≡ length img
  new_length = ap length new_is ∙ length_all g (format_stores g b) img

  pub new_blocks : blocks_of g new ≡ b
  new_blocks = blocks_same g img new new_length

  keeps_new : Keeps g b [] new
  keeps_new = subst (Keeps g b []) (sym new_is) (formatted_keeps g (shape_core g shape) b good.least img good.image bytes)

  pub new_ready : Ready g new
  new_ready = record {
    length_good = length_same g img new new_length ∙ length_good;
    is_sound_lem = ap (λ m. verdict g m new) new_blocks
        ∙ held_sound g shape b new keeps_new.held keeps_new.r7 keeps_new.r8;
    bytes = keeps_new.held.bytes;
  }

  -- it is sound and its map is empty
  pub format_holds : Holds g [] new
  format_holds = record { ready = new_ready; map_is = ap (λ m. map_of (chip_of g m new)) new_blocks ∙ keeps_new.map_is }

  module _ (k a al : ℕ) (k_low : k < four_bytes) (a-low : a < four_bytes) (allowed : stores_most g ≤ al) where
    -- a lookup answers ABSENT
    pub first_lookup : lookup g new k ≡ refused 4 new
    unfolding answered find
    first_lookup = lookup_answers g shape new new_ready k k_low
        ∙ ap (λ (m : List Entry). answered (find k m) new) format_holds.map_is
