-- Request 1 of the C call mutree_list, for every image of bytes, every two buffers and keys of 32 bits: what it
-- refuses, and on a sound image the map's part between the keys. `between`, `filled`, `written_of` are of crate model.
-- Assumes nothing.
use Rattle.std.specs.Prelude.{◌≡◌, List, true, false, ℕ, ◌<◌, ◌≤◌, length, Option, Some}
use Rattle.std.proofs.Common.{ap, ◌∙◌, arith}
use Rattle.geometry.specs.declared.Geometry.{Geometry}
use Rattle.geometry.specs.declared.Entry.{Entry}
use Rattle.geometry.specs.Findings.{broken_at}
use Rattle.geometry.specs.Geometry.{chosen_of}
use Rattle.geometry.specs.Shape.{Known, chosen_known}
use Rattle.geometry.proofs.Shape.{shape}
use Rattle.geometry.specs.Bounds.{four_bytes}
use Rattle.model.specs.Image.{blocks_of, good_length}
use Rattle.model.specs.Rules.{verdict}
use Rattle.model.specs.Calls.{chosen_call}
use Rattle.model.specs.Listing.{between, written_of, filled, Listed, lists, lists_none, listing, list_of, as_outcome}
use Rattle.theory_demands.specs.Words.{Ready, map_at}
use Rattle.theory_demands.specs.Listing.{list_bad_length, list_not_sound, listing_lists, walk_between}
use Rattle.call_list.specs.Few.{few_pairs}
use Rattle.camera.specs.Camera.{Left}
use Rattle.theory_service.specs.Left.{lists_pairs, other_unknown, on, answer_in, exist_in, written_in, short, whole, told_whole, told_short, told_number}

-- a result buffer that is too short gives 1 and leaves both buffers
pub list_short : (kind : ℕ) (image : List ℕ) (low high : ℕ) (pairs result : List ℕ) → length result < 24
    → lists_pairs kind image low high pairs result ≡ short pairs result
list_short kind image low high pairs result h = told_short (as_outcome (list_of kind image low high pairs)) pairs result h

-- else the result buffer takes the numbers of the listing, and the pairs are those of its buffer
module _ (kind : ℕ) (image : List ℕ) (low high : ℕ) (pairs result : List ℕ) (room : 24 ≤ length result) where
  leaves : (l : Listed) → list_of kind image low high pairs ≡ l → lists_pairs kind image low high pairs result
      ≡ whole (as_outcome l) result
  leaves l e = told_whole (as_outcome (list_of kind image low high pairs)) pairs result room
      ∙ ap (λ (x : Listed). whole (as_outcome x) result) e

  -- a number that is no geometry's, or a bad length: 1, both counts 0, the pairs untouched
  pub list_no_geometry : 2 ≤ kind → lists_pairs kind image low high pairs result
      ≡ whole (as_outcome (lists_none 1 0 0 pairs)) result
  unfolding list_of chosen_call
  list_no_geometry h = leaves (lists_none 1 0 0 pairs)
      (ap (λ (c : Option Geometry). chosen_call c (λ g. listing g image low high pairs) (lists_none 1 0 0 pairs)) (other_unknown kind h))

  module _ (g : Geometry) (is : chosen_of kind ≡ Some g) where
    at : list_of kind image low high pairs ≡ listing g image low high pairs
    unfolding list_of
    at = on kind g is (λ x. listing x image low high pairs) (lists_none 1 0 0 pairs)

    pub list_length : good_length g image ≡ false → lists_pairs kind image low high pairs result
        ≡ whole (as_outcome (lists_none 1 0 0 pairs)) result
    list_length e = leaves (lists_none 1 0 0 pairs) (at ∙ list_bad_length g image low high pairs e)

    -- an image that is not sound: 2, both counts 0, the verdict's rule and page, the pairs untouched
    pub list_damaged : (rule page : ℕ) → good_length g image ≡ true → verdict g (blocks_of g image) image ≡ broken_at rule
        page
        → lists_pairs kind image low high pairs result ≡ whole (as_outcome (lists_none 2 rule page pairs)) result
    list_damaged rule page e d = leaves (lists_none 2 rule page pairs) (at
        ∙ list_not_sound g image low high pairs rule page e d)

    -- ---- a sound image
    module _ (ready : Ready g image) where
      abbrev part : List Entry
      part = between low high (map_at g image)

      known : Known g
      known = chosen_known kind g is

      -- "The list is exactly the map's part between the keys"
      pub list_call : lists_pairs kind image low high pairs result ≡ whole (as_outcome (lists part pairs)) result
      list_call = leaves (lists part pairs) (at ∙ listing_lists g (shape g known) image ready low high pairs)

      -- so the pairs are the first of it, as many as fit, and the numbers beyond stay
      pub list_pairs : (lists_pairs kind image low high pairs result).image ≡ filled part pairs
      list_pairs = ap (λ (l : Left). l.image) list_call

      few : length part < four_bytes
      few =
          let w = few_pairs g (blocks_of g image) image low high known ready.is_sound_lem in
          let q = ap length (walk_between g (shape g known) image ready low high) in
          omega (arith, w, q)

      -- the numbers read in the result buffer: 0, pairs that exist, pairs written
      pub list_answer : answer_in (lists_pairs kind image low high pairs result).result ≡ 0
      list_answer = ap (λ (l : Left). answer_in l.result) list_call
          ∙ told_number (as_outcome (lists part pairs)) result room 0 (omega arith) (omega arith)

      pub list_exist : exist_in (lists_pairs kind image low high pairs result).result ≡ length part
      list_exist = ap (λ (l : Left). exist_in l.result) list_call
          ∙ told_number (as_outcome (lists part pairs)) result room 1 (omega arith) few

      pub list_written : written_in (lists_pairs kind image low high pairs result).result ≡ written_of part pairs
      list_written = ap (λ (l : Left). written_in l.result) list_call
          ∙ told_number (as_outcome (lists part pairs)) result room 2 (omega arith) (let w = few in omega (arith, w))
