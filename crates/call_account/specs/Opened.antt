-- A call with the record, in the form in which the code has the premises: `rest` is what is given where the record
-- stands. Assumes nothing.
use Rattle.std.specs.Prelude.{ℕ, ◌<◌, ◌≤◌, Bool, true, false, not, ◌≡◌, refl, List, length}
use Rattle.std.proofs.Math.Path.{sym}
use Rattle.std.proofs.Common.{ap, ◌∙◌}
use borrow.Author.Tests.{not-true, not-false, lt-leb, le-leb}
use Rattle.geometry.specs.declared.Geometry.{Geometry}
use Rattle.geometry.specs.Tests.{and_true, and_false, and_none}
use Rattle.model.specs.Tree.{live}
use Rattle.model.specs.Calls.{refused}
use Rattle.chip_read.specs.Chip.{good_blocks}
use Rattle.chip_read.specs.Blocks.{none_good, some_good, some_blocks}
use Rattle.live_words.specs.Words.{words_of, Past}
use Rattle.live_words.specs.Filled.{filled_past}
use Rattle.open_record.specs.declared.Opened.{Opened}
use Rattle.open_record.specs.Opened.{standing}
use Rattle.live_beside.specs.Table.{table_in}
use Rattle.live_beside.specs.Beside.{holding}
use Rattle.live_beside.specs.Update.{Returned, returned, places_by, words_by}
use Rattle.live_beside.specs.Calls.{held_by, update_with}
use Rattle.call_account.specs.Account.{levels_by, held_of}

module _ (g : Geometry) (img old : List ℕ) (o : Opened) (rest : Returned) (n : ℕ) (en : n ≡ good_blocks g img) where
  -- LENGTH, for the image
  pub opened_length : n ≡ 0 → returned (refused 1 img) o old ≡ update_with g img old o rest
  unfolding update_with
  opened_length z = sym (rw (none_good g img n en z, and_false))

  module _ (some : n ≡ 0 → ⊥) where
    -- LENGTH, for the words
    pub opened_short : length old < words_of g n → returned (refused 1 img) o old ≡ update_with g img old o rest
    unfolding update_with
    opened_short h = sym (rw (← (some_blocks g img n en some), lt-leb (words_of g n) (length old) h, and_none))

    module _ (room : words_of g n ≤ length old) (t : Bool) (et : t ≡ standing g n img o) where
      -- STALE
      pub opened_stale : not t ≡ true → returned (refused 8 img) o old ≡ update_with g img old o rest
      unfolding update_with
      opened_stale q =
          sym (rw (some_good g img n en some, ← (some_blocks g img n en some), le-leb (words_of g n) (length old) room, and_true, ← et, not-true t q))

      pub opened_rest : not t ≡ false → rest ≡ update_with g img old o rest
      unfolding update_with
      opened_rest q =
          sym (rw (some_good g img n en some, ← (some_blocks g img n en some), le-leb (words_of g n) (length old) room, and_true, ← et, not-false t q))

      pub opened_stands : not t ≡ false → standing g n img o ≡ true
      opened_stands q = sym et ∙ not-false t q

-- words filled by the record stay past the image's
pub told_past : (g : Geometry) (n : ℕ) (o : Opened) (img old : List ℕ) → Past (words_of g n) old (words_by g n o img old)
unfolding words_by
told_past g n o img old = filled_past (live (places_by g img o)) (words_of g n) old

-- what is held once the words are told
pub held_told : (g : Geometry) (n : ℕ) (o : Opened) (img old words : List ℕ) → words ≡ words_by g n o img old
    → holding o (table_in (levels_by g img o) words) ≡ held_of g n o img old
held_told g n o img old words e = ap (λ (w : List ℕ). holding o (table_in (levels_by g img o) w)) e

-- it is what the definition of the call holds
pub held_is : (g : Geometry) (n : ℕ) (o : Opened) (img old : List ℕ) → held_of g n o img old ≡ held_by g n o img old
unfolding levels_by
held_is g n o img old = refl
