-- Request 8: insert and delete with the record. On a sound image with the record that opening gives for it, "answers
-- and bytes equal the old calls', and the record returned is what opening would then give", for every answer and every
-- allowance; the lent words are those of the old calls. LENGTH and STALE leave all as it was. g is one of the two chips
-- where `Known g` is asked. Assumes nothing.
use Rattle.std.specs.Prelude.{◌≡◌, true, false, ℕ, ◌<◌, ◌≤◌, length}
use Rattle.std.proofs.Math.Path.{refl}
use Rattle.std.proofs.Common.{le-leb}
use mathlib.Core.List.{List}
use Rattle.std.proofs.lemmas.Bool.{lt-leb}
use Rattle.geometry.specs.declared.Geometry.{Geometry}
use Rattle.geometry.specs.Shape.{Known}
use Rattle.geometry.specs.Tests.{and_false, and_none, and_both}
use Rattle.model.specs.Image.{blocks_of, good_length}
use Rattle.model.specs.Calls.{refused}
use Rattle.live_words.specs.Words.{words_of}
use Rattle.open_record.specs.declared.Opened.{Opened}
use Rattle.open_record.specs.Opened.{opened_in, standing}
use Rattle.live_beside.specs.Update.{Returned, returned}
use Rattle.live_beside.specs.Calls.{update_with, insert_with, delete_with}
use Rattle.theory_demands.specs.Words.{Ready}

-- ---- LENGTH and STALE: "nothing written; both return the record as given", and the words too
module _ (g : Geometry) (img old : List ℕ) (o : Opened) where
  -- a bad length, or "Fewer than B words"
  bad_length : (rest : Returned) → good_length g img ≡ false → update_with g img old o rest ≡ returned (refused 1 img) o
      old
  unfolding update_with
  bad_length rest e = rw (e, and_false _) refl

  few_words : (rest : Returned) → length old < words_of g (blocks_of g img) → update_with g img old o rest
      ≡ returned (refused 1 img) o old
  unfolding update_with
  few_words rest h = rw (lt-leb (words_of g (blocks_of g img)) (length old) h, and_none (good_length g img)) refl

  pub stale : (rest : Returned) → good_length g img ≡ true → words_of g (blocks_of g img) ≤ length old → standing g (blocks_of g img) img o ≡ false
      → update_with g img old o rest ≡ returned (refused 8 img) o old
  unfolding update_with
  stale rest e h s = rw (and_both _ _ e (le-leb (words_of g (blocks_of g img)) (length old) h), s) refl

  pub insert_length : (k a al : ℕ) → good_length g img ≡ false → insert_with g img old o k a al ≡ returned (refused 1 img)
      o old
  unfolding insert_with
  insert_length k a al e = bad_length _ e

  pub insert_few_words : (k a al : ℕ) → length old < words_of g (blocks_of g img) → insert_with g img old o k a al
      ≡ returned (refused 1 img) o old
  unfolding insert_with
  insert_few_words k a al h = few_words _ h

  pub delete_length : (k al : ℕ) → good_length g img ≡ false → delete_with g img old o k al ≡ returned (refused 1 img) o
      old
  unfolding delete_with
  delete_length k al e = bad_length _ e

  pub delete_few_words : (k al : ℕ) → length old < words_of g (blocks_of g img) → delete_with g img old o k al
      ≡ returned (refused 1 img) o old
  unfolding delete_with
  delete_few_words k al h = few_words _ h

-- ---- on a sound image with enough words
module _ (g : Geometry) (known : Known g) (img : List ℕ) (ready : Ready g img) (old : List ℕ)
    (enough : words_of g (blocks_of g img) ≤ length old) where
  abbrev n : ℕ
  n = blocks_of g img

  abbrev o : Opened
  o = opened_in g n img
