-- Request 8: insert and delete with the record. On a sound image with the record that opening gives for it, "answers
-- and bytes equal the old calls', and the record returned is what opening would then give", for every answer and every
-- allowance; the lent words are those of the old calls. LENGTH and STALE leave all as it was. g is one of the two chips
-- where `Known g` is asked. Assumes nothing.
use Rattle.std.specs.Prelude.{◌≡◌, true, false, ℕ, ◌<◌, ◌≤◌, length}
use Rattle.std.proofs.Math.Path.{refl, ap, sym, subst}
use Rattle.std.proofs.Common.{◌∙◌, arith, le-leb}
use mathlib.Core.List.{List}
use Rattle.std.proofs.Math.Nat.{mul-le-mul_left}
use Rattle.std.proofs.lemmas.List.{length-replicate, get_or-replicate}
use Rattle.geometry.specs.declared.Geometry.{Geometry}
use Rattle.geometry.specs.Shape.{Known, Shape}
use Rattle.geometry.proofs.Shape.{shape}
use Rattle.geometry.specs.Tests.{and_both}
use Rattle.geometry.specs.Bounds.{four_bytes}
use Rattle.model.specs.Image.{blocks_of, good_length, Chip, chip_of}
use Rattle.model.specs.Tree.{Place, places_of, live}
use Rattle.model.specs.Calls.{Outcome, refused, insert_rest, delete_rest, insert, delete}
use Rattle.theory_images.proofs.Few.{known_few}
use Rattle.theory_images.specs.Held.{Held}
use Rattle.theory_images.specs.Lengths.{blocks_same}
use Rattle.live_walk.specs.Table.{note_all, Zeros, Marked}
use Rattle.live_walk.specs.Lows.{note_length, noted_lows}
use Rattle.live_words.specs.Words.{words_of, Told, Past}
use Rattle.live_words.specs.Live.{Reply, live_words, insert_live, delete_live}
use Rattle.live_words.specs.Ones.{whole_words}
use Rattle.live_words.specs.Filled.{filled_past, filled_told}
use Rattle.open_record.specs.declared.Opened.{Opened}
use Rattle.open_record.specs.Opened.{opened_in, opened, standing}
use Rattle.live_beside.specs.Update.{Returned, returned, places_by, words_by, insert_by, delete_by}
use Rattle.live_beside.specs.Calls.{no_levels, held_by, update_with, insert_with, delete_with}
use Rattle.theory_updates.specs.CollectBy.{Tells}
use Rattle.theory_updates.specs.Records.{places_by_lem, words_by_lem}
use Rattle.theory_demands.specs.Words.{Ready}
use Rattle.theory_demands.specs.Bridges.{blocks, some_pages, ready_keeps}
use Rattle.theory_demands.specs.Calls.{judged_ready}
use Rattle.theory_demands.proofs.Stays.{insert_ready, delete_ready}
use Rattle.theory_demands.specs.Stays.{insert_long, delete_long}
use Rattle.theory_demands.specs.Live.{insert_by_lem, delete_by_lem, insert_replies}
use Rattle.theory_demands.proofs.Live.{delete_replies}
use Rattle.theory_demands.specs.Opened.{opened_ready, standing_opened}
use Rattle.theory_demands.specs.OpenedCalls.{stale}

module _ (g : Geometry) (img old : List ℕ) (o : Opened) where
  standing_rest : (rest : Returned) → good_length g img ≡ true → words_of g (blocks_of g img) ≤ length old
      → standing g (blocks_of g img) img o ≡ true
      → update_with g img old o rest ≡ rest
  unfolding update_with
  standing_rest rest e h s = rw (and_both _ _ e (le-leb (words_of g (blocks_of g img)) (length old) h), s) refl

  pub insert_stale : (k a al : ℕ) → good_length g img ≡ true → words_of g (blocks_of g img) ≤ length old
      → standing g (blocks_of g img) img o ≡ false
      → insert_with g img old o k a al ≡ returned (refused 8 img) o old
  unfolding insert_with
  insert_stale k a al e h s = stale g img old o _ e h s

  pub delete_stale : (k al : ℕ) → good_length g img ≡ true → words_of g (blocks_of g img) ≤ length old
      → standing g (blocks_of g img) img o ≡ false
      → delete_with g img old o k al ≡ returned (refused 8 img) o old
  unfolding delete_with
  delete_stale k al e h s = stale g img old o _ e h s

-- levels of which none is noted
no_zeros : Zeros no_levels (length no_levels)
unfolding no_levels
no_zeros = record { zeros = λ p h. get_or-replicate 65536 p 0 0 (subst (λ m. p < m) (length-replicate {A = ℕ} 65536 0) h) }

no_long : length no_levels ≡ 65536
unfolding no_levels
no_long = length-replicate {A = ℕ} 65536 0

module _ (g : Geometry) (known : Known g) (img : List ℕ) (ready : Ready g img) (old : List ℕ)
    (enough : words_of g (blocks_of g img) ≤ length old) where
  abbrev n : ℕ
  n = blocks_of g img

  abbrev c : Chip
  c = chip_of g n img

  abbrev o : Opened
  o = opened_in g n img

  abbrev shaped : Shape g
  shaped = shape g known

  held : Held g n img
  held = (ready_keeps g shaped img ready).held

  -- the table worked out from the record is right
  places_are : places_by g img o ≡ places_of c
  places_are = places_by_lem g shaped (known_few g known) n img (some_pages g shaped img ready) held

  words_are : words_by g n o img old ≡ live_words g n img old
  words_are = words_by_lem g shaped (known_few g known) n img old (some_pages g shaped img ready) held

  past_is : Past (words_of g n) old (words_by g n o img old)
  unfolding live_words
  past_is = subst (Past (words_of g n) old) (sym words_are) (filled_past (live (places_of c)) (words_of g n) old)

  tells : Tells g n img (held_by g n o img old)
  unfolding live_words
  tells = record {
    at_is = refl;
    right = record {
      room = (let a = mul-le-mul_left g.pages (blocks g shaped img ready).most in let b = shaped.pages_high in
          let d = note_length (places_by g img o) no_levels in omega (arith, a, b, d, no_long));
      marked = subst (λ (x : List Place). Marked c (note_all x no_levels)) (sym places_are) (noted_lows c no_levels no_zeros);
      told = subst (Told (live (places_of c)) (words_of g n)) (sym words_are) (filled_told (live (places_of c)) (words_of g n) old enough);
    };
  }

  -- with the record that opening gives
  given : (f : Opened → Returned) → update_with g img old (opened g img) (f (opened g img)) ≡ f o
  given f = standing_rest g img old (opened g img) (f (opened g img)) ready.length_good enough (standing_opened g shaped img ready)
      ∙ ap f (opened_ready g img ready)

  -- the record that is left is what opening then gives
  record_is : (x y : Outcome) → x ≡ y → length y.image ≡ length img → Ready g x.image
      → opened_in g n y.image ≡ opened g x.image
  record_is x y e long r = sym (opened_ready g x.image r
      ∙ ap (λ (z : Outcome). opened_in g (blocks_of g z.image) z.image) e
      ∙ ap (λ m. opened_in g m y.image) (blocks_same g img y.image long))

  pub insert_same : (k a al : ℕ) → k < four_bytes → a < four_bytes
      → insert_with g img old (opened g img) k a al
      ≡ returned (insert g img k a al) (opened g (insert g img k a al).image) (insert_live g img old k a al).words
  unfolding insert_with insert
  insert_same k a al k_low a-low =
      let h = held_by g n o img old in
      let rest = insert_rest g n img k a al in
      let by = insert_by_lem g shaped (whole_words g known) n img ready.length_good refl ready.bytes ready.is_sound_lem h tells known k a al k_low a-low in
      let says = insert_replies g shaped (whole_words g known) n img ready.length_good refl ready.bytes ready.is_sound_lem h tells known old past_is k a al
      k_low a-low in
      let words = sym (ap (λ (x : Returned). x.words) by) ∙ ap (λ (x : Reply). x.words) says in
      let e : insert g img k a al ≡ rest = judged_ready g img rest ready in
      let left = record_is (insert g img k a al) rest e (insert_long g n img k a al) (insert_ready g shaped img ready k a al k_low a-low) in
      given (λ r. insert_by g n (held_by g n r img old) img k a al) ∙ by ∙ (λ i. returned (sym e i) (left i) (words i))

  pub delete_same : (k al : ℕ) → k < four_bytes
      → delete_with g img old (opened g img) k al ≡ returned (delete g img k al) (opened g (delete g img k al).image)
      (delete_live g img old k al).words
  unfolding delete_with delete
  delete_same k al k_low =
      let h = held_by g n o img old in
      let rest = delete_rest g n img k al in
      let by = delete_by_lem g shaped (whole_words g known) n img ready.length_good refl ready.bytes ready.is_sound_lem h tells known k al k_low in
      let says = delete_replies g shaped (whole_words g known) n img ready.length_good refl ready.bytes
      ready.is_sound_lem h tells known old past_is k al k_low in
      let words = sym (ap (λ (x : Returned). x.words) by) ∙ ap (λ (x : Reply). x.words) says in
      let e : delete g img k al ≡ rest = judged_ready g img rest ready in
      let left = record_is (delete g img k al) rest e (delete_long g n img k al) (delete_ready g shaped img ready k al k_low) in
      given (λ r. delete_by g n (held_by g n r img old) img k al) ∙ by ∙ (λ i. returned (sym e i) (left i) (words i))
