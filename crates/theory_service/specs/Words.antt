-- Request 7 of the C calls mutree_insert and mutree_delete, for every image, number of a chip, lent words and result
-- buffer: what they leave of the words. `Told`, `Past`, `block_ones` are of crate live_words. Assumes nothing.
use Rattle.std.specs.Prelude.{◌≡◌, List, ◌⊎◌, ℕ, ◌<◌, ◌≤◌, length, None, Option, Some}
use Rattle.std.proofs.Math.Path.{refl, ap}
use Rattle.std.proofs.Common.{sym, subst, ◌∙◌}
use Rattle.geometry.specs.declared.Geometry.{Geometry}
use Rattle.geometry.specs.Geometry.{chosen_of}
use Rattle.geometry.specs.Shape.{chosen_known}
use Rattle.model.specs.Image.{blocks_of, chip_of}
use Rattle.model.specs.Tree.{places_of, live}
use Rattle.model.specs.Collect.{lives_in}
use Rattle.model.specs.Calls.{Outcome, refused, insert, delete, chosen_call}
use Rattle.theory_counts.specs.Least.{by_lt}
use Rattle.live_words.specs.Words.{words_of, block_ones, Told, Past}
use Rattle.live_words.specs.Live.{Reply, reply, insert_live, delete_live, insert_live_of, delete_live_of}
use Rattle.live_words.specs.Ones.{whole_words, block_ones_lem}
use Rattle.live_words.specs.Filled.{past_none}
use Rattle.theory_demands.specs.Live.{Lent}
use Rattle.theory_demands.proofs.Live.{insert_live_lem, delete_live_lem}
use Rattle.camera.specs.Camera.{Left, returned, words_left}
use Rattle.theory_service.specs.Left.{inserts, deletes, insert_words, delete_words, other_unknown, on, short, whole, told, told_whole, told_short, words_whole, words_kept}

-- a call that was lent the words `old` leaves l and `words`
pub record Lends (kind : ℕ) (image old result : List ℕ) (l : Left) (words : List ℕ) : Type 0 where
  -- a result buffer that is too short gives 1 and leaves the image, the words and the buffer
  pub short_buffer : length result < 24 → (l ≡ short image result) × (words ≡ old)
  -- so does a number that is no geometry's, and it is told
  pub no_geometry : 24 ≤ length result → 2 ≤ kind → (l ≡ whole (refused 1 image) result) × (words ≡ old)
  -- "Fewer than B words give LENGTH", and nothing is touched
  pub words_short : (g : Geometry) → chosen_of kind ≡ Some g → 24 ≤ length result → length old < words_of g
      (blocks_of g image)
      → (l ≡ whole (refused 1 image) result) × (words ≡ old)
  -- LENGTH and DAMAGED, "which leave it"
  pub words_left : (l.answer ≡ 1) ⊎ (l.answer ≡ 2) → words ≡ old
  -- "words past B stay"
  pub words_past : (g : Geometry) → chosen_of kind ≡ Some g → Past (words_of g (blocks_of g image)) old words
  -- every other answer leaves the words worked out afresh from the image that is left
  pub words_told : (g : Geometry) → chosen_of kind ≡ Some g → (l.answer ≡ 1 → ⊥) → (l.answer ≡ 2 → ⊥)
      → Told (live (places_of (chip_of g (blocks_of g image) l.image))) (words_of g (blocks_of g image)) words
  -- "A block's live pages are then the count of ones in its word"
  pub live_counts : (g : Geometry) → chosen_of kind ≡ Some g → (l.answer ≡ 1 → ⊥) → (l.answer ≡ 2 → ⊥) → (b : ℕ)
      → b < blocks_of g image
      → block_ones g words b ≡ lives_in g.pages b (chip_of g (blocks_of g image) l.image)

-- a call on any geometry, with what it promises there
module _ (kind : ℕ) (image old result : List ℕ) (o : Geometry → Outcome) (call : Geometry → Reply)
    (lent : (g : Geometry) → Lent g image old (o g) (call g)) where
  abbrev chosen : Reply
  chosen = chosen_call (chosen_of kind) call (reply (refused 1 image) old)

  abbrev left : Left
  left = returned chosen.outcome image result

  abbrev words : List ℕ
  words = words_left chosen old result

  -- a buffer of 24 bytes or more: what the call leaves
  leaves : 24 ≤ length result → (r : Reply) → chosen ≡ r → (left ≡ whole r.outcome result) × (words ≡ r.words)
  leaves room r e = (
    told_whole chosen.outcome image result room ∙ ap (λ (x : Reply). whole x.outcome result) e,
    words_whole chosen old result room ∙ ap (λ (x : Reply). x.words) e,
  )

  nowhere : 2 ≤ kind → chosen ≡ reply (refused 1 image) old
  unfolding chosen_call
  nowhere h = ap (λ (c : Option Geometry). chosen_call c call (reply (refused 1 image) old)) (other_unknown kind h)

  at : (g : Geometry) → chosen_of kind ≡ Some g → chosen ≡ call g
  at g is = on kind g is call (reply (refused 1 image) old)

  kept : (c : Option Geometry)
      → ((chosen_call c call (reply (refused 1 image) old)).outcome.answer ≡ 1) ⊎
      ((chosen_call c call (reply (refused 1 image) old)).outcome.answer ≡ 2)
      → (chosen_call c call (reply (refused 1 image) old)).words ≡ old
  unfolding chosen_call
  kept (Some g) h = (lent g).words_left h
  kept None h = refl

  left_words : (left.answer ≡ 1) ⊎ (left.answer ≡ 2) → words ≡ old
  left_words h = by_lt (length result) 24 (λ s. words_kept chosen old result s)
      (λ room. words_whole chosen old result room
      ∙ kept (chosen_of kind) (subst (λ (l : Left). (l.answer ≡ 1) ⊎ (l.answer ≡ 2)) (told_whole chosen.outcome image result room) h))

  module _ (g : Geometry) (is : chosen_of kind ≡ Some g) where
    past : Past (words_of g (blocks_of g image)) old words
    past = by_lt (length result) 24
        (λ s. subst (Past (words_of g (blocks_of g image)) old) (sym (words_kept chosen old result s)) (past_none (words_of g (blocks_of g image)) old))
        (λ room. subst (Past (words_of g (blocks_of g image)) old) (sym (leaves room (call g) (at g is)).1) (lent g).words_past)

    module _ (not-length : left.answer ≡ 1 → ⊥) (not-damaged : left.answer ≡ 2 → ⊥) where
      tells : Told (live (places_of (chip_of g (blocks_of g image) left.image))) (words_of g (blocks_of g image)) words
      tells =
          let e = leaves (told chosen.outcome image result not-length).room (call g) (at g is) in
          let same = ap (λ (l : Left). l.answer) e.0 in
          let t = (lent g).words_told (λ q. not-length (same ∙ q)) (λ q. not-damaged (same ∙ q)) in
          subst (Told (live (places_of (chip_of g (blocks_of g image) left.image))) (words_of g (blocks_of g image))) (sym e.1)
          (subst (λ (l : Left). Told (live (places_of (chip_of g (blocks_of g image) l.image))) (words_of g (blocks_of g image)) (call g).words) (sym e.0) t)

      counts : (b : ℕ) → b < blocks_of g image → block_ones g words b ≡ lives_in g.pages b
          (chip_of g (blocks_of g image) left.image)
      counts = block_ones_lem g (live (places_of (chip_of g (blocks_of g image) left.image))) (blocks_of g image) words
          (whole_words g (chosen_known kind g is)) tells

  lends_call : Lends kind image old result left words
  lends_call = record {
    short_buffer = λ s. (told_short chosen.outcome image result s, words_kept chosen old result s);
    no_geometry = λ room h. leaves room (reply (refused 1 image) old) (nowhere h);
    words_short = λ g is room h. leaves room (reply (refused 1 image) old) (at g is ∙ (lent g).words_short h);
    words_left = left_words;
    words_past = past;
    words_told = tells;
    live_counts = counts;
  }

module _ (kind : ℕ) (image old result : List ℕ) (key : ℕ) where
  -- mutree_insert
  pub insert_lends : (address allowance : ℕ)
      → Lends kind image old result (inserts kind image old key address allowance result)
      (insert_words kind image old key address allowance result)
  unfolding insert_live_of
  insert_lends address allowance = lends_call kind image old result (λ g. insert g image key address allowance)
      (λ g. insert_live g image old key address allowance) (λ g. insert_live_lem g image old key address allowance)

  -- mutree_delete
  pub delete_lends : (allowance : ℕ) → Lends kind image old result (deletes kind image old key allowance result)
      (delete_words kind image old key allowance result)
  unfolding delete_live_of
  delete_lends allowance = lends_call kind image old result (λ g. delete g image key allowance)
      (λ g. delete_live g image old key allowance) (λ g. delete_live_lem g image old key allowance)
