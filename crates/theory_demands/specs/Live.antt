-- Request 7: on a sound image of n blocks, with its record and the table worked out from it, insert and delete by these
-- have the outcome of the model's calls, leave the record of the image that is left, and the words worked out afresh
-- from it; and what the calls with lent words promise of them. Assumes nothing.
use Rattle.std.specs.Prelude.{◌≡◌, List, [], ◌∷◌, true, false, ◌⊎◌, ℕ, ◌*◌, ◌<◌, ◌≤◌}
use Rattle.std.proofs.Math.Path.{refl, ap, subst}
use Rattle.std.proofs.Common.{sym, ◌∙◌, inl, inr, arith, lit≤, le-leb, ne_eqb}
use Rattle.std.proofs.Math.ListN.{length}
use Rattle.geometry.specs.declared.Geometry.{Geometry}
use Rattle.geometry.specs.Findings.{Sound}
use Rattle.geometry.specs.Shape.{Known, is_small, is_large, Shape}
use Rattle.geometry.specs.Bounds.{four_bytes}
use Rattle.model.specs.Bytes.{byte_at}
use Rattle.model.specs.Image.{blocks_of, good_length, chip_of}
use Rattle.model.specs.Tree.{places_of, live}
use Rattle.model.specs.Rules.{verdict}
use Rattle.model.specs.Collect.{lives_in}
use Rattle.model.specs.Calls.{Outcome, refused, insert_rest, delete_rest, insert}
use Rattle.theory_lists.specs.All.{All}
use Rattle.live_words.specs.Words.{block_words, words_of, block_ones, Told, Past}
use Rattle.live_words.specs.Live.{Reply, reply, live_words, leaves_words, with_words, insert_live}
use Rattle.live_words.specs.Ones.{block_ones_lem}
use Rattle.live_words.specs.Filled.{filled_same}
use Rattle.open_record.specs.Opened.{opened_in}
use Rattle.live_beside.specs.Beside.{Held}
use Rattle.live_beside.specs.Update.{Returned, returned, insert_by, delete_by}
use Rattle.theory_images.proofs.Few.{known_few}
use Rattle.theory_updates.specs.CollectBy.{Tells}
use Rattle.theory_updates.proofs.UpdateBy.{inserts, deletes}
use Rattle.theory_demands.specs.Words.{Ready, map_at, OneOf}
use Rattle.theory_demands.specs.Bridges.{few, some_pages, ready_keeps}
use Rattle.theory_demands.specs.Calls.{judged_ready}
use Rattle.theory_demands.specs.Proofs.{insert_one}

pub leaves : (x : ℕ) → (x ≡ 1) ⊎ (x ≡ 2) → leaves_words x ≡ true
unfolding leaves_words
leaves x (inl e) = rw e refl
leaves x (inr e) = rw e refl

pub changes : (x : ℕ) → (x ≡ 1 → ⊥) → (x ≡ 2 → ⊥) → leaves_words x ≡ false
unfolding leaves_words
changes x p q = rw (ne_eqb x 1 p, ne_eqb x 2 q) refl

-- an answer that is one of some is none but these
pub other_answer : (x : ℕ) (ys : List ℕ) → OneOf x ys → (j : ℕ) → All (λ y. y ≡ j → ⊥) ys → x ≡ j → ⊥
other_answer x [] h j n e = absurd h
other_answer x (y ∷ ys) (inl h) j n e = n.0 (sym h ∙ e)
other_answer x (y ∷ ys) (inr h) j n e = other_answer x ys h j n.1 e

-- a block has a page for each level
pub known_tall : (g : Geometry) → Known g → g.top ≤ g.pages
known_tall _ is_small = lit≤ tt
known_tall _ is_large = lit≤ tt

-- ---- by the record and the table
module _ (g : Geometry) (shape : Shape g) (whole : g.pages ≡ 32 * block_words g) (n : ℕ) (img : List ℕ)
    (good : good_length g img ≡ true) (blocks : n ≡ blocks_of g img)
    (bytes : (i : ℕ) → byte_at img i < 256) (sound : verdict g n img ≡ Sound)
    (h : Held) (tells : Tells g n img h) (known : Known g) where
  pub ready : Ready g img
  ready = record { length_good = good; is_sound_lem = subst (λ m. verdict g m img ≡ Sound) blocks sound; bytes = bytes }

  tells' : Tells g (blocks_of g img) img h
  tells' = subst (λ m. Tells g m img h) blocks tells

  -- what is left after an outcome, of m blocks
  abbrev left : ℕ → Outcome → Returned
  left m o = returned o (opened_in g m o.image) (live_words g m o.image h.table.words)

  pub insert_by_lem : (k a al : ℕ) → k < four_bytes → a < four_bytes → insert_by g n h img k a al ≡ left n
      (insert_rest g n img k a al)
  insert_by_lem k a al k_low a-low =
      subst (λ m. insert_by g m h img k a al ≡ left m (insert_rest g m img k a al))
      (sym blocks) (inserts g shape (blocks_of g img) (few g shape img ready) (map_at g img) img (ready_keeps g shape img ready)
      (some_pages g shape img ready) whole h tells' (known_few g known) (known_tall g known) k a al k_low a-low)

  pub delete_by_lem : (k al : ℕ) → k < four_bytes → delete_by g n h img k al ≡ left n (delete_rest g n img k al)
  delete_by_lem k al k_low =
      subst (λ m. delete_by g m h img k al ≡ left m (delete_rest g m img k al))
      (sym blocks) (deletes g shape (blocks_of g img) (few g shape img ready) (map_at g img) img (ready_keeps g shape img ready)
      (some_pages g shape img ready) whole h tells' (known_few g known) (known_tall g known) k al k_low)

  -- so they are the calls with lent words, where the table's words are the lent ones but for those of the image
  module _ (old : List ℕ) (past : Past (words_of g n) old h.table.words) where
    abbrev b : ℕ
    b = blocks_of g img

    past' : Past (words_of g b) old h.table.words
    past' = subst (λ m. Past (words_of g m) old h.table.words) blocks past

    pub replies : (o : Outcome) → (o.answer ≡ 1 → ⊥) → (o.answer ≡ 2 → ⊥)
        → reply o (live_words g b o.image h.table.words) ≡ with_words g img old o
    unfolding with_words live_words
    replies o p q =
        let room : words_of g b ≤ length old = (let x = tells'.right.told.room in let y = past'.long in
        omega (arith, x, y)) in
        rw (le-leb (words_of g b) (length old) room, changes o.answer p q)
        (ap (reply o) (filled_same (live (places_of (chip_of g b o.image))) (words_of g b) old h.table.words past'))

    -- the outcome and the words of what is left
    abbrev told : Returned → Reply
    told x = reply x.outcome x.words

    pub insert_replies : (k a al : ℕ) → k < four_bytes → a < four_bytes → told (insert_by g n h img k a al) ≡ insert_live g
        img old k a al
    unfolding insert_live insert
    insert_replies k a al k_low a-low =
        let o = insert_rest g b img k a al in
        let e : insert g img k a al ≡ o = judged_ready g img o ready in
        let one = subst (λ (x : Outcome). OneOf x.answer (0 ∷ 3 ∷ 5 ∷ 6 ∷ 7 ∷ [])) e (insert_one g shape img ready k a al) in
        let no : (j : ℕ) → 1 ≤ j → j ≤ 2 → o.answer ≡ j → ⊥ =
        λ j p q. other_answer o.answer (0 ∷ 3 ∷ 5 ∷ 6 ∷ 7 ∷ []) one j (
          (λ z. omega (arith, z, p)),
          (
            (λ z. omega (arith, z, q)),
            (
              (λ z. omega (arith, z, q)),
              (
                (λ z. omega (arith, z, q)),
                ((λ z. omega (arith, z, q)), tt),
              ),
            ),
          ),
        ) in
        ap told (insert_by_lem k a al k_low a-low ∙ ap (λ m. left m (insert_rest g m img k a al)) blocks)
        ∙ replies o (no 1 (omega arith) (omega arith)) (no 2 (omega arith) (omega arith))
        ∙ ap (with_words g img old) (sym e)

-- ---- what a call with lent words promises, for every image: o is the outcome of the call without them
pub record Lent (g : Geometry) (img old : List ℕ) (o : Outcome) (r : Reply) : Type 0 where
  -- with enough words the outcome is that of the call without them
  pub outcome_is : words_of g (blocks_of g img) ≤ length old → r.outcome ≡ o
  -- "Fewer than B words give LENGTH", and nothing is touched
  pub words_short : length old < words_of g (blocks_of g img) → r ≡ reply (refused 1 img) old
  -- LENGTH and DAMAGED, "which leave it"
  pub words_left : (r.outcome.answer ≡ 1) ⊎ (r.outcome.answer ≡ 2) → r.words ≡ old
  -- "words past B stay"
  pub words_past : Past (words_of g (blocks_of g img)) old r.words
  -- every other answer leaves the words worked out afresh from the image that is left
  pub words_told : (r.outcome.answer ≡ 1 → ⊥) → (r.outcome.answer ≡ 2 → ⊥)
      → Told (live (places_of (chip_of g (blocks_of g img) r.outcome.image))) (words_of g (blocks_of g img)) r.words

-- "A block's live pages are then the count of ones in its word": after every answer but LENGTH and DAMAGED
pub live_counts : (g : Geometry) → g.pages ≡ 32 * block_words g → (img old : List ℕ) (o : Outcome) (r : Reply)
    → Lent g img old o r
    → (r.outcome.answer ≡ 1 → ⊥) → (r.outcome.answer ≡ 2 → ⊥) → (b : ℕ) → b < blocks_of g img
    → block_ones g r.words b ≡ lives_in g.pages b (chip_of g (blocks_of g img) r.outcome.image)
live_counts g whole img old o r h p q b b-in =
    block_ones_lem g (live (places_of (chip_of g (blocks_of g img) r.outcome.image))) (blocks_of g img) r.words whole (h.words_told p q) b b-in
