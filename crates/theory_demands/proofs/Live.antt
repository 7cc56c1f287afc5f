-- Request 7: on a sound image of n blocks, with its record and the table worked out from it, insert and delete by these
-- have the outcome of the model's calls, leave the record of the image that is left, and the words worked out afresh
-- from it; and what the calls with lent words promise of them. Assumes nothing.
use Rattle.std.specs.Prelude.{◌≡◌, List, [], ◌∷◌, true, false, ◌⊎◌, ℕ, ◌*◌, ◌<◌, ◌≤◌, leb}
use Rattle.std.proofs.Math.Path.{refl, ap, subst}
use Rattle.std.proofs.Common.{sym, ◌∙◌, arith, le-leb, leb-true}
use Rattle.std.proofs.Math.Bool.{Bool}
use Rattle.std.proofs.Math.ListN.{length}
use Rattle.std.proofs.lemmas.Bool.{lt-leb}
use Rattle.geometry.specs.declared.Geometry.{Geometry}
use Rattle.geometry.specs.Findings.{Sound}
use Rattle.geometry.specs.Tests.{pick}
use Rattle.geometry.specs.Shape.{Known, Shape}
use Rattle.geometry.specs.Bounds.{four_bytes}
use Rattle.model.specs.Bytes.{byte_at}
use Rattle.model.specs.Image.{blocks_of, good_length, chip_of}
use Rattle.model.specs.Tree.{places_of, live}
use Rattle.model.specs.Rules.{verdict}
use Rattle.model.specs.Calls.{Outcome, refused, delete_rest, insert, delete}
use Rattle.theory_counts.specs.Cases.{true_false}
use Rattle.live_words.specs.Words.{block_words, words_of, Told, Past}
use Rattle.live_words.specs.Live.{Reply, reply, live_words, leaves_words, with_words, insert_live, delete_live}
use Rattle.live_words.specs.Filled.{past_none, filled_past, filled_told}
use Rattle.open_record.specs.Opened.{opened_in}
use Rattle.live_beside.specs.Beside.{Held}
use Rattle.live_beside.specs.Update.{Returned, returned, delete_by}
use Rattle.theory_updates.specs.CollectBy.{Tells}
use Rattle.theory_demands.specs.Words.{OneOf}
use Rattle.theory_demands.specs.Calls.{judged_ready}
use Rattle.theory_demands.proofs.Proofs.{delete_one}
use Rattle.theory_demands.specs.Live.{Lent, changes, delete_by_lem, leaves, other_answer, ready, replies}

module _ (g : Geometry) (shape : Shape g) (whole : g.pages ≡ 32 * block_words g) (n : ℕ) (img : List ℕ)
    (good : good_length g img ≡ true) (blocks : n ≡ blocks_of g img)
    (bytes : (i : ℕ) → byte_at img i < 256) (sound : verdict g n img ≡ Sound)
    (h : Held) (tells : Tells g n img h) (known : Known g) where
  -- what is left after an outcome, of m blocks
  abbrev left : ℕ → Outcome → Returned
  left m o = returned o (opened_in g m o.image) (live_words g m o.image h.table.words)

  -- so they are the calls with lent words, where the table's words are the lent ones but for those of the image
  module _ (old : List ℕ) (past : Past (words_of g n) old h.table.words) where
    abbrev b : ℕ
    b = blocks_of g img

    -- the outcome and the words of what is left
    abbrev told : Returned → Reply
    told x = reply x.outcome x.words

    pub delete_replies : (k al : ℕ) → k < four_bytes → told (delete_by g n h img k al) ≡ delete_live g img old k al
    unfolding delete_live delete
    delete_replies k al k_low =
        let o = delete_rest g b img k al in
        let e : delete g img k al ≡ o = judged_ready g img o (ready g shape whole n img good blocks bytes sound h tells known) in
        let one = subst (λ (x : Outcome). OneOf x.answer (0 ∷ 3 ∷ 4 ∷ 7 ∷ [])) e (delete_one g shape img (ready g shape whole n img good blocks bytes sound h tells known) k al) in
        let no : (j : ℕ) → 1 ≤ j → j ≤ 2 → o.answer ≡ j → ⊥ =
        λ j p q. other_answer o.answer (0 ∷ 3 ∷ 4 ∷ 7 ∷ []) one j
        ((λ z. omega (arith, z, p)), ((λ z. omega (arith, z, q)), ((λ z. omega (arith, z, q)), ((λ z. omega (arith, z, q)), tt)))) in
        ap told (delete_by_lem g shape whole n img good blocks bytes sound h tells known k al k_low ∙ ap (λ m. left m (delete_rest g m img k al)) blocks)
        ∙ (replies g shape whole n img good blocks bytes sound h tells known old past) o (no 1 (omega arith) (omega arith)) (no 2 (omega arith) (omega arith))
        ∙ ap (with_words g img old) (sym e)

module _ (g : Geometry) (img old : List ℕ) (o : Outcome) where
  with_lent : Lent g img old o (with_words g img old o)
  unfolding with_words live_words
  with_lent = record {
    outcome_is = λ h. rw (le-leb (words_of g (blocks_of g img)) (length old) h) refl;
    words_short = λ h. rw (lt-leb (words_of g (blocks_of g img)) (length old) h) refl;
    words_left = left (leb (words_of g (blocks_of g img)) (length old)) (leaves_words o.answer) refl;
    words_past = past (leb (words_of g (blocks_of g img)) (length old)) (leaves_words o.answer);
    words_told = told (leb (words_of g (blocks_of g img)) (length old)) (leaves_words o.answer) refl refl;
  }
    where
      R : Bool → Bool → Reply
      R u v = pick u (reply o (pick v old (live_words g (blocks_of g img) o.image old))) (reply (refused 1 img) old)

      left : (u v : Bool) → leaves_words o.answer ≡ v → ((R u v).outcome.answer ≡ 1) ⊎ ((R u v).outcome.answer ≡ 2)
          → (R u v).words ≡ old
      left true true e h = refl
      left true false e h = absurd (true_false (leaves_words o.answer) (leaves o.answer h) e)
      left false v e h = refl

      past : (u v : Bool) → Past (words_of g (blocks_of g img)) old (R u v).words
      past true true = past_none (words_of g (blocks_of g img)) old
      past true false = filled_past (live (places_of (chip_of g (blocks_of g img) o.image))) (words_of g (blocks_of g img)) old
      past false v = past_none (words_of g (blocks_of g img)) old

      told : (u v : Bool) → leb (words_of g (blocks_of g img)) (length old) ≡ u → leaves_words o.answer ≡ v
          → ((R u v).outcome.answer ≡ 1 → ⊥) → ((R u v).outcome.answer ≡ 2 → ⊥)
          → Told (live (places_of (chip_of g (blocks_of g img) (R u v).outcome.image))) (words_of g (blocks_of g img))
          (R u v).words
      told true true d e p q = absurd (true_false (leaves_words o.answer) e (changes o.answer p q))
      told true false d e p q = filled_told (live (places_of (chip_of g (blocks_of g img) o.image))) (words_of g (blocks_of g img)) old
          (leb-true (words_of g (blocks_of g img)) (length old) d)
      told false v d e p q = absurd (p refl)

pub insert_live_lem : (g : Geometry) (img old : List ℕ) (k a al : ℕ) → Lent g img old (insert g img k a al)
    (insert_live g img old k a al)
unfolding insert_live
insert_live_lem g img old k a al = with_lent g img old (insert g img k a al)

pub delete_live_lem : (g : Geometry) (img old : List ℕ) (k al : ℕ) → Lent g img old (delete g img k al)
    (delete_live g img old k al)
unfolding delete_live
delete_live_lem g img old k al = with_lent g img old (delete g img k al)
