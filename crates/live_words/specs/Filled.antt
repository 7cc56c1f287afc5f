-- A lent table with its first words worked out from a test of pages. Assumes nothing.
use Rattle.std.specs.Prelude.{ℕ, zero, suc, ◌+◌, ◌*◌, ◌/◌, ◌<◌, ◌≤◌, Bool, ◌≡◌, refl, List, length, get_or, set}
use Rattle.std.proofs.Common.{sym, ap, ◌∙◌, ⊎_elim, length-set, ext_get_or, get_or-set_same, get_or-set_other, arith, eq-or-lt_of_le}
use Rattle.std.proofs.Math.Nat.{zero-add}
use Rattle.model.specs.Stores.{written}
use Rattle.theory_counts.specs.Least.{by_lt}
use Rattle.theory_lists.specs.Written.{length_written, written_after, written_same}
use Rattle.live_words.specs.Words.{word_of, word, filled, Told, Past}

-- ---- words past the image's
pub past_none : (m : ℕ) (x : List ℕ) → Past m x x
past_none m x = record { long = refl; same = λ i h. refl }

pub past_then : (m : ℕ) (x y z : List ℕ) → Past m x y → Past m y z → Past m x z
past_then m x y z a b = record { long = b.long ∙ a.long; same = λ i h. b.same i h ∙ a.same i h }

pub past_fewer : (m k : ℕ) (x y : List ℕ) → m ≤ k → Past m x y → Past k x y
past_fewer m k x y h a = record { long = a.long; same = λ i j. a.same i (omega arith) }

-- one of the first m words is written
pub past_set : (m : ℕ) (x : List ℕ) (i w : ℕ) → i < m → Past m x (set x i w)
past_set m x i w h = record { long = length-set x i w; same = λ j k. get_or-set_other x i j w 0 (omega arith) }

-- ---- a word by its 32 tests
pub words_alike : (f h : ℕ → Bool) (n at : ℕ) → ((j : ℕ) → j < n → f (at + j) ≡ h (at + j))
    → word_of f n at ≡ word_of h n at
unfolding word_of
words_alike f h zero at e = refl
words_alike f h (suc n) at e =
    let a : f at ≡ h at = (let w : at + 0 ≡ at = omega arith in rw w at (e 0 (omega arith))) in
    let b : word_of f n (at + 1) ≡ word_of h n (at + 1) = words_alike f h n (at + 1) next in
    rw (a, b)
  where
    next : (j : ℕ) → j < n → f (at + 1 + j) ≡ h (at + 1 + j)
    next j k = (let w : at + suc j ≡ at + 1 + j = omega arith in rw w at (e (suc j) (omega arith)))

pub word_same : (f h : ℕ → Bool) (i : ℕ) → ((j : ℕ) → j < 32 → f (32 * i + j) ≡ h (32 * i + j)) → word f i ≡ word h i
unfolding word
word_same f h i e = words_alike f h 32 (32 * i) e

-- two tests that agree on the first 32 * m pages give the same m words
module _ (f h : ℕ → Bool) (m : ℕ) (e : (p : ℕ) → p < 32 * m → f p ≡ h p) where
  pub word_alike : (i : ℕ) → i < m → word f i ≡ word h i
  word_alike i k = word_same f h i (λ j b. e (32 * i + j) (omega arith))

  pub filled_alike : (old : List ℕ) → filled f m old ≡ filled h m old
  unfolding filled
  filled_alike old = written_same old 0 (word f) (word h) m word_alike

  pub told_alike : (words : List ℕ) → Told f m words → Told h m words
  told_alike words t = record { room = t.room; each = λ i k. t.each i k ∙ word_alike i k }

-- a test that changed in the pages of word i alone: that word is worked out anew
module _ (f h : ℕ → Bool) (m i : ℕ) (e : (p : ℕ) → (p / 32 ≡ i → ⊥) → f p ≡ h p) where
  other_word : (j : ℕ) → (j ≡ i → ⊥) → word f j ≡ word h j
  other_word j ne = word_same f h j (λ k b. e (32 * j + k) (λ q. ne (omega arith)))

  pub told_one : (words : List ℕ) → Told f m words → Told h m (set words i (word h i))
  told_one words t = record {
    room = rw (length-set words i (word h i)) t.room;
    each = λ j k. by_lt j i (λ b. other j k (omega arith)) (λ b. by_lt i j (λ d. other j k (omega arith)) (λ d. same j k (omega arith)));
  }
    where
      other : (j : ℕ) → j < m → (j ≡ i → ⊥) → get_or (set words i (word h i)) j 0 ≡ word h j
      other j k ne = get_or-set_other words i j (word h i) 0 ne ∙ t.each j k ∙ other_word j ne

      same : (j : ℕ) → j < m → j ≡ i → get_or (set words i (word h i)) j 0 ≡ word h j
      same j k q = rw q (get_or-set_same words i (word h i) 0 (rw (← q) (omega (arith, t.room))))

-- ---- what a filled table tells
module _ (f : ℕ → Bool) where
  pub length_filled : (m : ℕ) (old : List ℕ) → length (filled f m old) ≡ length old
  unfolding filled
  length_filled m old = length_written old 0 (word f) m

  filled_suc : (m : ℕ) (old : List ℕ) → filled f (suc m) old ≡ set (filled f m old) m (word f m)
  unfolding filled written
  filled_suc m old = rw zero-add

  -- one of the first m words, where the table has it
  pub filled_in : (m : ℕ) (old : List ℕ) (i : ℕ) → i < m → i < length old → get_or (filled f m old) i 0 ≡ word f i
  filled_in zero old i h k = absurd (omega arith)
  filled_in (suc m) old i h k =
      ap (λ (l : List ℕ). get_or l i 0) (filled_suc m old)
      ∙ ⊎_elim
      (λ e. rw e (get_or-set_same (filled f m old) m (word f m) 0 (rw (length_filled m old, ← e) k)))
      (λ lt. get_or-set_other (filled f m old) m i (word f m) 0 (omega arith) ∙ filled_in m old i lt k)
      (eq-or-lt_of_le {n = i} {m = m} (omega arith))

  pub filled_past : (m : ℕ) (old : List ℕ) → Past m old (filled f m old)
  unfolding filled
  filled_past m old = record { long = length_filled m old; same = λ i h. written_after old 0 (word f) m i 0 (omega arith) }

  pub filled_told : (m : ℕ) (old : List ℕ) → m ≤ length old → Told f m (filled f m old)
  filled_told m old h = record { room = rw (length_filled m old) h; each = λ i k. filled_in m old i k (omega arith) }

  -- a table is known by its length, its first m words and those past them
  known : (m : ℕ) (x y : List ℕ) → Past m x y → ((i : ℕ) → i < m → i < length x → get_or y i 0 ≡ get_or x i 0) → y ≡ x
  known m x y a e =
      ext_get_or 0 y x a.long (λ i h. by_lt i m (λ k. e i k (omega (arith, a.long))) (λ k. a.same i k))

  -- a table that tells already is as filled
  pub told_filled : (m : ℕ) (words : List ℕ) → Told f m words → filled f m words ≡ words
  told_filled m words t =
      known m words (filled f m words) (filled_past m words) (λ i h k. filled_in m words i h k ∙ sym (t.each i h))

  -- what stood in the first m words does not matter
  pub filled_same : (m : ℕ) (x y : List ℕ) → Past m x y → filled f m y ≡ filled f m x
  filled_same m x y a =
      known m (filled f m x) (filled f m y) (record { long = long; same = same }) inner
    where
      long : length (filled f m y) ≡ length (filled f m x)
      long = length_filled m y ∙ a.long ∙ sym (length_filled m x)

      same : (i : ℕ) → m ≤ i → get_or (filled f m y) i 0 ≡ get_or (filled f m x) i 0
      same i h = (filled_past m y).same i h ∙ a.same i h ∙ sym ((filled_past m x).same i h)

      inner : (i : ℕ) → i < m → i < length (filled f m x) → get_or (filled f m y) i 0 ≡ get_or (filled f m x) i 0
      inner i h k =
          let kx : i < length x = rw (length_filled m x) at k in
          filled_in m y i h (omega (arith, a.long)) ∙ sym (filled_in m x i h kx)
