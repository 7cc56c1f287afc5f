-- Words of which a walk sets one bit a page are the words of the live pages. Assumes nothing.
use Rattle.std.specs.Prelude.{ℕ, zero, suc, ◌+◌, ◌*◌, ◌/◌, ◌%◌, ◌^◌, ◌<◌, ◌≤◌, max, Bool, true, false, ◌≡◌, refl, List, [], ◌∷◌, eqb, ltb, length, get_or, set}
use Rattle.std.proofs.Common.{sym, ap, ◌∙◌, length-set, ext_get_or, get_or-set_same, get_or-set_other, arith, pow-suc, lt-ltb, le-ltb, ne_eqb, eq-eqb}
use Rattle.std.specs.Int.Bits.{bit_or, or_step, or_zero_r}
use Rattle.geometry.specs.Tests.{pick, bit}
use Rattle.model.specs.Tree.{Place, live}
use Rattle.theory_counts.specs.Least.{by_lt}
use Rattle.live_words.specs.Words.{word_of, word, filled}
use Rattle.live_words.specs.Ones.{low_bit, rest_bits}
use Rattle.live_words.specs.Filled.{words_alike, word_same, filled_alike, length_filled, filled_in, filled_past}

-- the bit of page p set in the first m words; a page past them is passed over
unfoldable pub mark_one : ℕ → List ℕ → ℕ → List ℕ
mark_one m words p = pick (ltb (p / 32) m) (set words (p / 32) (bit_or (get_or words (p / 32) 0) (2 ^ (p % 32)))) words

unfoldable pub mark_all : ℕ → List Place → List ℕ → List ℕ
mark_all m [] words = words
mark_all m (x ∷ xs) words = mark_all m xs (mark_one m words x.page)

-- no page
unfoldable pub nowhere : ℕ → Bool
nowhere p = false

-- ---- one word
-- a test, and page p too
abbrev pub also : (ℕ → Bool) → ℕ → ℕ → Bool
also f p q = pick (eqb p q) true (f q)

-- the lowest bit set
or_low : (b : Bool) (w : ℕ) → bit_or (bit b + 2 * w) 1 ≡ 1 + 2 * w
or_low b w = or_step (bit b + 2 * w) 1 ∙ rw (low_bit b w, rest_bits b w, or_zero_r w) (go b)
  where
    go : (b : Bool) → w * 2 + max (bit b) 1 ≡ 1 + 2 * w
    go true = omega arith
    go false = omega arith

-- a higher one
or_high : (b : Bool) (w j : ℕ) → bit_or (bit b + 2 * w) (2 ^ suc j) ≡ bit b + 2 * bit_or w (2 ^ j)
or_high b w j =
    let e : 2 ^ suc j / 2 ≡ 2 ^ j = (let z = pow-suc 2 j in omega (arith, z)) in
    let o : 2 ^ suc j % 2 ≡ 0 = (let z = pow-suc 2 j in omega (arith, z)) in
    or_step (bit b + 2 * w) (2 ^ suc j) ∙ rw (low_bit b w, rest_bits b w, e, o) (go b)
  where
    go : (b : Bool) → bit_or w (2 ^ j) * 2 + max (bit b) 0 ≡ bit b + 2 * bit_or w (2 ^ j)
    go true = omega arith
    go false = omega arith

-- one of n tests more is one bit more
word_also : (f : ℕ → Bool) (n at j : ℕ) → j < n → bit_or (word_of f n at) (2 ^ j) ≡ word_of (also f (at + j)) n at
unfolding word_of
word_also f zero at j h = absurd (omega arith)
word_also f (suc n) at zero h =
    let here : eqb (at + 0) at ≡ true = eq-eqb (at + 0) at (omega arith) in
    let rest : word_of f n (at + 1) ≡ word_of (also f (at + 0)) n (at + 1) =
    words_alike f (also f (at + 0)) n (at + 1) others in
    or_low (f at) (word_of f n (at + 1)) ∙ rw (here, ← rest)
  where
    others : (k : ℕ) → k < n → f (at + 1 + k) ≡ also f (at + 0) (at + 1 + k)
    others k b = sym (rw (ne_eqb (at + 0) (at + 1 + k) (omega arith)) refl)
word_also f (suc n) at (suc j) h =
    let other : eqb (at + suc j) at ≡ false = ne_eqb (at + suc j) at (omega arith) in
    let next : at + 1 + j ≡ at + suc j = omega arith in
    let below : bit_or (word_of f n (at + 1)) (2 ^ j) ≡ word_of (also f (at + suc j)) n (at + 1) =
    word_also f n (at + 1) j (omega arith) ∙ ap (λ (q : ℕ). word_of (also f q) n (at + 1)) next in
    or_high (f at) (word_of f n (at + 1)) j ∙ rw (other, below)

word_marked : (f : ℕ → Bool) (p : ℕ) → bit_or (word f (p / 32)) (2 ^ (p % 32)) ≡ word (also f p) (p / 32)
unfolding word
word_marked f p =
    let e : 32 * (p / 32) + p % 32 ≡ p = omega arith in
    word_also f 32 (32 * (p / 32)) (p % 32) (omega arith) ∙ ap (λ (q : ℕ). word_of (also f q) 32 (32 * (p / 32))) e

-- ---- the words
module _ (f : ℕ → Bool) (m p : ℕ) (old : List ℕ) where
  -- a page past the words
  marked_past : m ≤ p / 32 → filled f m old ≡ filled (also f p) m old
  marked_past h = filled_alike f (also f p) m (λ q b. sym (rw (ne_eqb p q (omega arith)) refl)) old

  other_word : (i : ℕ) → (i ≡ p / 32 → ⊥) → word f i ≡ word (also f p) i
  other_word i ne = word_same f (also f p) i (λ j b. sym (rw (ne_eqb p (32 * i + j) (λ e. ne (omega (arith, e)))) refl))

  -- a page in them
  module _ (h : p / 32 < m) where
    abbrev before : List ℕ
    before = filled f m old

    abbrev after : List ℕ
    after = set before (p / 32) (bit_or (get_or before (p / 32) 0) (2 ^ (p % 32)))

    long : length after ≡ length old
    long = length-set before (p / 32) (bit_or (get_or before (p / 32) 0) (2 ^ (p % 32))) ∙ length_filled f m old

    its_word : p / 32 < length old → get_or after (p / 32) 0 ≡ word (also f p) (p / 32)
    its_word k =
        get_or-set_same before (p / 32) (bit_or (get_or before (p / 32) 0) (2 ^ (p % 32))) 0 (rw (length_filled f m old) k)
        ∙ ap (λ (w : ℕ). bit_or w (2 ^ (p % 32))) (filled_in f m old (p / 32) h k) ∙ word_marked f p

    each : (i : ℕ) → i < length old → get_or after i 0 ≡ get_or (filled (also f p) m old) i 0
    each i k = by_lt i m inner (λ b. other (omega arith) ∙ (filled_past f m old).same i b
        ∙ sym ((filled_past (also f p) m old).same i b))
      where
        other : (i ≡ p / 32 → ⊥) → get_or after i 0 ≡ get_or before i 0
        other ne = get_or-set_other before (p / 32) i (bit_or (get_or before (p / 32) 0) (2 ^ (p % 32))) 0 ne

        elsewhere : i < m → (i ≡ p / 32 → ⊥) → get_or after i 0 ≡ word (also f p) i
        elsewhere b ne = other ne ∙ filled_in f m old i b k ∙ other_word i ne

        mine : i ≡ p / 32 → get_or after i 0 ≡ word (also f p) i
        mine e = rw e (its_word (omega (arith, k, e)))

        inner : i < m → get_or after i 0 ≡ get_or (filled (also f p) m old) i 0
        inner b =
            by_lt i (p / 32) (λ d. elsewhere b (omega arith)) (λ d. by_lt (p / 32) i (λ e. elsewhere b (omega arith)) (λ e. mine (omega arith)))
            ∙ sym (filled_in (also f p) m old i b k)

    marked_in : after ≡ filled (also f p) m old
    marked_in = ext_get_or 0 after (filled (also f p) m old) (long
        ∙ sym (length_filled (also f p) m old)) (λ i k. each i (omega (arith, long)))

  mark_one_lem : mark_one m (filled f m old) p ≡ filled (also f p) m old
  unfolding mark_one
  mark_one_lem = by_lt (p / 32) m (λ h. rw (lt-ltb (p / 32) m h) (marked_in h)) (λ h. rw (le-ltb (p / 32) m h) (marked_past h))

-- a test, and the pages of a list
abbrev alive : (ℕ → Bool) → List Place → ℕ → Bool
alive f xs q = pick (live xs q) true (f q)

alive_more : (f : ℕ → Bool) (x : Place) (xs : List Place) (q : ℕ) → alive (also f x.page) xs q ≡ alive f (x ∷ xs) q
unfolding live
alive_more f x xs q = go (live xs q) (eqb x.page q) (f q)
  where
    go : (a b c : Bool) → pick a true (pick b true c) ≡ pick (pick b true a) true c
    go true true c = refl
    go true false c = refl
    go false true c = refl
    go false false c = refl

mark_all_lem : (f : ℕ → Bool) (m : ℕ) (xs : List Place) (old : List ℕ) → mark_all m xs (filled f m old) ≡ filled (alive f xs)
    m old
unfolding mark_all live
mark_all_lem f m [] old = refl
mark_all_lem f m (x ∷ xs) old =
    ap (mark_all m xs) (mark_one_lem f m x.page old) ∙ mark_all_lem (also f x.page) m xs old
    ∙ filled_alike (alive (also f x.page) xs) (alive f (x ∷ xs)) m (λ q b. alive_more f x xs q) old

-- from words with no page live
pub marked_live : (m : ℕ) (xs : List Place) (old : List ℕ) → mark_all m xs (filled nowhere m old) ≡ filled (live xs) m
    old
unfolding nowhere
marked_live m xs old = mark_all_lem nowhere m xs old
    ∙ filled_alike (alive nowhere xs) (live xs) m (λ q b. go (live xs q)) old
  where
    go : (a : Bool) → pick a true false ≡ a
    go true = refl
    go false = refl
