-- The lent words, in the form in which the code has the premises. Assumes nothing.
use Rattle.std.specs.Prelude.{ℕ, zero, suc, ◌+◌, ◌-◌, ◌*◌, ◌^◌, ◌<◌, ◌≤◌, Bool, not, ◌≡◌, refl, List, eqb, length, get_or, set}
use Rattle.std.proofs.Common.{sym, ◌∙◌, lit<, length-set, pow_mono, Fits, arith, pow-suc, lt_of_lt_of_le, lt_of_le_of_lt, le_of_lt, mul-le-mul_left, mul-le-mul_right, mul_assoc, sub-one}
use Rattle.std.specs.Int.Count.{ones}
use Rattle.std.proofs.lemmas.Nat.{ones-le}
use Rattle.std.proofs.Math.ListN.{get_or-eq_default}
use Rattle.std.proofs.Math.Seq.{set_out}
use Rattle.std.specs.Int.{w64}
use Rattle.geometry.specs.declared.Geometry.{Geometry}
use Rattle.geometry.specs.Tests.{bit}
use Rattle.geometry.specs.Bounds.{four_bytes}
use Rattle.model.specs.Image.{pages_of}
use Rattle.theory_counts.specs.Tally.{bit_most}
use Rattle.theory_lists.specs.Written.{written_none, filled_more}
use Rattle.live_words.specs.Words.{word_of, word, block_words, words_of, filled, ones_from, Past}
use Rattle.live_words.specs.Filled.{filled_past, length_filled}
use Rattle.live_walk.specs.Table.{live_in}

-- ---- how many words
pub words_below : (a b : ℕ) → a < 2048 → b < 65536 → a * b < 134217728
words_below a b ha hb = lt_of_le_of_lt (mul-le-mul_left a (le_of_lt hb)) (omega arith)

pub words_fit : (a b : ℕ) → a < 2048 → b < 65536 → Fits w64 (a * b)
words_fit a b ha hb = record { fits = omega (arith, words_below a b ha hb) }

pub words_are : (g : Geometry) (n q w : ℕ) → q ≡ block_words g → w ≡ n → q * w ≡ words_of g n
words_are g n q w eq ew = rw (eq, ew)

-- ---- counting: a loop over the q words from `at` on, with n ones in the first i
pub record Counted (words : List ℕ) (at q i n : ℕ) : Type 0 where
  pub sum : ones_from words at q ≡ n + ones_from words (at + i) (q - i)

pub ones_past : (words : List ℕ) (at : ℕ) → length words ≤ at → 0 ≡ ones (get_or words at 0)
unfolding ones
ones_past words at h = rw (get_or-eq_default words 0 h)

pub ones_few : (x : ℕ) → x < four_bytes → ones x ≤ 32
ones_few x h = ones-le 32 x h

pub ones_start : (words : List ℕ) (at q : ℕ) → Counted words at q 0 0
ones_start words at q = record {
  sum = let w : at + 0 ≡ at = omega arith in let v : q - 0 ≡ q = omega arith in rw (w, v) (omega arith);
}

ones_suc : (words : List ℕ) (at q : ℕ) → 0 < q → ones_from words at q ≡ ones (get_or words at 0) + ones_from words
    (at + 1) (q - 1)
unfolding ones_from
ones_suc words at zero h = absurd (omega arith)
ones_suc words at (suc q) h = rw sub-one

pub ones_go : (words : List ℕ) (at q i n r : ℕ) → Counted words at q i n → r ≡ ones (get_or words (at + i) 0) → i < q
    → Counted words at q (i + 1) (n + r)
ones_go words at q i n r e f h =
    let w = ones_suc words (at + i) (q - i) (omega arith) in
    let v : at + i + 1 ≡ at + (i + 1) = omega arith in
    let u : q - i - 1 ≡ q - (i + 1) = omega arith in
    record { sum = e.sum ∙ rw (w, ← f, v, u) (omega arith) }

pub ones_end : (words : List ℕ) (at q i n : ℕ) → Counted words at q i n → q ≤ i → n ≡ ones_from words at q
unfolding ones_from
ones_end words at q i n e h =
    let u : q - i ≡ 0 = omega arith in
    let w : ones_from words at q ≡ n + 0 = e.sum ∙ rw u in
    sym (w ∙ omega arith)

pub ones_of_words : (words : List ℕ) (at at' q q' r : ℕ) → r ≡ ones_from words at q → at ≡ at' → q ≡ q'
    → r ≡ ones_from words at' q'
ones_of_words words at at' q q' r e ea eq = e ∙ rw (ea, eq)

-- no more ones than pages
pub block_most : (g : Geometry) (q r : ℕ) → r ≤ 32 * q → q ≡ block_words g → r ≤ g.pages
block_most g q r h e = omega arith

pub all_most : (g : Geometry) (n q r : ℕ) → r ≤ 32 * q → q ≡ words_of g n → r ≤ pages_of g n
all_most g n q r h e =
    let a : 32 * block_words g ≤ g.pages = omega arith in
    let b : 32 * block_words g * n ≤ g.pages * n = mul-le-mul_right n a in
    let c : 32 * block_words g * n ≡ 32 * (block_words g * n) = mul_assoc 32 (block_words g) n in
    omega (arith, b, c)

-- ---- one word
pub bit_past : (tbl : List ℕ) (at : ℕ) → length tbl ≤ at → 0 ≡ bit (live_in tbl at)
unfolding live_in
bit_past tbl at h = rw (get_or-eq_default tbl 0 h)

pub bit_in : (tbl : List ℕ) (at r : ℕ) → r ≡ bit (not (eqb (get_or tbl at 0) 0)) → r ≡ bit (live_in tbl at)
unfolding live_in
bit_in tbl at r e = e

pub word_start : (f : ℕ → Bool) (at : ℕ) → 0 ≡ word_of f (32 - 32) at
unfolding word_of
word_start f at = refl

word_low : (f : ℕ → Bool) (n at : ℕ) → word_of f n at < 2 ^ n
unfolding word_of
word_low f zero at = lit< tt
word_low f (suc n) at = (let w = pow-suc 2 n in omega (arith, word_low f n (at + 1), bit_most (f at), w))

pub word_small : (f : ℕ → Bool) (j at w : ℕ) → w ≡ word_of f (32 - j) at → 0 < j → w < 2147483648
word_small f j at w e h = rw e (lt_of_lt_of_le (word_low f (32 - j) at) (pow_mono (let z : 32 - j ≤ 31 = omega arith in
    z)))

word_suc : (f : ℕ → Bool) (at j w r : ℕ) → w ≡ word_of f (32 - j) (at + j) → r ≡ bit (f (at + (j - 1))) → 0 < j → j ≤ 32
    → 2 * w + r ≡ word_of f (32 - (j - 1)) (at + (j - 1))
unfolding word_of
word_suc f at zero w r e d h k = absurd (omega arith)
word_suc f at (suc j) w r e d h k =
    let a : 32 - (suc j - 1) ≡ suc (32 - suc j) = omega arith in
    let b : at + (suc j - 1) ≡ at + j = omega arith in
    let c : at + j + 1 ≡ at + suc j = omega arith in
    rw (e, d, a, b, c) (omega arith)

pub word_go : (f : ℕ → Bool) (at j w r v : ℕ) → v ≡ 2 * w + r → w ≡ word_of f (32 - j) (at + j)
    → r ≡ bit (f (at + (j - 1))) → 0 < j → j ≤ 32
    → v ≡ word_of f (32 - (j - 1)) (at + (j - 1))
word_go f at j w r v ev e d h k = ev ∙ word_suc f at j w r e d h k

pub word_end : (f : ℕ → Bool) (at j w : ℕ) → w ≡ word_of f (32 - j) (at + j) → j ≤ 0 → w ≡ word_of f 32 at
word_end f at j w e h =
    let a : j ≡ 0 = omega arith in
    let b : at + 0 ≡ at = omega arith in
    e ∙ rw (a, b)

pub word_is : (f : ℕ → Bool) (i r : ℕ) → r ≡ word_of f 32 (32 * i) → r ≡ word f i
unfolding word
word_is f i r e = e

-- ---- the words
pub put_out : (words : List ℕ) (i w : ℕ) → length words ≤ i → words ≡ set words i w
put_out words i w h = sym (set_out words i w h)

pub fresh : (f : ℕ → Bool) (x y : List ℕ) (i w : ℕ) → y ≡ set x i w → w ≡ word f i → y ≡ set x i (word f i)
fresh f x y i w ey ew = ey ∙ rw ew

pub fill_start : (f : ℕ → Bool) (words : List ℕ) → words ≡ filled f 0 words
unfolding filled
fill_start f words = written_none words 0 (word f)

pub fill_go : (f : ℕ → Bool) (words x y : List ℕ) (i : ℕ) → y ≡ set x i (word f i) → x ≡ filled f i words
    → y ≡ filled f (i + 1) words
unfolding filled
fill_go f words x y i ey ex = ey ∙ filled_more words (word f) i x ex

pub fill_end : (f : ℕ → Bool) (words x : List ℕ) (i m : ℕ) → x ≡ filled f i words → i ≤ m → m ≤ i → x ≡ filled f m words
fill_end f words x i m e h k = (let w : i ≡ m = omega arith in rw (← w) e)

pub fill_past : (f : ℕ → Bool) (words x : List ℕ) (i m : ℕ) → x ≡ filled f i words → i ≤ m → m ≤ i → Past m words x
fill_past f words x i m e h k = rw (fill_end f words x i m e h k) (filled_past f m words)

pub set_long : (x y : List ℕ) (i w : ℕ) → y ≡ set x i w → length y ≡ length x
set_long x y i w e = rw e (length-set x i w)

pub fill_long : (f : ℕ → Bool) (words x : List ℕ) (i : ℕ) → x ≡ filled f i words → length x ≡ length words
fill_long f words x i e = rw e (length_filled f i words)

pub ruleset counting = (words_below, words_fit, words_are, ones_past, ones_few, ones_start, ones_go, ones_end, ones_of_words, block_most, all_most)

pub ruleset one_word = (bit_past, bit_in, word_start, word_small, word_go, word_end, word_is)

pub ruleset words_laws = (counting, one_word, put_out, fresh, fill_start, fill_go, fill_end, fill_past, set_long, fill_long)
