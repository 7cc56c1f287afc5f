-- A word and the 32 words of a half, folded in two until one is left. Assumes nothing.
use Rattle.std.specs.Prelude.{◌≡◌, Bool, true, false, List, ℕ, zero, suc, ◌+◌, ◌-◌, ◌*◌, ◌/◌, ◌%◌, ◌^◌, ◌<◌, ◌≤◌, T, eqb, ltb, replicate, get_or, set, length}
use Rattle.std.proofs.Math.Path.{refl, ap, ap₂}
use Rattle.std.proofs.Common.{sym, ◌∙◌, mul-one, mul-zero, mod-eq_of_lt, pow-suc, eqb→eq, pow_mono, pow_pos, sub-one, add-one, Fits, get_or-set_same, get_or-set_other}
use Rattle.std.proofs.Math.Nat.{div-eq_of_lt}
use Rattle.std.proofs.lemmas.Nat.{one_shl}
use Rattle.std.proofs.lemmas.List.Edits.{fill_by_more}
use native.Mathlib.Omega.{arith}
use Rattle.std.specs.Int.Bits.{bit_xor}
use Rattle.std.specs.Int.Count.{ones, ones_in}
use Rattle.std.specs.Int.{w8}
use borrow.Author.Tests.{eq-eqb, ne_eqb, lt-ltb}
use Rattle.geometry.specs.Table.{every, at}
use Rattle.geometry.specs.Tests.{pick}
use Rattle.model.specs.Bytes.{byte_at}
use Rattle.model.specs.Codes.{◌⊕◌, odd, xor_below, fresh_code}
use Rattle.std.proofs.Math.Decide.{ℕ_discrete}
use Rattle.theory_codes.specs.Xor.{xor_is, comm, assoc, none_right, none_left_lem, below}
use Rattle.theory_codes.specs.Below.{xor_same, xor_both, xor_more, xor_below_lem}
use Rattle.chip_codes.specs.Rows.{bit_of, odd_below, over_bits, odd_ones_lem, xor_const, xor_zeros, columns}
use Rattle.chip_codes.specs.Words.{word_at, odd_ones, word_in, all_words, odd_words, in_word, in_below, folded}
use Rattle.chip_codes.specs.Halves.{sealed, half_is, pick_below}

-- ---- powers
pub power_is : (k : ℕ) → k < 64 → 1 * 2 ^ k % 18446744073709551616 ≡ 2 ^ k
power_is k h = one_shl k 64 h

pub power_some : (k r : ℕ) → r ≡ 2 ^ k → 0 < r
power_some k r e = rw e (pow_pos k)

pub half_low : (p h : ℕ) → h ≡ 2 ^ p → p < 6 → h < 64
half_low p h e l = let m : 2 ^ p ≤ 32 = pow_mono {i = p} {j = 5} (omega arith) in omega arith

pub half_few : (k h : ℕ) → h ≡ 2 ^ k → k < 5 → h ≤ 16
half_few k h e l = let m : 2 ^ k ≤ 16 = pow_mono {i = k} {j = 4} (omega arith) in omega arith

-- ---- a word
pick_one : (b : Bool) (x : ℕ) → x * pick b 1 0 ≡ pick b x 0
pick_one true x = mul-one x
pick_one false x = mul-zero x

in_one : (w : ℕ) → in_word 1 w ≡ 0
unfolding over_bits xor_below
in_one w = none (bit_of w 0)
  where
    none : (b : Bool) → pick b 0 0 ⊕ 0 ≡ 0
    none true = none_left_lem 0
    none false = none_left_lem 0

pub word_start : (w : ℕ) → in_word 64 w ≡ 0 ⊕ in_word (2 ^ 6) w
word_start w = sym (none_left_lem (in_word 64 w))

-- h is half of the bits, the upper ones of `left` tell of bit p - 1
pub word_more : (w s left p h r : ℕ) → in_word 64 w ≡ s ⊕ in_word (2 ^ p) left → 0 < p → h ≡ 2 ^ (p - 1)
    → r ≡ pick (odd_ones (left / 2 ^ h % 2 ^ h)) h 0
    → in_word 64 w ≡ bit_xor s r ⊕ in_word (2 ^ (p - 1)) (bit_xor left (left / 2 ^ h))
word_more w s left zero h r e l eh er = absurd (omega arith)
word_more w s left (suc p) h r e l eh er =
    let q : h ≡ 2 ^ p = rw sub-one at eh in
    let t : r ≡ pick (odd_ones (left / 2 ^ (2 ^ p) % 2 ^ (2 ^ p))) (2 ^ p) 0 = rw q at er in
    let v : bit_xor left (left / 2 ^ (2 ^ p)) ≡ left / 2 ^ (2 ^ p) ⊕ left = xor_is left _ ∙ comm left _ in
    let u : in_word (2 ^ suc p) left ≡ r ⊕ in_word (2 ^ p) (left / 2 ^ (2 ^ p) ⊕ left)
    = ap (λ (n : ℕ). in_word n left) (pow-suc 2 p) ∙ folded p left
    ∙ ap (λ (x : ℕ). x ⊕ in_word (2 ^ p) (left / 2 ^ (2 ^ p) ⊕ left)) (pick_one _ (2 ^ p) ∙ sym t) in
    rw (sub-one, q, v, xor_is s r) (e ∙ ap (λ (x : ℕ). s ⊕ x) u ∙ sym (assoc s r _))

pub word_end : (w s left p : ℕ) → in_word 64 w ≡ s ⊕ in_word (2 ^ p) left → p ≤ 0 → s ≡ in_word 64 w
word_end w s left p e h =
    let z : p ≡ 0 = omega arith in
    sym (rw z at e ∙ ap (λ (x : ℕ). s ⊕ x) (in_one left) ∙ none_right s)

-- ---- the words
-- of n words those whose number has bit j
unfoldable pub share : (ℕ → ℕ) → ℕ → ℕ → ℕ
share f j n = xor_below (λ i. pick (bit_of i j) (f i) 0) n

-- ---- the numbers of the second 2 ^ k words: bit k is set, and the others are as in the first
bit_test : ℕ → ℕ → ℕ → Bool
bit_test k j i = pick (ltb i (2 ^ k)) (eqb ((2 ^ k + i) / 2 ^ j % 2) (pick (eqb j k) 1 (i / 2 ^ j % 2))) true

tested : (k j i : ℕ) → k < 5 → j < 5 → i < 16 → T (bit_test k j i)
unfolding bit_test
tested k j i hk hj hi =
    at (λ (i x : ℕ). bit_test k j i) (replicate 16 0)
    (at (λ (j x : ℕ). every (λ (i y : ℕ). bit_test k j i) 0 (replicate 16 0)) (replicate 5 0)
    (at (λ (k x : ℕ). every (λ (j y : ℕ). every (λ (i z : ℕ). bit_test k j i) 0 (replicate 16 0)) 0 (replicate 5 0)) (replicate 5 0) tt k hk) j hj) i hi

pick_digit : (b : Bool) (m : ℕ) → eqb (pick b 1 m) 1 ≡ pick b true (eqb m 1)
pick_digit true m = refl
pick_digit false m = refl

bit_high : (k j i : ℕ) → k < 5 → j < 5 → i < 2 ^ k → bit_of (2 ^ k + i) j ≡ pick (eqb j k) true (bit_of i j)
unfolding bit_test
bit_high k j i hk hj h =
    let m : 2 ^ k ≤ 16 = pow_mono {i = k} {j = 4} (omega arith) in
    let e : (2 ^ k + i) / 2 ^ j % 2 ≡ pick (eqb j k) 1 (i / 2 ^ j % 2)
    = eqb→eq ((2 ^ k + i) / 2 ^ j % 2) (pick (eqb j k) 1 (i / 2 ^ j % 2)) (rw (lt-ltb i (2 ^ k) h) at (tested k j i hk hj (omega arith))) in
    ap (λ (x : ℕ). eqb x 1) e ∙ pick_digit (eqb j k) (i / 2 ^ j % 2)

bit_none : (k i : ℕ) → i < 2 ^ k → bit_of i k ≡ false
bit_none k i h = ap odd (div-eq_of_lt h)

twice : (k : ℕ) → 2 ^ suc k ≡ 2 ^ k + 2 ^ k
twice k = rw pow-suc (double (2 ^ k))
  where
    double : (n : ℕ) → n * 2 ≡ n + n
    double n = omega arith

pick_both : (b : Bool) (x y : ℕ) → pick b (x ⊕ y) 0 ≡ pick b x 0 ⊕ pick b y 0
pick_both true x y = refl
pick_both false x y = sym (none_left_lem 0)

-- f has 2 ^ suc k words; of those that are left the i-th is the two words i and 2 ^ k + i in one
module _ (f : ℕ → ℕ) (k : ℕ) where
  abbrev upper : ℕ → ℕ
  upper i = f (2 ^ k + i)

  share_top : k < 5 → share f k (2 ^ suc k) ≡ xor_below upper (2 ^ k)
  unfolding share
  share_top h =
      ap (share f k) (twice k) ∙ xor_more (λ i. pick (bit_of i k) (f i) 0) (2 ^ k) (2 ^ k)
      ∙ ap₂ ◌⊕◌
      (xor_same (λ i. pick (bit_of (2 ^ k + i) k) (upper i) 0) upper (2 ^ k)
      (λ i l.
      let b : bit_of (2 ^ k + i) k ≡ true = bit_high k k i h h l ∙ rw (eq-eqb k k refl) in
      ap (λ (t : Bool). pick t (upper i) 0) b))
      (xor_same (λ i. pick (bit_of i k) (f i) 0) (λ i. 0) (2 ^ k) (λ i l. ap (λ (b : Bool). pick b (f i) 0) (bit_none k i l))
      ∙ xor_zeros (2 ^ k))
      ∙ none_right (xor_below upper (2 ^ k))

  module _ (g : ℕ → ℕ) (e : (i : ℕ) → i < 2 ^ k → g i ≡ upper i ⊕ f i) where
    all_left : xor_below g (2 ^ k) ≡ xor_below f (2 ^ suc k)
    all_left =
        xor_same g (λ i. upper i ⊕ f i) (2 ^ k) e ∙ xor_both upper f (2 ^ k)
        ∙ sym (ap (xor_below f) (twice k) ∙ xor_more f (2 ^ k) (2 ^ k))

    share_left : (j : ℕ) → j < k → k < 5 → share g j (2 ^ k) ≡ share f j (2 ^ suc k)
    unfolding share
    share_left j l h =
        xor_same (λ i. pick (bit_of i j) (g i) 0) (λ i. pick (bit_of (2 ^ k + i) j) (upper i) 0 ⊕ pick (bit_of i j) (f i) 0) (2 ^ k)
        (λ i m.
        let b : bit_of (2 ^ k + i) j ≡ bit_of i j
        = bit_high k j i h (omega arith) m ∙ rw (ne_eqb j k (λ q. absurd (omega arith))) in
        ap (λ (x : ℕ). pick (bit_of i j) x 0) (e i m) ∙ pick_both (bit_of i j) (upper i) (f i)
        ∙ ap (λ (t : Bool). pick t (upper i) 0 ⊕ pick (bit_of i j) (f i) 0) (sym b))
        ∙ xor_both (λ i. pick (bit_of (2 ^ k + i) j) (upper i) 0) (λ i. pick (bit_of i j) (f i) 0) (2 ^ k)
        ∙ sym (ap (share f j) (twice k) ∙ xor_more (λ i. pick (bit_of i j) (f i) 0) (2 ^ k) (2 ^ k))

-- the numbers of the words with odd ones, of 2 ^ k words
unfoldable pub numbers : (ℕ → ℕ) → ℕ → ℕ
numbers f k = xor_below (λ j. pick (odd_ones (share f j (2 ^ k))) (2 ^ j) 0) k

numbers_left : (f g : ℕ → ℕ) (k : ℕ) → ((i : ℕ) → i < 2 ^ k → g i ≡ f (2 ^ k + i) ⊕ f i) → k < 5
    → numbers f (suc k) ≡ pick (odd_ones (xor_below (λ i. f (2 ^ k + i)) (2 ^ k))) (2 ^ k) 0 ⊕ numbers g k
unfolding numbers xor_below
numbers_left f g k e h =
    ap₂ ◌⊕◌ (ap (λ (x : ℕ). pick (odd_ones x) (2 ^ k) 0) (share_top f k h))
    (xor_same (λ j. pick (odd_ones (share f j (2 ^ suc k))) (2 ^ j) 0) (λ j. pick (odd_ones (share g j (2 ^ k))) (2 ^ j) 0) k
    (λ j l. ap (λ (x : ℕ). pick (odd_ones x) (2 ^ j) 0) (sym (share_left f k g e j l h))))

-- ---- the numbers of the words with odd ones, by their bits
-- the exchange of two sums
xor_swap : (g : ℕ → ℕ → ℕ) (k l : ℕ) → xor_below (λ i. xor_below (λ j. g i j) l) k ≡ xor_below (λ j. xor_below
    (λ i. g i j) k) l
unfolding xor_below
xor_swap g zero l = sym (xor_zeros l)
xor_swap g (suc k) l =
    ap (λ (x : ℕ). xor_below (λ j. g k j) l ⊕ x) (xor_swap g k l)
    ∙ sym (xor_both (λ j. g k j) (λ j. xor_below (λ i. g i j) k) l)

odd_all : (w : ℕ) → w < 2 ^ 64 → odd_below (bit_of w) 64 ≡ odd_ones w
unfolding odd_ones
odd_all w h = odd_ones_lem w 64 ∙ ap (λ (x : ℕ). odd (ones x)) (mod-eq_of_lt h)

-- a number for odd ones, over the bits
pick_ones : (x w : ℕ) → w < 2 ^ 64 → pick (odd_ones w) x 0 ≡ over_bits (λ j. x) 64 w
unfolding over_bits
pick_ones x w h = ap (λ (b : Bool). pick b x 0) (sym (odd_all w h)) ∙ sym (xor_const (bit_of w) x 64)

-- and over any words
ones_both : (x : ℕ) (row : ℕ → ℕ) (k : ℕ) → ((i : ℕ) → row i < 2 ^ 64) → xor_below (λ i. pick (odd_ones (row i)) x 0) k
    ≡ pick (odd_ones (xor_below row k)) x 0
ones_both x row k h =
    xor_same (λ i. pick (odd_ones (row i)) x 0) (λ i. over_bits (λ j. x) 64 (row i)) k (λ i l. pick_ones x (row i) (h i))
    ∙ columns (λ j. x) 64 row k
    ∙ sym (pick_ones x (xor_below row k) (xor_below_lem 64 row k (λ i l. h i)))

-- a number below 32 is its five bits
bits_test : ℕ → ℕ → Bool
bits_test i x = eqb i (over_bits (λ j. 2 ^ j) 5 i)

bits_are : (i : ℕ) → i < 32 → i ≡ over_bits (λ j. 2 ^ j) 5 i
unfolding bits_test over_bits xor_below ◌⊕◌
bits_are i h = eqb→eq _ _ (at bits_test (replicate 32 0) tt i h)

pick_xor : (b : Bool) (f : ℕ → ℕ) (k : ℕ) → pick b (xor_below f k) 0 ≡ xor_below (λ j. pick b (f j) 0) k
pick_xor true f k = refl
pick_xor false f k = sym (xor_zeros k)

no_ones : odd_ones 0 ≡ false
unfolding odd_ones ones ones_in
no_ones = refl

pick_none : (b : Bool) → pick {A = ℕ} b 0 0 ≡ 0
pick_none true = refl
pick_none false = refl

pick_if : (b : Bool) (w x : ℕ) → pick (odd_ones w) (pick b x 0) 0 ≡ pick (odd_ones (pick b w 0)) x 0
pick_if true w x = refl
pick_if false w x = pick_none (odd_ones w) ∙ sym (rw no_ones)

module _ (img : List ℕ) (bytes : (i : ℕ) → byte_at img i < 256) (from : ℕ) where
  odd_by_bits : odd_words img from 32 ≡ xor_below (λ j. pick (odd_ones (share (word_in img from) j 32)) (2 ^ j) 0) 5
  unfolding odd_words share over_bits
  odd_by_bits =
      xor_same (λ i. pick (odd_ones (word_in img from i)) i 0) (λ i. xor_below (λ j. pick (odd_ones (pick (bit_of i j) (word_in img from i) 0)) (2 ^ j) 0) 5) 32
      (λ i h. number i h)
      ∙ xor_swap (λ i j. pick (odd_ones (pick (bit_of i j) (word_in img from i) 0)) (2 ^ j) 0) 32 5
      ∙ xor_same (λ j. xor_below (λ i. pick (odd_ones (pick (bit_of i j) (word_in img from i) 0)) (2 ^ j) 0) 32)
      (λ j. pick (odd_ones (share (word_in img from) j 32)) (2 ^ j) 0) 5
      (λ j h. ones_both (2 ^ j) (λ i. pick (bit_of i j) (word_in img from i) 0) 32
      (λ i. pick_below (bit_of i j) (word_in img from i) (2 ^ 64) (in_below img bytes from i)))
    where
      number : (i : ℕ) → i < 32
          → pick (odd_ones (word_in img from i)) i 0 ≡ xor_below (λ j. pick
          (odd_ones (pick (bit_of i j) (word_in img from i) 0)) (2 ^ j) 0) 5
      number i h =
          ap (λ (x : ℕ). pick (odd_ones (word_in img from i)) x 0) (bits_are i h)
          ∙ pick_xor (odd_ones (word_in img from i)) (λ j. pick (bit_of i j) (2 ^ j) 0) 5
          ∙ xor_same (λ j. pick (odd_ones (word_in img from i)) (pick (bit_of i j) (2 ^ j) 0) 0)
          (λ j. pick (odd_ones (pick (bit_of i j) (word_in img from i) 0)) (2 ^ j) 0) 5 (λ j l. pick_if (bit_of i j) (word_in img from i) (2 ^ j))

-- ---- the loop that folds the words
abbrev pub word : List ℕ → ℕ → ℕ
word ws i = get_or ws i 0

-- 2 ^ k words are left, with `rows` of the numbers
pub record Folded (img : List ℕ) (from k : ℕ) (ws : List ℕ) (rows : ℕ) : Type 0 where
  pub all_is : xor_below (word ws) (2 ^ k) ≡ all_words img from 32
  pub rows_are : odd_words img from 32 ≡ rows ⊕ numbers (word ws) k
  pub low : rows < 32

pub folded_start : (img : List ℕ) (from : ℕ) (ws : List ℕ) → ((k : ℕ) → Fits w8 (byte_at img k))
    → ((i : ℕ) → i < 32 → word ws i ≡ word_in img from i) → Folded img from 5 ws 0
unfolding all_words numbers share
folded_start img from ws bytes e = record {
  all_is = xor_same (word ws) (word_in img from) 32 e;
  rows_are = odd_by_bits img (λ k. (bytes k).fits) from
      ∙ xor_same (λ j. pick (odd_ones (share (word_in img from) j 32)) (2 ^ j) 0) (λ j. pick (odd_ones (share (word ws) j 32)) (2 ^ j) 0) 5
      (λ j l. ap (λ (x : ℕ). pick (odd_ones x) (2 ^ j) 0)
      (xor_same (λ i. pick (bit_of i j) (word_in img from i) 0) (λ i. pick (bit_of i j) (word ws i) 0) 32
      (λ i m. ap (λ (x : ℕ). pick (bit_of i j) x 0) (sym (e i m)))))
      ∙ sym (none_left_lem _);
  low = omega arith;
}

-- a word more
pub word_put : (img : List ℕ) (from : ℕ) (ws : List ℕ) (i w : ℕ) → w ≡ word_at img (from + 8 * i) 8 → i < length ws
    → ((k : ℕ) → k < i → word ws k ≡ word_in img from k) → (k : ℕ) → k < i + 1 → word (set ws i w) k ≡ word_in img from
    k
unfolding word_in
word_put img from ws i w e h f = rw e (fill_by_more (word_in img from) ws i 0 h f)

-- a fold more
pub folded_more : (img : List ℕ) (from k : ℕ) (ws vs : List ℕ) (rows h u r : ℕ) → Folded img from k ws rows → 0 < k
    → k ≤ 5 → h ≡ 2 ^ (k - 1) → u ≡ xor_below (λ i. word ws (h + i)) h
    → ((i : ℕ) → i < h → word vs i ≡ word ws (h + i) ⊕ word ws i)
    → r ≡ pick (odd_ones u) h 0 → Folded img from (k - 1) vs (bit_xor rows r)
folded_more img from zero ws vs rows h u r f l m eh eu ev er = absurd (omega arith)
folded_more img from (suc k) ws vs rows h u r f l m eh eu ev er =
    let q : h ≡ 2 ^ k = rw sub-one at eh in
    let v : (i : ℕ) → i < 2 ^ k → word vs i ≡ word ws (2 ^ k + i) ⊕ word ws i = rw q at ev in
    let t : r ≡ pick (odd_ones (xor_below (λ i. word ws (2 ^ k + i)) (2 ^ k))) (2 ^ k) 0
    = rw q at (er ∙ ap (λ (x : ℕ). pick (odd_ones x) h 0) eu) in
    let n : numbers (word ws) (suc k) ≡ r ⊕ numbers (word vs) k
    = numbers_left (word ws) (word vs) k v (omega arith) ∙ ap (λ (x : ℕ). x ⊕ numbers (word vs) k) (sym t) in
    let b : 2 ^ k < 32 = let s : 2 ^ k ≤ 16 = pow_mono {i = k} {j = 4} (omega arith) in omega arith in
    rw (sub-one, xor_is rows r) (record {
      all_is = all_left (word ws) k (word vs) v ∙ f.all_is;
      rows_are = f.rows_are ∙ ap (λ (x : ℕ). rows ⊕ x) n ∙ sym (assoc rows r (numbers (word vs) k));
      low = below 5 rows r f.low (rw t (pick_below _ (2 ^ k) 32 b));
    })

pub folded_end : (img : List ℕ) (from k : ℕ) (ws : List ℕ) (rows r : ℕ) → ((k : ℕ) → Fits w8 (byte_at img k))
    → Folded img from k ws rows → k ≤ 0 → r ≡ sealed rows (get_or ws 0 0) → r ≡ fresh_code img from
unfolding numbers xor_below
folded_end img from zero ws rows r bytes f h e =
    half_is img from (word ws 0) rows r bytes e (sym (none_right (word ws 0)) ∙ f.all_is)
    (sym (f.rows_are ∙ none_right rows))
folded_end img from (suc k) ws rows r bytes f h e = absurd (omega arith)

-- ---- one fold: the loop over the words
-- what the first n steps left: vs of ws
pub record Folding (ws vs : List ℕ) (h n : ℕ) : Type 0 where
  pub done : (i : ℕ) → i < n → word vs i ≡ word ws (h + i) ⊕ word ws i
  pub others : (i : ℕ) → n ≤ i → word vs i ≡ word ws i

pub folding_none : (ws : List ℕ) (h : ℕ) → Folding ws ws h 0
folding_none ws h = record { done = λ i l. absurd (omega arith); others = λ i l. refl }

pub upper_none : (f : ℕ → ℕ) → 0 ≡ xor_below f 0
unfolding xor_below
upper_none f = refl

pub folding_more : (ws vs : List ℕ) (h n : ℕ) → Folding ws vs h n → n < h → n < length vs
    → Folding ws (set vs n (bit_xor (word vs n) (word vs (h + n)))) h (n + 1)
folding_more ws vs h n f l m = record {
  done = λ i q. elim (ℕ_discrete i n) [
    | yes e ↦ rw e (get_or-set_same vs n _ 0 m ∙ xor_is (word vs n) (word vs (h + n))
        ∙ rw (f.others n (omega arith), f.others (h + n) (omega arith)) (comm (word ws n) (word ws (h + n))))
    | no e ↦ get_or-set_other vs n i _ 0 e ∙ f.done i (omega arith)
  ];
  others = λ i q. get_or-set_other vs n i _ 0 (λ e. absurd (omega arith)) ∙ f.others i (omega arith);
}

pub upper_more : (ws vs : List ℕ) (h n u w : ℕ) → Folding ws vs h n → n < h → u ≡ xor_below (λ i. word ws (h + i)) n
    → w ≡ word vs (h + n) → bit_xor u w ≡ xor_below (λ i. word ws (h + i)) (n + 1)
unfolding xor_below
upper_more ws vs h n u w f l e ew =
    xor_is u w ∙ rw (e, ew, f.others (h + n) (omega arith), add-one) (comm _ (word ws (h + n)))

pub ruleset fold_laws = (power_is, power_some, half_low, half_few, word_start, word_more, word_end, folded_start, folded_more, folded_end, folding_none, folding_more, upper_none, upper_more, word_put)
