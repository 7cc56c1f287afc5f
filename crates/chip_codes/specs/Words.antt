-- Words of eight bytes, and a half as 32 of them. Assumes nothing.
use Rattle.std.specs.Prelude.{◌≡◌, refl, Bool, true, false, List}
use Rattle.std.proofs.Math.Path.{sym, ap, ap₂}
use Rattle.std.proofs.Common.{◌∙◌, add-zero, mul-zero, mul-one, mul-suc, div-one, mod-eq_of_lt, shr-shr}
use Prim.Native.Nat.{ℕ, zero, suc, ◌+◌, ◌-◌, ◌*◌, ◌/◌, ◌%◌, ◌^◌, ◌<◌, ◌≤◌}
use Rattle.std.proofs.Math.Decide.{dec_lt}
use native.Mathlib.Omega.{arith}
use Rattle.std.proofs.Math.Dec.{eqb, lit<}
use Rattle.std.proofs.Math.Pow.{pow-add}
use Rattle.std.specs.Int.Count.{ones}
use Rattle.geometry.specs.Tests.{pick}
use Rattle.model.specs.Bytes.{byte_at}
use Rattle.model.specs.Codes.{◌⊕◌, odd, is_set, xor_below, number_e, number_g}
use Rattle.theory_codes.specs.Xor.{comm, none_right, none_left_lem, inverted}
use Rattle.theory_codes.specs.Below.{xor_same, xor_both, xor_below_lem}
use Rattle.chip_codes.specs.Rows.{bit_of, odd_below, over_bits, row_numbers, row_const, odd_ones_lem}

-- n bytes as one number, least byte first
unfoldable pub word_at : List ℕ → ℕ → ℕ → ℕ
word_at img at zero = 0
word_at img at (suc n) = byte_at img at + 256 * word_at img (at + 1) n

-- the ones of w are odd in number
unfoldable pub odd_ones : ℕ → Bool
odd_ones w = odd (ones w)

-- the words of the half that begins at `at`
unfoldable pub word_in : List ℕ → ℕ → ℕ → ℕ
word_in img at i = word_at img (at + 8 * i) 8

-- all of the first k words
unfoldable pub all_words : List ℕ → ℕ → ℕ → ℕ
all_words img at k = xor_below (word_in img at) k

-- the numbers of those with odd ones
unfoldable pub odd_words : List ℕ → ℕ → ℕ → ℕ
odd_words img at k = xor_below (λ i. pick (odd_ones (word_in img at i)) i 0) k

-- the numbers of the set bits of w, of k bits
abbrev pub in_word : ℕ → ℕ → ℕ
in_word k w = over_bits (λ j. j) k w

low_bits : (b w j : ℕ) → j < 8 → (b + 256 * w) / 2 ^ j % 2 ≡ b / 2 ^ j % 2
low_bits b w zero h = omega arith
low_bits b w (suc zero) h = omega arith
low_bits b w (suc (suc zero)) h = omega arith
low_bits b w (suc (suc (suc zero))) h = omega arith
low_bits b w (suc (suc (suc (suc zero)))) h = omega arith
low_bits b w (suc (suc (suc (suc (suc zero))))) h = omega arith
low_bits b w (suc (suc (suc (suc (suc (suc zero)))))) h = omega arith
low_bits b w (suc (suc (suc (suc (suc (suc (suc zero))))))) h = omega arith
low_bits b w (suc (suc (suc (suc (suc (suc (suc (suc j)))))))) h = absurd (omega arith)

high_bits : (b w j : ℕ) → b < 256 → 8 ≤ j → (b + 256 * w) / 2 ^ j ≡ w / 2 ^ (j - 8)
high_bits b w j h k =
    let e : 8 + (j - 8) ≡ j = omega arith in
    let q : (b + 256 * w) / 256 ≡ w = omega arith in
    sym (ap (λ (x : ℕ). x / 2 ^ (j - 8)) (sym q) ∙ shr-shr (b + 256 * w) 8 (j - 8)
    ∙ ap (λ (x : ℕ). (b + 256 * w) / 2 ^ x) e)

module _ (img : List ℕ) (bytes : (i : ℕ) → byte_at img i < 256) where
  pub word_bit : (n at j : ℕ) → j < 8 * n → bit_of (word_at img at n) j ≡ bit_of (byte_at img (at + j / 8)) (j % 8)
  unfolding word_at
  word_bit zero at j h = absurd (omega arith)
  word_bit (suc n) at j h = elim (dec_lt j 8) [
    | yes l ↦
        let d : j / 8 ≡ 0 = omega arith in
        let m : j % 8 ≡ j = omega arith in
        rw (d, m, add-zero) (ap (λ (x : ℕ). eqb x 1) (low_bits (byte_at img at) (word_at img (at + 1) n) j l))
    | no l ↦
        let d : at + 1 + (j - 8) / 8 ≡ at + j / 8 = omega arith in
        let m : (j - 8) % 8 ≡ j % 8 = omega arith in
        ap odd (high_bits (byte_at img at) (word_at img (at + 1) n) j (bytes at) (omega arith))
        ∙ word_bit n (at + 1) (j - 8) (omega arith)
        ∙ ap₂ (λ (x y : ℕ). bit_of (byte_at img x) y) d m
  ]

  pub word_below : (n at : ℕ) → word_at img at n < 2 ^ (8 * n)
  unfolding word_at
  word_below zero at = lit< tt
  word_below (suc n) at =
      let b = bytes at in
      let w = word_below n (at + 1) in
      let e : 2 ^ (8 * suc n) ≡ 2 ^ (8 * n) * 256 = ap (λ (x : ℕ). 2 ^ x) (mul-suc 8 n) ∙ pow-add 2 (8 * n) 8 in
      rw e (omega arith)

  -- row i of 64 bits is word i
  rows : (at i j : ℕ) → i < 32 → j < 64 → is_set img at (64 * i + j) ≡ bit_of (word_in img at i) j
  unfolding is_set word_in
  rows at i j h k =
      let d : at + (64 * i + j) / 8 ≡ at + 8 * i + j / 8 = omega arith in
      let m : (64 * i + j) % 8 ≡ j % 8 = omega arith in
      ap₂ (λ (x y : ℕ). bit_of (byte_at img x) y) d m ∙ sym (word_bit 8 (at + 8 * i) j k)

  pub in_below : (at i : ℕ) → word_in img at i < 2 ^ 64
  unfolding word_in
  in_below at i = word_below 8 (at + 8 * i)

  pub all_below : (at k : ℕ) → all_words img at k < 2 ^ 64
  unfolding all_words
  all_below at k = xor_below_lem 64 (word_in img at) k (λ i h. in_below at i)

  odd_all : (w : ℕ) → w < 2 ^ 64 → odd_below (bit_of w) 64 ≡ odd_ones w
  unfolding odd_ones
  odd_all w h = odd_ones_lem w 64 ∙ ap (λ (x : ℕ). odd (ones x)) (mod-eq_of_lt h)

  pub E-by-words : (at : ℕ) → number_e img at ≡ 64 * odd_words img at 32 ⊕ in_word 64 (all_words img at 32)
  unfolding number_e odd_words all_words
  E-by-words at =
      row_numbers 6 (is_set img at) (word_in img at) 32 (rows at)
      ∙ ap (λ (x : ℕ). 64 * x ⊕ in_word 64 (all_words img at 32))
      (xor_same (λ i. pick (odd_below (bit_of (word_in img at i)) 64) i 0) (λ i. pick (odd_ones (word_in img at i)) i 0) 32
      (λ i h. ap (λ (b : Bool). pick b i 0) (odd_all (word_in img at i) (in_below at i))))

  pick_inverted : (b : Bool) (n : ℕ) → n < 2048 → pick b (2047 - n) 0 ≡ pick b 2047 0 ⊕ pick b n 0
  pick_inverted true n h = inverted 11 n h ∙ comm n 2047
  pick_inverted false n h = sym (none_left_lem 0)

  all_odd : (at : ℕ) → odd_below (bit_of (xor_below (word_in img at) 32)) 64 ≡ odd_ones (all_words img at 32)
  unfolding all_words
  all_odd at = odd_all (all_words img at 32) (all_below at 32)

  pub G-by-words : (at : ℕ) → number_g img at ≡ pick (odd_ones (all_words img at 32)) 2047 0 ⊕ number_e img at
  unfolding number_g number_e
  G-by-words at =
      xor_same (λ n. pick (is_set img at n) (2047 - n) 0) (λ n. pick (is_set img at n) 2047 0 ⊕ pick (is_set img at n) n 0) 2048
      (λ n h. pick_inverted (is_set img at n) n h)
      ∙ xor_both (λ n. pick (is_set img at n) 2047 0) (λ n. pick (is_set img at n) n 0) 2048
      ∙ ap (λ (x : ℕ). x ⊕ number_e img at)
      (row_const 6 (is_set img at) (word_in img at) 32 (rows at) 2047 ∙ ap (λ (b : Bool). pick b 2047 0) (all_odd at))

two_rows : (row : ℕ → ℕ) → xor_below row 2 ≡ row 1 ⊕ row 0
unfolding xor_below
two_rows row = rw none_right

pick_none : (b : Bool) → pick {A = ℕ} b 0 0 ≡ 0
pick_none true = refl
pick_none false = refl

two_numbers : (s : ℕ → Bool) → xor_below (λ i. pick (s i) i 0) 2 ≡ pick (s 1) 1 0
two_numbers s = two_rows (λ i. pick (s i) i 0) ∙ ap (λ (x : ℕ). pick (s 1) 1 0 ⊕ x) (pick_none (s 0))
    ∙ none_right (pick (s 1) 1 0)

-- a word folded in two
pub folded : (p w : ℕ) → in_word (2 ^ p * 2) w ≡ 2 ^ p * pick (odd_ones (w / 2 ^ (2 ^ p) % 2 ^ (2 ^ p))) 1 0 ⊕ in_word
    (2 ^ p) (w / 2 ^ (2 ^ p) ⊕ w)
unfolding over_bits odd_ones
folded p w =
    let first : w / 2 ^ (2 ^ p * 0) ≡ w = rw mul-zero (div-one w) in
    let second : w / 2 ^ (2 ^ p * 1) ≡ w / 2 ^ (2 ^ p) = rw mul-one in
    row_numbers p (bit_of w) (λ i. w / 2 ^ (2 ^ p * i)) 2 (λ i j h l. ap odd (sym (shr-shr w (2 ^ p * i) j)))
    ∙ ap₂ (λ (x y : ℕ). 2 ^ p * x ⊕ in_word (2 ^ p) y)
    (two_numbers (λ i. odd_below (bit_of (w / 2 ^ (2 ^ p * i))) (2 ^ p))
    ∙ ap (λ (b : Bool). pick b 1 0) (ap (λ (x : ℕ). odd_below (bit_of x) (2 ^ p)) second
    ∙ odd_ones_lem (w / 2 ^ (2 ^ p)) (2 ^ p)))
    (two_rows (λ i. w / 2 ^ (2 ^ p * i)) ∙ ap₂ ◌⊕◌ second first)
