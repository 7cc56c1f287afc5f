-- A half by words, in the form in which the code has the premises. Assumes nothing.
use Rattle.std.specs.Prelude.{◌≡◌, Bool, true, false, List, ℕ, ◌+◌, ◌-◌, ◌*◌, ◌<◌}
use Rattle.std.proofs.Common.{sym, ap₂, ◌∙◌, arith, Fits}
use Rattle.std.specs.Int.{w8}
use Rattle.std.specs.Int.Bits.{bit_xor}
use Rattle.geometry.specs.Tests.{pick}
use Rattle.geometry.specs.Bounds.{four_bytes}
use Rattle.model.specs.Bytes.{byte_at}
use Rattle.model.specs.Codes.{◌⊕◌, number_e, number_g, fresh_code}
use Rattle.theory_codes.specs.Xor.{xor_is, below}
use Rattle.theory_codes.specs.Below.{xor_below_lem}
use Rattle.chip_codes.specs.Rows.{bit_of, over_bits}
use Rattle.chip_codes.specs.Words.{word_at, odd_ones, all_words, odd_words, in_word, E-by-words, G-by-words}

-- E, of the exclusive or of the numbers of the words with odd ones, and of all words
unfoldable pub number_of : ℕ → ℕ → ℕ
number_of rows all = 64 * rows ⊕ in_word 64 all

-- G, of E and of all words
unfoldable pub rest_of : ℕ → ℕ → ℕ
rest_of e all = pick (odd_ones all) 2047 0 ⊕ e

-- the code, of the same two
unfoldable pub sealed : ℕ → ℕ → ℕ
sealed rows all = 16777215 - (number_of rows all + 2048 * rest_of (number_of rows all) all)

-- ---- words

pub eight_is : (img : List ℕ) (at b₀ b₁ b₂ b₃ b₄ b₅ b₆ b₇ : ℕ) → b₀ ≡ byte_at img at → b₁ ≡ byte_at img (at + 1)
    → b₂ ≡ byte_at img (at + 2)
    → b₃ ≡ byte_at img (at + 3) → b₄ ≡ byte_at img (at + 4) → b₅ ≡ byte_at img (at + 5) → b₆ ≡ byte_at img (at + 6)
    → b₇ ≡ byte_at img (at + 7)
    → b₀ + 256 * b₁ + 65536 * b₂ + 16777216 * b₃ + four_bytes * b₄ + 1099511627776 * b₅ + 281474976710656 * b₆ +
    72057594037927936 * b₇ ≡ word_at img at 8
unfolding word_at
eight_is img at b₀ b₁ b₂ b₃ b₄ b₅ b₆ b₇ e₀ e₁ e₂ e₃ e₄ e₅ e₆ e₇ =
    let p₂ : at + 1 + 1 ≡ at + 2 = omega arith in
    let p₃ : at + 2 + 1 ≡ at + 3 = omega arith in
    let p₄ : at + 3 + 1 ≡ at + 4 = omega arith in
    let p₅ : at + 4 + 1 ≡ at + 5 = omega arith in
    let p₆ : at + 5 + 1 ≡ at + 6 = omega arith in
    let p₇ : at + 6 + 1 ≡ at + 7 = omega arith in
    rw (p₂, p₃, p₄, p₅, p₆, p₇, ← e₀, ← e₁, ← e₂, ← e₃, ← e₄, ← e₅, ← e₆, ← e₇) (sums b₀ b₁ b₂ b₃ b₄ b₅ b₆ b₇)
  where
    sums : (b₀ b₁ b₂ b₃ b₄ b₅ b₆ b₇ : ℕ)
        → b₀ + 256 * b₁ + 65536 * b₂ + 16777216 * b₃ + four_bytes * b₄ + 1099511627776 * b₅ + 281474976710656 * b₆ +
        72057594037927936 * b₇
        ≡ b₀ + 256 * (b₁ + 256 * (b₂ + 256 * (b₃ + 256 * (b₄ + 256 * (b₅ + 256 * (b₆ + 256 * (b₇ + 256 * 0)))))))
    sums b₀ b₁ b₂ b₃ b₄ b₅ b₆ b₇ = omega arith

pub if_odd_is : (w n : ℕ) (r : Bool) → r ≡ odd_ones w → r ≡ true → n ≡ pick (odd_ones w) n 0
if_odd_is w n r e t = rw (← e, t)

pub if_even_is : (w n : ℕ) (r : Bool) → r ≡ odd_ones w → r ≡ false → 0 ≡ pick (odd_ones w) n 0
if_even_is w n r e t = rw (← e, t)

-- ---- E, G and the code

pub pick_below : (b : Bool) (n k : ℕ) → n < k → pick b n 0 < k
pick_below true n k h = h
pick_below false n k h = omega arith

in_below : (w : ℕ) → in_word 64 w < 64
unfolding over_bits
in_below w = xor_below_lem 6 (λ j. pick (bit_of w j) j 0) 64 (λ j h. pick_below (bit_of w j) j 64 h)

pub number_is_lem : (rows all q : ℕ) → q ≡ in_word 64 all → bit_xor (64 * rows) q ≡ number_of rows all
unfolding number_of
number_is_lem rows all q e = xor_is (64 * rows) q ∙ rw e

pub number_below : (rows all q : ℕ) → q ≡ in_word 64 all → rows < 32 → bit_xor (64 * rows) q < 2048
number_below rows all q e h =
    let l = in_below all in
    let k : q < 2048 = rw e (omega arith) in
    rw (xor_is (64 * rows) q) (below 11 (64 * rows) q (omega arith) k)

pub rest_is : (e all r : ℕ) → r ≡ pick (odd_ones all) 2047 0 → bit_xor r e ≡ rest_of e all
unfolding rest_of
rest_is e all r f = xor_is r e ∙ rw f

pub rest_below : (e all r : ℕ) → r ≡ pick (odd_ones all) 2047 0 → e < 2048 → bit_xor r e < 2048
rest_below e all r f h =
    let k : r < 2048 = rw f (pick_below (odd_ones all) 2047 2048 (omega arith)) in
    rw (xor_is r e) (below 11 r e k h)

pub sealed_is : (rows all e g : ℕ) → e ≡ number_of rows all → g ≡ rest_of e all → 16777215 - (e + 2048 * g) ≡ sealed rows
    all
unfolding sealed
sealed_is rows all e g ee eg = rw (eg, ee)

-- ---- all words

pub half_is : (img : List ℕ) (at all rows r : ℕ) → ((k : ℕ) → Fits w8 (byte_at img k)) → r ≡ sealed rows all
    → all ≡ all_words img at 32 → rows ≡ odd_words img at 32
    → r ≡ fresh_code img at
unfolding sealed number_of rest_of fresh_code
half_is img at all rows r bytes es ea er =
    let e : number_e img at ≡ 64 * rows ⊕ in_word 64 all = E-by-words img (λ k. (bytes k).fits) at ∙ rw (ea, er) in
    let g : number_g img at ≡ pick (odd_ones all) 2047 0 ⊕ (64 * rows ⊕ in_word 64 all)
    = G-by-words img (λ k. (bytes k).fits) at ∙ ap₂ ◌⊕◌ (rw ea) e in
    es ∙ sym (ap₂ (λ (x y : ℕ). 16777215 - (x + 2048 * y)) e g)

pub ruleset half_laws = (
  eight_is,
  if_odd_is,
  if_even_is,
  number_is_lem,
  number_below,
  rest_is,
  rest_below,
  sealed_is,
)
