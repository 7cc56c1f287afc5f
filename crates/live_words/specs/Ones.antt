-- "A block's live pages are then the count of ones in its word", and L those of all words. Assumes nothing.
use Prim.Native.Nat.{ℕ, zero, suc, ◌+◌, ◌*◌, ◌/◌, ◌%◌, ◌<◌, ◌≤◌}
use Rattle.std.specs.Prelude.{Bool, true, false, ◌≡◌, List}
use Rattle.std.proofs.Math.Path.{refl, sym, ap}
use Rattle.std.proofs.Common.{◌∙◌, mul-le-mul_left, mul-suc, mul_assoc}
use Rattle.std.specs.Int.Count.{ones, ones_step}
use native.Mathlib.Omega.{arith}
use Rattle.geometry.specs.declared.Geometry.{Geometry}
use Rattle.geometry.specs.Tests.{bit}
use Rattle.geometry.specs.Shape.{Known, is_small, is_large}
use Rattle.model.specs.Image.{pages_of}
use Rattle.model.specs.Count.{count}
use Rattle.model.specs.Next.{in_block}
use Rattle.theory_counts.specs.Tally.{count_same}
use Rattle.live_words.specs.Words.{word_of, word, block_words, words_of, ones_from, block_ones, all_ones, Told}

-- the blocks of both geometries are whole words
pub whole_words : (g : Geometry) → Known g → g.pages ≡ 32 * block_words g
whole_words _ is_small = refl
whole_words _ is_large = refl

-- ---- one word
pub low_bit : (b : Bool) (w : ℕ) → (bit b + 2 * w) % 2 ≡ bit b
low_bit true w = omega arith
low_bit false w = omega arith

pub rest_bits : (b : Bool) (w : ℕ) → (bit b + 2 * w) / 2 ≡ w
rest_bits true w = omega arith
rest_bits false w = omega arith

ones_bit : (b : Bool) (w : ℕ) → ones (bit b + 2 * w) ≡ bit b + ones w
ones_bit b w = ones_step (bit b + 2 * w) ∙ rw (low_bit b w, rest_bits b w)

-- a count in two parts
pub count_split : (f : ℕ → Bool) (m n : ℕ) → count (m + n) f ≡ count m f + count n (λ j. f (m + j))
unfolding count
count_split f m zero = (let w : m + 0 ≡ m = omega arith in rw w (omega arith))
count_split f m (suc n) =
    (let w : m + suc n ≡ suc (m + n) = omega arith in rw w)
    ∙ ap (λ (x : ℕ). bit (f (m + n)) + x) (count_split f m n) ∙ omega arith

-- counted from the lowest on
count_first : (f : ℕ → Bool) (n : ℕ) → count (suc n) f ≡ bit (f 0) + count n (λ j. f (suc j))
unfolding count
count_first f zero = refl
count_first f (suc n) = ap (λ (x : ℕ). bit (f (suc n)) + x) (count_first f n) ∙ omega arith

pub ones_word : (f : ℕ → Bool) (n at : ℕ) → ones (word_of f n at) ≡ count n (λ j. f (at + j))
unfolding word_of count ones
ones_word f zero at = refl
ones_word f (suc n) at =
    ones_bit (f at) (word_of f n (at + 1)) ∙ ap (λ (x : ℕ). bit (f at) + x) (ones_word f n (at + 1))
    ∙ sym (count_first (λ j. f (at + j)) n ∙ here ∙ ap (λ (x : ℕ). bit (f at) + x) next)
  where
    here : bit (f (at + 0)) + count n (λ j. f (at + suc j)) ≡ bit (f at) + count n (λ j. f (at + suc j))
    here = rw (ap f (let w : at + 0 ≡ at = omega arith in w))

    next : count n (λ j. f (at + suc j)) ≡ count n (λ j. f (at + 1 + j))
    next = count_same (λ j. f (at + suc j)) (λ j. f (at + 1 + j)) n (λ j h. ap f (omega arith))

-- ---- q words that tell of a test
module _ (f : ℕ → Bool) (m : ℕ) (words : List ℕ) (t : Told f m words) where
  pub ones_from_lem : (q at : ℕ) → at + q ≤ m → ones_from words at q ≡ count (32 * q) (λ j. f (32 * at + j))
  unfolding ones_from word count
  ones_from_lem zero at h = refl
  ones_from_lem (suc q) at h =
      rw (t.each at (omega arith), ones_word f 32 (32 * at), ones_from_lem q (at + 1) (omega arith))
      (let w : 32 * suc q ≡ 32 + 32 * q = omega arith in
      sym (rw w (count_split (λ j. f (32 * at + j)) 32 (32 * q) ∙ ap (λ (x : ℕ). count 32 (λ j. f (32 * at + j)) + x) next)))
    where
      next : count (32 * q) (λ j. f (32 * at + (32 + j))) ≡ count (32 * q) (λ j. f (32 * (at + 1) + j))
      next = count_same (λ j. f (32 * at + (32 + j))) (λ j. f (32 * (at + 1) + j)) (32 * q) (λ j k. ap f (omega arith))

module _ (g : Geometry) (f : ℕ → Bool) (n : ℕ) (words : List ℕ) (e : g.pages ≡ 32 * block_words g)
    (t : Told f (words_of g n) words) where
  -- the words of a block
  pub block_ones_lem : (b : ℕ) → b < n → block_ones g words b ≡ in_block g.pages f b
  block_ones_lem b h =
      ones_from_lem f (words_of g n) words t (block_words g) (block_words g * b) inside
      ∙ rw (← e) (count_same (λ j. f (32 * (block_words g * b) + j)) (λ j. f (g.pages * b + j)) g.pages (λ j k. ap (λ (x : ℕ). f (x + j)) at))
    where
      inside : block_words g * b + block_words g ≤ block_words g * n
      inside = (let z = mul-le-mul_left (block_words g) h in let w = mul-suc (block_words g) b in omega (arith, z, w))

      at : 32 * (block_words g * b) ≡ g.pages * b
      at = sym (mul_assoc 32 (block_words g) b) ∙ rw (← e)

  -- all words
  pub all_ones_lem : all_ones g n words ≡ count (pages_of g n) f
  all_ones_lem =
      ones_from_lem f (words_of g n) words t (words_of g n) 0 (omega arith)
      ∙ rw pages (count_same (λ j. f (32 * 0 + j)) f (pages_of g n) (λ j k. ap f (omega arith)))
    where
      pages : 32 * (block_words g * n) ≡ g.pages * n
      pages = sym (mul_assoc 32 (block_words g) n) ∙ rw (← e)
