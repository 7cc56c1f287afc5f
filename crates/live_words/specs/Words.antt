-- Request 7: a lent table of 32-bit words. Page p is bit p % 32 of word p / 32: so a block of the small chip has one
-- word, "bit j for its page j", and one of the large chip two, the lower pages first. Definitions alone; assumes
-- nothing.
use Rattle.std.specs.Prelude.{ℕ, zero, suc, ◌+◌, ◌*◌, ◌/◌, ◌<◌, ◌≤◌, Bool, ◌≡◌, List, length, get_or}
use Rattle.std.specs.Int.Count.{ones}
use Rattle.geometry.specs.declared.Geometry.{Geometry}
use Rattle.geometry.specs.Tests.{bit}
use Rattle.model.specs.Stores.{written}

-- n tests from `at` on as the bits of a number, the first one lowest
unfoldable pub word_of : (ℕ → Bool) → ℕ → ℕ → ℕ
word_of f zero at = 0
word_of f (suc n) at = bit (f at) + 2 * word_of f n (at + 1)

-- word i of a test of pages
unfoldable pub word : (ℕ → Bool) → ℕ → ℕ
word f i = word_of f 32 (32 * i)

-- the words of a block, "one for each block", by request 9 "two words a block", and those of n blocks
abbrev pub block_words : Geometry → ℕ
block_words g = g.pages / 32

abbrev pub words_of : Geometry → ℕ → ℕ
words_of g n = block_words g * n

-- a lent table with its first m words worked out from a test of pages; "words past B stay"
unfoldable pub filled : (ℕ → Bool) → ℕ → List ℕ → List ℕ
filled f m old = written old 0 (word f) m

-- "the count of ones" of q words from `at` on
unfoldable pub ones_from : List ℕ → ℕ → ℕ → ℕ
ones_from words at zero = 0
ones_from words at (suc q) = ones (get_or words at 0) + ones_from words (at + 1) q

-- "A block's live pages are then the count of ones in its word"
abbrev pub block_ones : Geometry → List ℕ → ℕ → ℕ
block_ones g words b = ones_from words (block_words g * b) (block_words g)

-- L, of n blocks
abbrev pub all_ones : Geometry → ℕ → List ℕ → ℕ
all_ones g n words = ones_from words 0 (words_of g n)

-- the first m words of a lent table tell of the test f
pub record Told (f : ℕ → Bool) (m : ℕ) (words : List ℕ) : Type 0 where
  pub room : m ≤ length words
  pub each : (i : ℕ) → i < m → get_or words i 0 ≡ word f i

-- two tables are equally long, and the words from m on are the same
pub record Past (m : ℕ) (old new : List ℕ) : Type 0 where
  pub long : length new ≡ length old
  pub same : (i : ℕ) → m ≤ i → get_or new i 0 ≡ get_or old i 0
