-- The ranges of the blocks' numbers. `er` tells the erased pages, `seq` the numbers. Definitions alone; assumes
-- nothing.
use Rattle.std.specs.Prelude.{ℕ, zero, suc, ◌+◌, ◌*◌, ◌<◌, ◌≤◌, Bool, true, false, ◌≡◌, List, eqb, leb, ltb, get_or}
use Rattle.geometry.specs.Tests.{pick}
use Rattle.sound_numbers.specs.declared.Range.{Range}

-- a range with a number that is not above it, and with one that is
abbrev pub fallen : Range → Range
fallen s = record { rising = false; low = s.low; high = s.high }

abbrev pub grown : Range → ℕ → Range
grown s n = record { rising = s.rising; low = pick (eqb s.high 0) n s.low; high = n }

-- a range with page p too
unfoldable pub extended : (ℕ → Bool) → (ℕ → ℕ) → ℕ → Range → Range
extended er seq p s = pick (er p) s (pick (leb (seq p) s.high) (fallen s) (grown s (seq p)))

-- of the pages base to base + j - 1
unfoldable pub range_to : (ℕ → Bool) → (ℕ → ℕ) → ℕ → ℕ → Range
range_to er seq base zero = record { rising = true; low = 0; high = 0 }
range_to er seq base (suc j) = extended er seq (base + j) (range_to er seq base j)

-- two ranges have no number in common
unfoldable pub apart_of : ℕ → ℕ → ℕ → ℕ → Bool
apart_of low high low' high' = pick (eqb high 0) true (pick (eqb high' 0) true (pick (ltb high low') true (ltb high' low)))

-- an answer of true shows A
pub record Shows (b : Bool) (A : Type 0) : Type 0 where
  pub holds : b ≡ true → A

-- a count of 0 shows that a test passes
pub record Zero (k : ℕ) (t : Bool) : Type 0 where
  pub passes : k ≡ 0 → t ≡ true

-- the numbers of the blocks below n, p pages each, rise; their ranges stand in two lists
pub record Ranges (er : ℕ → Bool) (seq : ℕ → ℕ) (p n : ℕ) (lows highs : List ℕ) : Type 0 where
  pub rise : (b : ℕ) → b < n → (range_to er seq (p * b) p).rising ≡ true
  pub low : (b : ℕ) → b < n → get_or lows b 0 ≡ (range_to er seq (p * b) p).low
  pub high : (b : ℕ) → b < n → get_or highs b 0 ≡ (range_to er seq (p * b) p).high

-- the range of block b lies apart from those of the blocks below i
pub record ClearTo (lows highs : List ℕ) (b i : ℕ) : Type 0 where
  pub apart : (a : ℕ) → a < i → apart_of (get_or lows a 0) (get_or highs a 0) (get_or lows b 0) (get_or highs b 0) ≡ true

-- a count of 0 shows that of the ranges of the blocks below i
pub record Counts (lows highs : List ℕ) (b i k : ℕ) : Type 0 where
  pub clear : k ≡ 0 → ClearTo lows highs b i

pub record Clear (lows highs : List ℕ) (b : ℕ) : Type 0 where
  pub clear : ClearTo lows highs b b

-- the ranges of all blocks below n lie apart
pub record AllClear (lows highs : List ℕ) (n : ℕ) : Type 0 where
  pub each : (b : ℕ) → b < n → Clear lows highs b

-- of the blocks below b none has a number above floor and below ceiling: a range there lies apart from theirs
pub record Free (lows highs : List ℕ) (b floor ceiling : ℕ) : Type 0 where
  pub apart : (a : ℕ) → a < b → (low high : ℕ) → floor < low → high < ceiling → apart_of (get_or lows a 0)
      (get_or highs a 0) low high ≡ true

-- the ranges of the blocks below b lie apart and leave that space
pub record Spaced (lows highs : List ℕ) (b floor ceiling : ℕ) : Type 0 where
  pub clear : AllClear lows highs b
  pub free : Free lows highs b floor ceiling

-- c is not above any beginning of a range, of the blocks below i, that is above h
pub record Over (lows : List ℕ) (i h c : ℕ) : Type 0 where
  pub over : (a : ℕ) → a < i → h < get_or lows a 0 → c ≤ get_or lows a 0

-- the same with one range more, that begins at low
pub record Nearer (low h c r : ℕ) : Type 0 where
  pub most : r ≤ c
  pub near : h < low → r ≤ low
