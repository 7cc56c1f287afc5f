-- What one pass over an image tells. Definitions alone; assumes nothing.
use Rattle.std.specs.Prelude.{ℕ, ◌+◌, ◌-◌, ◌*◌, ◌<◌, ◌≤◌, Bool, true, false, ◌≡◌, List, leb, get_or}
use Rattle.geometry.specs.declared.Geometry.{Geometry}
use Rattle.geometry.specs.Findings.{Good}
use Rattle.geometry.specs.Tests.{pick}
use Rattle.model.specs.Bytes.{erased, seq_at}
use Rattle.model.specs.Rules.{well_formed, in_order, r1, r2}
use Rattle.chip_survey.specs.declared.Seen.{Seen}
use Rattle.chip_survey.specs.declared.Survey.{Survey}
use Rattle.chip_survey.specs.Survey.{seen_to, survey_of}
use Rattle.sound_numbers.specs.declared.Range.{Range}
use Rattle.sound_numbers.specs.Ranges.{range_to, Shows, Ranges}

-- an answer of true shows A, one of false shows B
pub record Told (t : Bool) (A B : Type 0) : Type 0 where
  pub yes : t ≡ true → A
  pub no : t ≡ false → B

-- the first j pages of block b are programmed, and as R1 wants them
pub record Front (g : Geometry) (img : List ℕ) (b j : ℕ) : Type 0 where
  pub programmed : (i : ℕ) → i < j → erased g img (g.pages * b + i) ≡ false
  pub formed : (i : ℕ) → i < j → well_formed g img (g.pages * b + i) ≡ true

-- they are all that are programmed before the first erased one; what is seen up to there, and the numbers' range
pub record Fronted (g : Geometry) (img : List ℕ) (b j : ℕ) (s : Seen) (r : Range) : Type 0 where
  pub most : j ≤ g.pages
  pub front : Front g img b j
  pub ended : j < g.pages → erased g img (g.pages * b + j) ≡ true
  pub seen : s ≡ seen_to g img (g.pages * b + j)
  pub range : r ≡ range_to (erased g img) (seq_at g img) (g.pages * b) j

-- pages j to k - 1 of block b are erased
pub record Back (g : Geometry) (img : List ℕ) (b j k : ℕ) : Type 0 where
  pub blank : (i : ℕ) → j ≤ i → i < k → erased g img (g.pages * b + i) ≡ true

-- a page of block b, at j or after it, is programmed
pub record Late (g : Geometry) (img : List ℕ) (b j : ℕ) : Type 0 where
  pub place : ℕ
  pub after : j ≤ place
  pub inside : place < g.pages
  pub programmed : erased g img (g.pages * b + place) ≡ false

-- block b breaks R1, or the order of R2
pub record Spoilt (g : Geometry) (img : List ℕ) (b : ℕ) : Type 0 where
  pub spoilt : ((i : ℕ) → i < g.pages → well_formed g img (g.pages * b + i) ≡ true) → in_order g.pages
      (erased g img) b ≡ true → ⊥

-- block b has j programmed pages and then erased ones, all as R1 wants them; what is seen up to its end, its range
pub record Strip (g : Geometry) (img : List ℕ) (b j : ℕ) (s : Seen) (r : Range) : Type 0 where
  pub most : j ≤ g.pages
  pub kinds : (i : ℕ) → i < g.pages → erased g img (g.pages * b + i) ≡ leb j i
  pub formed : (i : ℕ) → i < g.pages → well_formed g img (g.pages * b + i) ≡ true
  pub seen : s ≡ seen_to g img (g.pages * (b + 1))
  pub range : r ≡ range_to (erased g img) (seq_at g img) (g.pages * b) g.pages

-- the same of n blocks: the counts of programmed pages and the ranges stand in three lists; t if all ranges rise
pub record Strips (g : Geometry) (img : List ℕ) (n : ℕ) (s : Seen) (t : Bool) (programmed lows highs : List ℕ) : Type 0
  where
    pub kinds : (b : ℕ) → b < n → (i : ℕ) → i < g.pages → erased g img (g.pages * b + i) ≡ leb (get_or programmed b 0) i
    pub formed : (b : ℕ) → b < n → (i : ℕ) → i < g.pages → well_formed g img (g.pages * b + i) ≡ true
    pub seen : s ≡ seen_to g img (g.pages * n)
    pub rise : t ≡ true → (b : ℕ) → b < n → (range_to (erased g img) (seq_at g img) (g.pages * b) g.pages).rising
        ≡ true
    pub low : (b : ℕ) → b < n → get_or lows b 0 ≡ (range_to (erased g img) (seq_at g img) (g.pages * b) g.pages).low
    pub high : (b : ℕ) → b < n → get_or highs b 0 ≡ (range_to (erased g img) (seq_at g img) (g.pages * b) g.pages).high

-- R1 or R2 is broken
pub record Flaw (g : Geometry) (n : ℕ) (img : List ℕ) : Type 0 where
  pub flaw : r1 g n img ≡ Good → r2 g.pages n (erased g img) ≡ Good → ⊥

-- of a block of p pages the first j are programmed, neither none nor all
unfoldable pub parted : ℕ → ℕ → Bool
parted p j = pick (leb j 0) false (leb j (p - 1))

-- no block from f to i - 1 is programmed in part
pub record Bare (p : ℕ) (programmed : List ℕ) (f i : ℕ) : Type 0 where
  pub bare : (b : ℕ) → f ≤ b → b < i → parted p (get_or programmed b 0) ≡ false

-- block m is the first from block f on, below n, that is programmed in part; n if none is
pub record Parts (p : ℕ) (programmed : List ℕ) (f n m : ℕ) : Type 0 where
  pub most : m ≤ n
  pub before : Bare p programmed f m
  pub there : m < n → (parted p (get_or programmed m 0) ≡ true) × (f ≤ m)

-- at most one block below n is programmed in part
pub record Single (p n : ℕ) (programmed : List ℕ) : Type 0 where
  pub same : (a b : ℕ) → a < b → b < n → parted p (get_or programmed a 0) ≡ true → parted p (get_or programmed b 0) ≡ true
      → ⊥

-- two blocks below n are
pub record Double (p n : ℕ) (programmed : List ℕ) : Type 0 where
  pub one : ℕ
  pub two : ℕ
  pub order : one < two
  pub inside : two < n
  pub first : parted p (get_or programmed one 0) ≡ true
  pub second : parted p (get_or programmed two 0) ≡ true

-- how many pages of each block are programmed: those before the erased ones
pub record Counted (g : Geometry) (n : ℕ) (img programmed : List ℕ) : Type 0 where
  pub kinds : (b : ℕ) → b < n → (i : ℕ) → i < g.pages → erased g img (g.pages * b + i) ≡ leb (get_or programmed b 0) i

-- an image that R1 and R2 pass: its survey, the programmed pages of each block, and, where t, the ranges of R3
pub record Clear (g : Geometry) (n : ℕ) (img : List ℕ) (t : Bool) (s : Survey) (programmed lows highs : List ℕ) : Type 0
  where
    pub formed : r1 g n img ≡ Good
    pub ordered : r2 g.pages n (erased g img) ≡ Good
    pub survey : s ≡ survey_of g n img
    pub level : s.level < 255
    pub counted : Counted g n img programmed
    pub ranges : Shows t (Ranges (erased g img) (seq_at g img) g.pages n lows highs)
