-- The numbers of the programmed pages in parts. `er` tells the erased pages, `seq` the numbers. Definitions alone;
-- assumes nothing.
use Rattle.std.specs.Prelude.{ℕ, ◌<◌, ◌≤◌, Bool, true, false, not, ◌≡◌, List, leb, ltb, get_or}
use Rattle.geometry.specs.Tests.{◌&◌}
use Rattle.geometry.specs.Bounds.{four_bytes}
use Rattle.model.specs.Rules.{repeated}
use Rattle.sound_twins.specs.Twins.{page_in, number_in}

-- a key stands below place c
pub record Somewhere (l : List ℕ) (c v : ℕ) : Type 0 where
  pub place : ℕ
  pub below : place < c
  pub is : get_or l place 0 ≡ v

-- of the first k keys of l₀ those with a number below b are the first c of l, and the others still stand in l
pub record Sieved (l₀ l : List ℕ) (b k c : ℕ) : Type 0 where
  pub few : c ≤ k
  pub there : (i : ℕ) → i < k → number_in (get_or l₀ i 0) < b → Somewhere l c (get_or l₀ i 0)
  pub back : (j : ℕ) → j < c → Somewhere l₀ k (get_or l j 0)
  pub less : (j : ℕ) → j < c → number_in (get_or l j 0) < b
  pub rest : (i : ℕ) → k ≤ i → get_or l i 0 ≡ get_or l₀ i 0

module _ (er : ℕ → Bool) (seq : ℕ → ℕ) where
  -- a page is programmed and its number is low or more, and below high
  unfoldable pub within : ℕ → ℕ → ℕ → Bool
  within low high p = (leb low (seq p) & ltb (seq p) high) & not (er p)

  -- a key is that of a programmed page below t, and its number is low or more, and below high
  pub record Stem (low high t k : ℕ) : Type 0 where
    pub below : page_in k < t
    pub programmed : er (page_in k) ≡ false
    pub number : seq (page_in k) ≡ number_in k
    pub from : low ≤ number_in k
    pub to : number_in k < high
    pub fits : k < 18446744073709551616

  -- a key of page q stands below place c
  pub record Keyed (l : List ℕ) (c q : ℕ) : Type 0 where
    pub place : ℕ
    pub below : place < c
    pub page : page_in (get_or l place 0) ≡ q
    pub number : number_in (get_or l place 0) ≡ seq q

  -- the first c keys are those of the programmed pages below t with numbers from low to high - 1
  pub record Held (low high t c : ℕ) (l : List ℕ) : Type 0 where
    pub there : (q : ℕ) → q < t → er q ≡ false → low ≤ seq q → seq q < high → Keyed l c q
    pub back : (i : ℕ) → i < c → Stem low high t (get_or l i 0)
    pub small : (q : ℕ) → q < t → seq q < four_bytes

  -- a page before t at which one stops has the number of a lower one
  pub record Stops (t p : ℕ) : Type 0 where
    pub most : p ≤ t
    pub stop : p < t → repeated er seq p ≡ true

  -- the numbers of the programmed pages below t differ
  pub record Differ (t : ℕ) : Type 0 where
    pub differ : (p q : ℕ) → q < p → p < t → er p ≡ false → er q ≡ false → seq q ≡ seq p → ⊥

  -- of t pages: of those below r with a number below low no two have the same, and r is t or has a lower one's
  pub record Swept (t low r : ℕ) : Type 0 where
    pub stops : Stops t r
    pub differ : (p q : ℕ) → q < p → p < r → er p ≡ false → er q ≡ false → seq q ≡ seq p → seq p < low → ⊥
    pub small : 0 < low → (q : ℕ) → q < r → seq q < four_bytes
