-- The counts of the nodes below, read before they are walked. Assumes nothing.
use Rattle.std.specs.Prelude.{ℕ, ◌+◌, ◌*◌, ◌<◌, ◌≤◌, ◌≡◌, refl, List, length, get_or, set}
use Rattle.std.proofs.Common.{◌∙◌, length-set, get_or-set_same, get_or-set_other, arith}
use Rattle.geometry.specs.declared.Geometry.{Geometry}
use Rattle.model.specs.Bytes.{u32_at, node_count}
use Rattle.theory_counts.specs.Least.{by_lt}

-- n is the count of the node at level l of page p
pub record Counted (g : Geometry) (img : List ℕ) (p l n : ℕ) : Type 0 where
  pub count : n ≡ node_count g img p l

-- c holds the counts at level l of the pages that the first n entries from byte `at` name
pub record Counts (g : Geometry) (img : List ℕ) (l at n : ℕ) (c : List ℕ) : Type 0 where
  pub counts : (j : ℕ) → j < n → get_or c j 0 ≡ node_count g img (u32_at img (at + 8 * j + 4)) l

module _ (g : Geometry) (img : List ℕ) (l at : ℕ) (c : List ℕ) where
  pub counts_start : Counts g img l at 0 c
  counts_start = record { counts = λ j h. absurd (omega arith) }

  pub counts_go : (i k a n b : ℕ) → Counts g img l at i c → i < k → k < 256 → length c ≡ 256
      → a ≡ u32_at img (at + 8 * i + 4) → n ≡ node_count g img a l → b ≡ n
      → Counts g img l at (i + 1) (set c i b)
  counts_go i k a n b x low high long ea en eb = record {
    counts = λ j h. by_lt j i
        (λ d. get_or-set_other c i j b 0 (λ e. omega (arith, e, d)) ∙ x.counts j d)
        (λ d. (let w : j ≡ i = omega arith in rw (w, get_or-set_same c i b 0 (omega (arith, low, high, long)), eb, en, ea) refl));
  }

  pub counts_end : (i n : ℕ) → Counts g img l at i c → i ≤ n → n ≤ i → Counts g img l at n c
  counts_end i n x h k = let w : i ≡ n = omega arith in rw (← w) x

  pub count_read : (n i a b r : ℕ) → Counts g img l at n c → b ≡ get_or c i 0 → r ≡ b → a ≡ u32_at img (at + 8 * i + 4)
      → i < n → Counted g img a l r
  count_read n i a b r x eb er ea h = record { count = er ∙ eb ∙ x.counts i h ∙ rw ea refl }

pub counted : (g : Geometry) (img : List ℕ) (p l n : ℕ) → n ≡ node_count g img p l → Counted g img p l n
counted g img p l n e = record { count = e }

pub count_two : (g : Geometry) (img : List ℕ) (p l n : ℕ) → Counted g img p l n → l ≡ 2 → Counted g img p 2 n
count_two g img p l n x e = record { count = x.count ∙ rw e refl }

pub counts_long : (c : List ℕ) (i b : ℕ) → length c ≡ 256 → length (set c i b) ≡ 256
counts_long c i b e = length-set c i b ∙ e

pub ruleset count_laws = (counts_start, counts_go, counts_end, count_read, counted, count_two, counts_long)
