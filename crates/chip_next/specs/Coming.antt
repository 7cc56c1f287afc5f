-- The pages to come as the code chooses them, one after the other. Definitions alone; assumes nothing.
use Rattle.std.specs.Prelude.{ℕ, zero, suc, ◌+◌, ◌*◌, ◌<◌, Bool, false, ◌≡◌, List, eqb, leb, get_or}
use Rattle.geometry.specs.Tests.{pick, ◌&◌}
use Rattle.model.specs.Next.{Ahead, round, after}
use Rattle.live_beside.specs.Beside.{next_after, page_from}

-- page q is erased and not among the first i of the pages chosen
unfoldable pub free : (ℕ → Bool) → List ℕ → ℕ → ℕ → Bool
free er ps zero q = er q
free er ps (suc i) q = pick (eqb q (get_or ps i 0)) false (free er ps i q)

-- block b is block a or a later one, and its first page passes
unfoldable pub whole : ℕ → (ℕ → Bool) → ℕ → ℕ → Bool
whole p er a b = leb a b & er (p * b + 0)

-- the first block met whose first page passes, from the one after b on, round past the end to the start
unfoldable pub whole_after : ℕ → ℕ → (ℕ → Bool) → ℕ → ℕ
whole_after p n er b = round n b (λ i. er (p * i + 0))

-- what the choice looks at
abbrev pub seen : (ℕ → Bool) → ℕ → Ahead
seen er last = record { er = er; last = last }

-- the first m of a list are the pages to come, x the next one
pub record Coming (p n : ℕ) (er : ℕ → Bool) (x m : ℕ) (ps : List ℕ) : Type 0 where
  pub at : (i : ℕ) → i < m → get_or ps i 0 ≡ page_from p n er x i

-- the erased pages once the first i of the pages to come are programmed
unfoldable pub erased_from : ℕ → ℕ → (ℕ → Bool) → ℕ → ℕ → ℕ → Bool
erased_from p n er x zero = er
erased_from p n er x (suc i) = erased_from p n (after x er) (next_after p n (after x er) x) i
