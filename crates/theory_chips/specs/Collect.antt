-- The collector: rounds until enough pages are erased. Assumes nothing.
use Rattle.std.specs.Prelude.{◌≡◌, Bool, ◌⊎◌, ltb, None, Option, Some}
use Rattle.std.proofs.Common.{arith}
use Rattle.std.proofs.Math.Bool.{true, false}
use Prim.Native.Nat.{ℕ, zero, suc, ◌+◌, ◌-◌, ◌*◌, ◌<◌, ◌≤◌}
use borrow.Author.Tests.{not-true}
use Rattle.geometry.specs.declared.Geometry.{Geometry}
use Rattle.geometry.specs.Tests.{pick}
use Rattle.geometry.specs.Shape.{Shape, shape_core}
use Rattle.model.specs.Count.{count}
use Rattle.model.specs.Image.{Chip}
use Rattle.model.specs.Tree.{map_of, places_of, live}
use Rattle.model.specs.Next.{full}
use Rattle.model.specs.Collect.{lives_in, the_victim}
use Rattle.theory_counts.specs.Cases.{by_test, true_false}
use Rattle.theory_chips.specs.Whole.{some_page, Whole, Same}
use Rattle.theory_chips.specs.Sweep.{sweep}
use Rattle.theory_chips.specs.Erase.{erase_block}

-- one round: the victim's live pages moved, then the victim erased
unfoldable pub clear : Geometry → ℕ → Option ℕ → Chip → Chip
clear g n None c = c
clear g n (Some v) c = erase_block g v (sweep g n v g.pages c)

-- the erased pages wanted: "While F < 32 + k, collect"
abbrev pub wanted : Geometry → ℕ → ℕ
wanted g k = g.pages + k

abbrev pub lacks : Geometry → ℕ → ℕ → Chip → Bool
lacks g n k c = ltb (count (g.pages * n) c.er) (wanted g k)

-- at most m rounds, while pages are lacking
unfoldable pub collect : Geometry → ℕ → ℕ → ℕ → Chip → Chip
collect g n k zero c = c
collect g n k (suc m) c = pick (lacks g n k c) (collect g n k m (clear g n (the_victim g.pages n c) c)) c

-- R7: a block's pages are erased, or some full block has no more live pages than the chip has erased ones
abbrev pub R7 : Geometry → ℕ → Chip → Type 0
R7 g n c = (g.pages ≤ count (g.pages * n) c.er) ⊎ ((b : ℕ) × (b < n) × (full g.pages c.er b ≡ true) ×
    (lives_in g.pages b c ≤ count (g.pages * n) c.er))

-- R8: T − L is at least twice a block's pages
abbrev pub R8 : Geometry → ℕ → Chip → Type 0
R8 g n c = count (g.pages * n) (live (places_of c)) + 2 * g.pages ≤ g.pages * n

-- what a round, and the collector, leave
pub record Cleared (g : Geometry) (n : ℕ) (c c' : Chip) : Type 0 where
  pub good : Whole g n c'
  pub pairs_are : map_of c' ≡ map_of c
  pub lives : count (g.pages * n) (live (places_of c')) ≤ count (g.pages * n) (live (places_of c))
  pub alike : Same g c c'

module _ (g : Geometry) (shape : Shape g) (n k : ℕ) where
  module _ (c : Chip) (h : Whole g n c) where
    -- a full block below n has no erased page
    pub full_none : (b i : ℕ) → b < n → full g.pages c.er b ≡ true → i < g.pages
        → c.er (g.pages * b + i) ≡ false
    full_none b i q f w = by_test (c.er (g.pages * b + i))
        (λ a. let p = some_page g (shape_core g shape) in absurd (true_false (c.er (g.pages * b + (g.pages - 1)))
        (h.r2.mono b i (g.pages - 1) q (omega (arith, p)) (omega (arith, p)) a) (not-true (c.er (g.pages * b + (g.pages - 1))) f)))
        (λ a. a)
