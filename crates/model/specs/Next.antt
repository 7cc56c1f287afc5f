-- "Which page next". p is a block's pages, n the blocks, er tells the erased pages. Definitions alone; assumes nothing.
use Rattle.std.specs.Prelude.{ℕ, zero, suc, ◌+◌, ◌-◌, ◌*◌, ◌/◌, Bool, false, not, eqb, ltb}
use Rattle.geometry.specs.declared.Geometry.{Geometry}
use Rattle.geometry.specs.Tests.{pick, ◌&◌}
use Rattle.model.specs.Count.{count, least, any, arg}
use Rattle.model.specs.Image.{pages_of, Chip}

-- a partly programmed block: by R2 its first page is programmed and its last one erased
abbrev pub mixed : ℕ → (ℕ → Bool) → ℕ → Bool
mixed p er b = pick (er (p * b + 0)) false (er (p * b + (p - 1)))

-- a block without erased pages: by R2 its last page is programmed
abbrev pub full : ℕ → (ℕ → Bool) → ℕ → Bool
full p er b = not (er (p * b + (p - 1)))

-- the place in block b of its first erased page
abbrev pub first_in : ℕ → (ℕ → Bool) → ℕ → ℕ
first_in p er b = least p (λ j. er (p * b + j))

-- how many pages of block b pass
abbrev pub in_block : ℕ → (ℕ → Bool) → ℕ → ℕ
in_block p f b = count p (λ j. f (p * b + j))

-- what the choice looks at: which pages are erased, and the page with the largest sequence number
pub record Ahead : Type 0 where
  pub er : ℕ → Bool
  pub last : ℕ

abbrev pub ahead : Geometry → ℕ → Chip → Ahead
ahead g n c = record { er = c.er; last = arg (pages_of g n) c.seq }

-- the first block met that passes, from the one after b on, round past the end to the start; n if none does
unfoldable pub round : ℕ → ℕ → (ℕ → Bool) → ℕ
round n b f = pick (any n (λ i. ltb b i & f i)) (least n (λ i. ltb b i & f i)) (least n f)

-- the partly programmed block, else the first wholly erased one "after the block that holds the page with the largest
-- sequence number"
unfoldable pub next_block : ℕ → ℕ → Ahead → ℕ
next_block p n w = pick (any n (mixed p w.er)) (least n (mixed p w.er)) (round n (w.last / p) (λ b. w.er (p * b + 0)))

-- "The next page is the first erased one of the partly programmed block, else page 0 of the .. wholly erased block"
abbrev pub next_page : ℕ → ℕ → Ahead → ℕ
next_page p n w = p * next_block p n w + first_in p w.er (next_block p n w)

-- the erased pages once page q is programmed
abbrev pub after : ℕ → (ℕ → Bool) → ℕ → Bool
after q er i = pick (eqb i q) false (er i)

-- page q is programmed: it takes the largest number
abbrev pub onward : ℕ → Ahead → Ahead
onward q w = record { er = after q w.er; last = q }

-- the pages to come: the i-th when the earlier ones are programmed
unfoldable pub taken : ℕ → ℕ → Ahead → ℕ → Ahead
taken p n w zero = w
taken p n w (suc i) = onward (next_page p n (taken p n w i)) (taken p n w i)

abbrev pub nth : ℕ → ℕ → Ahead → ℕ → ℕ
nth p n w i = next_page p n (taken p n w i)
