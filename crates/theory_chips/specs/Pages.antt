-- The pages to come, as an update uses them: erased, below T, each another one. Assumes nothing.
use Rattle.std.specs.Prelude.{◌≡◌, refl, Bool, true, false, ℕ, zero, suc, ◌+◌, ◌*◌, ◌/◌, ◌<◌, ◌≤◌, ltb}
use Rattle.std.proofs.Common.{sym, arith, mul-le-mul_left, eq-eqb}
use Rattle.geometry.specs.declared.Geometry.{Geometry}
use Rattle.geometry.specs.Tests.{pick}
use Rattle.geometry.specs.Shape.{Core}
use Rattle.model.specs.Count.{count, least}
use Rattle.model.specs.Image.{Chip}
use Rattle.model.specs.Next.{mixed, Ahead, ahead, round, next_block, next_page, after, taken, nth}
use Rattle.model.specs.Update.{side_page}
use Rattle.theory_counts.specs.Least.{least_most}
use Rattle.theory_counts.specs.Cases.{by_eq, by_le, true_false}
use Rattle.theory_nodes.specs.Nodes.{fit_of}
use Rattle.theory_chips.specs.Next.{after_false, R2, round_most, nth_erased, nth_apart}
use Rattle.theory_chips.specs.Whole.{some_page}

taken_false : (p n m q : ℕ) (w : Ahead) → w.er q ≡ false → (taken p n w m).er q ≡ false
unfolding taken
taken_false p n zero q w h = h
taken_false p n (suc m) q w h = after_false (nth p n w m) q (taken p n w m).er (taken_false p n m q w h)

taken_nth : (p n m i : ℕ) (w : Ahead) → i < m → (taken p n w m).er (nth p n w i) ≡ false
unfolding taken
taken_nth p n zero i w h = absurd (omega arith)
taken_nth p n (suc m) i w h = by_eq i m (λ e. rw (e, eq-eqb (nth p n w m) (nth p n w m) refl) refl)
    (λ e. after_false (nth p n w m) (nth p n w i) (taken p n w m).er (taken_nth p n m i w (omega arith)))

-- wherever it is asked, the next page is at most T + p
next_most : (p n : ℕ) (w : Ahead) → next_page p n w ≤ p * n + p
unfolding next_block
next_most p n w = let b = least_most (λ j. w.er (p * next_block p n w + j)) p in let v = mul-le-mul_left p
    (block (ltb (least n (mixed p w.er)) n)) in omega (arith, b, v)
  where
    block : (t : Bool) → pick t (least n (mixed p w.er)) (round n (w.last / p) (λ b. w.er (p * b + 0))) ≤ n
    block true = least_most (mixed p w.er) n
    block false = round_most n (w.last / p) (λ b. w.er (p * b + 0))

pub side_most : (g : Geometry) (n : ℕ) (c : Chip) (l : ℕ) → side_page g n c l ≤ g.pages * n + g.pages
side_most g n c zero = next_most g.pages n (taken g.pages n (ahead g n c) 0)
side_most g n c (suc l) = next_most g.pages n (taken g.pages n (ahead g n c) l)

-- what may be named may be named once a page is taken
pub fit_after : (t p : ℕ) (er : ℕ → Bool) (l q : ℕ) → fit_of t er l q → fit_of t (after p er) l q
fit_after t p er zero q h = tt
fit_after t p er (suc l) q h = (h.0, after_false p q er h.1)

-- m pages are left
module _ (g : Geometry) (core : Core g) (n : ℕ) (c : Chip) (r2 : R2 g.pages n c.er)
    (m : ℕ) (free : m ≤ count (g.pages * n) c.er) where
  abbrev side : ℕ → ℕ
  side = side_page g n c

  abbrev fit : ℕ → ℕ → Type 0
  fit = fit_of (g.pages * n) c.er

  abbrev fit' : ℕ → ℕ → Type 0
  fit' = fit_of (g.pages * n) (taken g.pages n (ahead g n c) m).er

  pub side_erased : (j : ℕ) → 1 ≤ j → j ≤ m → (c.er (side j) ≡ true) × (side j < g.pages * n)
  side_erased zero b d = absurd (omega arith)
  side_erased (suc j) b d = nth_erased g.pages n (ahead g n c) (some_page g core) r2 j (omega arith)

  pub side_inj : (i j : ℕ) → 1 ≤ i → i ≤ m → 1 ≤ j → j ≤ m → side i ≡ side j → i ≡ j
  side_inj zero j b b' d d' e = absurd (omega arith)
  side_inj (suc i) zero b b' d d' e = absurd (omega arith)
  side_inj (suc i) (suc j) b b' d d' e = by_le (suc i) j
      (λ z. absurd (nth_apart g.pages n (ahead g n c) (some_page g core) r2 j i z (omega arith) (sym e)))
      (λ z. by_le (suc j) i (λ w. absurd (nth_apart g.pages n (ahead g n c) (some_page g core) r2 i j w (omega arith) e)) (λ w. omega arith))

  pub keep : (l q : ℕ) → fit l q → fit' l q
  keep zero q h = tt
  keep (suc l) q h = (h.0, taken_false g.pages n m q (ahead g n c) h.1)

  pub fit_side : (j l : ℕ) → 1 ≤ j → j ≤ m → fit' l (side j)
  fit_side j zero b d = tt
  fit_side zero (suc l) b d = absurd (omega arith)
  fit_side (suc j) (suc l) b d = ((side_erased (suc j) b d).1, taken_nth g.pages n m j (ahead g n c) (omega arith))

  pub new_side : (j l : ℕ) → 1 ≤ j → j ≤ m → fit (suc l) (side j) → ⊥
  new_side j l b d h = true_false (c.er (side j)) (side_erased j b d).0 h.1
