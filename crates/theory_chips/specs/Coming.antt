-- The page after the next one, once that is programmed: the next one of its block, or past the block's end page 0 of
-- the first wholly erased block after it, round past the end to the start. g is a block's pages. Assumes nothing.
use Rattle.std.specs.Prelude.{◌≡◌, Bool, true, ℕ, suc, ◌+◌, ◌-◌, ◌*◌, ◌/◌, ◌<◌, ◌≤◌}
use Rattle.std.proofs.Math.Path.{refl}
use Rattle.std.proofs.Common.{◌∙◌, arith, eq-eqb, le-ltb}
use Rattle.std.proofs.Math.Bool.{false}
use Rattle.std.proofs.Math.Dec.{ltb}
use Rattle.geometry.specs.Tests.{pick, ◌&◌, and_right}
use Rattle.model.specs.Count.{count, least}
use Rattle.model.specs.Next.{mixed, first_in, Ahead, round, next_block, next_page, after, onward}
use Rattle.theory_counts.specs.Least.{least_is, least_of, least_none}
use Rattle.theory_counts.specs.Cases.{by_eq, by_test, true_false}
use Rattle.theory_chips.specs.Next.{R2, after_false, next_found, mixed_next, elsewhere, r2_next}

round_true : (n b : ℕ) (f : ℕ → Bool) → round n b f < n → f (round n b f) ≡ true
unfolding round
round_true n b f = go (ltb (least n (λ i. ltb b i & f i)) n)
  where
    go : (t : Bool) → pick t (least n (λ i. ltb b i & f i)) (least n f) < n
        → f (pick t (least n (λ i. ltb b i & f i)) (least n f)) ≡ true
    go true h = and_right _ _ ((least_is (λ i. ltb b i & f i) n).there h)
    go false h = (least_is f n).there h

module _ (g n : ℕ) (w : Ahead) (g-pos : 1 ≤ g) (r2 : R2 g n w.er) (free : 1 ≤ count (g * n) w.er) where
  abbrev b : ℕ
  b = next_block g n w

  abbrev j : ℕ
  j = first_in g w.er b

  abbrev N : ℕ
  N = next_page g n w

  found : (b < n) × (j < g) × (w.er N ≡ true)
  found = next_found g n w g-pos r2 free

  -- once N is programmed
  abbrev er' : ℕ → Bool
  er' = after N w.er

  r2' : R2 g n er'
  r2' = r2_next g n w g-pos r2 found.0 found.1

  other : (c i : ℕ) → i < g → ((c ≡ b) → (i ≡ j) → ⊥) → er' (g * c + i) ≡ w.er (g * c + i)
  other = elsewhere g n w g-pos r2 found.0 found.1

  at_n : er' N ≡ false
  at_n = rw (eq-eqb N N refl) refl

  upto : (i : ℕ) → i < suc j → er' (g * b + i) ≡ false
  upto i h = by_eq i j (λ e. rw e at_n)
      (λ e. after_false N (g * b + i) w.er ((least_is (λ i. w.er (g * b + i)) g).before i (omega (arith, h, e))))

  past : (i : ℕ) → j < i → i < g → er' (g * b + i) ≡ true
  past i h q = other b i q (λ _ e. omega (arith, h, e)) ∙ r2.mono b j i found.0 (omega arith) q found.2

  -- within its block
  pub next_within : suc j < g → next_page g n (onward N w) ≡ suc N
  next_within h =
      let m : mixed g er' b ≡ true = rw (upto 0 (omega arith), past (g - 1) (omega arith) (omega arith)) refl in
      let e : b ≡ next_block g n (onward N w) = mixed_next g n (onward N w) g-pos r2' b found.0 m in
      let f : first_in g er' b ≡ suc j = least_of (λ i. er' (g * b + i)) g (suc j)
      (record { most = omega arith; before = upto; there = λ q. past (suc j) (omega arith) q }) in
      rw (← e, f) (omega arith)

  last_page : (c : ℕ) → mixed g er' c ≡ true → er' (g * c + (g - 1)) ≡ true
  last_page c h = go (er' (g * c + 0)) h
    where
      go : (t : Bool) → pick t false (er' (g * c + (g - 1))) ≡ true → er' (g * c + (g - 1)) ≡ true
      go true i = absurd (true_false false i refl)
      go false i = i

  -- N was its block's last page: no block is partly programmed then
  not_mixed : suc j ≡ g → (c : ℕ) → c < n → mixed g er' c ≡ false
  not_mixed h c q = by_test (mixed g er' c)
      (λ e. by_eq c b
      (λ z. absurd (true_false (er' (g * c + (g - 1))) (last_page c e) (rw (z, (let v : g - 1 ≡ j = omega (arith, h) in v)) at_n)))
      (λ z. absurd (z (mixed_next g n w g-pos r2 c q
      (rw (← other c 0 (omega arith) (λ v _. z v), ← other c (g - 1) (omega arith) (λ v _. z v)) e)))))
      (λ e. e)

  -- past its block's end, while a page is left
  pub next_beyond : suc j ≡ g → 1 ≤ count (g * n) er' → next_page g n (onward N w) ≡ g * round n (N / g) (λ c. er' (g * c + 0))
  unfolding next_block
  next_beyond h some =
      let x = round n (N / g) (λ c. er' (g * c + 0)) in
      let none : least n (mixed g er') ≡ n = least_none (mixed g er') n (not_mixed h) in
      let t : ltb (least n (mixed g er')) n ≡ false = rw none (le-ltb n n (omega arith)) in
      let z : next_block g n (onward N w) ≡ x = rw t refl in
      let k : x < n = rw (← z) (next_found g n (onward N w) g-pos r2' some).0 in
      let f : first_in g er' x ≡ 0 = least_of (λ i. er' (g * x + i)) g 0
      (record { most = omega arith; before = λ i q. absurd (omega arith); there = λ q. round_true n (N / g) (λ c. er' (g * c + 0)) k }) in
      rw (z, f) (omega arith)
