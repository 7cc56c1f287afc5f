-- The next page: R2 is kept, and there is one while a page is erased. g is a block's pages.
-- Assumes nothing.
use Rattle.std.specs.Prelude.{◌≡◌, Bool}
use Rattle.std.proofs.Math.Path.{refl, ap}
use Rattle.std.proofs.Common.{sym, ◌∙◌, mul-suc, mul-zero, mul_comm, mul-le-mul_left, div-lt_iff_lt-mul}
use Rattle.std.proofs.Math.Bool.{true, false}
use Prim.Native.Nat.{ℕ, zero, suc, ◌+◌, ◌-◌, ◌*◌, ◌/◌, ◌<◌, ◌≤◌}
use native.Mathlib.Omega.{arith}
use Rattle.std.proofs.Math.Dec.{eqb, ltb}
use borrow.Author.Tests.{ne_eqb, le-ltb, ltb-true, ltb-false, eqb-false}
use Rattle.geometry.specs.Tests.{pick, ◌&◌, and_left, and_right, and_both}
use Rattle.model.specs.Count.{count, least}
use Rattle.model.specs.Next.{mixed, first_in, Ahead, round, next_block, next_page, after, taken, nth}
use Rattle.theory_counts.specs.Least.{by_lt, Least, least_is, least_most, least_zero, least_hit}
use Rattle.theory_counts.specs.Cases.{by_eq, true_false}
use Rattle.theory_chips.specs.Count.{some_true, count_gone}

-- a block ends before the next one begins
pub block_in : (g b n : ℕ) → b < n → g * b + g ≤ g * n
block_in g b n h = rw mul-suc at (mul-le-mul_left g h)

-- pages of different blocks differ
pub page_inj : (g b c i j : ℕ) → i < g → j < g → g * b + i ≡ g * c + j → (b ≡ c) × (i ≡ j)
page_inj g b c i j p q e = go (ltb b c) (ltb c b) refl refl
  where
    go : (t u : Bool) → ltb b c ≡ t → ltb c b ≡ u → (b ≡ c) × (i ≡ j)
    go true u x y = absurd (omega (arith, block_in g b c (ltb-true b c x)))
    go false true x y = absurd (omega (arith, block_in g c b (ltb-true c b y)))
    go false false x y = let z : b ≡ c = omega (arith, ltb-false b c x, ltb-false c b y) in let w = ap (λ m. g * m) z in
        (z, omega (arith, w))

pub in_range : (g n b j : ℕ) → b < n → j < g → g * b + j < g * n
in_range g n b j p q = omega (arith, block_in g b n p)

by_block : (g n q : ℕ) → q < g * n → (c : ℕ) × (j : ℕ) × (c < n) × (j < g) × (q ≡ g * c + j)
by_block g zero q h = absurd (omega (arith, mul-zero g))
by_block g (suc n) q h = go (ltb q (g * n)) refl (by_block g n q)
  where
    go : (t : Bool) → ltb q (g * n) ≡ t → (q < g * n → (c : ℕ) × (j : ℕ) × (c < n) × (j < g) × (q ≡ g * c + j))
        → (c : ℕ) × (j : ℕ) × (c < suc n) × (j < g) × (q ≡ g * c + j)
    go true e k = let w = k (ltb-true q (g * n) e) in (w.0, w.1, omega (arith, w.2), w.3, w.4)
    go false e k = let z = ltb-false q (g * n) e in (n, q - g * n, omega arith, omega (arith, mul-suc g n), omega arith)

-- a page that is not erased does not become so
pub after_false : (p q : ℕ) (er : ℕ → Bool) → er q ≡ false → after p er q ≡ false
after_false p q er h = go (eqb q p)
  where
    go : (t : Bool) → pick t false (er q) ≡ false
    go true = refl
    go false = h

-- R2: in a block programmed pages come before erased ones; at most one block has both
pub record R2 (g n : ℕ) (er : ℕ → Bool) : Type 0 where
  pub mono : (b i j : ℕ) → b < n → i ≤ j → j < g → er (g * b + i) ≡ true → er (g * b + j) ≡ true
  pub one : (b c : ℕ) → b < n → c < n → mixed g er b ≡ true → mixed g er c ≡ true → b ≡ c

-- going round: it stands within n, and if one passes it is found
pub round_most : (n b : ℕ) (f : ℕ → Bool) → round n b f ≤ n
unfolding round
round_most n b f = go (ltb (least n (λ i. ltb b i & f i)) n)
  where
    go : (t : Bool) → pick t (least n (λ i. ltb b i & f i)) (least n f) ≤ n
    go true = least_most (λ i. ltb b i & f i) n
    go false = least_most f n

pub round_found : (n b c : ℕ) (f : ℕ → Bool) → c < n → f c ≡ true → (round n b f < n) × (f (round n b f) ≡ true)
unfolding round
round_found n b c f q h = go (ltb (least n (λ i. ltb b i & f i)) n) refl (least_is (λ i. ltb b i & f i) n) (least_is f n)
  where
    go : (t : Bool) → ltb (least n (λ i. ltb b i & f i)) n ≡ t → Least (λ i. ltb b i & f i) n
        (least n (λ i. ltb b i & f i))
        → Least f n (least n f)
        → (pick t (least n (λ i. ltb b i & f i)) (least n f) < n) ×
        (f (pick t (least n (λ i. ltb b i & f i)) (least n f)) ≡ true)
    go true e l k = let z = ltb-true (least n (λ i. ltb b i & f i)) n e in (z, and_right _ _ (l.there z))
    go false e l k = let z = inside (ltb c (least n f)) refl in (z, k.there z)
      where
        inside : (t : Bool) → ltb c (least n f) ≡ t → least n f < n
        inside true x = absurd (true_false (f c) h (k.before c (ltb-true c (least n f) x)))
        inside false x = omega (arith, ltb-false c (least n f) x)

-- how many blocks are passed from the one after b on, round past the end to the start, before x is met
abbrev pub steps : ℕ → ℕ → ℕ → ℕ
steps n b x = pick (ltb b x) (x - suc b) (x + (n - suc b))

-- it is the first one met that passes
pub round_first : (n b i : ℕ) (f : ℕ → Bool) → b < n → i < n → f i ≡ true → steps n b (round n b f) ≤ steps n b i
unfolding round
round_first n b i f q h e = go (ltb (least n (λ i. ltb b i & f i)) n) refl (least_is (λ i. ltb b i & f i) n) (least_is f n)
  where
    higher : Least (λ i. ltb b i & f i) n (least n (λ i. ltb b i & f i)) → ltb b i ≡ true
        → least n (λ i. ltb b i & f i) ≤ i
    higher l x = by_lt i (least n (λ i. ltb b i & f i)) (λ z. absurd (true_false _ (and_both _ _ x e) (l.before i z))) (λ z. z)

    lowest : Least f n (least n f) → least n f ≤ i
    lowest k = by_lt i (least n f) (λ z. absurd (true_false (f i) e (k.before i z))) (λ z. z)

    go : (t : Bool) → ltb (least n (λ i. ltb b i & f i)) n ≡ t → Least (λ i. ltb b i & f i) n
        (least n (λ i. ltb b i & f i))
        → Least f n (least n f) → steps n b (pick t (least n (λ i. ltb b i & f i)) (least n f)) ≤ steps n b i
    go true x l k =
        let z = ltb-true (least n (λ i. ltb b i & f i)) n x in
        let a = and_left _ _ (l.there z) in
        rw a (after (ltb b i) refl z (ltb-true b (least n (λ i. ltb b i & f i)) a) l)
      where
        after : (u : Bool) → ltb b i ≡ u → least n (λ i. ltb b i & f i) < n → b < least n (λ i. ltb b i & f i)
            → Least (λ i. ltb b i & f i) n (least n (λ i. ltb b i & f i))
            → least n (λ i. ltb b i & f i) - suc b ≤ pick u (i - suc b) (i + (n - suc b))
        after true y z v l = omega (arith, higher l y)
        after false y z v l = omega (arith, z)
    go false x l k = before (ltb b i) refl
      where
        no : ltb b i ≡ true → ⊥
        no y = omega (arith, higher l y, h, ltb-false (least n (λ i. ltb b i & f i)) n x)

        before : (u : Bool) → ltb b i ≡ u → steps n b (least n f) ≤ pick u (i - suc b) (i + (n - suc b))
        before true y = absurd (no y)
        before false y = rw (le-ltb b (least n f) (omega (arith, lowest k, ltb-false b i y))) (omega (arith, lowest k))

-- every page of block b is erased
abbrev pub Wholly : ℕ → (ℕ → Bool) → ℕ → Type 0
Wholly g er b = (j : ℕ) → j < g → er (g * b + j) ≡ true

-- the next page is page 0 of a wholly erased block, which is met no later than block c
pub record First (g n : ℕ) (w : Ahead) (c : ℕ) : Type 0 where
  pub wholly : Wholly g w.er (next_block g n w)
  pub page : next_page g n w ≡ g * next_block g n w
  pub met : steps n (w.last / g) (next_block g n w) ≤ steps n (w.last / g) c

module _ (g n : ℕ) (w : Ahead) (g-pos : 1 ≤ g) (r2 : R2 g n w.er) where
  abbrev er : ℕ → Bool
  er = w.er

  mixed_first : (b : ℕ) → mixed g er b ≡ true → (er (g * b + 0) ≡ false) × (er (g * b + (g - 1)) ≡ true)
  mixed_first b h = go (er (g * b + 0)) refl h
    where
      go : (t : Bool) → er (g * b + 0) ≡ t → pick t false (er (g * b + (g - 1))) ≡ true → (er (g * b + 0) ≡ false) ×
          (er (g * b + (g - 1)) ≡ true)
      go true e i = absurd (true_false false i refl)
      go false e i = (e, i)

  -- the first erased page of a block that has one
  first_in_lem : (b j : ℕ) → j < g → er (g * b + j) ≡ true → (first_in g er b ≤ j) × (er (g * b + first_in g er b) ≡ true)
  first_in_lem b j q h = let l = least_is (λ j. er (g * b + j)) g in go l (ltb j (first_in g er b)) refl
    where
      go : Least (λ j. er (g * b + j)) g (first_in g er b) → (t : Bool) → ltb j (first_in g er b) ≡ t
          → (first_in g er b ≤ j) × (er (g * b + first_in g er b) ≡ true)
      go l true e = absurd (true_false (er (g * b + j)) h (l.before j (ltb-true j (first_in g er b) e)))
      go l false e = let z = ltb-false j (first_in g er b) e in (z, l.there (omega arith))

  -- if a page is erased, the next page is one of them
  next_erased_lem : (c j : ℕ) → c < n → j < g → er (g * c + j) ≡ true
      → (next_block g n w < n) × (first_in g er (next_block g n w) < g) × (er (next_page g n w) ≡ true)
  unfolding next_block
  next_erased_lem c j q v h = go (ltb (least n (mixed g er)) n) refl (least_is (mixed g er) n)
    where
      go : (t : Bool) → ltb (least n (mixed g er)) n ≡ t → Least (mixed g er) n (least n (mixed g er))
          → (pick t (least n (mixed g er)) (round n (w.last / g) (λ b. er (g * b + 0))) < n) ×
          (first_in g er (pick t (least n (mixed g er)) (round n (w.last / g) (λ b. er (g * b + 0)))) < g)
          × (er (g * pick t (least n (mixed g er)) (round n (w.last / g) (λ b. er (g * b + 0))) + first_in g er
          (pick t (least n (mixed g er)) (round n (w.last / g) (λ b. er (g * b + 0))))) ≡ true)
      go true e l =
          let b = least n (mixed g er) in
          let z = ltb-true b n e in
          let f = first_in_lem b (g - 1) (omega arith) (mixed_first b (l.there z)).1 in
          (z, omega (arith, f.0), f.1)
      go false e l =
          let b = round n (w.last / g) (λ b. er (g * b + 0)) in
          let z = ltb-false (least n (mixed g er)) n e in
          let no = l.before c (omega arith) in
          let last = r2.mono c j (g - 1) q (omega arith) (omega arith) h in
          let blank = is_blank (er (g * c + 0)) refl no last in
          let k = round_found n (w.last / g) c (λ b. er (g * b + 0)) q blank in
          let f = first_in_lem b 0 (omega arith) k.1 in
          (k.0, omega (arith, f.0), f.1)
        where
          is_blank : (t : Bool) → er (g * c + 0) ≡ t → pick t false (er (g * c + (g - 1))) ≡ false
              → er (g * c + (g - 1)) ≡ true
              → er (g * c + 0) ≡ true
          is_blank true x y v = x
          is_blank false x y v = absurd (true_false (er (g * c + (g - 1))) v y)

  -- it is one while there is one
  pub next_found : 1 ≤ count (g * n) er → (next_block g n w < n) × (first_in g er (next_block g n w) < g) ×
      (er (next_page g n w) ≡ true)
  next_found h =
      let f = some_true (g * n) er h in
      let v = by_block g n f.0 f.1 in
      next_erased_lem v.0 v.1 v.2 v.3 (rw (← v.4) f.2)

  pub next_in : 1 ≤ count (g * n) er → next_page g n w < g * n
  next_in h = in_range g n (next_block g n w) (first_in g er (next_block g n w)) (next_found h).0 (next_found h).1

  -- a mixed block is the next one
  pub mixed_next : (b : ℕ) → b < n → mixed g er b ≡ true → b ≡ next_block g n w
  unfolding next_block
  mixed_next b q h = go (ltb (least n (mixed g er)) n) refl (least_is (mixed g er) n)
    where
      go : (t : Bool) → ltb (least n (mixed g er)) n ≡ t → Least (mixed g er) n (least n (mixed g er))
          → b ≡ pick t (least n (mixed g er)) (round n (w.last / g) (λ b. er (g * b + 0)))
      go true e l = let z = ltb-true (least n (mixed g er)) n e in r2.one b (least n (mixed g er)) q z h (l.there z)
      go false e l = let z = ltb-false (least n (mixed g er)) n e in
          absurd (true_false (mixed g er b) h (l.before b (omega arith)))

  -- request 2: where no block is partly programmed, the first wholly erased block met from the one after the block of
  -- the page with the largest number on, round past the end to the start, is taken
  module _ (none : (b : ℕ) → b < n → mixed g er b ≡ false) where
    abbrev heads : ℕ → Bool
    heads b = er (g * b + 0)

    goes_round : next_block g n w ≡ round n (w.last / g) heads
    unfolding next_block
    goes_round = go (ltb (least n (mixed g er)) n) refl (least_is (mixed g er) n)
      where
        go : (t : Bool) → ltb (least n (mixed g er)) n ≡ t → Least (mixed g er) n (least n (mixed g er))
            → pick t (least n (mixed g er)) (round n (w.last / g) heads) ≡ round n (w.last / g) heads
        go true e l = let z = ltb-true (least n (mixed g er)) n e in
            absurd (true_false _ (l.there z) (none (least n (mixed g er)) z))
        go false e l = refl

    pub next_first : w.last < g * n → (c : ℕ) → c < n → Wholly g er c → First g n w c
    next_first low c q h =
        let head = h 0 (omega arith) in
        let k = round_found n (w.last / g) c heads q head in
        let b = next_block g n w in
        let inside : b < n = rw goes_round k.0 in
        let first : er (g * b + 0) ≡ true = rw goes_round k.1 in
        let met = round_first n (w.last / g) c heads ((div-lt_iff_lt-mul g-pos).1 (rw (mul_comm n g) low)) q head in
        let start = least_hit (λ j. er (g * b + j)) g 0 (sym (least_zero (λ j. er (g * b + j)))) first (omega arith) in
        record {
          wholly = λ j v. r2.mono b 0 j inside (omega arith) v first;
          page = ap (λ j. g * b + j) start ∙ omega arith;
          met = rw goes_round met;
        }

  module _ (here : next_block g n w < n) (inside : first_in g er (next_block g n w) < g) where
    abbrev er' : ℕ → Bool
    er' = after (next_page g n w) er

    pub elsewhere : (b j : ℕ) → j < g → ((b ≡ next_block g n w) → (j ≡ first_in g er (next_block g n w)) → ⊥)
        → er' (g * b + j) ≡ er (g * b + j)
    elsewhere b j q d = rw (ne_eqb (g * b + j) (next_page g n w) (λ e. let z = page_inj g b (next_block g n w) j
        (first_in g er (next_block g n w)) q inside e in d z.0 z.1)) refl

    true_old : (q : ℕ) → er' q ≡ true → (er q ≡ true) × (q ≡ next_page g n w → ⊥)
    true_old q h = go (eqb q (next_page g n w)) refl h
      where
        go : (t : Bool) → eqb q (next_page g n w) ≡ t → pick t false (er q) ≡ true → (er q ≡ true) ×
            (q ≡ next_page g n w → ⊥)
        go true e i = absurd (true_false false i refl)
        go false e i = (i, eqb-false q (next_page g n w) e)

    -- R2 after the next page is programmed
    pub r2_next : R2 g n er'
    r2_next = record { mono = mono'; one = λ b c p q h i. there b p h ∙ sym (there c q i) }
      where
        mono' : (b i j : ℕ) → b < n → i ≤ j → j < g → er' (g * b + i) ≡ true → er' (g * b + j) ≡ true
        mono' b i j p q v h =
            let o = true_old (g * b + i) h in
            elsewhere b j v (λ e f. by_eq i j
            (λ z. o.1 (rw (z, e, f) refl))
            (λ z. true_false (er (g * b + i)) o.0 (rw e ((least_is (λ j. er (g * next_block g n w + j)) g).before i (omega arith)))))
            ∙ r2.mono b i j p q v o.0

        there : (b : ℕ) → b < n → mixed g er' b ≡ true → b ≡ next_block g n w
        there b p h = by_eq b (next_block g n w) (λ z. z) (λ z. mixed_next b p
            (rw (← elsewhere b 0 (omega arith) (λ e _. z e), ← elsewhere b (g - 1) (omega arith) (λ e _. z e)) h))

-- ---- the pages to come
pub record Step (g n : ℕ) (w : Ahead) (i : ℕ) : Type 0 where
  pub r2 : R2 g n (taken g n w i).er
  pub left : count (g * n) w.er ≡ i + count (g * n) (taken g n w i).er

-- while pages are left the i-th one to come is erased, also at the beginning
module _ (g n : ℕ) (w : Ahead) (g-pos : 1 ≤ g) (start : R2 g n w.er) where
  now_erased : (i : ℕ) → Step g n w i → i < count (g * n) w.er
      → (next_block g n (taken g n w i) < n) × (first_in g (taken g n w i).er (next_block g n (taken g n w i)) < g) ×
      ((taken g n w i).er (nth g n w i) ≡ true)
  now_erased i s h = next_found g n (taken g n w i) g-pos s.r2 (omega (arith, s.left))

  pub step : (i : ℕ) → i ≤ count (g * n) w.er → Step g n w i
  unfolding taken
  step zero h = record { r2 = start; left = omega arith }
  step (suc i) h =
      let s = step i (omega arith) in
      let v = now_erased i s h in
      let p = next_in g n (taken g n w i) g-pos s.r2 (omega (arith, s.left)) in
      let c = count_gone (g * n) (nth g n w i) (taken g n w i).er p v.2 in
      record { r2 = r2_next g n (taken g n w i) g-pos s.r2 v.0 v.1; left = omega (arith, s.left, c) }

  earlier : (i q : ℕ) → (taken g n w i).er q ≡ true → (w.er q ≡ true) × ((j : ℕ) → j < i → q ≡ nth g n w j → ⊥)
  unfolding taken
  earlier zero q h = (h, λ j z. absurd (omega arith))
  earlier (suc i) q h = go (eqb q (nth g n w i)) refl h (earlier i q)
    where
      go : (t : Bool) → eqb q (nth g n w i) ≡ t → pick t false ((taken g n w i).er q) ≡ true
          → ((taken g n w i).er q ≡ true → (w.er q ≡ true) × ((j : ℕ) → j < i → q ≡ nth g n w j → ⊥))
          → (w.er q ≡ true) × ((j : ℕ) → j < suc i → q ≡ nth g n w j → ⊥)
      go true e k f = absurd (true_false false k refl)
      go false e k f = ((f k).0, λ j z. by_eq j i (λ v y. eqb-false q (nth g n w i) e (y ∙ ap (nth g n w) v)) (λ v. (f k).1 j (omega arith)))

  pub nth_erased : (i : ℕ) → i < count (g * n) w.er → (w.er (nth g n w i) ≡ true) × (nth g n w i < g * n)
  nth_erased i h =
      let s = step i (omega arith) in
      ((earlier i (nth g n w i) (now_erased i s h).2).0, next_in g n (taken g n w i) g-pos s.r2 (omega (arith, s.left)))

  pub nth_apart : (i j : ℕ) → j < i → i < count (g * n) w.er → nth g n w i ≡ nth g n w j → ⊥
  nth_apart i j q h = (earlier i (nth g n w i) (now_erased i (step i (omega arith)) h).2).1 j q
