-- Counting over the numbers below t. Assumes nothing.
use Rattle.std.specs.Prelude.{◌≡◌, refl, List, [], ◌∷◌, Bool, true, false, ◌⊎◌, ℕ, zero, suc, ◌+◌, ◌*◌, ◌<◌, ◌≤◌, length, eqb, ltb}
use Rattle.std.proofs.Common.{ap, sym, ◌∙◌, inl, inr, arith, add-zero, add-suc, mul-suc, mul-zero, lt-ltb, le-ltb, ltb-true, ltb-false, eqb-true}
use Rattle.std.proofs.lemmas.Bool.{eqb-false}
use Rattle.geometry.specs.Tests.{pick, bit}
use Rattle.model.specs.Count.{count}
use Rattle.model.specs.Tree.{Place, live}
use Rattle.model.specs.Next.{in_block, after}
use Rattle.theory_counts.specs.Tally.{bit_most}
use Rattle.theory_counts.specs.Cases.{by_eq}
use Rattle.theory_lists.specs.All.{All, Mem}
use Rattle.theory_nodes.specs.Live.{mem_live, dead_live, within_live}
use Rattle.theory_trees.specs.Leaf.{hits, Shifted}

below_suc : (n t : ℕ) → bit (ltb n (suc t)) ≡ bit (ltb n t) + bit (eqb t n)
below_suc n t = go (ltb n t) (eqb t n) refl refl
  where
    go : (u v : Bool) → ltb n t ≡ u → eqb t n ≡ v → bit (ltb n (suc t)) ≡ bit u + bit v
    go true true e i = absurd (omega (arith, ltb-true n t e, eqb-true t n i))
    go true false e i = let a = ltb-true n t e in rw (lt-ltb n (suc t) (omega arith)) refl
    go false true e i = let a = eqb-true t n i in rw (lt-ltb n (suc t) (omega arith)) refl
    go false false e i = let a = eqb-false t n i in let b = ltb-false n t e in rw (le-ltb n (suc t) (omega arith)) refl

-- one page goes, one comes
count_swap : (t p n : ℕ) (f g : ℕ → Bool) → (p ≡ n → ⊥) → f p ≡ true → g p ≡ false
    → ((q : ℕ) → (q ≡ n → ⊥) → bit (g q) ≤ bit (f q))
    → count t g + bit (ltb p t) ≤ count t f + bit (ltb n t)
unfolding count
count_swap zero p n f g d fp gp le = rw (le-ltb p 0 (omega arith), le-ltb n 0 (omega arith)) (omega arith)
count_swap (suc t) p n f g d fp gp le = let i = count_swap t p n f g d fp gp le in let a =
    go (eqb t p) (eqb t n) refl refl in
    omega (arith, below_suc p t, below_suc n t, a, i)
  where
    go : (u v : Bool) → eqb t p ≡ u → eqb t n ≡ v → bit (g t) + bit u ≤ bit (f t) + bit v
    go true true e i = absurd (d (sym (eqb-true t p e) ∙ eqb-true t n i))
    go true false e i =
        let a : bit (g t) ≡ 0 = rw (eqb-true t p e, gp) refl in
        let b : bit (f t) ≡ 1 = rw (eqb-true t p e, fp) refl in
        omega arith
    go false true e i = omega (arith, bit_most (g t))
    go false false e i = omega (arith, le t (eqb-false t n i))

pub count_le : (t : ℕ) (f h : ℕ → Bool) → ((j : ℕ) → j < t → bit (h j) ≤ bit (f j)) → count t h ≤ count t f
unfolding count
count_le zero f h le = omega arith
count_le (suc t) f h le = omega (arith, le t (omega arith), count_le t f h (λ j q. le j (omega arith)))

pub count_drop : (t i : ℕ) (f h : ℕ → Bool) → i < t → f i ≡ true → h i ≡ false
    → ((j : ℕ) → j < t → bit (h j) ≤ bit (f j))
    → suc (count t h) ≤ count t f
unfolding count
count_drop zero i f h q a b le = absurd (omega arith)
count_drop (suc t) i f h q a b le = by_eq i t
    (λ e. let x : bit (f t) ≡ 1 = rw (← e, a) refl in let y : bit (h t) ≡ 0 = rw (← e, b) refl in
    omega (arith, count_le t f h (λ j q. le j (omega arith))))
    (λ e. omega (arith, le t (omega arith), count_drop t i f h (omega arith) a b (λ j q. le j (omega arith))))

pub count_all : (t : ℕ) → count t (λ _. true) ≡ t
unfolding count
count_all zero = refl
count_all (suc t) = omega (arith, count_all t)

pub count_none : (t : ℕ) → count t (λ _. false) ≡ 0
unfolding count
count_none zero = refl
count_none (suc t) = omega (arith, count_none t)

-- the sum of f 0 to f (t - 1)
unfoldable pub sum : ℕ → (ℕ → ℕ) → ℕ
sum zero f = 0
sum (suc t) f = f t + sum t f

-- one summand changes
pub sum_point : (n v d : ℕ) (f h : ℕ → ℕ) → h v ≡ f v + d → ((b : ℕ) → (b ≡ v → ⊥) → h b ≡ f b)
    → (n ≤ v → sum n h ≡ sum n f) × (v < n → sum n h ≡ sum n f + d)
unfolding sum
sum_point zero v d f h a b = ((λ _. refl), (λ q. absurd (omega arith)))
sum_point (suc n) v d f h a b =
    let i = sum_point n v d f h a b in (
      (λ q. omega (arith, i.0 (omega arith), b n (λ e. omega arith))),
      (λ q. by_eq n v (λ e. let x = ap f e in let y = ap h e in omega (arith, i.0 (omega arith), a, x, y))
          (λ e. omega (arith, i.1 (omega arith), b n e))),
    )

count_add : (m n : ℕ) (f : ℕ → Bool) → count (m + n) f ≡ count m f + count n (λ j. f (m + j))
unfolding count
count_add m zero f = rw (add-zero m) (omega arith)
count_add m (suc n) f = rw (add-suc m n) (omega (arith, count_add m n f))

pub count_blocks : (g b : ℕ) (f : ℕ → Bool) → count (g * b) f ≡ sum b (in_block g f)
unfolding sum count
count_blocks g zero f = rw (mul-zero g) refl
count_blocks g (suc b) f = rw (mul-suc g b) (omega (arith, count_add (g * b) g f, count_blocks g b f))

-- every page is erased, live or dead
pub count_three : (t : ℕ) (e l d : ℕ → Bool) → ((q : ℕ) → bit (e q) + bit (l q) + bit (d q) ≡ 1)
    → count t e + count t l + count t d ≡ t
unfolding count
count_three zero e l d h = refl
count_three (suc t) e l d h = omega (arith, h t, count_three t e l d h)

pub some_true : (t : ℕ) (f : ℕ → Bool) → 1 ≤ count t f → (q : ℕ) × (q < t) × (f q ≡ true)
unfolding count
some_true zero f h = absurd (omega arith)
some_true (suc t) f h = go (f t) refl h (some_true t f)
  where
    go : (b : Bool) → f t ≡ b → 1 ≤ bit b + count t f → (1 ≤ count t f → (q : ℕ) × (q < t) × (f q ≡ true)) → (q : ℕ) ×
        (q < suc t) × (f q ≡ true)
    go true e i k = (t, omega arith, e)
    go false e i k = let w = k (omega arith) in (w.0, omega (arith, w.1), w.2)

-- one that passed passes no more
count_after : (t p : ℕ) (f : ℕ → Bool) → f p ≡ true → count t f ≡ bit (ltb p t) + count t (after p f)
unfolding count
count_after zero p f h = rw (le-ltb p 0 (omega arith)) refl
count_after (suc t) p f h = go (eqb t p) refl (count_after t p f h)
  where
    go : (u : Bool) → eqb t p ≡ u → count t f ≡ bit (ltb p t) + count t (after p f)
        → bit (f t) + count t f ≡ bit (ltb p (suc t)) + (bit (pick u false (f t)) + count t (after p f))
    go true e i = let z = eqb-true t p e in let a : bit (f t) ≡ 1 = rw (z, h) refl in
        omega (arith, below_suc p t, ap bit e, a, i)
    go false e i = omega (arith, below_suc p t, ap bit e, i)

pub count_gone : (t p : ℕ) (f : ℕ → Bool) → p < t → f p ≡ true → count t f ≡ suc (count t (after p f))
count_gone t p f q h = omega (arith, count_after t p f h, ap bit (lt-ltb p t q))

-- pages below t: the moved page and the new one are two of them
pub count_moved : (t p n a : ℕ) (old new : List Place) → p < t → n < t → (p ≡ n → ⊥)
    → Mem (record { page = p; level = a }) old
    → All (λ x. x.page ≡ p → ⊥) new → All (λ x. (x.page ≡ n) ⊎ Mem x old) new
    → count t (live new) ≤ count t (live old)
count_moved t p n a old new pt nt d m dd w =
    let i = count_swap t p n (live old) (live new) d (mem_live (record { page = p; level = a }) old m) (dead_live p new dd)
    (λ q. within_live n q old new w) in
    omega (arith, i, ap bit (lt-ltb p t pt), ap bit (lt-ltb n t nt))

-- ---- one page dies, some come
sum_add : (t : ℕ) (f h : ℕ → ℕ) → sum t (λ q. f q + h q) ≡ sum t f + sum t h
unfolding sum
sum_add zero f h = omega arith
sum_add (suc t) f h = omega (arith, sum_add t f h)

sum_one : (t n : ℕ) → sum t (λ q. bit (eqb q n)) ≡ bit (ltb n t)
unfolding sum
sum_one zero n = rw (le-ltb n 0 (omega arith)) refl
sum_one (suc t) n = omega (arith, sum_one t n, below_suc n t)

sum_none : (t : ℕ) → sum t (λ q. 0) ≡ 0
unfolding sum
sum_none zero = refl
sum_none (suc t) = omega (arith, sum_none t)

sum_hits : (t : ℕ) (ns : List ℕ) → sum t (hits ns) ≤ length ns
unfolding hits
sum_hits t [] = omega (arith, sum_none t)
sum_hits t (n ∷ ns) = omega (arith, sum_add t (λ q. bit (eqb q n)) (hits ns), sum_one t n, bit_most (ltb n t), sum_hits t ns)

count_more : (t p : ℕ) (ns : List ℕ) (f h : ℕ → Bool) → f p ≡ true → h p ≡ false
    → ((q : ℕ) → bit (h q) ≤ bit (f q) + hits ns q)
    → count t h + bit (ltb p t) ≤ count t f + sum t (hits ns)
unfolding count sum
count_more zero p ns f h fp hp le = rw (le-ltb p 0 (omega arith)) (omega arith)
count_more (suc t) p ns f h fp hp le = let i = count_more t p ns f h fp hp le in let a = go (eqb t p) refl in
    omega (arith, below_suc p t, a, i)
  where
    go : (u : Bool) → eqb t p ≡ u → bit (h t) + bit u ≤ bit (f t) + hits ns t
    go true e =
        let a : bit (h t) ≡ 0 = rw (eqb-true t p e, hp) refl in
        let b : bit (f t) ≡ 1 = rw (eqb-true t p e, fp) refl in
        omega arith
    go false e = omega (arith, le t)

within_more : (ns : List ℕ) (q : ℕ) (old new : List Place) → All (λ x. (1 ≤ hits ns x.page) ⊎ Mem x old) new
    → bit (live new q) ≤ bit (live old q) + hits ns q
unfolding live
within_more ns q old [] h = omega arith
within_more ns q old (x ∷ new) h = go (eqb x.page q) refl h.0 (within_more ns q old new h.1)
  where
    go : (t : Bool) → eqb x.page q ≡ t → (1 ≤ hits ns x.page) ⊎ Mem x old
        → bit (live new q) ≤ bit (live old q) + hits ns q
        → bit (pick t true (live new q)) ≤ bit (live old q) + hits ns q
    go false e w i = i
    go true e (inl w) i = let a : 1 ≤ hits ns q = rw (← eqb-true x.page q e) w in omega arith
    go true e (inr w) i = let a : bit (live old q) ≡ 1 = rw (← eqb-true x.page q e, mem_live x old w) refl in
        omega arith

pub lives_shifted : (t p : ℕ) (ns : List ℕ) (old new : List Place) → p < t → Shifted ns p old new
    → suc (count t (live new)) ≤ count t (live old) + length ns
lives_shifted t p ns old new q h =
    let u : bit (ltb p t) ≡ 1 = rw (lt-ltb p t q) refl in
    omega (
      arith,
      count_more t p ns (live old) (live new) (mem_live (record { page = p; level = 1 }) old h.was) (dead_live p new h.dead)
          (λ q. within_more ns q old new h.within),
      sum_hits t ns,
      u,
    )
