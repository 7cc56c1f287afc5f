-- Numbers that rise in each block, in ranges that lie apart, differ. Assumes nothing.
use Prim.Native.Nat.{ℕ, zero, suc, ◌+◌, ◌*◌, ◌<◌, ◌≤◌}
use Rattle.std.specs.Prelude.{Bool, true, false, ◌≡◌, List, eqb, leb, ltb, get_or}
use Rattle.std.proofs.lemmas.Bool.{false≢true}
use Rattle.std.proofs.Math.Path.{refl}
use Rattle.std.proofs.Common.{sym, ap, ◌∙◌, arith, eqb-true, leb-false, ltb-true}
use Rattle.geometry.specs.Tests.{pick}
use Rattle.theory_counts.specs.Least.{by_lt}
use Rattle.theory_counts.specs.Blocks.{Split, split}
use Rattle.sound_repeats.specs.Repeats.{Differ}
use Rattle.sound_numbers.specs.declared.Range.{Range}
use Rattle.sound_numbers.specs.Ranges.{fallen, grown, extended, range_to, apart_of, Ranges, AllClear}

module _ (er : ℕ → Bool) (seq : ℕ → ℕ) where
  -- what a rising range says of its pages
  record Rising (base j : ℕ) (s : Range) : Type 0 where
    pub order : s.low ≤ s.high
    pub some : (i : ℕ) → i < j → er (base + i) ≡ false → 1 ≤ seq (base + i)
    pub from : (i : ℕ) → i < j → er (base + i) ≡ false → s.low ≤ seq (base + i)
    pub to : (i : ℕ) → i < j → er (base + i) ≡ false → seq (base + i) ≤ s.high
    pub rise : (i k : ℕ) → i < k → k < j → er (base + i) ≡ false → er (base + k) ≡ false
        → seq (base + i) < seq (base + k)

  -- below j as before, and at j
  last : {C : Type 0} (i j : ℕ) → i < suc j → (i < j → C) → (i ≡ j → C) → C
  last i j h f g = by_lt i j f (λ k. g (omega arith))

  skip : (base j : ℕ) (s : Range) → er (base + j) ≡ true → Rising base j s → Rising base (suc j) s
  skip base j s q x = record {
    order = x.order;
    some = λ i h e. last i j h (λ k. x.some i k e) (λ k. absurd (no i k e));
    from = λ i h e. last i j h (λ k. x.from i k e) (λ k. absurd (no i k e));
    to = λ i h e. last i j h (λ k. x.to i k e) (λ k. absurd (no i k e));
    rise = λ i k h m e f. last k j m (λ n. x.rise i k h n e f) (λ n. absurd (no k n f));
  }
    where
      no : (i : ℕ) → i ≡ j → er (base + i) ≡ false → ⊥
      no i k e = false≢true (sym e ∙ rw k q)

  join : (base j : ℕ) (s : Range) (t : Bool) → eqb s.high 0 ≡ t → s.high < seq (base + j) → Rising base j s
      → Rising base (suc j) (record {
        rising = s.rising;
        low = pick t (seq (base + j)) s.low;
        high = seq (base + j);
      })
  join base j s true q h x =
      let z : s.high ≡ 0 = eqb-true s.high 0 q in
      record {
        order = omega arith;
        some = λ i k e. last i j k (λ m. x.some i m e) (λ m. (rw m (omega arith)));
        from = λ i k e. last i j k (λ m. absurd (omega (arith, z, x.some i m e, x.to i m e))) (λ m. (rw m (omega arith)));
        to = λ i k e. last i j k (λ m. (let w = x.to i m e in omega (arith, w))) (λ m. (rw m (omega arith)));
        rise = λ i k m n e f. last k j n (λ o. x.rise i k m o e f) (λ o. (let w = x.to i (omega arith) e in
            rw o (omega (arith, w))));
      }
  join base j s false q h x = record {
    order = omega (arith, x.order);
    some = λ i k e. last i j k (λ m. x.some i m e) (λ m. (rw m (omega arith)));
    from = λ i k e. last i j k (λ m. x.from i m e) (λ m. (rw m (omega (arith, x.order))));
    to = λ i k e. last i j k (λ m. (let w = x.to i m e in omega (arith, w))) (λ m. (rw m (omega arith)));
    rise = λ i k m n e f. last k j n (λ o. x.rise i k m o e f) (λ o. (let w = x.to i (omega arith) e in
        rw o (omega (arith, w))));
  }

  by_seq : (base j : ℕ) (s : Range) → (s.rising ≡ true → Rising base j s) → (t : Bool) → leb (seq (base + j)) s.high
      ≡ t
      → (pick {A = Range} t (fallen s) (grown s (seq (base + j)))).rising ≡ true
      → Rising base (suc j) (pick {A = Range} t (fallen s) (grown s (seq (base + j))))
  by_seq base j s x true e q = absurd (false≢true q)
  by_seq base j s x false e q = join base j s (eqb s.high 0) refl (leb-false (seq (base + j)) s.high e) (x q)

  by_er : (base j : ℕ) (s : Range) → (s.rising ≡ true → Rising base j s) → (t : Bool) → er (base + j) ≡ t
      → (pick {A = Range} t s (pick (leb (seq (base + j)) s.high) (fallen s) (grown s (seq (base + j))))).rising
      ≡ true
      → Rising base (suc j) (pick {A = Range} t s (pick (leb (seq (base + j)) s.high) (fallen s)
      (grown s (seq (base + j)))))
  by_er base j s x true e q = skip base j s e (x q)
  by_er base j s x false e q = by_seq base j s x (leb (seq (base + j)) s.high) refl q

  extend : (base j : ℕ) (s : Range) → (s.rising ≡ true → Rising base j s) → (extended er seq (base + j) s).rising ≡ true
      → Rising base (suc j) (extended er seq (base + j) s)
  unfolding extended
  extend base j s x q = by_er base j s x (er (base + j)) refl q

  rises : (base j : ℕ) → (range_to er seq base j).rising ≡ true → Rising base j (range_to er seq base j)
  unfolding range_to
  rises base zero q = record {
    order = omega arith;
    some = λ i h. absurd (omega arith);
    from = λ i h. absurd (omega arith);
    to = λ i h. absurd (omega arith);
    rise = λ i k h m. absurd (omega arith);
  }
  rises base (suc j) q = extend base j (range_to er seq base j) (rises base j) q

-- numbers of two ranges that lie apart
apart_differ : (a b c d x y : ℕ) → apart_of a b c d ≡ true → 1 ≤ x → a ≤ x → x ≤ b → 1 ≤ y → c ≤ y → y ≤ d → x ≡ y → ⊥
unfolding apart_of
apart_differ a b c d x y t x1 ax xb y1 cy yd e = by_b (eqb b 0) refl t
  where
    by_c : (t : Bool) → ltb b c ≡ t → pick t true (ltb d a) ≡ true → ⊥
    by_c true q t = omega (arith, ltb-true b c q)
    by_c false q t = omega (arith, ltb-true d a t)

    by_d : (t : Bool) → eqb d 0 ≡ t → pick t true (pick (ltb b c) true (ltb d a)) ≡ true → ⊥
    by_d true q t = omega (arith, eqb-true d 0 q)
    by_d false q t = by_c (ltb b c) refl t

    by_b : (t : Bool) → eqb b 0 ≡ t → pick t true (pick (eqb d 0) true (pick (ltb b c) true (ltb d a))) ≡ true → ⊥
    by_b true q t = omega (arith, eqb-true b 0 q)
    by_b false q t = by_d (eqb d 0) refl t

pub differ : (er : ℕ → Bool) (seq : ℕ → ℕ) (p n : ℕ) (lows highs : List ℕ) → Ranges er seq p n lows highs
    → AllClear lows highs n → Differ er seq (p * n)
differ er seq p n lows highs x y = record { differ = λ v w lt h ev ew e. apart v w lt (split p n v h) (split p n w (omega arith)) ev ew e }
  where
    up : (b : ℕ) → b < n → Rising er seq (p * b) p (range_to er seq (p * b) p)
    up b h = rises er seq (p * b) p (x.rise b h)

    -- a page's number, in its block's range
    some : (b j : ℕ) → b < n → j < p → er (p * b + j) ≡ false → 1 ≤ seq (p * b + j)
    some b j h k e = (up b h).some j k e

    from : (b j : ℕ) → b < n → j < p → er (p * b + j) ≡ false → get_or lows b 0 ≤ seq (p * b + j)
    from b j h k e = rw (x.low b h) ((up b h).from j k e)

    to : (b j : ℕ) → b < n → j < p → er (p * b + j) ≡ false → seq (p * b + j) ≤ get_or highs b 0
    to b j h k e = rw (x.high b h) ((up b h).to j k e)

    two : (a b i j : ℕ) → a < b → b < n → i < p → j < p → er (p * a + i) ≡ false → er (p * b + j) ≡ false
        → seq (p * a + i) ≡ seq (p * b + j) → ⊥
    two a b i j lt h hi hj ei ej =
        apart_differ (get_or lows a 0) (get_or highs a 0) (get_or lows b 0) (get_or highs b 0) (seq (p * a + i)) (seq (p * b + j)) ((y.each b h).clear.apart a lt)
        (some a i (omega arith) hi ei) (from a i (omega arith) hi ei) (to a i (omega arith) hi ei)
        (some b j h hj ej) (from b j h hj ej) (to b j h hj ej)

    one : (b i j : ℕ) → b < n → i < j → j < p → er (p * b + i) ≡ false → er (p * b + j) ≡ false
        → seq (p * b + i) ≡ seq (p * b + j) → ⊥
    one b i j h lt hj ei ej e = (let w = (up b h).rise i j lt hj ei ej in omega (arith, w, e))

    places : (a b i j : ℕ) → a < n → b < n → i < p → j < p → p * a + i < p * b + j → er (p * b + j) ≡ false
        → er (p * a + i) ≡ false
        → seq (p * a + i) ≡ seq (p * b + j) → ⊥
    places a b i j ha hb hi hj lt ev ew e =
        by_lt a b (λ k. two a b i j k hb hi hj ew ev e)
        (λ k. by_lt b a (λ m. two b a j i m ha hj hi ev ew (sym e))
        (λ m. (let w : a ≡ b = omega arith in one b i j hb (omega (arith, lt, ap (λ (c : ℕ). p * c) w)) hj
        (rw (← w) ew) ev (ap (λ (c : ℕ). seq (p * c + i)) (sym w) ∙ e))))

    apart : (v w : ℕ) → w < v → Split p n v → Split p n w → er v ≡ false → er w ≡ false → seq w ≡ seq v → ⊥
    apart v w lt sv sw ev ew e =
        places sw.block sv.block sw.place sv.place sw.below sv.below sw.inside sv.inside
        (rw (sv.is, sw.is) lt) (rw sv.is ev) (rw sw.is ew) (rw (sv.is, sw.is) e)
