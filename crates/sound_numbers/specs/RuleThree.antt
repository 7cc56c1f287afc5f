-- R3, in the form in which the code has the premises. Assumes nothing.
use Rattle.std.specs.Prelude.{ℕ, ◌+◌, ◌*◌, ◌<◌, ◌≤◌, Bool, not, ◌≡◌, List, eqb, ltb, get_or}
use Rattle.std.proofs.Math.Bool.{true, false}
use Rattle.std.proofs.lemmas.Bool.{false≢true}
use Rattle.std.proofs.Math.Path.{refl}
use Rattle.std.proofs.Common.{sym, ◌∙◌, arith}
use Rattle.std.proofs.Math.Numerals.{add-one}
use borrow.Author.Tests.{not-false, eq-eqb, ne_eqb, lt-ltb, le-leb, lt-leb, eqb-true, ltb-true}
use Rattle.geometry.specs.declared.Geometry.{Geometry}
use Rattle.geometry.specs.Findings.{Good}
use Rattle.geometry.specs.Tests.{pick}
use Rattle.geometry.specs.Bounds.{four_bytes}
use Rattle.model.specs.Bytes.{erased, seq_at}
use Rattle.model.specs.Rules.{r3}
use Rattle.theory_counts.specs.Least.{by_lt}
use Rattle.sound_repeats.specs.Repeats.{Differ}
use Rattle.sound_repeats.specs.ByParts.{differ_good}
use Rattle.sound_numbers.specs.declared.Range.{Range}
use Rattle.sound_numbers.specs.Ranges.{extended, range_to, apart_of, Zero, Shows, Ranges, Counts, Clear, AllClear, Free, Spaced, Over, Nearer}
use Rattle.sound_numbers.specs.Apart.{differ}

-- one page more
module _ (er : ℕ → Bool) (seq : ℕ → ℕ) (p : ℕ) (s : Range) where
  pub extend_erased : er p ≡ true → s ≡ extended er seq p s
  unfolding extended
  extend_erased q = simp q

  module _ (q : er p ≡ false) (n : ℕ) (en : n ≡ seq p) where
    pub extend_falls : n ≤ s.high → record { rising = false; low = s.low; high = s.high } ≡ extended er seq p s
    unfolding extended
    extend_falls h = simp (q, ← en, le-leb _ _ h)

    pub extend_first : s.high < n → s.high ≡ 0 → record { rising = s.rising; low = n; high = n } ≡ extended er seq p
        s
    unfolding extended
    extend_first h z = simp (q, ← en, lt-leb _ _ h, eq-eqb _ _ z)

    pub extend_more : s.high < n → (s.high ≡ 0 → ⊥) → record { rising = s.rising; low = s.low; high = n }
        ≡ extended er seq p s
    unfolding extended
    extend_more h z = simp (q, ← en, lt-leb _ _ h, ne_eqb _ _ z)

-- the range of a block
module _ (er : ℕ → Bool) (seq : ℕ → ℕ) (base : ℕ) where
  pub range_start : record { rising = true; low = 0; high = 0 } ≡ range_to er seq base 0
  unfolding range_to
  range_start = refl

  pub range_go : (j p : ℕ) (s s' : Range) → s ≡ range_to er seq base j → p ≡ base + j → s' ≡ extended er seq p s
      → s' ≡ range_to er seq base (j + 1)
  unfolding range_to
  range_go j p s s' e ep es = es ∙ rw (ep, e, add-one j)

-- an answer of false shows nothing
pub shows_none : (A : Type 0) → Shows false A
shows_none A = record { holds = λ e. absurd (false≢true e) }

pub shows_some : (A : Type 0) → A → Shows true A
shows_some A a = record { holds = λ e. a }

-- the nearer of two beginnings
pub nearer_old : (low h c : ℕ) → low ≤ h → Nearer low h c c
nearer_old low h c k = record { most = omega arith; near = λ m. absurd (omega arith) }

pub nearer_same : (low h c w : ℕ) → w ≡ low → c ≤ w → Nearer low h c c
nearer_same low h c w e k = record { most = omega arith; near = λ m. omega arith }

pub nearer_new : (low h c w : ℕ) → w ≡ low → w < c → Nearer low h c w
nearer_new low h c w e k = record { most = omega arith; near = λ m. omega arith }

-- two ranges
module _ (a b c d : ℕ) where
  by_zero : (t : Bool) → t ≡ true → pick (eqb b 0) true (pick (eqb d 0) true t) ≡ true
  by_zero t e = go (eqb b 0) (eqb d 0)
    where
      go : (u v : Bool) → pick u true (pick v true t) ≡ true
      go true v = refl
      go false true = refl
      go false false = e

  pub apart_before : b < c → Zero 0 (apart_of a b c d)
  unfolding apart_of
  apart_before h = record { passes = λ e. by_zero (pick (ltb b c) true (ltb d a)) (simp (lt-ltb b c h)) }

  pub apart_after : d < a → Zero 0 (apart_of a b c d)
  unfolding apart_of
  apart_after h = record { passes = λ e. by_zero (pick (ltb b c) true (ltb d a)) (rw (lt-ltb d a h) (either (ltb b c))) }
    where
      either : (t : Bool) → pick t true true ≡ true
      either true = refl
      either false = refl

  pub apart_not : Zero 1 (apart_of a b c d)
  apart_not = record { passes = λ e. absurd (omega (arith, e)) }

  apart_empty : d ≡ 0 → apart_of a b c d ≡ true
  unfolding apart_of
  apart_empty e = rw (eq-eqb d 0 e) (go (eqb b 0))
    where
      go : (t : Bool) → pick t true true ≡ true
      go true = refl
      go false = refl

  apart_none : b ≡ 0 → apart_of a b c d ≡ true
  unfolding apart_of
  apart_none e = rw (eq-eqb b 0 e) refl

  apart_under : b < c → apart_of a b c d ≡ true
  apart_under h = (apart_before h).passes refl

  apart_above : d < a → apart_of a b c d ≡ true
  apart_above h = (apart_after h).passes refl

-- a range that lies apart from one that is not empty lies apart from any above that and below `o`
apart_kept : (a b c d e f o : ℕ) → apart_of a b c d ≡ true → (d ≡ 0 → ⊥) → c ≤ d → d < e → f < o → (d < a → o ≤ a)
    → apart_of a b e f ≡ true
unfolding apart_of
apart_kept a b c d e f o x some h u v k = go (eqb b 0) refl (ltb b c) refl (rw (ne_eqb d 0 some) at x)
  where
    go : (z : Bool) → eqb b 0 ≡ z → (t : Bool) → ltb b c ≡ t → pick z true (pick t true (ltb d a)) ≡ true
        → apart_of a b e f ≡ true
    go true ez t et y = apart_none a b e f (eqb-true b 0 ez)
    go false ez true et y = (let w : b < c = ltb-true b c et in apart_under a b e f (omega arith))
    go false ez false et y = (let w : d < a = ltb-true d a y in apart_above a b e f (omega (arith, k w, v)))

module _ (lows highs : List ℕ) where
  pub clear_start : (b : ℕ) → Counts lows highs b 0 0
  clear_start b = record { clear = λ e. record { apart = λ a h. absurd (omega arith) } }

  pub clear_go : (b i k r : ℕ) → Counts lows highs b i k
      → Zero r (apart_of (get_or lows i 0) (get_or highs i 0) (get_or lows b 0) (get_or highs b 0))
      → Counts lows highs b (i + 1) (k + r)
  clear_go b i k r x y = record {
    clear = λ e. record {
      apart = λ a h. by_lt a i (λ m. (x.clear (omega arith)).apart a m) (λ m. (let w : a ≡ i = omega arith in
          rw w (y.passes (omega (arith, e)))));
    };
  }

  pub clear_end : (b i k : ℕ) → Counts lows highs b i k → b ≤ i → Shows (eqb k 0) (Clear lows highs b)
  clear_end b i k x h = record { holds = λ e. record { clear = record { apart = λ a m. (x.clear (eqb-true k 0 e)).apart a (omega arith) } } }

  -- the nearest beginning above
  pub over_start : (h : ℕ) → Over lows 0 h four_bytes
  over_start h = record { over = λ a k. absurd (omega arith) }

  pub over_go : (i h c r low : ℕ) → Over lows i h c → low ≡ get_or lows i 0 → Nearer low h c r → Over lows (i + 1) h r
  over_go i h c r low x e y = record {
    over = λ a k m. by_lt a i (λ v. (let w = x.over a v m in omega (arith, w, y.most))) (λ v. (let w : a ≡ i =
        omega arith in near a w m));
  }
    where
      near : (a : ℕ) → a ≡ i → h < get_or lows a 0 → r ≤ get_or lows a 0
      near a w m = (let u : get_or lows a 0 ≡ low = rw w (sym e) in rw u (y.near (rw u at m)))

  pub over_end : (b i h c : ℕ) → Over lows i h c → b ≤ i → Over lows b h c
  over_end b i h c x k = record { over = λ a m o. x.over a (omega arith) o }

  -- a block more
  with_block : (b : ℕ) → AllClear lows highs b → Clear lows highs b → AllClear lows highs (b + 1)
  with_block b x y = record {
    each = λ i h. by_lt i b (λ k. x.each i k) (λ k. (let w : i ≡ b = omega arith in
        rw w y));
  }

  module _ (b floor ceiling : ℕ) (x : Spaced lows highs b floor ceiling) where
    more : (floor' : ℕ) → floor ≤ floor' → ((low high : ℕ) → floor' < low → high < ceiling → apart_of (get_or lows b 0)
        (get_or highs b 0) low high ≡ true)
        → Free lows highs (b + 1) floor' ceiling
    more floor' le new = record {
      apart = λ a h low high k m. by_lt a b (λ v. x.free.apart a v low high (omega arith) m) (λ v. (let w : a ≡ b =
          omega arith in rw w (new low high k m)));
    }

    pub space_empty : get_or highs b 0 ≡ 0 → Shows true (Spaced lows highs (b + 1) floor ceiling)
    space_empty z = shows_some _ (record {
      clear = with_block b x.clear (record {
        clear = record {
          apart = λ a h. apart_empty (get_or lows a 0) (get_or highs
              a 0) (get_or lows b 0) (get_or highs b 0) z;
        };
      });
      free = more floor (omega arith) (λ low high k m. apart_none (get_or lows b 0) (get_or highs b 0) low high z);
    })

    pub space_free : (w : ℕ) → w ≡ get_or highs b 0 → get_or lows b 0 ≤ get_or highs b 0 → floor < get_or lows b 0 → w < ceiling
        → Shows true (Spaced lows highs (b + 1) (get_or highs b 0) ceiling)
    space_free w ew h k m = shows_some _ (record {
      clear = with_block b x.clear (record { clear = record { apart = λ a o. x.free.apart a o (get_or lows b 0) (get_or highs b 0) k (rw (← ew) m) } });
      free = more (get_or highs b 0) (omega arith) (λ low high u v. apart_under (get_or lows b 0) (get_or highs b 0) low high u);
    })

    pub space_known : AllClear lows highs b
    space_known = x.clear

  pub space_far : (b : ℕ) (t : Bool) (low high c : ℕ) → AllClear lows highs b → Shows t (Clear lows highs b)
      → Over lows b high c → low ≡ get_or lows b 0 → high ≡ get_or highs b 0
      → 1 ≤ high → low ≤ high → Shows t (Spaced lows highs (b + 1) high c)
  space_far b t low high c x y z el eh some h = record {
    holds = λ q. record {
      clear = with_block b x (y.holds q);
      free = record {
        apart = λ a o lo hi u v. by_lt a b
            (λ k. apart_kept (get_or lows a 0) (get_or highs a 0) low high lo hi c (rw (el, eh) ((y.holds q).clear.apart a k)) (omega arith) h u v (z.over a k))
            (λ k. (let w : a ≡ b = omega arith in rw (w, ← el, ← eh) (apart_under low high lo hi u)));
      };
    };
  }

  pub space_start : Spaced lows highs 0 0 four_bytes
  space_start = record { clear = record { each = λ b h. absurd (omega arith) }; free = record { apart = λ a h. absurd (omega arith) } }

  pub space_go : (b floor ceiling : ℕ) (r : Bool) → Shows r (Spaced lows highs b floor ceiling) → not r ≡ false
      → Spaced lows highs b floor ceiling
  space_go b floor ceiling r x q = x.holds (not-false r q)

  pub space_end : (b n floor ceiling : ℕ) → Spaced lows highs b floor ceiling → n ≤ b
      → Shows true (AllClear lows highs n)
  space_end b n floor ceiling x h = shows_some _ (record { each = λ i k. x.clear.each i (omega arith) })

pub differ_shown : (er : ℕ → Bool) (seq : ℕ → ℕ) (p n m : ℕ) (lows highs : List ℕ) (a b : Bool)
    → Shows a (Ranges er seq p n lows highs) → not a ≡ false
    → m ≡ n → Shows b (AllClear lows highs m) → Shows b (Differ er seq (p * n))
differ_shown er seq p n m lows highs a b x q e y =
    record { holds = λ t. differ er seq p n lows highs (x.holds (not-false a q)) (rw (← e) (y.holds t)) }

-- R3
pub ranges_good : (g : Geometry) (img : List ℕ) (n : ℕ) (r : Bool)
    → Shows r (Differ (erased g img) (seq_at g img) (g.pages * n)) → r ≡ true → Good ≡ r3 g n img
ranges_good g img n r d q = differ_good g img n (d.holds q)

pub ruleset number_laws = (extend_falls, extend_first, extend_more, shows_none, apart_before, apart_after, apart_not, nearer_old, nearer_same, nearer_new, clear_start, clear_go, clear_end, over_start, over_go, over_end, space_empty, space_free, space_known, space_far, space_start, space_go, space_end, differ_shown, ranges_good)
