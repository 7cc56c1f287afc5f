-- R3 by parts of the numbers, in the form in which the code has the premises. Assumes nothing.
use Rattle.std.specs.Prelude.{ℕ, ◌+◌, ◌*◌, ◌/◌, ◌<◌, ◌≤◌, Bool, ◌≡◌, List, length, get_or, set}
use Rattle.std.proofs.Math.Bool.{true, false, not, false≢true}
use Rattle.std.proofs.Math.Path.{refl}
use Rattle.std.proofs.Common.{sym, ap, ◌∙◌, get_or-set_same, get_or-set_other, arith}
use Rattle.std.proofs.Math.Dec.{eqb, leb, ltb}
use borrow.Author.Tests.{not-true, not-false, eq-eqb, eqb-true, lt-ltb, le-ltb, le-leb, lt-leb, leb-true, ltb-true}
use Rattle.geometry.specs.declared.Geometry.{Geometry}
use Rattle.geometry.specs.Findings.{Good, Bad}
use Rattle.geometry.specs.Tests.{◌&◌, and_true, and_false}
use Rattle.geometry.specs.Bounds.{four_bytes}
use Rattle.model.specs.Bytes.{erased, seq_at}
use Rattle.model.specs.Count.{any}
use Rattle.model.specs.Rules.{repeated, r3}
use Rattle.theory_counts.specs.Least.{by_lt, none_passes, any_clear, least_none}
use Rattle.theory_counts.specs.Lowest.{lowest_bad, lowest_good}
use Rattle.sound_twins.specs.Twins.{page_in, number_in, Agree, Cut}
use Rattle.sound_twins.specs.Split.{agree_start}
use Rattle.sound_repeats.specs.Repeats.{within, Somewhere, Sieved, Stem, Keyed, Held, Stops, Differ, Swept}

-- a page's key
pub key_parts : (s p k : ℕ) → p < four_bytes → k ≡ four_bytes * s + p → (number_in k ≡ s) × (page_in k ≡ p)
key_parts s p k h e = (omega arith, omega arith)

-- keys that are kept
pub sieved_start : (l : List ℕ) (b : ℕ) → Sieved l l b 0 0
sieved_start l b = record {
  few = omega arith;
  there = λ i h. absurd (omega arith);
  back = λ j h. absurd (omega arith);
  less = λ j h. absurd (omega arith);
  rest = λ i h. refl;
}

module _ (l₀ l : List ℕ) (b k c : ℕ) (x : Sieved l₀ l b k c) where
  pub sieved_skip : b ≤ get_or l k 0 / four_bytes → Sieved l₀ l b (k + 1) c
  sieved_skip h = record {
    few = omega (arith, x.few);
    there = λ i m t. by_lt i k (λ s. x.there i s t) (λ s. absurd (let e = x.rest i (omega arith) in let w : i ≡ k =
        omega arith in no i w e t));
    back = λ j m. (let w = x.back j m in record { place = w.place; below = omega (arith, w.below); is = w.is });
    less = x.less;
    rest = λ i m. x.rest i (omega arith);
  }
    where
      no : (i : ℕ) → i ≡ k → get_or l i 0 ≡ get_or l₀ i 0 → number_in (get_or l₀ i 0) < b → ⊥
      no i w e t =
          let u : number_in (get_or l₀ i 0) ≡ number_in (get_or l k 0) =
          ap (λ (z : ℕ). number_in z) (sym e ∙ ap (λ (z : ℕ). get_or l z 0) w) in
          omega (arith, u, t, h)

  pub sieved_more : (n : ℕ) → get_or l k 0 / four_bytes < b → k < n → n ≤ length l → Sieved l₀ (set l c (get_or l k 0)) b
      (k + 1) (c + 1)
  sieved_more n h m' g = record {
    few = omega (arith, x.few);
    there = λ i m t. by_lt i k
        (λ s. (let w = x.there i s t in record { place = w.place; below = omega (arith, w.below); is = old w.place w.below ∙ w.is }))
        (λ s. (let w : i ≡ k = omega arith in record {
          place = c;
          below = omega arith;
          is = new ∙ ap (λ (z : ℕ). get_or l z 0) (sym w) ∙ x.rest i (omega arith);
        }));
    back = λ j m. by_lt j c
        (λ s. (let w = x.back j s in record { place = w.place; below = omega (arith, w.below); is = w.is ∙ sym (old j s) }))
        (λ s. (let w : j ≡ c = omega arith in record {
          place = k;
          below = omega arith;
          is = sym (x.rest k (omega arith)) ∙ sym new ∙ ap (λ (z : ℕ). get_or (set l c (get_or l k 0)) z 0) (sym w);
        }));
    less = λ j m. by_lt j c (λ s. (rw (old j s) (x.less j s))) (λ s. (let w : j ≡ c = omega arith in rw (w, new) h));
    rest = λ i m. get_or-set_other l c i (get_or l k 0) 0 (λ (e : i ≡ c). omega (arith, e, m, x.few))
        ∙ x.rest i (omega arith);
  }
    where
      old : (j : ℕ) → j < c → get_or (set l c (get_or l k 0)) j 0 ≡ get_or l j 0
      old j s = get_or-set_other l c j (get_or l k 0) 0 (λ (e : j ≡ c). omega arith)

      new : get_or (set l c (get_or l k 0)) c 0 ≡ get_or l k 0
      new = get_or-set_same l c (get_or l k 0) 0 (omega (arith, x.few))

  pub sieved_end : (n : ℕ) → k ≤ n → n ≤ k → Sieved l₀ l b n c
  sieved_end n h g = let w : k ≡ n = omega arith in rw (← w) x

module _ (er : ℕ → Bool) (seq : ℕ → ℕ) where
  -- a page in a part, and not
  module _ (low high p : ℕ) where
    pub within_low : (s x : ℕ) → s ≡ x → x ≡ seq p → s < low → false ≡ within er seq low high p
    unfolding within
    within_low s x es ex h = simp (← ex, ← es, lt-leb _ _ h, and_false)

    pub within_high : (s x : ℕ) → s ≡ x → x ≡ seq p → high ≤ s → false ≡ within er seq low high p
    unfolding within ◌&◌
    within_high s x es ex h = rw (← ex, ← es, le-ltb _ _ h) (by (leb low s))
      where
        by : (a : Bool) → false ≡ ((a & false) & not (er p))
        by true = refl
        by false = refl

    pub within_by : (s x : ℕ) (r : Bool) → s ≡ x → x ≡ seq p → low ≤ s → s < high → r ≡ er p
        → not r ≡ within er seq low high p
    unfolding within
    within_by s x r es ex h g er' = simp (← ex, ← es, ← er', le-leb _ _ h, lt-ltb _ _ g, and_true)

  pub number_small : (s x p : ℕ) → s ≡ x → x ≡ seq p → s < four_bytes → seq p < four_bytes
  number_small s x p es ex h = rw (← ex, ← es) h

  record Inside (low high p : ℕ) : Type 0 where
    pub programmed : er p ≡ false
    pub from : low ≤ seq p
    pub to : seq p < high

  within_says : (low high p : ℕ) → within er seq low high p ≡ true → Inside low high p
  unfolding within ◌&◌
  within_says low high p e = by (leb low (seq p)) (ltb (seq p) high) (er p) refl refl refl e
    where
      by : (a b c : Bool) → leb low (seq p) ≡ a → ltb (seq p) high ≡ b → er p ≡ c → ((a & b) & not c) ≡ true
          → Inside low high p
      by true true false ea eb ec q = record { programmed = ec; from = leb-true low (seq p) ea; to = ltb-true (seq p) high eb }
      by true true true ea eb ec q = absurd (false≢true q)
      by true false c ea eb ec q = absurd (false≢true q)
      by false b c ea eb ec q = absurd (false≢true q)

  within_not : (low high p : ℕ) → within er seq low high p ≡ false → er p ≡ false → low ≤ seq p → seq p < high → ⊥
  unfolding within
  within_not low high p e q h g = false≢true (sym e ∙ simp (q, le-leb _ _ h, lt-ltb _ _ g, and_true))

  -- a page has the number of a lower one
  repeats : (q p : ℕ) → q < p → er q ≡ false → er p ≡ false → seq q ≡ seq p → repeated er seq p ≡ true
  unfolding repeated
  repeats q p h eq ep e = by (any p (λ q. not (er q) & eqb (seq q) (seq p))) refl
    where
      by : (b : Bool) → any p (λ q. not (er q) & eqb (seq q) (seq p)) ≡ b
          → (not (er p) & any p (λ q. not (er q) & eqb (seq q) (seq p))) ≡ true
      by true t = simp (ep, t, and_true)
      by false t = absurd (false≢true (sym (none_passes (λ q. not (er q) & eqb (seq q) (seq p)) p t q h)
          ∙ simp (eq, eq-eqb _ _ e, and_true)))

  -- the keys of a part
  pub held_start : (low high : ℕ) (l : List ℕ) → Held er seq low high 0 0 l
  held_start low high l = record {
    there = λ q h. absurd (omega arith);
    back = λ i h. absurd (omega arith);
    small = λ q h. absurd (omega arith);
  }

  stem_more : (low high t k : ℕ) → Stem er seq low high t k → Stem er seq low high (t + 1) k
  stem_more low high t k s = record {
    below = omega (arith, s.below);
    programmed = s.programmed;
    number = s.number;
    from = s.from;
    to = s.to;
    fits = s.fits;
  }

  module _ (low high t c : ℕ) (l : List ℕ) (x : Held er seq low high t c l)
      (r : Bool) (er' : r ≡ within er seq low high t) (small : seq t < four_bytes) where
    fits : (q : ℕ) → q < t + 1 → seq q < four_bytes
    fits q h = by_lt q t (λ k. x.small q k) (λ k. (let w : q ≡ t = omega arith in rw w small))

    pub held_skip : not r ≡ true → Held er seq low high (t + 1) c l
    held_skip n = record {
      there = λ q h e f g. by_lt q t (λ k. x.there q k e f g)
          (λ k. absurd (let w : q ≡ t = omega arith in within_not low high t (sym er' ∙ not-true r n) (rw (← w) e) (rw (← w) f) (rw (← w) g)));
      back = λ i h. stem_more low high t (get_or l i 0) (x.back i h);
      small = fits;
    }

    pub held_more : not r ≡ false → (k : ℕ) → number_in k ≡ seq t → page_in k ≡ t → k < 18446744073709551616
        → c < length l
        → Held er seq low high (t + 1) (c + 1) (set l c k)
    held_more n k en ep fk h = record {
      there = λ q g e f f'. by_lt q t
          (λ m. (let w = x.there q m e f f' in record {
            place = w.place;
            below = omega (arith, w.below);
            page = rw (old w.place w.below) w.page;
            number = rw (old w.place w.below) w.number;
          }))
          (λ m. (let w : q ≡ t = omega arith in record { place = c; below = omega arith; page = rw (new, w) ep; number = rw (new, w) en }));
      back = λ i g. by_lt i c (λ m. (rw (old i m) (stem_more low high t (get_or l i 0) (x.back i m)))) (λ m. (let w : i ≡ c = omega arith in rw (w, new) stem));
      small = fits;
    }
      where
        in_part : Inside low high t
        in_part = within_says low high t (sym er' ∙ not-false r n)

        stem : Stem er seq low high (t + 1) k
        stem = record {
          below = rw ep (omega arith);
          programmed = rw ep in_part.programmed;
          number = rw ep (sym en);
          from = rw en in_part.from;
          to = rw en in_part.to;
          fits = fk;
        }

        old : (i : ℕ) → i < c → get_or (set l c k) i 0 ≡ get_or l i 0
        old i m = get_or-set_other l c i k 0 (λ (e : i ≡ c). omega arith)

        new : get_or (set l c k) c 0 ≡ k
        new = get_or-set_same l c k 0 h

    -- one number alone, and more keys than there is room for
    pub held_stops : (best : ℕ) → not r ≡ false → high ≡ low + 1 → 1 ≤ c → t < best → Stops er seq best t
    held_stops best n eh hc hb = record { most = omega arith; stop = λ h. again }
      where
        in_part : Inside low high t
        in_part = within_says low high t (sym er' ∙ not-false r n)

        s : Stem er seq low high t (get_or l 0 0)
        s = x.back 0 (omega arith)

        again : repeated er seq t ≡ true
        again = repeats (page_in (get_or l 0 0)) t s.below s.programmed in_part.programmed
            (let w = s.number in let u = s.from in let v = s.to in let a = in_part.from in let b = in_part.to in
            omega (arith, w, u, v, a, b, eh))

  -- a bound that came down
  pub held_sieve : (low high bound t c k : ℕ) (l₀ l : List ℕ) → Held er seq low high t c l₀ → Sieved l₀ l bound c k
      → low < bound → bound < high → Held er seq low bound t k l
  held_sieve low high bound t c k l₀ l x y hl h = record {
    there = there;
    back = λ j g. stem j g (y.back j g);
    small = x.small;
  }
    where
      stem : (j : ℕ) → j < k → Somewhere l₀ c (get_or l j 0) → Stem er seq low bound t (get_or l j 0)
      stem j g w = (let s : Stem er seq low high t (get_or l j 0) = rw (← w.is) (x.back w.place w.below) in
          record { below = s.below; programmed = s.programmed; number = s.number; from = s.from; to = y.less j g; fits = s.fits })

      there : (q : ℕ) → q < t → er q ≡ false → low ≤ seq q → seq q < bound → Keyed er seq l k q
      there q g e f f' =
          let w = x.there q g e f (omega arith) in
          let z = y.there w.place w.below (rw w.number f') in
          record { place = z.place; below = z.below; page = rw z.is w.page; number = rw z.is w.number }

  pub stops_end : (t p : ℕ) → p ≤ t → t ≤ p → Stops er seq t p
  stops_end t p h g = record { most = h; stop = λ k. absurd (omega arith) }

  pub held_agree : (low high t c : ℕ) (l : List ℕ) → Held er seq low high t c l → Agree 64 l 0 c
  held_agree low high t c l x = agree_start l c (λ i h. (x.back i h).fits)

  -- one part more
  pub swept_start : (t : ℕ) → Swept er seq t 0 t
  swept_start t = record {
    stops = record { most = omega arith; stop = λ h. absurd (omega arith) };
    differ = λ p q lt h ep eq e g. absurd (omega arith);
    small = λ h. absurd (omega arith);
  }

  module _ (t low best high end c r : ℕ) (l : List ℕ) (x : Swept er seq t low best) (y : Held er seq low high end c l)
      (z : Stops er seq best end) (w : Cut end r l 0 c) where
    pub swept_more : Swept er seq t high r
    swept_more = record {
      stops = record {
        most = omega (arith, x.stops.most, z.most, w.most);
        stop = λ h. by_lt r end (λ g. mark g) (λ g. (let u : r ≡ end = omega (arith, w.most) in
            rw u (by_lt end best (λ k. z.stop k) (λ k. (let v : end ≡ best = omega (arith, z.most) in
            rw v (x.stops.stop (omega (arith, v, u))))))));
      };
      differ = λ p q lt h ep eq e g. by_lt (seq p) low (λ k. x.differ p q lt (omega (arith, w.most, z.most)) ep eq e k) (λ k. part p q lt h ep eq e k g);
      small = λ h q k. y.small q (omega (arith, w.most));
    }
      where
        mark : r < end → repeated er seq r ≡ true
        mark g =
            let v = w.pair g in
            let a = y.back v.low v.low_to in
            let b = y.back v.high v.high_to in
            rw (← v.is) (repeats (page_in (get_or l v.low 0)) (page_in (get_or l v.high 0)) v.less a.programmed
            b.programmed (a.number ∙ v.same ∙ sym b.number))

        part : (p q : ℕ) → q < p → p < r → er p ≡ false → er q ≡ false → seq q ≡ seq p → low ≤ seq p → seq p < high → ⊥
        part p q lt h ep eq e f g =
            let a = y.there p (omega (arith, w.most)) ep f g in
            let b = y.there q (omega (arith, w.most)) eq (rw e f) (rw e g) in
            let u = w.unlike.one a.place b.place (omega arith) a.below (omega arith) b.below
            (rw a.page h) (rw b.page (omega arith)) (a.number ∙ sym e ∙ sym b.number) in
            omega (arith, a.page, b.page, u, lt)

  pub swept_end : (t low r : ℕ) → Swept er seq t low r → four_bytes ≤ low → Swept er seq t four_bytes r
  swept_end t low r x h = record {
    stops = x.stops;
    differ = λ p q lt g ep eq e f. x.differ p q lt g ep eq e (omega arith);
    small = λ k. x.small (omega arith);
  }

  pub swept_differ : (t r : ℕ) → Swept er seq t four_bytes r → Differ er seq r
  swept_differ t r x = record { differ = λ p q lt h ep eq e. x.differ p q lt h ep eq e (x.small (omega arith) p h) }

  -- pages whose numbers differ
  pub never : (t : ℕ) → Differ er seq t → (p : ℕ) → p < t → repeated er seq p ≡ false
  unfolding repeated
  never t d p h = by_er (er p) refl
    where
      other : (q : ℕ) → q < p → er p ≡ false → (a b : Bool) → er q ≡ a → eqb (seq q) (seq p) ≡ b → (not a & b) ≡ false
      other q lt ep true b eq e = and_false b
      other q lt ep false true eq e = absurd (d.differ p q lt h ep eq (eqb-true (seq q) (seq p) e))
      other q lt ep false false eq e = and_true false

      by_er : (b : Bool) → er p ≡ b → (not b & any p (λ q. not (er q) & eqb (seq q) (seq p))) ≡ false
      by_er true e = and_false _
      by_er false e =
          and_true _ ∙ any_clear (λ q. not (er q) & eqb (seq q) (seq p)) p (λ q lt. other q lt e (er q) (eqb (seq q) (seq p)) refl refl)

-- R3
module _ (g : Geometry) (img : List ℕ) (n : ℕ) where
  pub differ_good : Differ (erased g img) (seq_at g img) (g.pages * n) → Good ≡ r3 g n img
  unfolding r3
  differ_good d =
      lowest_good (repeated (erased g img) (seq_at g img)) (g.pages * n)
      (least_none (repeated (erased g img) (seq_at g img)) (g.pages * n) (λ p h. never (erased g img) (seq_at g img) (g.pages * n) d p h))

  pub swept_good : (t r : ℕ) → t ≡ g.pages * n → Swept (erased g img) (seq_at g img) t four_bytes r → t ≤ r
      → Good ≡ r3 g n img
  swept_good t r et x h =
      let w : r ≡ g.pages * n = omega (arith, x.stops.most, et) in
      differ_good (rw (← w) (swept_differ (erased g img) (seq_at g img) t r x))

  pub swept_bad : (t r : ℕ) → t ≡ g.pages * n → Swept (erased g img) (seq_at g img) t four_bytes r → r < t
      → Bad r ≡ r3 g n img
  unfolding r3
  swept_bad t r et x h =
      lowest_bad (repeated (erased g img) (seq_at g img)) (g.pages * n) r
      (least_none (repeated (erased g img) (seq_at g img)) r (λ p k. never (erased g img) (seq_at g img) r (swept_differ (erased g img) (seq_at g img) t r x) p k))
      (x.stops.stop h) (rw (← et) h)

pub ruleset part_laws = (key_parts, sieved_start, sieved_skip, sieved_more, sieved_end, within_low, within_high, within_by, number_small, held_start, held_skip, held_more, held_stops, held_sieve, stops_end, held_agree, swept_start, swept_more, swept_end, swept_good, swept_bad)
