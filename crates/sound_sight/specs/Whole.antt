-- All blocks: R1 and R2 of the image. Assumes nothing.
use Prim.Native.Nat.{ℕ, ◌+◌, ◌-◌, ◌*◌, ◌<◌, ◌≤◌}
use Rattle.std.specs.Prelude.{Bool, ◌≡◌, List, eqb, length, get_or, set}
use Rattle.std.proofs.Math.Bool.{true, false, not}
use Rattle.std.proofs.lemmas.Bool.{false≢true}
use Rattle.std.proofs.Math.Path.{refl, sym}
use Rattle.std.proofs.Common.{ap, ◌∙◌, get_or-set_same, get_or-set_other, add-one, mul-zero, mul-suc, mul-le-mul_left}
use Rattle.std.proofs.Math.Dec.{leb, ltb}
use native.Mathlib.Omega.{arith}
use borrow.Author.Tests.{not-true, not-false, le-leb, lt-leb, lt-ltb, le-ltb, leb-true, leb-false, ltb-true, eq-eqb, eqb-true}
use Rattle.geometry.specs.declared.Geometry.{Geometry}
use Rattle.geometry.specs.Findings.{Good}
use Rattle.geometry.specs.Tests.{pick, ◌&◌, and_true, and_false, and_left, and_right}
use Rattle.model.specs.Bytes.{erased, seq_at}
use Rattle.model.specs.Count.{least}
use Rattle.model.specs.Next.{mixed, first_in}
use Rattle.model.specs.Rules.{well_formed, in_order, second_mixed, r1, r2}
use Rattle.theory_counts.specs.Least.{by_lt, least_is, least_none, any_clear}
use Rattle.theory_counts.specs.Blocks.{Split, split}
use Rattle.theory_counts.specs.Lowest.{lowest_good, good_lowest, good_unless, unless_true}
use Rattle.chip_survey.specs.declared.Seen.{Seen}
use Rattle.chip_survey.specs.declared.Survey.{Survey}
use Rattle.chip_survey.specs.Survey.{seen_to, survey_of}
use Rattle.chip_survey.specs.Pass.{survey_is}
use Rattle.model.specs.Image.{height_of}
use Rattle.sound_numbers.specs.declared.Range.{Range}
use Rattle.sound_numbers.specs.Ranges.{Ranges}
use Rattle.sound_sight.specs.Sight.{Told, Spoilt, Strip, Strips, Flaw, parted, Bare, Parts, Single, Double, Clear}
use Rattle.sound_sight.specs.Pages.{told_yes, told_no}

-- a page of a block below n
in_image : (p n b i : ℕ) → b < n → i < p → p * b + i < p * n
in_image p n b i h k =
    let w : p * (b + 1) ≤ p * n = mul-le-mul_left p (let v : b + 1 ≤ n = omega arith in v) in
    let e : p * (b + 1) ≡ p * b + p = rw add-one (mul-suc p b) in
    omega (arith, w, e, k)

module _ (g : Geometry) (n : ℕ) (img : List ℕ) where
  er : ℕ → Bool
  er = erased g img

  good_formed : r1 g n img ≡ Good → (b : ℕ) → b < n → (i : ℕ) → i < g.pages → well_formed g img (g.pages * b + i)
      ≡ true
  unfolding r1
  good_formed e b h i k =
      not-false (well_formed g img (g.pages * b + i))
      (good_lowest (λ p. not (well_formed g img p)) (g.pages * n) e (g.pages * b + i) (in_image g.pages n b i h k))

  good_order : r2 g.pages n (erased g img) ≡ Good → (b : ℕ) → b < n → in_order g.pages (erased g img) b ≡ true
  unfolding r2
  good_order e b h =
      not-false (in_order g.pages (erased g img) b)
      ((least_is (λ b. not (in_order g.pages (erased g img) b)) n).before b
      (omega (arith, h, leb-true n (least n (λ b. not (in_order g.pages (erased g img) b))) (good_unless _ _ _ e).0)))

  good_second : r2 g.pages n (erased g img) ≡ Good → n ≤ second_mixed g.pages n (erased g img)
  unfolding r2
  good_second e = leb-true n (second_mixed g.pages n (erased g img)) (good_unless _ _ _ (good_unless _ _ _ e).1).0

  pub scan_flaw : (A A' : Type 0) (t : Bool) (b : ℕ) → Told t A' (Spoilt g img b) → not t ≡ true → b < n
      → Told false A (Flaw g n img)
  scan_flaw A A' t b x m h =
      told_no A _ (record { flaw = λ e f. (x.no (not-true t m)).spoilt (good_formed e b h) (good_order f b h) })

-- one block more
module _ (g : Geometry) (img : List ℕ) where
  pub strips_start : (s : Seen) (programmed lows highs : List ℕ) → s ≡ seen_to g img 0
      → Strips g img 0 s true programmed lows highs
  strips_start s programmed lows highs e = record {
    kinds = λ b h. absurd (omega arith);
    formed = λ b h. absurd (omega arith);
    seen = e ∙ ap (seen_to g img) (sym (mul-zero g.pages));
    rise = λ t b h. absurd (omega arith);
    low = λ b h. absurd (omega arith);
    high = λ b h. absurd (omega arith);
  }

  pub strips_seen : (b : ℕ) (s : Seen) (t : Bool) (programmed lows highs : List ℕ)
      → Strips g img b s t programmed lows highs → s ≡ seen_to g img (g.pages * b)
  strips_seen b s t programmed lows highs x = x.seen

  stored : (xs ys : List ℕ) (b at v c n : ℕ) → at ≡ b → b < n → n ≤ length ys → length xs ≡ length ys → c ≡ b
      → get_or (set xs at v) c 0 ≡ v
  stored xs ys b at v c n ea h l e ec =
      let w : c ≡ at = omega arith in
      rw w (get_or-set_same xs at v 0 (omega (arith, ea, h, l, e)))

  kept : (xs : List ℕ) (b at v c : ℕ) → at ≡ b → c < b → get_or (set xs at v) c 0 ≡ get_or xs c 0
  kept xs b at v c ea k = get_or-set_other xs at c v 0 (λ z. omega (arith, z, ea, k))

  pub strips_go : (b at n j : ℕ) (s s' : Seen) (t t' u : Bool) (r : Range) (B : Type 0)
      (programmed lows highs programmed₀ lows₀ highs₀ : List ℕ)
      → Strips g img b s t programmed lows highs → Told u (Strip g img b j s' r) B → not u ≡ false → at ≡ b
      → t' ≡ (t & r.rising) → b < n
      → n ≤ length programmed₀ → n ≤ length lows₀ → n ≤ length highs₀
      → length programmed ≡ length programmed₀ → length lows ≡ length lows₀ → length highs ≡ length highs₀
      → Strips g img (b + 1) s' t' (set programmed at j) (set lows at r.low) (set highs at r.high)
  strips_go b at n j s s' t t' u r B programmed lows highs programmed₀ lows₀ highs₀ x y m ea et h hp hl hh ep el eh =
      record {
        kinds = λ c k i w. by_lt c b
            (λ v. x.kinds c v i w ∙ ap (λ (z : ℕ). leb z i) (sym (kept programmed b at j c ea v)))
            (λ v. (let e : c ≡ b = omega arith in rw (stored programmed programmed₀ b at j c n ea h hp ep e, e) (z.kinds i w)));
        formed = λ c k i w. by_lt c b (λ v. x.formed c v i w) (λ v. (let e : c ≡ b = omega arith in
            rw e (z.formed i w)));
        seen = z.seen;
        rise = λ f c k. by_lt c b (λ v. x.rise (and_left t r.rising (sym et ∙ f)) c v)
            (λ v. (let e : c ≡ b = omega arith in rw (e, ← z.range) (and_right t r.rising (sym et ∙ f))));
        low = λ c k. by_lt c b (λ v. kept lows b at r.low c ea v ∙ x.low c v)
            (λ v. (let e : c ≡ b = omega arith in stored lows lows₀ b at r.low c n ea h hl el e
            ∙ rw (e, ← z.range) refl));
        high = λ c k. by_lt c b (λ v. kept highs b at r.high c ea v ∙ x.high c v)
            (λ v. (let e : c ≡ b = omega arith in stored highs highs₀ b at r.high c n ea h hh eh e
            ∙ rw (e, ← z.range) refl));
      }
    where
      z : Strip g img b j s' r
      z = y.yes (not-false u m)

  pub strips_end : (B : Type 0) (b n : ℕ) (s : Seen) (t : Bool) (programmed lows highs : List ℕ)
      → Strips g img b s t programmed lows highs → b ≤ n → n ≤ b
      → Told true (Strips g img n s t programmed lows highs) B
  strips_end B b n s t programmed lows highs x h k =
      let w : b ≡ n = omega arith in
      told_yes _ B (rw (← w) x)

-- a block programmed in part
module _ (p : ℕ) where
  pub parted_none : (j : ℕ) → j ≡ 0 → false ≡ parted p j
  unfolding parted
  parted_none j e = simp (le-leb j 0 (omega arith))

  pub parted_some : (j : ℕ) → (j ≡ 0 → ⊥) → ltb j p ≡ parted p j
  unfolding parted
  parted_some j z = rw (lt-leb j 0 (omega arith)) below
    where
      below : ltb j p ≡ leb j (p - 1)
      below = by_lt j p (λ h. lt-ltb j p h ∙ sym (le-leb j (p - 1) (omega arith))) (λ h. le-ltb j p h
          ∙ sym (lt-leb j (p - 1) (omega arith)))

  module _ (programmed : List ℕ) where
    pub bare_start : (f : ℕ) → Bare p programmed f f
    bare_start f = record { bare = λ b h k. absurd (omega arith) }

    pub bare_go : (f i at : ℕ) (r : Bool) → Bare p programmed f i → at ≡ i → r ≡ parted p (get_or programmed at 0)
        → r ≡ false → Bare p programmed f (i + 1)
    bare_go f i at r x ea e q = record {
      bare = λ b h k. by_lt b i (λ m. x.bare b h m) (λ m. (let w : b ≡ at = omega arith in rw w (sym e ∙ q)));
    }

    pub bare_hit : (f n i at : ℕ) (r : Bool) → Bare p programmed f i → at ≡ i → r ≡ parted p (get_or programmed at 0)
        → r ≡ true → f ≤ i → i < n → Parts p programmed f n i
    bare_hit f n i at r x ea e q k h = record { most = omega arith; before = x; there = λ m. (rw (← ea) (sym e ∙ q), k) }

    pub bare_end : (f n i : ℕ) → Bare p programmed f i → i ≤ n → n ≤ i → Parts p programmed f n i
    bare_end f n i x h k = record { most = h; before = x; there = λ m. absurd (omega arith) }

    pub single_none : (B : Type 0) (n m : ℕ) → Parts p programmed 0 n m → n ≤ m → Told true (Single p n programmed) B
    single_none B n m x h =
        told_yes _ B (record { same = λ a b lt k ea eb. false≢true (sym (x.before.bare a (omega arith) (omega arith)) ∙ ea) })

    pub single_is : (n m o : ℕ) → Parts p programmed 0 n m → m < n → Parts p programmed (m + 1) n o
        → Told (leb n o) (Single p n programmed) (Double p n programmed)
    single_is n m o x h y = by_lt o n
        (λ k. rw (lt-leb n o k) (told_no _ _ (record {
          one = m;
          two = o;
          order = omega (arith, (y.there k).1);
          inside = k;
          first = (x.there h).0;
          second = (y.there k).0;
        })))
        (λ k. rw (le-leb n o k) (told_yes _ _ (record { same = λ a b lt v ea eb. alone a b lt v k ea eb })))
      where
        alone : (a b : ℕ) → a < b → b < n → n ≤ o → parted p (get_or programmed a 0) ≡ true
            → parted p (get_or programmed b 0) ≡ true → ⊥
        alone a b lt v k ea eb =
            by_lt a m (λ w. false≢true (sym (x.before.bare a (omega arith) w) ∙ ea))
            (λ w. false≢true (sym (y.before.bare b (omega arith) (omega arith)) ∙ eb))

-- R2's mixed blocks are those
module _ (g : Geometry) (n : ℕ) (img : List ℕ) (s : Seen) (t : Bool) (programmed lows highs : List ℕ)
    (x : Strips g img n s t programmed lows highs) where
  mixed_is : (b : ℕ) → b < n → mixed g.pages (erased g img) b ≡ parted g.pages (get_or programmed b 0)
  unfolding parted
  mixed_is b h = by_lt 0 g.pages
      (λ k. rw (x.kinds b h 0 k, x.kinds b h (g.pages - 1) (omega arith)) refl)
      (λ k. none g.pages (omega arith) (erased g img) (get_or programmed b 0))
    where
      none : (p : ℕ) → p ≡ 0 → (f : ℕ → Bool) (j : ℕ) → mixed p f b ≡ pick (leb j 0) false (leb j (p - 1))
      none p e f j = rw e (same (f (0 * b + 0)) ∙ sym (same (leb j 0)))
        where
          same : (u : Bool) → pick u false u ≡ false
          same true = refl
          same false = refl

  ordered_block : (b : ℕ) → b < n → in_order g.pages (erased g img) b ≡ true
  unfolding in_order
  ordered_block b h = rw (any_clear (λ i. ltb (first_in g.pages (erased g img) b) i & not (erased g img (g.pages * b + i))) g.pages clear) refl
    where
      m : ℕ
      m = first_in g.pages (erased g img) b

      rest : (i : ℕ) → i < g.pages → (u v : Bool) → ltb m i ≡ u → erased g img (g.pages * b + i) ≡ v
          → (u & not v) ≡ false
      rest i k false v eu ev = and_false (not v)
      rest i k true true eu ev = and_true false
      rest i k true false eu ev =
          let lt : m < i = ltb-true m i eu in
          let there : erased g img (g.pages * b + m) ≡ true =
          (least_is (λ (j : ℕ). erased g img (g.pages * b + j)) g.pages).there (omega (arith, lt, k)) in
          let a : get_or programmed b 0 ≤ m = leb-true (get_or programmed b 0) m (sym (x.kinds b h m (omega (arith, lt, k))) ∙ there) in
          let c : i < get_or programmed b 0 = leb-false (get_or programmed b 0) i (sym (x.kinds b h i k) ∙ ev) in
          absurd (omega (arith, a, c, lt))

      clear : (i : ℕ) → i < g.pages → (ltb m i & not (erased g img (g.pages * b + i))) ≡ false
      clear i k = rest i k (ltb m i) (erased g img (g.pages * b + i)) refl refl

  strips_formed : Good ≡ r1 g n img
  unfolding r1
  strips_formed = lowest_good (λ p. not (well_formed g img p)) (g.pages * n) (least_none (λ p. not (well_formed g img p))
      (g.pages * n) (λ p h. formed p (split g.pages n p h)))
    where
      formed : (p : ℕ) → Split g.pages n p → not (well_formed g img p) ≡ false
      formed p y = rw (← y.is, x.formed y.block y.below y.place y.inside) refl

  module _ (y : Single g.pages n programmed) where
    other_none : (b : ℕ) → b < n → (mixed g.pages
        (erased g img) b & not (eqb b (least n (mixed g.pages (erased g img))))) ≡ false
    other_none b h = go (mixed g.pages (erased g img) b) refl
      where
        m : ℕ
        m = least n (mixed g.pages (erased g img))

        is : mixed g.pages (erased g img) b ≡ true → b ≡ m
        is e = by_lt b m
            (λ k. absurd (false≢true (sym ((least_is (mixed g.pages (erased g img)) n).before b k) ∙ e)))
            (λ k. by_lt m b
            (λ v. absurd (y.same m b v h (sym (mixed_is m (omega arith)) ∙ (least_is (mixed g.pages (erased g img))
            n).there (omega arith)) (sym (mixed_is b h) ∙ e)))
            (λ v. omega arith))

        go : (u : Bool) → mixed g.pages (erased g img) b ≡ u → (u & not (eqb b m)) ≡ false
        go false e = and_false _
        go true e = rw (eq-eqb b m (is e)) (and_true false)

    strips_ordered : r2 g.pages n (erased g img) ≡ Good
    unfolding r2 second_mixed
    strips_ordered =
        rw (least_none (λ b. not (in_order g.pages (erased g img) b)) n (λ b h. rw (ordered_block b h) refl), le-leb n n (omega arith))
        (unless_true _ _ ∙ rw (
          least_none (λ b. mixed g.pages
              (erased g img) b & not (eqb b (least n (mixed g.pages (erased g img))))) n other_none,
          le-leb n n (omega arith),
        ) (unless_true _ Good))

  strips_ranges : t ≡ true → Ranges (erased g img) (seq_at g img) g.pages n lows highs
  strips_ranges e = record { rise = x.rise e; low = x.low; high = x.high }

  strips_double : Double g.pages n programmed → Flaw g n img
  unfolding second_mixed
  strips_double d = record {
    flaw = λ e f. absurd (omega (
      arith,
      d.order,
      is f d.one
          (omega (arith, d.order, d.inside)) d.first,
      is f d.two d.inside d.second,
    ));
  }
    where
      is : r2 g.pages n (erased g img) ≡ Good → (b : ℕ) → b < n → parted g.pages (get_or programmed b 0) ≡ true
          → b ≡ least n (mixed g.pages (erased g img))
      is f b h e = eqb-true b (least n (mixed g.pages (erased g img))) (not-false _ (sym (and_true _)
          ∙ rw (← (mixed_is b h ∙ e))
          ((least_is (λ b. mixed g.pages (erased g img) b & not (eqb b (least n (mixed g.pages (erased g img)))))
          n).before b (omega (arith, h, good_second g n img f)))))

  sight_clear : (v w : Bool) (u : Survey) → Told v (Single g.pages n programmed) (Double g.pages n programmed)
      → u ≡ survey_of g n img → u.level < 255
      → Told v (Clear g n img t u programmed lows highs) (Flaw g n img)
  sight_clear v w u y es el = record {
    yes = λ e. record {
      formed = sym strips_formed;
      ordered = strips_ordered (y.yes e);
      survey = es;
      level = el;
      counted = record { kinds = x.kinds };
      ranges = record { holds = strips_ranges };
    };
    no = λ e. strips_double (y.no e);
  }

module _ (g : Geometry) (n : ℕ) (img : List ℕ) (s : Seen) (t f : Bool) (programmed lows highs : List ℕ)
    (x : Told f (Strips g img n s t programmed lows highs) (Flaw g n img)) where
  pub sight_flaw : (A : Type 0) → not f ≡ true → Told false A (Flaw g n img)
  sight_flaw A m = told_no A _ (x.no (not-true f m))

  pub sight_is : (v : Bool) (h l : ℕ) → not f ≡ false → Told v (Single g.pages n programmed)
      (Double g.pages n programmed) → h ≡ height_of g img s.root → h < 256 → l ≡ h - 1
      → Told v (Clear g n img t (record {
        root = s.root;
        height = h;
        level = l;
        most = s.most;
        last = s.last;
        erased = s.erased;
      }) programmed lows highs) (Flaw g n img)
  sight_is v h l m y eh k el =
      let z = x.yes (not-false f m) in
      sight_clear g n img s t programmed lows highs z v v _ y (survey_is g img n (g.pages * n) h l s refl z.seen eh el) (omega arith)

pub ruleset whole_laws = (scan_flaw, strips_start, strips_seen, strips_go, strips_end, parted_none, parted_some, bare_start, bare_go, bare_hit, bare_end, single_none, single_is, sight_flaw, sight_is)
