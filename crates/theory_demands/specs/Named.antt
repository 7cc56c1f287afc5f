-- Request 5, of the definitions: which rule and which page a damaged image's answer names, in the request's words.
-- Assumes nothing.
use Rattle.std.specs.Prelude.{◌≡◌, List, [], ◌∷◌, ◌⊎◌, leb, get_or}
use Rattle.std.proofs.Common.{ap, sym, subst, inl, inr, arith}
use Rattle.std.proofs.Math.Bool.{Bool, true, false, not}
use Prim.Native.Nat.{ℕ, suc, ◌-◌, ◌<◌, ◌≤◌}
use Rattle.std.proofs.Math.Dec.{eqb}
use borrow.Author.Tests.{not-true, eq-eqb, eqb-true, ltb-true, leb-false}
use Rattle.geometry.specs.declared.Geometry.{Geometry}
use Rattle.geometry.specs.Findings.{Finding, Good, Bad, broken_at}
use Rattle.geometry.specs.Tests.{pick, ◌&◌, and_left, and_right, and_both}
use Rattle.geometry.specs.Bounds.{four_bytes}
use Rattle.model.specs.Bytes.{erased, seq_at}
use Rattle.model.specs.Count.{least}
use Rattle.model.specs.Image.{Chip, chip_of, pages_of}
use Rattle.model.specs.Tree.{Place, places_of}
use Rattle.model.specs.Rules.{well_formed, r1, r2, repeated, r3, r4, own, own_root, judge_node, r5, loose, lowest_page, r6, r7, r8, asked, verdict}
use Rattle.theory_counts.specs.Least.{Least, least_is}
use Rattle.theory_counts.specs.Lowest.{bad_good}
use Rattle.theory_counts.specs.Cases.{by_le, true_false}
use Rattle.theory_chips.specs.Tests.{any_one}
use Rattle.theory_demands.specs.Disorder.{FirstErased, SecondMixed, r2_names}
use Rattle.theory_demands.specs.Findings.{bad_unless, zero_page, or_led, bad_lowest, broke, Led, led, LowestPlace, lowest_place}

-- ---- "the first broken rule, in the order R1 to R7", and R8 after them
module _ (g : Geometry) (n : ℕ) (img : List ℕ) where
  abbrev c : Chip
  c = chip_of g n img

  abbrev t : ℕ
  t = pages_of g n

  -- what each rule finds
  abbrev pub findings : List Finding
  findings =
      r1 g n img ∷ r2 g.pages n (erased g img) ∷ r3 g n img ∷ r4 g n img ∷ r5 g t c ∷ r6 t c ∷ asked g (r7 g.pages n c)
      ∷ asked g (r8 g.pages n c) ∷ []

  abbrev pub finding : ℕ → Finding
  finding rule = get_or findings (rule - 1) Good

  -- every rule before it holds, and it is broken on this page
  pub record Names (rule page : ℕ) : Type 0 where
    pub some : 1 ≤ rule
    pub most : rule ≤ 8
    pub hold : (j : ℕ) → 1 ≤ j → j < rule → finding j ≡ Good
    pub broken : finding rule ≡ Bad page

  pub first_broken_lem : (rule page : ℕ) → verdict g n img ≡ broken_at rule page → Names rule page
  unfolding verdict
  first_broken_lem rule page e =
      let w = broke 1 findings rule page e in
      record {
        some = omega (arith, w.rule_is);
        most = omega (arith, w.rule_is, w.inside);
        hold = λ j h k. w.hold (j - 1) (omega (arith, w.rule_is));
        broken = (let q : rule - 1 ≡ w.place = omega (arith, w.rule_is) in rw q w.broken);
      }

  -- ---- R1: "the lowest page"
  pub page_of_1 : (p : ℕ) → r1 g n img ≡ Bad p → (p < t) × Least (λ q. not (well_formed g img q)) t p
  unfolding r1
  page_of_1 p e = bad_lowest t (λ q. not (well_formed g img q)) p e

  -- ---- R2: "the first erased page before a programmed one, or else the first programmed page of the second mixed
  -- block"
  pub page_of_2 : (p : ℕ) → r2 g.pages n (erased g img) ≡ Bad p
      → FirstErased g.pages n (erased g img) p ⊎ SecondMixed g.pages n (erased g img) p
  page_of_2 p e = r2_names g.pages n (erased g img) p e

  -- ---- R3: "the higher-numbered page of the pair whose higher page is lowest"
  -- two programmed pages with one number, q the lower
  abbrev pub Pair : ℕ → ℕ → Type 0
  Pair q p = (q < p) × (erased g img q ≡ false) × (erased g img p ≡ false) × (seq_at g img q ≡ seq_at g img p)

  pub record Higher (p : ℕ) : Type 0 where
    pub inside : p < t
    pub lower : ℕ
    pub pair : Pair lower p
    pub lowest : (a b : ℕ) → Pair a b → p ≤ b

  pub page_of_3 : (p : ℕ) → r3 g n img ≡ Bad p → Higher p
  unfolding r3 repeated
  page_of_3 p e =
      let w = bad_lowest t (repeated (erased g img) (seq_at g img)) p e in
      let h = w.1.there w.0 in
      let l = least_is (twin p) p in
      let q = ltb-true (least p (twin p)) p (and_right _ _ h) in
      let t = l.there q in
      record {
        inside = w.0;
        lower = least p (twin p);
        pair = (q, not-true _ (and_left _ _ t), not-true _ (and_left _ _ h), eqb-true _ _ (and_right _ _ t));
        lowest = λ a b x. by_le p b (λ y. y) (λ y. absurd (true_false _ (twins a b x) (w.1.before b y)));
      }
    where
      twin : ℕ → ℕ → Bool
      twin p q = not (erased g img q) & eqb (seq_at g img q) (seq_at g img p)

      twins : (a b : ℕ) → Pair a b → repeated (erased g img) (seq_at g img) b ≡ true
      twins a b x = and_both _ _ (ap not x.2) (any_one b a (twin b) x.0 (and_both _ _ (ap not x.1) (eq-eqb _ _ x.3)))

  -- ---- R4, R7, R8: 0
  pub page_of_4 : (p : ℕ) → r4 g n img ≡ Bad p → p ≡ 0
  unfolding r4
  page_of_4 p e = zero_page _ _ e

  -- R7 and R8, where they are asked
  asked_bad : (f : Finding) (p : ℕ) → asked g f ≡ Bad p → f ≡ Bad p
  unfolding asked
  asked_bad f p e = go (eqb g.table 2) e
    where
      go : (b : Bool) → pick b Good f ≡ Bad p → f ≡ Bad p
      go true d = absurd (bad_good p (sym d))
      go false d = d

  pub page_of_7 : (p : ℕ) → asked g (r7 g.pages n c) ≡ Bad p → p ≡ 0
  unfolding r7
  page_of_7 p e = zero_page _ _ (asked_bad _ p e)

  pub page_of_8 : (p : ℕ) → asked g (r8 g.pages n c) ≡ Bad p → p ≡ 0
  unfolding r8
  page_of_8 p e = zero_page _ _ (asked_bad _ p e)

  -- ---- R5: "the page of the first node, each before its subtrees and those left to right, whose own counts, keys or
  -- page numbers break it". First the root
  pub page_of_5 : (p : ℕ) → r5 g t c ≡ Bad p
      → ((own_root g c.er c.nodes t (suc c.level) c.root ≡ false) × (c.root ≡ p)) ⊎
      ((own_root g c.er c.nodes t (suc c.level) c.root ≡ true) ×
      Led (judge_node g c.er c.nodes t c.level) (c.nodes c.root (suc c.level)) four_bytes p)
  unfolding r5
  page_of_5 p e = or_led (bad_unless _ _ p _ e) (led (judge_node g c.er c.nodes t c.level) (c.nodes c.root (suc c.level)) four_bytes p)

  -- and so below each entry: the node that it names, or else the first bad one below that
  pub page_below : (l q lo hi p : ℕ) → judge_node g c.er c.nodes t (suc l) q lo hi ≡ Bad p
      → ((own g c.er c.nodes t (suc l) q lo hi ≡ false) × (q ≡ p)) ⊎
      ((own g c.er c.nodes t (suc l) q lo hi ≡ true) × Led (judge_node g c.er c.nodes t l) (c.nodes q (suc l)) hi p)
  unfolding judge_node
  page_below l q lo hi p e = or_led (bad_unless _ _ p _ e) (led (judge_node g c.er c.nodes t l) (c.nodes q (suc l)) hi p)

  -- ---- R6: "the lowest page" of the live nodes above another of their page that do not name it
  abbrev pub is_loose : Place → Bool
  is_loose = loose c.nodes (places_of c)

  pub page_of_6 : (p : ℕ) → r6 t c ≡ Bad p → (p < t) × LowestPlace is_loose (places_of c) t p
  unfolding r6
  page_of_6 p e = go (bad_unless (leb t low) low p Good e)
    where
      low : ℕ
      low = lowest_page is_loose (places_of c) t

      go : ((leb t low ≡ false) × (low ≡ p)) ⊎ ((leb t low ≡ true) × (Good ≡ Bad p))
          → (p < t) × LowestPlace is_loose (places_of c) t p
      go (inl w) = subst (λ m. (m < t) × LowestPlace is_loose (places_of c) t m) w.1
          (leb-false t low w.0, lowest_place is_loose (places_of c) t)
      go (inr w) = absurd (bad_good p (sym w.1))
