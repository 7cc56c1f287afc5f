-- R6, in the form in which the code has the premises. Assumes nothing.
use Rattle.std.specs.Prelude.{ℕ, suc, ◌+◌, ◌-◌, ◌*◌, ◌<◌, ◌≤◌, Bool, true, false, not, ◌≡◌, eqb, ltb, get_or}
use Rattle.std.proofs.Math.Path.{refl, sym}
use Rattle.std.proofs.Common.{ap, ◌∙◌, add-one}
use mathlib.Core.List.{List, [], ◌∷◌, ◌++◌}
use Rattle.std.proofs.Math.ListN.{length}
use borrow.Author.Tests.{not-true, not-false, eq-eqb, ne_eqb, lt-ltb, le-ltb, le-leb, lt-leb}
use native.Mathlib.Omega.{arith}
use Rattle.geometry.specs.declared.Geometry.{Geometry}
use Rattle.geometry.specs.declared.Entry.{Entry}
use Rattle.geometry.specs.Findings.{Good, Bad}
use Rattle.geometry.specs.Tests.{pick, ◌&◌, and_true, and_false}
use Rattle.model.specs.Bytes.{u32_at, entries_at, node_place, node_count, node_at}
use Rattle.model.specs.Image.{Nodes}
use Rattle.model.specs.Tree.{gather, Place, places, places_of, low_level}
use Rattle.model.specs.Rules.{names_page, loose, lowest_page, r6}
use Rattle.chip_read.specs.Chip.{naming, chip_with}
use Rattle.chip_read.specs.Node.{node_read, entries_start, entries_turn, entries_past, addr_is}
use Rattle.theory_counts.specs.Lowest.{unless_true, unless_false}
use Rattle.theory_counts.specs.Least.{by_lt}
use Rattle.theory_lists.specs.All.{All, Mem, all_map, all_both, all_get, all_mem}
use Rattle.theory_nodes.specs.Live.{mem_live, low_is}
use Rattle.live_walk.specs.Table.{rest, Marked}
use Rattle.live_walk.specs.Lows.{Level, place_levels}
use Rattle.live_walk.specs.Walking.{places_named, rest_leaf, rest_start, rest_turn, rest_end}
use Rattle.sound_links.specs.Loose.{loose_in, loose_at, lowered, Inside}

-- some entry names a page
module _ (img : List ℕ) (at n p : ℕ) where
  pub names_start : names_page p (entries_at img at n) ≡ names_page p (entries_at img (at + 8 * 0) (n - 0))
  names_start = rw (← (entries_start img at n))

  module _ (i : ℕ) (inv : names_page p (entries_at img at n) ≡ names_page p (entries_at img (at + 8 * i) (n - i))) where
    names_turn : i < n → names_page p (entries_at img at n)
        ≡ pick (eqb (u32_at img (at + 8 * i + 4)) p) true (names_page p (entries_at img (at + 8 * (i + 1)) (n - (i + 1))))
    unfolding names_page
    names_turn h = inv ∙ rw (entries_turn img at n i h, addr_is)

    pub names_hit : (a : ℕ) → a ≡ u32_at img (at + 8 * i + 4) → a ≡ p → i < n → true ≡ names_page p (entries_at img at n)
    names_hit a e q h = sym (names_turn h ∙ simp (← e, eq-eqb _ _ q))

    pub names_go : (a : ℕ) → a ≡ u32_at img (at + 8 * i + 4) → (a ≡ p → ⊥) → i < n
        → names_page p (entries_at img at n) ≡ names_page p (entries_at img (at + 8 * (i + 1)) (n - (i + 1)))
    names_go a e q h = names_turn h ∙ simp (← e, ne_eqb _ _ q)

    pub names_end : n ≤ i → false ≡ names_page p (entries_at img at n)
    unfolding names_page
    names_end h = sym (inv ∙ rw (entries_past img at n i h))

-- one node
module _ (g : Geometry) (img tbl : List ℕ) (l p : ℕ) where
  pub loose_low : (o : ℕ) → o ≡ get_or tbl p 0 → l ≤ o → false ≡ loose_in (node_at g img) tbl l p
  unfolding loose_in
  loose_low o e h = simp (← e, le-ltb _ _ h, and_false)

  pub loose_is : (o at n : ℕ) (b : Bool) → o ≡ get_or tbl p 0 → at ≡ node_place g p l → n ≡ node_count g img p l
      → b ≡ names_page p (entries_at img at n) → o < l
      → not b ≡ loose_in (node_at g img) tbl l p
  unfolding loose_in
  loose_is o at n b e ea en eb h = sym (rw (← e, lt-ltb _ _ h, ← (node_read g img p l at n ea en), ← eb) (and_true (not b)))

module _ (r : Nodes) (tbl : List ℕ) (l p low : ℕ) (b : Bool) (eb : b ≡ loose_in r tbl l p) where
  pub lowered_not : not b ≡ true → low ≡ lowered r tbl l p low
  unfolding lowered
  lowered_not q = simp (← eb, not-true b q, and_false)

  pub lowered_high : not b ≡ false → low ≤ p → low ≡ lowered r tbl l p low
  unfolding lowered
  lowered_high q h = simp (← eb, not-false b q, le-ltb _ _ h, and_true)

  pub lowered_is : not b ≡ false → p < low → p ≡ lowered r tbl l p low
  unfolding lowered
  lowered_is q h = simp (← eb, not-false b q, lt-ltb _ _ h, and_true)

-- the walk
lowest_nil : (f : Place → Bool) (low : ℕ) → lowest_page f [] low ≡ low
unfolding lowest_page
lowest_nil f low = refl

lowest_cons : (r : Nodes) (tbl : List ℕ) (l p : ℕ) (xs : List Place) (low : ℕ) → 1 < l
    → lowest_page (loose_at r tbl) (record { page = p; level = l } ∷ xs) low ≡ lowest_page (loose_at r tbl) xs
    (lowered r tbl l p low)
unfolding lowest_page loose_at lowered
lowest_cons r tbl l p xs low h = rw (lt-ltb 1 l h, and_true (loose_in r tbl l p)) refl

lowest_skip : (r : Nodes) (tbl : List ℕ) (l p : ℕ) (xs : List Place) (low : ℕ) → l ≤ 1
    → lowest_page (loose_at r tbl) (record { page = p; level = l } ∷ xs) low ≡ lowest_page (loose_at r tbl) xs low
unfolding lowest_page loose_at
lowest_skip r tbl l p xs low h = rw (le-ltb 1 l h, and_false (loose_in r tbl l p), and_false (ltb p low)) refl

lowest_append : (f : Place → Bool) (xs ys : List Place) (low : ℕ) → lowest_page f (xs ++ ys) low ≡ lowest_page f ys
    (lowest_page f xs low)
unfolding lowest_page
lowest_append f [] ys low = refl
lowest_append f (x ∷ xs) ys low = lowest_append f xs ys (pick (f x & ltb x.page low) x.page low)

-- the leaves under some entries
leaves_none : (g : Geometry) (img tbl : List ℕ) (es : List Entry) (low : ℕ) → lowest_page (loose_at (node_at g img) tbl)
    (gather (places (node_at g img) 1) es) low ≡ low
unfolding gather
leaves_none g img tbl [] low = lowest_nil (loose_at (node_at g img) tbl) low
leaves_none g img tbl (e ∷ es) low =
    lowest_append (loose_at (node_at g img) tbl) (places (node_at g img) 1 e) (gather (places (node_at g img) 1) es) low
    ∙ rw (← one) (leaves_none g img tbl es low)
  where
    one : low ≡ lowest_page (loose_at (node_at g img) tbl) (places (node_at g img) 1 e) low
    one =
        sym (ap (λ (xs : List Place). lowest_page (loose_at (node_at g img) tbl) xs low) (places_named (node_at g img) 1 e
        ∙ rest_leaf g img 1 e.addr refl)
        ∙ lowest_skip (node_at g img) tbl 1 e.addr [] low (omega arith) ∙ lowest_nil (loose_at (node_at g img) tbl) low)

module _ (g : Geometry) (img tbl : List ℕ) (l p low : ℕ) where
  abbrev test : Place → Bool
  test = loose_at (node_at g img) tbl

  lowest_one : l ≡ 1 → low ≡ lowest_page test (places (node_at g img) l (naming p)) low
  lowest_one h =
      sym (ap (λ (xs : List Place). lowest_page test xs low) (rest_leaf g img l p h) ∙ lowest_skip (node_at g img) tbl l p
      [] low (omega arith) ∙ lowest_nil test low)

  pub lowest_none : l ≤ 1 → low ≡ lowest_page test (places (node_at g img) l (naming p)) low
  unfolding lowest_page places
  lowest_none h = by_lt l 1 (λ k. (let e : l ≡ 0 = omega arith in rw e refl)) (λ k. lowest_one (omega arith))

  module _ (m : ℕ) (em : m ≡ lowered (node_at g img) tbl l p low) where
    pub lowest_leaves : l ≡ 2 → m ≡ lowest_page test (places (node_at g img) l (naming p)) low
    unfolding rest
    lowest_leaves h =
        let f : l - 1 ≡ 1 = omega arith in
        sym (ap (λ (xs : List Place). lowest_page test xs low) (rest_start g img l p (node_place g p l) (node_count g img p l) refl refl (omega arith))
        ∙ lowest_cons (node_at g img) tbl l p (rest g img l (node_place g p l) (node_count g img p l) 0) low (omega arith)
        ∙ rw f (leaves_none g img tbl _ (lowered (node_at g img) tbl l p low)) ∙ sym em)

    pub lowest_end : (at n i v : ℕ) → at ≡ node_place g p l → n ≡ node_count g img p l
        → lowest_page test (rest g img l at n 0) m ≡ lowest_page test (rest g img l at n i) v → n ≤ i → 1 < l
        → v ≡ lowest_page test (places (node_at g img) l (naming p)) low
    lowest_end at n i v ea en inv h some =
        sym (ap (λ (xs : List Place). lowest_page test xs low) (rest_start g img l p at n ea en (omega arith))
        ∙ lowest_cons (node_at g img) tbl l p (rest g img l at n 0) low some
        ∙ ap (λ (v : ℕ). lowest_page test (rest g img l at n 0) v) (sym em) ∙ inv
        ∙ ap (λ (xs : List Place). lowest_page test xs v) (rest_end g img l at n i h) ∙ lowest_nil test v)

pub lowest_go : (g : Geometry) (img tbl : List ℕ) (l at n i a w t u : ℕ) → w ≡ lowest_page (loose_at (node_at g img) tbl)
    (rest g img l at n i) t → a ≡ u32_at img (at + 8 * i + 4)
    → u ≡ lowest_page (loose_at (node_at g img) tbl) (places (node_at g img) (l - 1) (naming a)) t → i < n
    → w ≡ lowest_page (loose_at (node_at g img) tbl) (rest g img l at n (i + 1)) u
lowest_go g img tbl l at n i a w t u e ea eu h =
    e ∙ ap (λ (xs : List Place). lowest_page (loose_at (node_at g img) tbl) xs t) (rest_turn g img l at n i h)
    ∙ rw (← ea) (lowest_append (loose_at (node_at g img) tbl) (places (node_at g img) (l - 1) (naming a)) (rest g img l at n (i + 1)) t)
    ∙ ap (λ (v : ℕ). lowest_page (loose_at (node_at g img) tbl) (rest g img l at n (i + 1)) v) (sym eu)

-- R6
lowest_same : (f h : Place → Bool) (xs : List Place) (low : ℕ) → All (λ x. f x ≡ h x) xs
    → lowest_page f xs low ≡ lowest_page h xs low
unfolding lowest_page
lowest_same f h [] low e = refl
lowest_same f h (x ∷ xs) low e = rw e.0 (lowest_same f h xs (pick (h x & ltb x.page low) x.page low) e.1)

module _ (g : Geometry) (img tbl : List ℕ) (t l p q : ℕ) (m : Marked (chip_with g img l p) tbl)
    (w : Inside (chip_with g img l p) (length tbl))
    (e : q ≡ lowest_page (loose_at (node_at g img) tbl) (places (node_at g img) (l + 1) (naming p)) t) where
  all : List Place
  all = places_of (chip_with g img l p)

  some_level : (x : Place) → Mem x all → 1 ≤ low_level all x.page
  unfolding all
  some_level x y = all_get Level _ all (place_levels (node_at g img) (suc l) (naming p)) (low_is all x.page (mem_live x all y)).0

  same_at : (x : Place) → (x.page < length tbl) × Mem x all → loose_at (node_at g img) tbl x ≡ loose (node_at g img) all x
  unfolding all loose_at loose_in loose
  same_at x h = by_lt 1 x.level
      (λ k. rw (lt-ltb 1 x.level k, m.lows x.page h.0) (and_true _))
      (λ k. rw (le-ltb 1 x.level k, le-ltb (low_level all x.page) x.level (omega (arith, k, some_level x h.1))) (and_false _ ∙ sym (and_false _)))

  page_is : q ≡ lowest_page (loose (node_at g img) all) all t
  unfolding all
  page_is =
      e ∙ rw (add-one l) (lowest_same (loose_at (node_at g img) tbl) (loose (node_at g img) all) all t
      (all_map (λ x. (x.page < length tbl) × Mem x all) (λ x. loose_at (node_at g img) tbl x ≡ loose (node_at g img) all x) all
      same_at (all_both (λ x. x.page < length tbl) (λ x. Mem x all) all w.inside (all_mem all))))

  pub loose_bad : q < t → Bad q ≡ r6 t (chip_with g img l p)
  unfolding r6 all
  loose_bad h = sym (rw (← page_is, lt-leb t q h) (unless_false q Good))

  pub loose_good : t ≤ q → Good ≡ r6 t (chip_with g img l p)
  unfolding r6 all
  loose_good h = sym (rw (← page_is, le-leb t q h) (unless_true q Good))

pub ruleset loose_laws = (names_start, names_hit, names_go, names_end, loose_low, loose_is, lowered_not, lowered_high, lowered_is, lowest_none, lowest_leaves, lowest_end, lowest_go, loose_bad, loose_good)
