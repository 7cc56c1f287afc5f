-- R5. `er` tells the erased pages, `r` reads a node. Assumes nothing.
use Rattle.std.specs.Prelude.{ℕ, zero, suc, ◌+◌, ◌-◌, ◌*◌, ◌/◌, ◌%◌, ◌<◌, ◌≤◌, Bool, true, false, not, ◌≡◌, List, [], ◌∷◌, eqb, ltb, leb, length, get_or}
use Rattle.std.proofs.Math.Path.{refl, sym}
use Rattle.std.proofs.Common.{◌∙◌, arith, div-le_self, Fits, sub-one, add-one}
use Rattle.std.specs.Int.{w64}
use borrow.Author.Tests.{not-true, not-false, eq-eqb, ne_eqb, lt-ltb, le-ltb, lt-leb, le-leb}
use Rattle.geometry.specs.declared.Geometry.{Geometry}
use Rattle.geometry.specs.declared.Entry.{Entry}
use Rattle.geometry.specs.Findings.{Finding, Good, Bad}
use Rattle.geometry.specs.Geometry.{slots_of, root_most}
use Rattle.geometry.specs.Tests.{pick, ◌&◌, and_true, and_false}
use Rattle.geometry.specs.Bounds.{four_bytes}
use Rattle.model.specs.Bytes.{u32_at, erased, node_place, node_count, entries_at, node_at}
use Rattle.model.specs.Image.{Nodes}
use Rattle.model.specs.Tree.{following}
use Rattle.model.specs.Rules.{first, unless, names, rising, own, own_root, judge_entries, judge_node, r5}
use Rattle.sound_leaves.specs.Leaves.{any_page}
use Rattle.sound_nodes.specs.Programmed.{Programmed}
use Rattle.sound_nodes.specs.Noted.{judged_from, judged_at}
use Rattle.chip_read.specs.Chip.{chip_with}
use Rattle.chip_read.specs.Node.{node_length, node_read, entries_start, entries_step, entries_none, entries_turn, entries_past, key_is, addr_is}
use Rattle.theory_counts.specs.Lowest.{unless_true, unless_false}

-- the next entry's key
pub next_none : (img : List ℕ) (at n hi : ℕ) → n ≡ 0 → hi ≡ following (entries_at img at n) hi
next_none img at n hi e = sym (rw (entries_none img at n e) refl)

pub next_some : (img : List ℕ) (at n hi k : ℕ) → k ≡ u32_at img at → (n ≡ 0 → ⊥) → k ≡ following (entries_at img at n) hi
next_some img at n hi k e h = e ∙ sym (rw (entries_step img at n h) (key_is img at))

-- what an entry may name
module _ (er : ℕ → Bool) (t l a : ℕ) where
  pub names_leaf : l ≡ 1 → true ≡ names er t l a
  unfolding names
  names_leaf e = simp (eq-eqb _ _ e)

  pub names_off : (l ≡ 1 → ⊥) → t ≤ a → false ≡ names er t l a
  unfolding names
  names_off e h = simp (ne_eqb _ _ e, le-ltb _ _ h, and_false)

  pub names_on : (b : Bool) → b ≡ er a → (l ≡ 1 → ⊥) → a < t → not b ≡ names er t l a
  unfolding names
  names_on b f e h = simp (ne_eqb _ _ e, lt-ltb _ _ h, and_true, ← f)

-- by the count of programmed pages
pub blank_fits : (r s : ℕ) → r < four_bytes → Fits w64 (r / s * 2)
blank_fits r s h = record { fits = omega (arith, h, div-le_self r s) }

pub blank_read : (r s p q : ℕ) (xs : List ℕ) → r ≡ p → s ≡ q → p / q < length xs → r / s < length xs
blank_read r s p q xs er es h = rw (er, es) h

pub blank_is : (r s p q w : ℕ) (xs : List ℕ) → r ≡ p → s ≡ q → w ≡ get_or xs (r / s) 0
    → leb w (r % s) ≡ leb (get_or xs (p / q) 0) (p % q)
blank_is r s p q w xs er es ew = rw (ew, er, es) refl

module _ (g : Geometry) (img : List ℕ) (t a : ℕ) (programmed : List ℕ) (x : Programmed g img t programmed) where
  pub blank_some : a < t → 0 < g.pages
  blank_some h = x.some a h

  pub blank_inside : a < t → a / g.pages < length programmed
  blank_inside h = x.inside a h

  pub names_by : (l : ℕ) (b : Bool) → b ≡ leb (get_or programmed (a / g.pages) 0) (a % g.pages) → (l ≡ 1 → ⊥) → a < t
      → not b ≡ names (erased g img) t l a
  names_by l b e z h = names_on (erased g img) t l a b (e ∙ sym (x.kinds a h)) z h

-- the entries' own check, as a loop
module _ (ok : ℕ → Bool) (img : List ℕ) (at n lo hi : ℕ) where
  pub rising_start : rising ok (entries_at img at n) lo hi ≡ rising ok (entries_at img (at + 8 * 0) (n - 0)) lo hi
  rising_start = rw (← (entries_start img at n))

  module _ (i low : ℕ) (inv : rising ok (entries_at img at n) lo hi ≡ rising ok (entries_at img (at + 8 * i) (n - i)) low
      hi) where
    rising_turn : i < n → rising ok (entries_at img at n) lo hi
        ≡ (leb low (u32_at img (at + 8 * i)) & ltb (u32_at img (at + 8 * i)) hi & ok (u32_at img (at + 8 * i + 4))
        & rising ok (entries_at img (at + 8 * (i + 1)) (n - (i + 1))) (u32_at img (at + 8 * i) + 1) hi)
    unfolding rising
    rising_turn h = inv ∙ rw (entries_turn img at n i h, key_is, addr_is)

    pub rising_low : (k : ℕ) → k ≡ u32_at img (at + 8 * i) → i < n → k < low → false ≡ rising ok (entries_at img at n) lo
        hi
    rising_low k ek h g = sym (rising_turn h ∙ simp (← ek, lt-leb _ _ g, and_false))

    pub rising_high : (k : ℕ) → k ≡ u32_at img (at + 8 * i) → i < n → low ≤ k → hi ≤ k → false ≡ rising ok
        (entries_at img at n) lo hi
    rising_high k ek h g f = sym (rising_turn h ∙ simp (← ek, le-leb _ _ g, le-ltb _ _ f, and_true, and_false))

    pub rising_refused : (k a : ℕ) (b : Bool) → k ≡ u32_at img (at + 8 * i) → a ≡ u32_at img (at + 8 * i + 4) → b ≡ ok a
        → not b ≡ true
        → i < n → low ≤ k → k < hi → false ≡ rising ok (entries_at img at n) lo hi
    rising_refused k a b ek ea eb q h g f = sym (rising_turn h
        ∙ simp (← ek, ← ea, ← eb, not-true b q, le-leb _ _ g, lt-ltb _ _ f, and_true, and_false))

    pub rising_go : (k a : ℕ) (b : Bool) → k ≡ u32_at img (at + 8 * i) → a ≡ u32_at img (at + 8 * i + 4) → b ≡ ok a
        → not b ≡ false
        → i < n → low ≤ k → k < hi
        → rising ok (entries_at img at n) lo hi ≡ rising ok (entries_at img (at + 8 * (i + 1)) (n - (i + 1))) (k + 1) hi
    rising_go k a b ek ea eb q h g f = rising_turn h
        ∙ simp (← ek, ← ea, ← eb, not-false b q, le-leb _ _ g, lt-ltb _ _ f, and_true)

    pub rising_end : n ≤ i → true ≡ rising ok (entries_at img at n) lo hi
    unfolding rising
    rising_end h = sym (inv ∙ rw (entries_past img at n i h))

-- a leaf
leaf_any : (er : ℕ → Bool) (t l : ℕ) → l ≡ 1 → (es : List Entry) (lo hi : ℕ)
    → rising any_page es lo hi ≡ rising (names er t l) es lo hi
unfolding rising
leaf_any er t l e [] lo hi = refl
leaf_any er t l e (x ∷ es) lo hi = rw (← (names_leaf er t l x.addr e), leaf_any er t l e es (x.key + 1) hi) refl

pub leaf_rises : (er : ℕ → Bool) (t l : ℕ) (es : List Entry) (lo hi : ℕ) (b : Bool) → l ≡ 1
    → b ≡ rising any_page es lo hi → b ≡ rising (names er t l) es lo hi
leaf_rises er t l es lo hi b e f = f ∙ leaf_any er t l e es lo hi

-- a node's own check
module _ (g : Geometry) (er : ℕ → Bool) (img : List ℕ) (t l p n : ℕ) (en : n ≡ node_count g img p l) where
  size : length (node_at g img p l) ≡ n
  size = node_length g img p l ∙ sym en

  module _ (lo hi : ℕ) where
    pub own_none : n < 1 → false ≡ own g er (node_at g img) t l p lo hi
    unfolding own
    own_none h = simp (size, lt-leb _ _ h, and_false)

    pub own_over : (s : ℕ) → s ≡ slots_of g l → 1 ≤ n → s < n → false ≡ own g er (node_at g img) t l p lo hi
    unfolding own
    own_over s es f h = simp (size, ← es, le-leb _ _ f, lt-leb _ _ h, and_true, and_false)

    pub own_on : (s at : ℕ) (b : Bool) → s ≡ slots_of g l → at ≡ node_place g p l → b ≡ rising (names er t l)
        (entries_at img at n) lo hi
        → 1 ≤ n → n ≤ s → b ≡ own g er (node_at g img) t l p lo hi
    unfolding own
    own_on s at b es ea eb f h =
        eb ∙ simp (size, ← es, le-leb _ _ f, le-leb _ _ h, and_true) (rw (node_read g img p l at n ea en))

-- a root's own check
unfoldable pub root_least : ℕ → ℕ
root_least l = pick (eqb l 1) 0 2

pub least_leaf : (l : ℕ) → l ≡ 1 → 0 ≡ root_least l
unfolding root_least
least_leaf l e = simp (eq-eqb _ _ e)

pub least_above : (l : ℕ) → (l ≡ 1 → ⊥) → 2 ≡ root_least l
unfolding root_least
least_above l e = simp (ne_eqb _ _ e)

module _ (g : Geometry) (er : ℕ → Bool) (img : List ℕ) (t l p n m : ℕ) (en : n ≡ node_count g img p l)
    (em : m ≡ root_least l) where
  root_size : length (node_at g img p l) ≡ n
  root_size = node_length g img p l ∙ sym en

  pub root_none : n < m → false ≡ own_root g er (node_at g img) t l p
  unfolding own_root root_least
  root_none h = simp (root_size, ← em, lt-leb _ _ h, and_false)

  pub root_over : (s : ℕ) → s ≡ root_most g l → m ≤ n → s < n → false ≡ own_root g er (node_at g img) t l p
  unfolding own_root root_least
  root_over s es f h = simp (root_size, ← em, ← es, le-leb _ _ f, lt-leb _ _ h, and_true, and_false)

  pub root_on : (s at : ℕ) (b : Bool) → s ≡ root_most g l → at ≡ node_place g p l → b ≡ rising (names er t l)
      (entries_at img at n) 0 four_bytes
      → m ≤ n → n ≤ s → b ≡ own_root g er (node_at g img) t l p
  unfolding own_root root_least
  root_on s at b es ea eb f h =
      eb ∙ simp (root_size, ← em, ← es, le-leb _ _ f, le-leb _ _ h, and_true) (rw (node_read g img p l at n ea en))

-- a node and all below it
judge_step : (g : Geometry) (er : ℕ → Bool) (r : Nodes) (t l p lo hi : ℕ) → (l ≡ 0 → ⊥)
    → judge_node g er r t l p lo hi ≡ unless (own g er r t l p lo hi) p
    (judge_entries (judge_node g er r t (l - 1)) (r p l) hi)
unfolding judge_node
judge_step g er r t zero p lo hi h = absurd (h refl)
judge_step g er r t (suc l) p lo hi h = rw sub-one

-- what a leaf's entries name is the caller's
leaves : (g : Geometry) (er : ℕ → Bool) (r : Nodes) (t : ℕ) (es : List Entry) (hi : ℕ)
    → judge_entries (judge_node g er r t 0) es hi ≡ Good
unfolding judge_entries judge_node first
leaves g er r t [] hi = refl
leaves g er r t (e ∷ es) hi = leaves g er r t es hi

module _ (g : Geometry) (er : ℕ → Bool) (img : List ℕ) (t l p lo hi : ℕ) where
  pub judge_bottom : l ≡ 0 → Good ≡ judge_node g er (node_at g img) t l p lo hi
  unfolding judge_node
  judge_bottom e = rw e

  module _ (b : Bool) (eb : b ≡ own g er (node_at g img) t l p lo hi) where
    pub judge_own : not b ≡ true → (l ≡ 0 → ⊥) → Bad p ≡ judge_node g er (node_at g img) t l p lo hi
    judge_own q h = sym (judge_step g er (node_at g img) t l p lo hi h ∙ rw (← eb, not-true b q) (unless_false p _))

    pub judge_on : (at n : ℕ) (v : Finding) → not b ≡ false → at ≡ node_place g p l → n ≡ node_count g img p l
        → v ≡ judge_entries (judge_node g er (node_at g img) t (l - 1)) (entries_at img at n) hi → (l ≡ 0 → ⊥)
        → v ≡ judge_node g er (node_at g img) t l p lo hi
    judge_on at n v q ea en ev h =
        ev ∙ rw (node_read g img p l at n ea en) (sym (judge_step g er (node_at g img) t l p lo hi h
        ∙ rw (← eb, not-false b q) (unless_true p _)))

    pub judge_leaf : not b ≡ false → l ≡ 1 → Good ≡ judge_node g er (node_at g img) t l p lo hi
    judge_leaf q h =
        let f : l - 1 ≡ 0 = omega arith in
        sym (judge_step g er (node_at g img) t l p lo hi (omega arith) ∙ rw (← eb, not-false b q, f)
        (unless_true p _ ∙ leaves g er (node_at g img) t (node_at g img p l) hi))

-- a leaf
module _ (g : Geometry) (er : ℕ → Bool) (img : List ℕ) (t p lo hi : ℕ) (b : Bool) (eb : b ≡ own g er
    (node_at g img) t 1 p lo hi) where
  pub leaf_bad : not b ≡ true → Bad p ≡ judge_node g er (node_at g img) t 1 p lo hi
  leaf_bad q = judge_own g er img t 1 p lo hi b eb q (omega arith)

  pub leaf_good : not b ≡ false → Good ≡ judge_node g er (node_at g img) t 1 p lo hi
  leaf_good q = judge_leaf g er img t 1 p lo hi b eb q refl

-- the nodes below a list of entries, as a loop
module _ (sub : ℕ → ℕ → ℕ → Finding) (img : List ℕ) (at n hi : ℕ) where
  pub judge_start : judge_entries sub (entries_at img at n) hi ≡ judged_from sub img at n hi 0
  unfolding judged_from
  judge_start = rw (← (entries_start img at n)) refl

  module _ (i : ℕ) (w : Finding) (inv : w ≡ judged_from sub img at n hi i) where
    pub judge_end : n ≤ i → Good ≡ w
    unfolding judge_entries judged_from
    judge_end h = sym (inv ∙ rw (entries_past img at n i h) refl)

    module _ (h : i < n) (v : Finding) (ev : v ≡ judged_at sub img at n hi i) where
      judge_turn : w ≡ first v (judged_from sub img at n hi (i + 1))
      unfolding judge_entries judged_from judged_at
      judge_turn = inv ∙ rw (entries_turn img at n i h, key_is img (at + 8 * i), addr_is img (at + 8 * i), ev) refl

      pub judge_bad : (q : ℕ) → v ≡ Bad q → Bad q ≡ w
      unfolding first
      judge_bad q e = sym (judge_turn ∙ rw e refl)

      pub judge_good : v ≡ Good → w ≡ judged_from sub img at n hi (i + 1)
      unfolding first
      judge_good e = judge_turn ∙ rw e refl

pub judge_at : (sub : ℕ → ℕ → ℕ → Finding) (img : List ℕ) (at n hi i k nx a : ℕ) (v : Finding)
    → k ≡ u32_at img (at + 8 * i) → a ≡ u32_at img (at + 8 * i + 4)
    → nx ≡ following (entries_at img (at + 8 * (i + 1)) (n - (i + 1))) hi → v ≡ sub a k nx
    → v ≡ judged_at sub img at n hi i
unfolding judged_at
judge_at sub img at n hi i k nx a v ek ea en ev = ev ∙ rw (ek, ea, en) refl

-- leaves are the nodes below level 2
pub judge_leaves : (g : Geometry) (er : ℕ → Bool) (r : Nodes) (t l : ℕ) (es : List Entry) (hi : ℕ) (v : Finding)
    → v ≡ judge_entries (judge_node g er r t 1) es hi → l ≡ 1
    → v ≡ judge_entries (judge_node g er r t l) es hi
judge_leaves g er r t l es hi v e h = e ∙ rw h refl

-- R5
module _ (g : Geometry) (img : List ℕ) (t l p : ℕ) (b : Bool) (eb : b ≡ own_root g (erased g img) (node_at g img) t
    (l + 1) p) where
  pub rule_root : not b ≡ true → Bad p ≡ r5 g t (chip_with g img l p)
  unfolding r5
  rule_root q = sym (rw (← (add-one l), ← eb, not-true b q) (unless_false p _))

  pub rule_below : (at n : ℕ) (v : Finding) → not b ≡ false → at ≡ node_place g p (l + 1) → n ≡ node_count g img p (l + 1)
      → v ≡ judge_entries (judge_node g (erased g img) (node_at g img) t l) (entries_at img at n) four_bytes
      → v ≡ r5 g t (chip_with g img l p)
  unfolding r5
  rule_below at n v q ea en ev =
      ev ∙ rw (node_read g img p (l + 1) at n ea en) (sym (rw (← (add-one l), ← eb, not-false b q) (unless_true p _)))

pub ruleset judge_laws = (next_none, next_some, names_leaf, names_off, names_by, blank_some, blank_inside, blank_fits, blank_read, blank_is, rising_start, rising_low, rising_high, rising_refused, rising_go, rising_end, leaf_rises, own_none, own_over, own_on, least_leaf, least_above, root_none, root_over, root_on, judge_bottom, judge_own, judge_on, judge_leaf, leaf_bad, leaf_good, judge_start, judge_end, judge_bad, judge_good, judge_at, judge_leaves, rule_root, rule_below)
