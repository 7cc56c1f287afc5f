-- The keys of a leaf, in the form in which the code has the premises. Assumes nothing.
use Rattle.std.specs.Prelude.{ℕ, zero, suc, ◌+◌, ◌-◌, ◌*◌, ◌<◌, ◌≤◌, Bool, ◌≡◌, List, [], ◌∷◌, eqb, leb, ltb}
use Rattle.std.proofs.Math.Bool.{true, false}
use Rattle.std.proofs.Math.Path.{refl, sym}
use Rattle.std.proofs.Common.{ap, ◌∙◌, ne_eqb, lt-ltb, le-ltb, le-leb, leb-true, ltb-true}
use native.Mathlib.Omega.{arith}
use Rattle.std.proofs.lemmas.Bool.{lt-leb}
use Rattle.geometry.specs.declared.Entry.{Entry}
use Rattle.geometry.specs.Tests.{◌&◌, and_true, and_false, and_none, and_left, and_right}
use Rattle.model.specs.Bytes.{u32_at, entries_at}
use Rattle.model.specs.Rules.{rising}
use Rattle.chip_read.specs.Chip.{entry_at}
use Rattle.chip_read.specs.Node.{entries_start, entries_turn, entries_past, entries_none, entries_step, key_is}
use Rattle.sound_leaves.specs.Leaves.{any_page, climbs, after}

-- key by key
module _ (img : List ℕ) (at n lo hi : ℕ) where
  pub each_start : rising any_page (entries_at img at n) lo hi ≡ rising any_page (entries_at img (at + 8 * 0) (n - 0)) lo hi
  each_start = rw (← (entries_start img at n)) refl

  module _ (i low : ℕ) (inv : rising any_page (entries_at img at n) lo hi ≡ rising any_page
      (entries_at img (at + 8 * i) (n - i)) low hi) where
    module _ (k : ℕ) (ek : k ≡ u32_at img (at + 8 * i)) (h : i < n) where
      turn : rising any_page (entries_at img at n) lo hi ≡ (leb low k & ltb k hi & true & rising any_page
          (entries_at img (at + 8 * (i + 1)) (n - (i + 1))) (k + 1) hi)
      unfolding rising
      turn = inv ∙ rw (entries_turn img at n i h, key_is img (at + 8 * i), ← ek) refl

      pub each_low : k < low → false ≡ rising any_page (entries_at img at n) lo hi
      each_low q = sym (turn ∙ simp (lt-leb low k q, and_false))

      pub each_high : low ≤ k → hi ≤ k → false ≡ rising any_page (entries_at img at n) lo hi
      each_high p q = sym (turn ∙ simp (le-leb low k p, le-ltb k hi q, and_true, and_false))

      pub each_go : low ≤ k → k < hi → rising any_page (entries_at img at n) lo hi ≡ rising any_page
          (entries_at img (at + 8 * (i + 1)) (n - (i + 1))) (k + 1) hi
      each_go p q = turn ∙ simp (le-leb low k p, lt-ltb k hi q, and_true)

    pub each_end : n ≤ i → true ≡ rising any_page (entries_at img at n) lo hi
    unfolding rising
    each_end h = sym (inv ∙ rw (entries_past img at n i h) refl)

-- one key after another
pub fall_not : (b k : ℕ) → b < k → eqb 0 0 ≡ leb (b + 1) k
fall_not b k h = sym (le-leb (b + 1) k (omega arith))

pub fall_is : (b k : ℕ) → k ≤ b → eqb 1 0 ≡ leb (b + 1) k
fall_is b k h = sym (lt-leb (b + 1) k (omega arith))

-- the count
none_more : (c d : ℕ) → eqb (c + d) 0 ≡ (eqb c 0 & eqb d 0)
none_more zero d = (let e : 0 + d ≡ d = omega arith in rw e (sym (and_true (eqb d 0))))
none_more (suc c) d = ne_eqb (suc c + d) 0 (omega arith)
    ∙ sym (rw (ne_eqb (suc c) 0 (omega arith)) (and_false (eqb d 0)))

and_part : (a b c : Bool) → (a & (b & c)) ≡ (a & b & c)
and_part true b c = and_true (b & c) ∙ rw (and_true b) refl
and_part false b c = and_false (b & c) ∙ sym (rw (and_false b) (and_false c))

module _ (img : List ℕ) (at n : ℕ) where
  after_turn : (i b k : ℕ) → k ≡ u32_at img (at + 8 * i) → i < n → after img at n i b ≡ (leb (b + 1) k & after img at n
      (i + 1) k)
  unfolding after climbs
  after_turn i b k ek h = rw (entries_turn img at n i h, key_is img (at + 8 * i), ← ek) refl

  pub falls_start : (b : ℕ) → b ≡ u32_at img at → after img at n 1 (u32_at img at) ≡ (eqb 0 0 & after img at n 1 b)
  falls_start b e = sym (and_true (after img at n 1 b) ∙ rw e refl)

  pub falls_go : (t : Bool) (i b c d k : ℕ) → t ≡ (eqb c 0 & after img at n i b) → k ≡ u32_at img (at + 8 * i)
      → eqb d 0 ≡ leb (b + 1) k → i < n
      → t ≡ (eqb (c + d) 0 & after img at n (i + 1) k)
  falls_go t i b c d k e ek ed h =
      e ∙ rw (after_turn i b k ek h, ← ed, none_more c d) (and_part (eqb c 0) (eqb d 0) (after img at n (i + 1) k))

  pub falls_end : (t : Bool) (i b c : ℕ) → t ≡ (eqb c 0 & after img at n i b) → n ≤ i → eqb c 0 ≡ t
  unfolding after climbs
  falls_end t i b c e h = sym (e ∙ rw (entries_past img at n i h) (all (eqb c 0)))
    where
      all : (a : Bool) → (a & true) ≡ a
      all true = and_true true
      all false = and_false true

-- the last key, k if there are no entries
abbrev last_key : List Entry → ℕ → ℕ
last_key [] k = k
last_key (e ∷ es) k = last_key es e.key

climbs_last : (es : List Entry) (k : ℕ) → climbs es k ≡ true → k ≤ last_key es k
unfolding climbs
climbs_last [] k h = omega arith
climbs_last (e ∷ es) k h =
    let a : k + 1 ≤ e.key = leb-true (k + 1) e.key (and_left _ _ h) in
    let b : e.key ≤ last_key es e.key = climbs_last es e.key (and_right _ _ h) in
    omega arith

-- below hi are all keys where the last one is
rising_climbs : (e : Entry) (es : List Entry) (lo hi : ℕ) → rising any_page (e ∷ es) lo hi ≡ (leb lo e.key & climbs es
    e.key & ltb (last_key es e.key) hi)
unfolding rising climbs
rising_climbs e [] lo hi = by (leb lo e.key) (ltb e.key hi)
  where
    by : (a b : Bool) → (a & b & true & true) ≡ (a & true & b)
    by true true = simp and_true
    by true false = simp (and_true, and_false)
    by false b = simp and_false
rising_climbs e (f ∷ es) lo hi =
    ap (λ (x : Bool). leb lo e.key & ltb e.key hi & true & x) (rising_climbs f es (e.key + 1) hi)
    ∙ by (leb lo e.key) (climbs (f ∷ es) e.key) refl (ltb (last_key es f.key) hi) refl
  where
    by : (a c : Bool) → climbs (f ∷ es) e.key ≡ c → (l : Bool) → ltb (last_key es f.key) hi ≡ l
        → (a & ltb e.key hi & true & (c & l)) ≡ (a & c & l)
    by false c ec l el = simp and_false
    by true false ec l el = simp (and_true, and_false, and_none)
    by true true ec false el = simp (and_true, and_none)
    by true true ec true el =
        let a : e.key ≤ last_key es f.key = climbs_last (f ∷ es) e.key ec in
        let b : last_key es f.key < hi = ltb-true (last_key es f.key) hi el in
        simp (lt-ltb e.key hi (omega arith), and_true)

last_is : (img : List ℕ) (n at : ℕ) → last_key (entries_at img (at + 8) n) (u32_at img at) ≡ u32_at img (at + 8 * n)
unfolding entries_at
last_is img zero at = ap (u32_at img) (let e : at ≡ at + 8 * 0 = omega arith in e)
last_is img (suc n) at = last_is img n (at + 8) ∙ ap (u32_at img) (let e : at + 8 + 8 * n ≡ at + 8 * suc n =
    omega arith in e)

-- a leaf inside the image
module _ (img : List ℕ) (at n lo hi : ℕ) where
  pub keys_none : n ≡ 0 → true ≡ rising any_page (entries_at img at n) lo hi
  unfolding rising
  keys_none e = sym (rw (entries_none img at n e) refl)

  module _ (some : n ≡ 0 → ⊥) (f l : ℕ) (ef : f ≡ u32_at img at) (el : l ≡ u32_at img (at + 8 * (n - 1))) where
    keys_are : rising any_page (entries_at img at n) lo hi ≡ (leb lo f & after img at n 1 (u32_at img at) & ltb l hi)
    unfolding after
    keys_are =
        let place : at + 8 ≡ at + 8 * 1 = omega arith in
        rw (entries_step img at n some) (rising_climbs (entry_at img at) (entries_at img (at + 8) (n - 1)) lo hi
        ∙ rw (key_is img at, last_is img (n - 1) at, ← ef, ← el, ← place) refl)

    pub keys_high : (m : ℕ) → m ≡ l → hi ≤ m → false ≡ rising any_page (entries_at img at n) lo hi
    keys_high m em h = sym (keys_are ∙ rw (le-ltb l hi (rw (← em) h)) (and_none _))

    pub keys_on : (m o : ℕ) (c : ℕ) → m ≡ f → lo ≤ m → o ≡ l → o < hi → eqb c 0 ≡ after img at n 1 (u32_at img at)
        → eqb c 0 ≡ rising any_page (entries_at img at n) lo hi
    keys_on m o c em h eo k e = sym (keys_are ∙ rw (le-leb lo f (rw (← em) h), lt-ltb l hi (rw (← eo) k), ← e) (shut (eqb c 0)))
      where
        shut : (a : Bool) → (true & a & true) ≡ a
        shut true = simp and_true
        shut false = simp (and_true, and_false)

  pub keys_low : (f m : ℕ) → (n ≡ 0 → ⊥) → f ≡ u32_at img at → m ≡ f → m < lo → false ≡ rising any_page
      (entries_at img at n) lo hi
  keys_low f m some ef em h =
      sym (keys_are some f (u32_at img (at + 8 * (n - 1))) ef refl ∙ rw (lt-leb lo f (rw (← em) h))
      (rw (and_false (after img at n 1 (u32_at img at))) (and_false _)))

pub ruleset leaf_laws = (each_start, each_low, each_high, each_go, each_end, fall_not, fall_is, falls_start, falls_go, falls_end, keys_none, keys_high, keys_on, keys_low)
