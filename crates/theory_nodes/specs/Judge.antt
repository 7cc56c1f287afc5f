-- R5 and R6 as tests are R5 and R6 as statements, both ways. Assumes nothing.
use Rattle.std.specs.Prelude.{◌≡◌, Bool, eqb, leb}
use Rattle.std.proofs.Math.Path.{refl}
use Rattle.std.proofs.Common.{ap, sym, ◌∙◌, inl, inr, arith}
use mathlib.Core.List.{List, [], ◌∷◌}
use Rattle.std.proofs.Math.Bool.{true, false, not}
use Prim.Native.Nat.{ℕ, zero, suc, ◌+◌, ◌*◌, ◌<◌, ◌≤◌}
use Rattle.std.proofs.Math.ListN.{length}
use Rattle.std.proofs.Math.Dec.{ltb}
use borrow.Author.Tests.{not-true, not-false, lt-ltb, le-leb, eq-eqb, ne_eqb, ltb-true, ltb-false, leb-true, eqb-true, eqb-false}
use Rattle.geometry.specs.declared.Geometry.{Geometry}
use Rattle.geometry.specs.declared.Entry.{Entry}
use Rattle.geometry.specs.Findings.{Finding, Good, Bad}
use Rattle.geometry.specs.Tests.{pick, ◌&◌, and_true, and_false, and_left, and_right, and_both}
use Rattle.geometry.specs.Geometry.{slots_of, half, root_most}
use Rattle.geometry.specs.Shape.{Core}
use Rattle.geometry.specs.Bounds.{four_bytes}
use Rattle.model.specs.Image.{Nodes, Chip}
use Rattle.model.specs.Tree.{Place, places_of, low_level, following}
use Rattle.model.specs.Rules.{unless, first, names, rising, own, own_root, judge_entries, judge_node, r5, names_page, loose, lowest_page, r6}
use Rattle.theory_counts.specs.Lowest.{bad_good, unless_true, good_unless}
use Rattle.theory_counts.specs.Cases.{true_false, and_pick}
use Rattle.theory_lists.specs.All.{All, Some, Mem, all_map, all_both, all_get, all_mem}
use Rattle.theory_nodes.specs.Entries.{Rises, next_le, rises_map}
use Rattle.theory_nodes.specs.Nodes.{Ok, ok_fit, Rooted, fit_of}
use Rattle.theory_nodes.specs.Tied.{TiedTo, Tied}
use Rattle.theory_nodes.specs.Live.{mem_live, low_is}

-- ---- findings
pub unless_both : (t : Bool) (p : ℕ) (v : Finding) → t ≡ true → v ≡ Good → unless t p v ≡ Good
unless_both t p v h i = rw h (unless_true p v ∙ i)

first_left : (v w : Finding) → first v w ≡ Good → v ≡ Good
unfolding first
first_left Good w h = refl
first_left (Bad p) w h = h

first_right : (v w : Finding) → first v w ≡ Good → w ≡ Good
unfolding first
first_right Good w h = h
first_right (Bad p) w h = absurd (bad_good p h)

-- ---- what an entry may name
names_fit : (er : ℕ → Bool) (t l a : ℕ) → names er t (suc l) a ≡ true → fit_of t er l a
unfolding names
names_fit er t zero a h = tt
names_fit er t (suc l) a h =
    let i = rw (ne_eqb (suc (suc l)) 1 (λ z. omega (arith, z))) at h in
    (ltb-true a t (and_left _ _ i), not-true (er a) (and_right _ _ i))

fit_names : (er : ℕ → Bool) (t l a : ℕ) → fit_of t er l a → names er t (suc l) a ≡ true
unfolding names
fit_names er t zero a h = rw (eq-eqb 1 1 refl) refl
fit_names er t (suc l) a h = rw (ne_eqb (suc (suc l)) 1 (λ z. omega (arith, z))) (and_both _ _ (lt-ltb a t h.0) (ap not h.1))

-- ---- keys that rise
module _ (ok : ℕ → Bool) where
  abbrev May : ℕ → Entry → Type 0
  May y x = ok x.addr ≡ true

  rising_up : (es : List Entry) (lo hi : ℕ) → rising ok es lo hi ≡ true → Rises May hi es ×
      (1 ≤ length es → lo ≤ following es hi)
  unfolding rising
  rising_up [] lo hi h = (tt, λ z. absurd (omega arith))
  rising_up (e ∷ es) lo hi h =
      let a = and_left _ _ h in
      let b = and_left _ _ a in
      let i = rising_up es (e.key + 1) hi (and_right _ _ h) in
      ((below es (ltb-true e.key hi (and_right _ _ b)) i.1, and_right _ _ a, i.0), λ _. leb-true lo e.key (and_left _ _ b))
    where
      below : (es : List Entry) → e.key < hi → (1 ≤ length es → e.key + 1 ≤ following es hi) → e.key < following es hi
      below [] q f = q
      below (x ∷ es) q f = omega (arith, f (omega arith))

  up_rising : (es : List Entry) (lo hi : ℕ) → Rises May hi es → (1 ≤ length es → lo ≤ following es hi)
      → rising ok es lo hi ≡ true
  unfolding rising
  up_rising [] lo hi h f = refl
  up_rising (e ∷ es) lo hi h f =
      and_both _ _ (and_both _ _ (and_both _ _ (le-leb lo e.key (f (omega arith)))
      (lt-ltb e.key hi (omega (arith, h.0, next_le May hi es h.2)))) h.1)
      (up_rising es (e.key + 1) hi h.2 (λ _. omega (arith, h.0)))

entries_good : (ok : ℕ → Bool) (sub : ℕ → ℕ → ℕ → Finding) (es : List Entry) (hi : ℕ)
    → Rises (λ y x. ok x.addr ≡ true) hi es
    → judge_entries sub es hi ≡ Good
    → Rises (λ y x. (ok x.addr ≡ true) × (sub x.addr x.key y ≡ Good)) hi es
unfolding judge_entries
entries_good ok sub [] hi h j = tt
entries_good ok sub (e ∷ es) hi h j = (h.0, (h.1, first_left _ _ j), entries_good ok sub es hi h.2 (first_right _ _ j))

good_entries : (sub : ℕ → ℕ → ℕ → Finding) (es : List Entry) (hi : ℕ)
    → Rises (λ y x. sub x.addr x.key y ≡ Good) hi es
    → judge_entries sub es hi ≡ Good
unfolding judge_entries first
good_entries sub [] hi h = refl
good_entries sub (e ∷ es) hi h = rw h.1 (good_entries sub es hi h.2)

module _ (g : Geometry) (core : Core g) (er : ℕ → Bool) (r : Nodes) (t : ℕ) where
  abbrev room : ℕ → ℕ
  room l = 2 * half g l

  abbrev Fine : ℕ → ℕ → Entry → Type 0
  Fine = Ok (fit_of t er) room r

  abbrev judge : ℕ → ℕ → ℕ → ℕ → Finding
  judge = judge_node g er r t

  -- ---- R5 below the root
  entry_ok : (l y : ℕ) (x : Entry) → fit_of t er l x.addr → judge l x.addr x.key y ≡ Good → Fine l y x
  unfolding judge_node own Ok
  entry_ok zero y x f h = tt
  entry_ok (suc l) y x f h =
      let u = good_unless _ _ _ h in
      let es = r x.addr (suc l) in
      let a = and_left _ _ u.0 in
      let one = leb-true 1 (length es) (and_left _ _ a) in
      let up = rising_up (names er t (suc l)) es x.key y (and_right _ _ u.0) in
      let most = leb-true (length es) (slots_of g (suc l)) (and_right _ _ a) in (
        f,
        one,
        omega (arith, most, core.even (suc l)),
        up.1 one,
        rises_map (λ y x. (names er t (suc l) x.addr ≡ true) × (judge l x.addr x.key y ≡ Good)) (Fine l) y es
            (λ y x _ _ i. entry_ok l y x (names_fit er t l x.addr i.0) i.1)
            (entries_good (names er t (suc l)) (judge l) es y up.0 u.1),
      )

  may_all : (l hi : ℕ) (es : List Entry) → Rises (Fine l) hi es → Rises (λ y x. names er t (suc l) x.addr ≡ true) hi
      es
  may_all l hi es h = rises_map (Fine l) (λ y x. names er t (suc l) x.addr ≡ true) hi es
      (λ y x _ _ i. fit_names er t l x.addr (ok_fit (fit_of t er) room r l y x i)) h

  ok_entry : (l y : ℕ) (x : Entry) → Fine l y x → judge l x.addr x.key y ≡ Good
  unfolding judge_node own Ok
  ok_entry zero y x h = refl
  ok_entry (suc l) y x h =
      let es = r x.addr (suc l) in
      unless_both _ _ _
      (and_both _ _ (and_both _ _ (le-leb 1 (length es) h.1) (le-leb (length es) (slots_of g (suc l)) (omega (arith, h.2, core.even (suc l)))))
      (up_rising (names er t (suc l)) es x.key y (may_all l y es h.4) (λ _. h.3)))
      (good_entries (judge l) es y (rises_map (Fine l) (λ y x. judge l x.addr x.key y ≡ Good) y es (λ y x _ _ i. ok_entry l y x i) h.4))

-- ---- R5
module _ (g : Geometry) (core : Core g) (t : ℕ) (c : Chip) where
  abbrev Root : Type 0
  Root = Rooted (fit_of t c.er) (λ l. 2 * half g l) (root_most g) four_bytes c.nodes c.level c.root

  least_of : (l m : ℕ) → leb (pick (eqb (suc l) 1) 0 2) m ≡ true → 1 ≤ l → 2 ≤ m
  least_of l m h i = leb-true 2 m (rw (ne_eqb (suc l) 1 (λ z. omega (arith, z, i))) at h)

  of_least : (l m : ℕ) → (1 ≤ l → 2 ≤ m) → leb (pick (eqb (suc l) 1) 0 2) m ≡ true
  of_least l m f = go (eqb (suc l) 1) refl
    where
      go : (b : Bool) → eqb (suc l) 1 ≡ b → leb (pick b 0 2) m ≡ true
      go true e = le-leb 0 m (omega arith)
      go false e = let z = eqb-false (suc l) 1 e in le-leb 2 m (f (omega (arith, z)))

  -- the root's own count, keys and page numbers, and R5 below it
  r5_own : r5 g t c ≡ Good → (own_root g c.er c.nodes t (suc c.level) c.root ≡ true) ×
      (judge_entries (judge_node g c.er c.nodes t c.level) (c.nodes c.root (suc c.level)) four_bytes ≡ Good)
  unfolding r5
  r5_own h = good_unless _ _ _ h

  pub r5_most : r5 g t c ≡ Good → length (c.nodes c.root (suc c.level)) ≤ root_most g (suc c.level)
  unfolding own_root
  r5_most h = leb-true _ (root_most g (suc c.level)) (and_right _ _ (and_left _ _ (r5_own h).0))

  pub r5_rises : r5 g t c ≡ Good → Rises (Ok (fit_of t c.er) (λ l. 2 * half g l) c.nodes c.level) four_bytes
      (c.nodes c.root (suc c.level))
  unfolding own_root
  r5_rises h =
      let u = r5_own h in
      let l = c.level in
      let es = c.nodes c.root (suc l) in
      let up = rising_up (names c.er t (suc l)) es 0 four_bytes (and_right _ _ u.0) in
      rises_map (λ y x. (names c.er t (suc l) x.addr ≡ true) × (judge_node g c.er c.nodes t l x.addr x.key y ≡ Good))
      (Ok (fit_of t c.er) (λ l. 2 * half g l) c.nodes l) four_bytes es
      (λ y x _ _ i. entry_ok g core c.er c.nodes t l y x (names_fit c.er t l x.addr i.0) i.1)
      (entries_good (names c.er t (suc l)) (judge_node g c.er c.nodes t l) es four_bytes up.0 u.1)

  pub r5_rooted : fit_of t c.er (suc c.level) c.root → r5 g t c ≡ Good → Root
  unfolding own_root
  r5_rooted f h = record {
    fits = f;
    least = least_of c.level (length (c.nodes c.root (suc c.level))) (and_left _ _ (and_left _ _ (r5_own h).0));
    atmost = r5_most h;
    rises = r5_rises h;
  }

  pub rooted_r5 : Root → r5 g t c ≡ Good
  unfolding r5 own_root
  rooted_r5 h =
      let l = c.level in
      let es = c.nodes c.root (suc l) in
      unless_both _ _ _
      (and_both _ _ (and_both _ _ (of_least l (length es) h.least) (le-leb (length es) (root_most g (suc l)) h.atmost))
      (up_rising (names c.er t (suc l)) es 0 four_bytes (may_all g core c.er c.nodes t l four_bytes es h.rises) (λ _. omega arith)))
      (good_entries (judge_node g c.er c.nodes t l) es four_bytes
      (rises_map (Ok (fit_of t c.er) (λ l. 2 * half g l) c.nodes l) (λ y x. judge_node g c.er c.nodes t l x.addr x.key y ≡ Good)
      four_bytes es (λ y x _ _ i. ok_entry g core c.er c.nodes t l y x i) h.rises))

-- ---- R6
pub names_some : (p : ℕ) (es : List Entry) → names_page p es ≡ true → Some (λ e. e.addr ≡ p) es
unfolding names_page
names_some p [] h = true_false false h refl
names_some p (e ∷ es) h = go (eqb e.addr p) refl h (names_some p es)
  where
    go : (b : Bool) → eqb e.addr p ≡ b → pick b true (names_page p es) ≡ true
        → (names_page p es ≡ true → Some (λ e. e.addr ≡ p) es)
        → Some (λ e. e.addr ≡ p) (e ∷ es)
    go true z i f = inl (eqb-true e.addr p z)
    go false z i f = inr (f i)

pub some_names : (p : ℕ) (es : List Entry) → Some (λ e. e.addr ≡ p) es → names_page p es ≡ true
unfolding names_page
some_names p [] h = absurd h
some_names p (e ∷ es) (inl h) = rw (eq-eqb e.addr p h) refl
some_names p (e ∷ es) (inr h) = go (eqb e.addr p) (some_names p es h)
  where
    go : (b : Bool) → names_page p es ≡ true → pick b true (names_page p es) ≡ true
    go true i = refl
    go false i = i

lowest_le : (f : Place → Bool) (xs : List Place) (t : ℕ) → lowest_page f xs t ≤ t
unfolding lowest_page
lowest_le f [] t = omega arith
lowest_le f (x ∷ xs) t = go (f x & ltb x.page t) refl (lowest_le f xs)
  where
    go : (b : Bool) → (f x & ltb x.page t) ≡ b → ((u : ℕ) → lowest_page f xs u ≤ u) → lowest_page f xs
        (pick b x.page t) ≤ t
    go true e i = omega (arith, i x.page, ltb-true x.page t (and_right _ _ e))
    go false e i = i t

none_lower : (f : Place → Bool) (xs : List Place) (t : ℕ) → t ≤ lowest_page f xs t
    → All (λ x. x.page < t → f x ≡ false) xs
unfolding lowest_page
none_lower f [] t h = tt
none_lower f (x ∷ xs) t h = go (f x) (ltb x.page t) refl refl (and_pick (f x) (ltb x.page t)) h (none_lower f xs)
  where
    go : (a b : Bool) → f x ≡ a → ltb x.page t ≡ b → (f x & ltb x.page t) ≡ pick (f x) (ltb x.page t) false
        → t ≤ lowest_page f xs (pick (f x & ltb x.page t) x.page t)
        → ((u : ℕ) → u ≤ lowest_page f xs u → All (λ x. x.page < u → f x ≡ false) xs)
        → All (λ x. x.page < t → f x ≡ false) (x ∷ xs)
    go false b d e w i k = ((λ _. d), k t (rw (w, d) at i))
    go true true d e w i k = let z : t ≤ lowest_page f xs x.page = rw (w, d, e) at i in
        absurd (omega (arith, z, lowest_le f xs x.page, ltb-true x.page t e))
    go true false d e w i k = ((λ q. absurd (omega (arith, q, ltb-false x.page t e))), k t (rw (w, d, e) at i))

lower_none : (f : Place → Bool) (xs : List Place) (t : ℕ) → All (λ x. f x ≡ false) xs → lowest_page f xs t ≡ t
unfolding lowest_page
lower_none f [] t h = refl
lower_none f (x ∷ xs) t h = rw (h.0, and_false (ltb x.page t)) (lower_none f xs t h.1)

module _ (t : ℕ) (c : Chip) where
  abbrev spots : List Place
  spots = places_of c

  strict : (x y : Place) → Mem y spots → x.page ≡ y.page → y.level < x.level → loose c.nodes spots x ≡ false
      → Some (λ e. e.addr ≡ x.page) (c.nodes x.page x.level)
  unfolding loose
  strict x y m e b h =
      let w = low_is spots x.page (rw e (mem_live y spots m)) in
      let v = all_get (λ z. z.page ≡ x.page → low_level spots x.page ≤ z.level) y spots w.1 m (sym e) in
      names_some x.page (c.nodes x.page x.level) (not-false (names_page x.page (c.nodes x.page x.level))
      (rw (lt-ltb (low_level spots x.page) x.level (omega (arith, v, b)), and_true (not (names_page x.page (c.nodes x.page x.level))))
      at h))

  pub r6_tied : All (λ x. x.page < t) spots → r6 t c ≡ Good → Tied c.nodes spots
  unfolding r6
  r6_tied in-t h =
      let u = good_unless _ _ _ h in
      let a = none_lower (loose c.nodes spots) spots t (leb-true t (lowest_page (loose c.nodes spots) spots t) u.0) in
      all_map (λ x. (x.page < t → loose c.nodes spots x ≡ false) × (x.page < t)) (λ x. All (TiedTo c.nodes x) spots) spots
      (λ x i. all_map (λ y. Mem y spots) (TiedTo c.nodes x) spots (λ y m e b. strict x y m e b (i.0 i.1)) (all_mem spots))
      (all_both (λ x. x.page < t → loose c.nodes spots x ≡ false) (λ x. x.page < t) spots a in-t)

  pub tied_r6 : Tied c.nodes spots → r6 t c ≡ Good
  unfolding r6 loose
  tied_r6 h =
      let z : lowest_page (loose c.nodes spots) spots t ≡ t = lower_none (loose c.nodes spots) spots t
      (all_map (λ x. All (TiedTo c.nodes x) spots × Mem x spots) (λ x. loose c.nodes spots x ≡ false) spots (λ x i. fast x i.0 i.1)
      (all_both (λ x. All (TiedTo c.nodes x) spots) (λ x. Mem x spots) spots h (all_mem spots))) in
      unless_both _ _ _ (rw z (le-leb t t (omega arith))) refl
    where
      fast : (x : Place) → All (TiedTo c.nodes x) spots → Mem x spots → loose c.nodes spots x ≡ false
      fast x i m = go (ltb (low_level spots x.page) x.level) refl
        where
          go : (u : Bool) → ltb (low_level spots x.page) x.level ≡ u
              → (u & not (names_page x.page (c.nodes x.page x.level))) ≡ false
          go false e = and_false (not (names_page x.page (c.nodes x.page x.level)))
          go true e =
              let w = low_is spots x.page (mem_live x spots m) in
              let s = all_get (TiedTo c.nodes x) (record { page = x.page; level = low_level spots x.page }) spots
              i w.0 refl (ltb-true (low_level spots x.page) x.level e) in
              rw (and_true (not (names_page x.page (c.nodes x.page x.level))), some_names x.page (c.nodes x.page x.level) s) refl
