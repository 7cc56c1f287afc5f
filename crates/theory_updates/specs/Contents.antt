-- What an insertion's pages hold can be built. Assumes nothing.
use Rattle.std.specs.Prelude.{◌≡◌, refl, Bool, true, false, length, take, drop, eqb, leb, ltb, is_none}
use Rattle.std.proofs.Common.{ap, length-take, length-drop, le-leb, eq-eqb, ne_eqb, leb-true}
use mathlib.Core.List.{List, [], ◌∷◌}
use Prim.Native.Nat.{ℕ, suc, ◌+◌, ◌*◌, ◌<◌, ◌≤◌, min}
use native.Mathlib.Omega.{arith}
use Rattle.std.proofs.lemmas.Bool.{lt-leb}
use Rattle.geometry.specs.declared.Geometry.{Geometry}
use Rattle.geometry.specs.declared.Entry.{Entry}
use Rattle.geometry.specs.Tests.{pick, bit}
use Rattle.geometry.specs.Geometry.{slots_of, half}
use Rattle.geometry.specs.Shape.{Shape}
use Rattle.geometry.specs.Bounds.{four_bytes}
use Rattle.model.specs.Image.{pages_of, Chip, the_root}
use Rattle.model.specs.Tree.{following, chosen, sought}
use Rattle.model.specs.Page.{only}
use Rattle.model.specs.Edit.{put, put_in, turn, path_half, side_half, two, named, path_part, splits}
use Rattle.model.specs.Update.{root_node, fills, needs, too_high, insert_list, crown_part, insert_part, crown_height, side_page}
use Rattle.theory_counts.specs.Tally.{bit_most}
use Rattle.theory_counts.specs.Cases.{by_le, by_test}
use Rattle.theory_lists.specs.All.{All}
use Rattle.theory_nodes.specs.Nodes.{fit_of}
use Rattle.theory_trees.specs.Lengths.{splice_all, splice_most, all_take, all_drop, path_all, path_most}
use Rattle.theory_chips.specs.Whole.{Whole}
use Rattle.theory_chips.specs.Pages.{side_most}
use Rattle.theory_chips.specs.Insertion.{side_list, main_list, needs_is, cuts_le, grow_all, stay_most, two_root}
use Rattle.theory_images.specs.Bytes.{Fits}
use Rattle.theory_images.specs.Built.{Parts}
use Rattle.theory_updates.specs.Table.{parts_most}

-- ---- numbers of 32 bits
pub next_fits : (es : List Entry) → All Fits es → following es 0 < four_bytes
next_fits [] h = omega arith
next_fits (e ∷ es) h = h.0.0

pub half_fits : (k m : ℕ) (c : List Entry) → All Fits c → All Fits (path_half k m c) × All Fits (side_half k m c)
half_fits k m c h = go (turn k m c)
  where
    go : (b : Bool) → All Fits (pick b (drop m c) (take m c)) × All Fits (pick b (take m c) (drop m c))
    go true = (all_drop Fits m c h, all_take Fits m c h)
    go false = (all_take Fits m c h, all_drop Fits m c h)

-- each half has m entries or what is left
pub half_most : (k m r : ℕ) (c : List Entry) → m ≤ r → length c ≤ m + r → (length (path_half k m c) ≤ r) ×
    (length (side_half k m c) ≤ r)
half_most k m r c a b = go (turn k m c)
  where
    lt : length (take m c) ≤ r
    lt = omega (arith, length-take m c)

    ld : length (drop m c) ≤ r
    ld = omega (arith, length-drop m c, b)

    go : (t : Bool) → (length (pick t (drop m c) (take m c)) ≤ r) × (length (pick t (take m c) (drop m c)) ≤ r)
    go true = (ld, lt)
    go false = (lt, ld)

module _ (k a : ℕ) (k-fits : k < four_bytes) (a-fits : a < four_bytes) where
  one_fits : (e : Entry) → Fits e → All Fits (put k a (e ∷ []))
  one_fits e h = go (ltb e.key k) (eqb e.key k)
    where
      go : (t u : Bool) → All Fits (pick t (e ∷ record { key = k; addr = a } ∷ [])
          (record { key = k; addr = a } ∷ pick u [] (e ∷ [])))
      go true u = (h, ((k-fits, a-fits), tt))
      go false true = ((k-fits, a-fits), tt)
      go false false = ((k-fits, a-fits), (h, tt))

  pub put_fits : (es : List Entry) → All Fits es → All Fits (put_in k a es)
  unfolding put_in
  put_fits [] h = ((k-fits, a-fits), tt)
  put_fits (e ∷ es) h = splice_all Fits (λ x. put k a (x ∷ [])) k (e ∷ es) one_fits h

  one_most : (e : Entry) → length (put k a (e ∷ [])) ≤ 2
  one_most e = go (ltb e.key k) (eqb e.key k)
    where
      go : (t u : Bool) → length (pick t (e ∷ record { key = k; addr = a } ∷ []) (record { key = k; addr = a } ∷ pick u
          [] (e ∷ []))) ≤ 2
      go true u = omega arith
      go false true = omega arith
      go false false = omega arith

  pub put_most : (es : List Entry) → length (put_in k a es) ≤ length es + 1
  unfolding put_in
  put_most [] = omega arith
  put_most (e ∷ es) = splice_most (λ x. put k a (x ∷ [])) k 1 (e ∷ es) one_most

  module _ (n : ℕ) (side half : ℕ → ℕ) (n-fits : n < four_bytes) (side-fits : (l : ℕ) → side l < four_bytes) where
    pub two_fits : (l m z : ℕ) (c : List Entry) → z < four_bytes → All Fits c → All Fits (two k n (side l) m z c)
    two_fits l m z c f h = go (turn k m c)
      where
        next_low : following (drop m c) 0 < four_bytes
        next_low = next_fits (drop m c) (all_drop Fits m c h)

        go : (t : Bool) → All Fits (record { key = z; addr = pick t (side l) n } ∷ record {
          key = following (drop m c) 0;
          addr = pick t n (side l);
        } ∷ [])
        go true = ((f, side-fits l), ((next_low, n-fits), tt))
        go false = ((f, n-fits), ((next_low, side-fits l), tt))

    named_fits : (l : ℕ) (e : Entry) (c : List Entry) → Fits e → All Fits c → All Fits (named k n side half l e c)
    named_fits l e c f h = go (leb (length c) (2 * half l))
      where
        low : min e.key k < four_bytes
        low = let z = f.0 in omega (arith, z)

        go : (t : Bool) → All Fits (pick t (record { key = min e.key k; addr = n } ∷ []) (two k n (side l) (half l)
            (min e.key k) c))
        go true = ((low, n-fits), tt)
        go false = two_fits l (half l) (min e.key k) c low h

    named_most : (l : ℕ) (e : Entry) (c : List Entry) → length (named k n side half l e c) ≤ 2
    named_most l e c = go (leb (length c) (2 * half l))
      where
        go : (t : Bool) → length (pick t (record { key = min e.key k; addr = n } ∷ []) (two k n (side l) (half l)
            (min e.key k) c)) ≤ 2
        go true = omega arith
        go false = omega arith

module _ (g : Geometry) (shape : Shape g) (n : ℕ) (few : pages_of g n + g.pages < four_bytes) (k a : ℕ)
    (k_low : k < four_bytes)
    (a-low : a < four_bytes)
    (c : Chip) (whole : Whole g n c) (all_fit : (q l : ℕ) → All Fits (c.nodes q l)) (high : suc c.level ≤ g.top)
    (not-high : too_high g c k ≡ false) where
  abbrev m : ℕ
  m = needs g c k

  abbrev side : ℕ → ℕ
  side = side_page g n c

  abbrev N : ℕ
  N = side m

  abbrev lists : ℕ → List Entry
  lists = insert_list g c k a N side

  abbrev height : ℕ
  height = crown_height g (suc c.level) (lists (suc c.level))

  abbrev grows : Bool
  grows = fills g (suc c.level) (length (lists (suc c.level)))

  side_low : (l : ℕ) → side l < four_bytes
  side_low l = let z = side_most g n c l in omega (arith, z, few)

  lists_fit : (j : ℕ) → All Fits (lists j)
  unfolding insert_list
  lists_fit j = path_all c.nodes k (put_in k a) (named k N side (half g)) Fits (put_fits k a k_low a-low)
      (named_fits k a k_low a-low N side (half g) (side_low m) side_low) all_fit c.level (the_root c) j

  lists_most : (j : ℕ) → 1 ≤ j → j ≤ c.level → length (lists j) ≤ 2 * half g j + 1
  unfolding insert_list
  lists_most j b d = path_most c.nodes k (put_in k a) (named k N side (half g)) 1 (put_most k a k_low a-low)
      (named_most k a k_low a-low N side (half g) (side_low m) side_low) (fit_of (pages_of g n) c.er) (λ l. 2 * half g l) c.level four_bytes
      (the_root c)
      (λ i. let z = whole.sound.rooted.least i in omega (arith, z)) whole.sound.rooted.rises j b d

  -- the halves of a level below the root
  cut_most : (j : ℕ) → 1 ≤ j → j ≤ c.level
      → (length (path_half k (half g j) (lists j)) ≤ 2 * half g j) ×
      (length (side_half k (half g j) (lists j)) ≤ 2 * half g j)
  cut_most j b d = let s = shape.some j b (omega (arith, d, high)) in let w = lists_most j b d in
      half_most k (half g j) (2 * half g j) (lists j)
      (omega arith) (omega (arith, w, s))

  crown_most : grows ≡ true
      → (length (path_half k (2 * half g (suc c.level)) (lists (suc c.level))) ≤ 2 * half g (suc c.level)) ×
      (length (side_half k (2 * half g (suc c.level)) (lists (suc c.level))) ≤ 2 * half g (suc c.level))
  crown_most e = let u = grow_all g shape n k a k_low c whole e in
      half_most k (2 * half g (suc c.level)) (2 * half g (suc c.level))
      (lists (suc c.level)) (omega arith) (omega (arith, u.1))

  path_part_most : (j : ℕ) → 1 ≤ j → j ≤ c.level → length (path_part k (half g) j (lists j)) ≤ slots_of g j
  path_part_most j b d = by_test (leb (length (lists j)) (2 * half g j))
      (λ x. let e = shape.even j in let y = leb-true (length (lists j)) (2 * half g j) x in rw x (omega (arith, e, y)))
      (λ x. let e = shape.even j in let y = (cut_most j b d).0 in rw x (omega (arith, e, y)))

  path_part_fits : (j : ℕ) → All Fits (path_part k (half g) j (lists j))
  path_part_fits j = go (leb (length (lists j)) (2 * half g j))
    where
      go : (t : Bool) → All Fits (pick t (lists j) (path_half k (half g j) (lists j)))
      go true = lists_fit j
      go false = (half_fits k (half g j) (lists j) (lists_fit j)).0

  -- a page with another half alone
  pub side_parts : (j : ℕ) → 1 ≤ j → j < m → Parts g (only j (side_list g n c k a j))
  unfolding side_list
  side_parts j b d = parts_most g shape j (only j X) b top
      (λ l _ _. all (eqb l j)) (λ l _ q. rw (ne_eqb l j (λ z. omega (arith, z, q))) (omega arith))
      (rw (eq-eqb j j refl) (omega (arith, len, shape.even j, shape.fits j))) (λ l q. rw (ne_eqb l j (λ z. omega (arith, z, q))) refl)
    where
      X : List Entry
      X = pick (leb j c.level) (side_half k (half g j) (lists j)) (side_half k (2 * half g j) (lists j))

      is : m ≡ suc (splits c.nodes k (half g) (is_none (sought c k)) c.level (chosen k (root_node c)) + bit grows)
      is = needs_is g shape n k a k_low c whole

      cut : splits c.nodes k (half g) (is_none (sought c k)) c.level (chosen k (root_node c)) ≤ c.level
      cut = cuts_le g shape n k a k_low c whole

      -- either below the root, or the root's, which grows
      cases : {C : Type 0} → (j ≤ c.level → C) → (j ≡ suc c.level → grows ≡ true → C) → C
      cases f h = by_le j c.level f (λ z. by_test grows (λ e. h (omega (arith, z, d, is, cut, bit_most grows)) e)
          (λ e. absurd (omega (arith, z, d, is, cut, ap bit e))))

      top : j ≤ g.top
      top = cases (λ z. omega (arith, z, high)) (λ z e. omega (arith, z, high))

      len : length X ≤ 2 * half g j
      len = cases (λ z. rw (le-leb j c.level z) (cut_most j b z).1) (λ z e. rw (lt-leb j c.level (omega (arith, z)), z) (crown_most e).1)

      fit : (t : Bool) → All Fits (pick t (side_half k (half g j) (lists j)) (side_half k (2 * half g j) (lists j)))
      fit true = (half_fits k (half g j) (lists j) (lists_fit j)).1
      fit false = (half_fits k (2 * half g j) (lists j) (lists_fit j)).1

      all : (t : Bool) → All Fits (pick t X [])
      all true = fit (leb j c.level)
      all false = tt

  -- N
  pub main_parts : Parts g (main_list g n c k a)
  unfolding insert_part crown_part crown_height
  main_parts = by_test grows grown stayed
    where
      l : ℕ
      l = c.level

      X : List Entry
      X = lists (suc c.level)

      first_low : following (lists (suc c.level)) 0 < four_bytes
      first_low = next_fits (lists (suc c.level)) (lists_fit (suc c.level))

      crown_fits : (j : ℕ) (t u v w : Bool)
          → All Fits
          (pick t (path_part k (half g) j (lists j)) (pick u (pick v (path_half k (2 * half g (suc c.level)) (lists (suc c.level)))
          (pick w (two k N (side (suc c.level)) (2 * half g (suc c.level)) (following (lists (suc c.level)) 0) (lists (suc c.level)))
          [])) (pick v (lists (suc c.level)) [])))
      crown_fits j true u v w = path_part_fits j
      crown_fits j false true true w = (half_fits k (2 * half g (suc c.level)) (lists (suc c.level)) (lists_fit (suc c.level))).0
      crown_fits j false true false true = two_fits k a k_low a-low N side (half g) (side_low m) side_low (suc c.level)
          (2 * half g (suc c.level)) (following (lists (suc c.level)) 0) (lists (suc c.level)) first_low (lists_fit (suc c.level))
      crown_fits j false true false false = tt
      crown_fits j false false true w = lists_fit (suc c.level)
      crown_fits j false false false w = tt

      fits : (j : ℕ) → 1 ≤ j → j ≤ g.top → All Fits (main_list g n c k a j)
      fits j _ _ = crown_fits j (leb j c.level) grows (eqb j (suc c.level)) (eqb j (suc (suc c.level)))

      grown : grows ≡ true → Parts g (main_list g n c k a)
      grown e =
          let u = grow_all g shape n k a k_low c whole e in
          parts_most g shape (suc (suc c.level)) (main_list g n c k a) (omega arith) (omega (arith, u.0)) fits
          (λ j b q. by_le j c.level (λ z. rw (le-leb j c.level z) (path_part_most j b z))
          (λ z. let y : j ≡ suc c.level = omega (arith, z, q) in
          rw (lt-leb j c.level z, e, eq-eqb j (suc c.level) y, y)
          (let w = (crown_most e).0 in let s = shape.even (suc c.level) in omega (arith, w, s))))
          (rw (
            lt-leb (suc (suc c.level)) c.level (omega arith),
            e,
            ne_eqb (suc (suc c.level)) (suc c.level) (λ z. omega (arith, z)),
            eq-eqb (suc (suc c.level)) (suc (suc c.level)) refl,
          ) (two_root g shape n k a k_low c whole u.0))
          (λ j q. rw (
            lt-leb j c.level (omega (arith, q)),
            e,
            ne_eqb j (suc c.level) (λ z. omega (arith, z, q)),
            ne_eqb j (suc (suc c.level))
                (λ z. omega (arith, z, q)),
          ) refl)

      stayed : grows ≡ false → Parts g (main_list g n c k a)
      stayed e =
          parts_most g shape (suc c.level) (main_list g n c k a) (omega arith) high fits
          (λ j b q. rw (le-leb j c.level (omega (arith, q))) (path_part_most j b (omega (arith, q))))
          (rw (lt-leb (suc c.level) c.level (omega arith), e, eq-eqb (suc c.level) (suc c.level) refl)
          (stay_most g shape n k a k_low c whole high not-high e))
          (λ j q. rw (lt-leb j c.level (omega (arith, q)), e, ne_eqb j (suc c.level) (λ z. omega (arith, z, q))) refl)
