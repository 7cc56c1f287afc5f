-- An insertion's m pages on an abstract chip: R2, R5, R6 hold again, and the map has K. Assumes nothing.
use Rattle.std.specs.Prelude.{◌≡◌, Bool, true, ltb, is_none}
use Rattle.std.proofs.Math.Path.{refl, ap}
use Rattle.std.proofs.Common.{sym, ◌∙◌}
use mathlib.Core.List.{List, [], ◌∷◌}
use Rattle.std.proofs.Math.Bool.{false}
use Prim.Native.Nat.{ℕ, suc, ◌+◌, ◌-◌, ◌*◌, ◌<◌, ◌≤◌}
use native.Mathlib.Omega.{arith}
use Rattle.std.proofs.Math.ListN.{length}
use Rattle.std.proofs.Math.Dec.{eqb, leb}
use borrow.Author.Tests.{lt-ltb, eq-eqb, ltb-true, ltb-false, eqb-true, eqb-false}
use Rattle.geometry.specs.declared.Geometry.{Geometry}
use Rattle.geometry.specs.declared.Entry.{Entry}
use Rattle.geometry.specs.Tests.{pick, bit, and_true, and_left, and_right, and_both}
use Rattle.geometry.specs.Geometry.{half, root_slots, root_most}
use Rattle.geometry.specs.Shape.{Shape, halved, shape_core}
use Rattle.geometry.specs.Bounds.{four_bytes}
use Rattle.model.specs.Count.{count}
use Rattle.model.specs.Image.{Nodes, Chip, the_root}
use Rattle.model.specs.Tree.{under, chosen, find, sought}
use Rattle.model.specs.Next.{ahead, taken}
use Rattle.model.specs.Edit.{put, put_in, side_half, named, gains, splits}
use Rattle.model.specs.Update.{root_node, root_gains, fills, needs, too_high, insert_list, insert_part, side_page}
use Rattle.theory_counts.specs.Tally.{bit_most}
use Rattle.theory_counts.specs.Cases.{by_eq, by_test, true_false}
use Rattle.theory_nodes.specs.Nodes.{fit_of}
use Rattle.theory_trees.specs.Edit.{at_root}
use Rattle.theory_trees.specs.Insert.{inserted}
use Rattle.theory_trees.specs.Path.{put_as, root_is, on_path_top}
use Rattle.theory_trees.specs.Splits.{root_size, all_below, splits_le, splits_are}
use Rattle.theory_chips.specs.Next.{R2, step}
use Rattle.theory_chips.specs.Whole.{some_page, Whole, sought_map, nodes_below, HalfFull}

-- the other half of level j
unfoldable pub side_list : Geometry → ℕ → Chip → ℕ → ℕ → ℕ → List Entry
side_list g n c k a j = pick (leb j c.level) (side_half k (half g j) (insert_list g c k a (side_page g n c (needs g c k)) (side_page g n c) j))
    (side_half k (2 * half g j) (insert_list g c k a (side_page g n c (needs g c k)) (side_page g n c) j))

-- what N holds at level j
abbrev pub main_list : Geometry → ℕ → Chip → ℕ → ℕ → ℕ → List Entry
main_list g n c k a j = insert_part g c k a (side_page g n c (needs g c k)) (side_page g n c) j

-- the chip e after an insertion of m own pages into c: one node more for each page but N, and one for each level more;
-- still half full
pub record Fuller (g : Geometry) (m : ℕ) (c e : Chip) : Type 0 where
  pub nodes_are : length (nodes_below e) + c.level + 1 ≡ length (nodes_below c) + e.level + m
  pub filled : HalfFull g c → HalfFull g e

module _ (g : Geometry) (shape : Shape g) (n k a : ℕ) (k_low : k < four_bytes) (c : Chip) (good : Whole g n c) where
  abbrev r : Nodes
  r = c.nodes

  abbrev es : List Entry
  es = root_node c

  abbrev m : ℕ
  m = needs g c k

  abbrev side : ℕ → ℕ
  side = side_page g n c

  abbrev N : ℕ
  N = side m

  abbrev absent : Bool
  absent = is_none (sought c k)

  abbrev cuts : ℕ
  cuts = splits r k (half g) absent c.level (chosen k es)

  abbrev gained : Bool
  gained = gains r k (half g) absent c.level (chosen k es)

  abbrev lists : ℕ → List Entry
  lists = insert_list g c k a N side

  abbrev fit : ℕ → ℕ → Type 0
  fit = fit_of (g.pages * n) c.er

  abbrev room_at : ℕ → ℕ
  room_at l = 2 * half g l

  abbrev root_list : List Entry
  root_list = at_root (put_in k a) (inserted r k a N side (half g) c.level) k c.level es

  pub some_root : 1 ≤ c.level → 0 < length es
  some_root i = let z = good.sound.rooted.least i in omega (arith, z)

  pub absent_is : is_none (find k (under r (suc c.level) (the_root c))) ≡ absent
  absent_is = ap is_none (sym (sought_map g n c good k k_low))

  pub root_list_lem : lists (suc c.level) ≡ root_list
  unfolding insert_list
  root_list_lem = on_path_top fit room_at r k (put_in k a) (λ e. put k a (e ∷ [])) (named k N side (half g)) (put_as k a) c.level (the_root c)
      ∙ root_is fit room_at r k (put_in k a) (λ e. put k a (e ∷ [])) (named k N side (half g)) (put_as k a) c.level four_bytes c.root k_low some_root
      good.sound.rooted.rises

  pub root_length : length (lists (suc c.level)) ≡ length es + bit gained
  unfolding under
  root_length = ap length root_list_lem ∙ root_size k a N side (half g) r fit absent c.level four_bytes es some_root k_low
      good.sound.rooted.rises absent_is

  -- the levels below the root that are too long are 1 to cuts
  pub cut_levels : (j : ℕ) → 1 ≤ j → j ≤ c.level → (room_at j < length (lists j) → j ≤ cuts) ×
      (j ≤ cuts → room_at j < length (lists j))
  unfolding insert_list
  cut_levels j b d = splits_are k a N side (half g) r fit absent c.level four_bytes (the_root c) k_low some_root
      good.sound.rooted.rises absent_is j b d

  abbrev grows : Bool
  grows = fills g (suc c.level) (length (lists (suc c.level)))

  pub needs_is : m ≡ suc (cuts + bit grows)
  unfolding needs root_gains
  needs_is = rw root_length refl

  pub cuts_le : cuts ≤ c.level
  cuts_le = splits_le k a N side (half g) r fit absent c.level (chosen k es)

  -- a root that grows has taken an entry, so all levels below split
  pub grow_all : grows ≡ true → (suc c.level < g.top) ×
      (length (lists (suc c.level)) ≡ 4 * half g (suc c.level)) × (cuts ≡ c.level)
  unfolding fills root_most
  grow_all e =
      let lo = ltb-true (suc c.level) g.top (and_left _ _ e) in
      let len = eqb-true (length (lists (suc c.level))) (root_slots g (suc c.level)) (and_right _ _ e) in
      let d = shape.double (suc c.level) (omega arith) lo in
      let s = shape.some (suc c.level) (omega arith) lo in
      let am = rw (halved g shape, lt-ltb (suc c.level) g.top lo) at good.sound.rooted.atmost in (
        lo,
        len ∙ d,
        all_below k a N side (half g) r fit absent c.level (chosen k es)
            (by_test gained (λ z. z) (λ z. absurd (omega (arith, root_length, len, d, s, am, ap bit z)))),
      )

  -- own pages: 1 + splits + grow
  pub needs_top : suc c.level ≤ g.top → m ≤ g.top
  needs_top hi = by_test grows (λ e. let u = grow_all e in omega (arith, needs_is, u.0, u.2, ap bit e))
      (λ e. omega (arith, needs_is, cuts_le, hi, ap bit e))

  -- a root that does not grow stays within the table, unless it is too high
  pub stay_most : suc c.level ≤ g.top → too_high g c k ≡ false → grows ≡ false
      → length (lists (suc c.level)) ≤ root_most g (suc c.level)
  unfolding fills root_most too_high root_gains
  stay_most hi small e = by_test (ltb (suc c.level) g.top)
      (λ x. rw (halved g shape, x) (below (ltb-true (suc c.level) g.top x) (rw (
        x,
        and_true
            (eqb (length (lists (suc c.level))) (root_slots g (suc c.level))),
      ) at e) (rw (halved g shape, x) at good.sound.rooted.atmost)))
      (λ x. rw (halved g shape, x) (at_top (ltb-false (suc c.level) g.top x) (rw (halved g shape, x) at good.sound.rooted.atmost)))
    where
      below : suc c.level < g.top → eqb (length (lists (suc c.level))) (root_slots g (suc c.level)) ≡ false
          → length es ≤ root_slots g (suc c.level) - 1 → length (lists (suc c.level)) ≤ root_slots g
          (suc c.level) - 1
      below lo ne am =
          let w = eqb-false (length (lists (suc c.level))) (root_slots g (suc c.level)) ne in
          let d = shape.double (suc c.level) (omega arith) lo in
          let s = shape.some (suc c.level) (omega arith) lo in
          omega (arith, w, am, d, s, root_length, bit_most gained)

      at_top : g.top ≤ suc c.level → length es ≤ root_slots g (suc c.level)
          → length (lists (suc c.level)) ≤ root_slots g (suc c.level)
      at_top lo am = by_test gained
          (λ z. by_eq (length es) (root_slots g (suc c.level))
          (λ y. absurd (true_false _ (and_both _ _ (and_both _ _ (eq-eqb (suc c.level) g.top (omega (arith, lo, hi)))
          (eq-eqb (length es) (root_slots g (suc c.level)) y)) z) small))
          (λ y. omega (arith, root_length, am, y, bit_most gained)))
          (λ z. omega (arith, root_length, am, ap bit z))

  -- a level above a root that grows has room for two entries
  pub two_root : suc c.level < g.top → 2 ≤ root_most g (suc (suc c.level))
  unfolding root_most
  two_root lo = by_test (ltb (suc (suc c.level)) g.top)
      (λ x. let y = ltb-true (suc (suc c.level)) g.top x in let d =
      shape.double (suc (suc c.level)) (omega arith) y in let z = shape.some
      (suc (suc c.level)) (omega arith) y in rw (halved g shape, x) (omega (arith, d, z)))
      (λ x. let y : suc (suc c.level) ≡ g.top = omega (arith, lo, ltb-false (suc (suc c.level)) g.top x) in
      let d = ap (root_slots g) y in
      let z = shape.top_slots in rw (halved g shape, x) (omega (arith, d, z)))

  -- ---- the nodes s after the m pages
  module _ (free : m ≤ count (g.pages * n) c.er) (s : Nodes) (numbers : ℕ → ℕ)
      (at_n : (j : ℕ) → 1 ≤ j → j ≤ g.top → s N j ≡ main_list g n c k a j) (at_Side : (j : ℕ) → 1 ≤ j → j < m
      → s (side j) j ≡ side_list g n c k a j)
      (stays : (q l : ℕ) → fit (suc l) q → s q (suc l) ≡ r q (suc l)) (high : suc c.level ≤ g.top) where
    pub after_r2 : R2 g.pages n (taken g.pages n (ahead g n c) m).er
    after_r2 = (step g.pages n (ahead g n c) (some_page g (shape_core g shape)) good.r2 m free).r2
