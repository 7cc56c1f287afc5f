-- An insertion's m pages on an abstract chip: R2, R5, R6 hold again, and the map has K. Assumes nothing.
use Rattle.std.specs.Prelude.{◌≡◌, Bool, true, is_none}
use Rattle.std.proofs.Math.Path.{refl, ap, subst}
use Rattle.std.proofs.Common.{sym, ◌∙◌}
use mathlib.Core.List.{List, [], ◌∷◌}
use Rattle.std.proofs.Math.Bool.{false}
use Prim.Native.Nat.{ℕ, suc, ◌+◌, ◌-◌, ◌*◌, ◌<◌, ◌≤◌}
use native.Mathlib.Omega.{arith}
use Rattle.std.proofs.Math.ListN.{length}
use Rattle.std.proofs.Math.Dec.{eqb, leb}
use borrow.Author.Tests.{le-leb, lt-leb, eq-eqb, ne_eqb}
use Rattle.geometry.specs.declared.Geometry.{Geometry}
use Rattle.geometry.specs.declared.Entry.{Entry}
use Rattle.geometry.specs.Tests.{bit}
use Rattle.geometry.specs.Geometry.{half, root_most}
use Rattle.geometry.specs.Shape.{Shape, shape_core}
use Rattle.geometry.specs.Bounds.{four_bytes}
use Rattle.model.specs.Count.{count}
use Rattle.model.specs.Image.{Nodes, Chip, the_root}
use Rattle.model.specs.Tree.{gather, under, places, places_of, live, map_of, following, chosen, sought}
use Rattle.model.specs.Next.{ahead, taken}
use Rattle.model.specs.Edit.{put, put_in, path_half, side_half, two, named, path_part, splits}
use Rattle.model.specs.Update.{root_node, fills, needs, too_high, insert_list, crown_part, insert_part, crown_height, side_page}
use Rattle.theory_counts.specs.Cases.{by_test}
use Rattle.theory_nodes.specs.Nodes.{the, fit_of}
use Rattle.theory_trees.specs.Edit.{at_root}
use Rattle.theory_trees.specs.Insert.{inserted, InsertMade}
use Rattle.theory_trees.proofs.Proper.{insert_stay, insert_grow}
use Rattle.theory_trees.specs.Path.{put_as, made_from}
use Rattle.theory_lists.specs.All.{All}
use Rattle.theory_trees.specs.Fill.{Filled, two_nodes, root_nodes}
use Rattle.theory_trees.proofs.Fill.{root_filled, grown_filled}
use Rattle.theory_trees.specs.Leaf.{bottom, bottom_fit, sides, sides_length}
use Rattle.theory_trees.proofs.Leaf.{stay_shifted, grow_shifted}
use Rattle.theory_chips.specs.Count.{lives_shifted}
use Rattle.theory_chips.specs.Whole.{Whole, nodes_below, HalfFull}
use Rattle.theory_chips.specs.Pages.{side_inj, keep, fit_side, new_side}
use Rattle.theory_chips.specs.Insertion.{Fuller, absent_is, after_r2, cut_levels, grow_all, main_list, needs_is, root_list_lem, side_list, some_root, stay_most, two_root}

module _ (g : Geometry) (shape : Shape g) (n k a : ℕ) (k_low : k < four_bytes) (c : Chip) (good : Whole g n c) where
  abbrev r : Nodes
  r = c.nodes

  abbrev es : List Entry
  es = root_node c

  abbrev m : ℕ
  m = needs g c k

  abbrev side : ℕ → ℕ
  side = side_page g n c

  abbrev N : ℕ
  N = side m

  abbrev absent : Bool
  absent = is_none (sought c k)

  abbrev cuts : ℕ
  cuts = splits r k (half g) absent c.level (chosen k es)

  abbrev lists : ℕ → List Entry
  lists = insert_list g c k a N side

  abbrev fit : ℕ → ℕ → Type 0
  fit = fit_of (g.pages * n) c.er

  abbrev room_at : ℕ → ℕ
  room_at l = 2 * half g l

  abbrev root_list : List Entry
  root_list = at_root (put_in k a) (inserted r k a N side (half g) c.level) k c.level es

  abbrev grows : Bool
  grows = fills g (suc c.level) (length (lists (suc c.level)))

  module _ (free : m ≤ count (g.pages * n) c.er) (s : Nodes) (numbers : ℕ → ℕ)
      (at_n : (j : ℕ) → 1 ≤ j → j ≤ g.top → s N j ≡ main_list g n c k a j) (at_Side : (j : ℕ) → 1 ≤ j → j < m
      → s (side j) j ≡ side_list g n c k a j)
      (stays : (q l : ℕ) → fit (suc l) q → s q (suc l) ≡ r q (suc l)) (high : suc c.level ≤ g.top) where
    abbrev fit' : ℕ → ℕ → Type 0
    fit' = fit_of (g.pages * n) (taken g.pages n (ahead g n c) m).er

    abbrev Cut : ℕ → Type 0
    Cut j = (1 ≤ j) × (j < m)

    made : InsertMade r s k a N side (half g) fit' Cut c.level (chosen k es)
    unfolding insert_part side_list insert_list
    made = made_from fit room_at r k (put_in k a) (λ e. put k a (e ∷ [])) (named k N side (half g)) (put_as k a)
        (λ j d. (s N j ≡ path_part k (half g) j d) × (room_at j < length d → (s (side j) j ≡ side_half k (half g j) d) × fit' j (side j) × Cut j))
        c.level four_bytes (the_root c) k_low (some_root g shape n k a k_low c good) good.sound.rooted.rises
        (λ j b d. at j b d _ refl)
      where
        at : (j : ℕ) → 1 ≤ j → j ≤ c.level → (d : List Entry) → lists j ≡ d
            → (s N j ≡ path_part k (half g) j d) × (room_at j < length d → (s (side j) j ≡ side_half k (half g j) d) ×
            fit' j (side j) × Cut j)
        at j b d ds e = (
          at_n j b (omega (arith, d, high)) ∙ rw (le-leb j c.level d) (ap (path_part k (half g) j) e),
          λ f. let w = (cut_levels g shape n k a k_low c good j b d).0 (rw e f) in let lt : j < m = omega (arith, needs_is g shape n k a k_low c good, w) in (
            at_Side j b lt ∙ rw (le-leb j c.level d) (ap (side_half k (half g j)) e),
            fit_side g (shape_core g shape) n c good.r2 m free j j b
                (omega (arith, lt)),
            (b, lt),
          ),
        )

    some_m : 1 ≤ m
    some_m = omega (arith, needs_is g shape n k a k_low c good)

    apart : (l : ℕ) → Cut l → side l ≡ N → ⊥
    apart l h e = let z = side_inj g (shape_core g shape) n c good.r2 m free l m h.0 (omega (arith, h.1)) some_m
        (omega arith) e in omega (arith, h.1, z)

    inj : (i j : ℕ) → Cut i → Cut j → side i ≡ side j → i ≡ j
    inj i j h h' e = side_inj g (shape_core g shape) n c good.r2 m free i j h.0 (omega (arith, h.1)) h'.0 (omega (arith, h'.1)) e

    abbrev Done : ℕ → Type 0
    Done l = Whole g n (record { er = (taken g.pages n (ahead g n c) m).er; seq = numbers; nodes = s; level = l; root = N }) ×
        (under s (suc l) (the N) ≡ put k a (map_of c)) ×
        (suc (count (g.pages * n) (live (places s (suc l) (the N)))) ≤ count (g.pages * n) (live (places_of c)) + m) ×
        Fuller g m c (record { er = (taken g.pages n (ahead g n c) m).er; seq = numbers; nodes = s; level = l; root = N })

    -- the nodes below the root's changed list
    list_nodes : length (gather (places s c.level) root_list) ≡ length (nodes_below c) + cuts
    unfolding under
    list_nodes = root_nodes k a N four_bytes side (half g) (root_most g) r s fit fit' Cut (λ l. fit_side g (shape_core g shape) n c good.r2 m free m (suc l)
        some_m (omega arith)) tt (keep g (shape_core g shape) n c good.r2 m free) stays k_low absent c.level es (some_root g shape n k a k_low c good) good.sound.rooted.rises
        (absent_is g shape n k a k_low c good) made

    list_filled : HalfFull g c → All (Filled (half g) s) (gather (places s c.level) root_list)
    list_filled h = root_filled k a N four_bytes side (half g) (root_most g) r s fit fit' Cut
        (λ l. fit_side g (shape_core g shape) n c good.r2 m free m (suc l)
        some_m (omega arith)) tt (keep g (shape_core g shape) n c good.r2 m free) stays k_low c.level es (some_root g shape n k a k_low c good) good.sound.rooted.rises h made

    -- the page of the leaf that K goes to
    abbrev p : ℕ
    p = bottom r k c.level (the c.root)

    p_in : p < g.pages * n
    p_in = (bottom_fit fit room_at r k (root_most g) four_bytes c.level c.root k_low good.sound.rooted).0

    cut_in : (j : ℕ) → Cut j → (1 ≤ j) × (j ≤ m - 1)
    cut_in j h = (h.0, omega (arith, h.1))

    many : length (N ∷ sides side (m - 1)) ≡ m
    many = omega (arith, sides_length side (m - 1), some_m)

    -- the root stays
    stay : too_high g c k ≡ false → grows ≡ false → Done c.level
    unfolding insert_part crown_part
    stay small e =
        let here : s N (suc c.level) ≡ root_list = at_n (suc c.level) (omega arith) high
        ∙ rw (lt-leb (suc c.level) c.level (omega arith), e, eq-eqb (suc c.level) (suc c.level) refl) (root_list_lem g shape n k a k_low c good) in
        let w = insert_stay N four_bytes (half g) (root_most g) r s fit fit' (λ l. fit_side g (shape_core g shape) n c good.r2 m free m (suc l) some_m
        (omega arith)) (keep g (shape_core g shape) n c good.r2 m free) stays
        (λ l. new_side g (shape_core g shape) n c good.r2 m free m l some_m (omega arith))
        k a side Cut tt k_low apart inj (λ l j h. new_side g (shape_core g shape) n c good.r2 m free l j h.0 (omega (arith, h.1)))
        c.level c.root good.sound made here (rw (← (root_list_lem g shape n k a k_low c good)) (stay_most g shape n k a k_low c good high small e)) in
        let z = stay_shifted N four_bytes (half g) (root_most g) r s fit fit' (λ l. fit_side g (shape_core g shape) n c good.r2 m free m (suc l) some_m
        (omega arith)) (keep g (shape_core g shape) n c good.r2 m free) stays
        (λ l. new_side g (shape_core g shape) n c good.r2 m free m l some_m (omega arith))
        k k_low c.level c.root good.sound a (m - 1) side Cut cut_in tt
        (λ l j h. new_side g (shape_core g shape) n c good.r2 m free l j h.0 (omega (arith, h.1))) made here in (
          record { r2 = after_r2 g shape n k a k_low c good free s numbers at_n at_Side stays high; sound = w.0 },
          w.1,
          omega (
            arith,
            lives_shifted (g.pages * n) p (N ∷ sides side (m - 1)) (places_of c)
                (places s (suc c.level) (the N)) p_in z,
            many,
          ),
          record {
            nodes_are = (let x = ap (λ (d : List Entry). length (gather (places s c.level) d)) here in
                omega (arith, x, list_nodes, needs_is g shape n k a k_low c good, ap bit e));
            filled = λ h. subst (λ (d : List Entry). All (Filled (half g) s) (gather (places s c.level) d)) (sym here) (list_filled h);
          },
        )

    -- the root grows
    grow : grows ≡ true → Done (suc c.level)
    unfolding insert_part crown_part side_list
    grow e =
        let l = c.level in
        let h = half g (suc l) in
        let u = grow_all g shape n k a k_low c good e in
        let lt : suc l < m = omega (arith, needs_is g shape n k a k_low c good, u.2, ap bit e) in
        let small : leb (suc l) l ≡ false = lt-leb (suc l) l (omega arith) in
        let small' : leb (suc (suc l)) l ≡ false = lt-leb (suc (suc l)) l (omega arith) in
        let ne : eqb (suc (suc l)) (suc l) ≡ false = ne_eqb (suc (suc l)) (suc l) (λ z. omega (arith, z)) in
        let path : s N (suc l) ≡ path_half k (2 * h) root_list = at_n (suc l) (omega arith) high
        ∙ rw (small, e, eq-eqb (suc l) (suc l) refl)
        (ap (path_half k (2 * h)) (root_list_lem g shape n k a k_low c good)) in
        let other : s (side (suc l)) (suc l) ≡ side_half k (2 * h) root_list = at_Side (suc l) (omega arith) lt ∙ rw small
        (ap (side_half k (2 * h)) (root_list_lem g shape n k a k_low c good)) in
        let crown : s N (suc (suc l)) ≡ two k N (side (suc l)) (2 * h) (following root_list 0) root_list =
        at_n (suc (suc l)) (omega arith) (omega (arith, u.0))
        ∙ rw (small', e, ne, eq-eqb (suc (suc l)) (suc (suc l)) refl)
        (ap (λ x. two k N (side (suc l)) (2 * h) (following x 0) x) (root_list_lem g shape n k a k_low c good)) in
        let w = insert_grow N four_bytes (half g) (root_most g) r s fit fit' (λ l. fit_side g (shape_core g shape) n c good.r2 m free m (suc l) some_m
        (omega arith)) (keep g (shape_core g shape) n c good.r2 m free) stays
        (λ l. new_side g (shape_core g shape) n c good.r2 m free m l some_m (omega arith))
        k a side Cut tt k_low apart inj (λ l j h. new_side g (shape_core g shape) n c good.r2 m free l j h.0 (omega (arith, h.1)))
        l c.root good.sound made (path, other, fit_side g (shape_core g shape) n c good.r2 m free (suc l) (suc l) (omega arith) (omega (arith, lt)))
        (omega arith, lt) crown (sym (ap length (root_list_lem g shape n k a k_low c good)) ∙ u.1) (two_root g shape n k a k_low c good u.0) in
        let z = grow_shifted N four_bytes (half g) (root_most g) r s fit fit' (λ l. fit_side g (shape_core g shape) n c good.r2 m free m (suc l) some_m
        (omega arith)) (keep g (shape_core g shape) n c good.r2 m free) stays
        (λ l. new_side g (shape_core g shape) n c good.r2 m free m l some_m (omega arith))
        k k_low l c.root good.sound a (m - 1) side Cut cut_in tt
        (λ l j h. new_side g (shape_core g shape) n c good.r2 m free l j h.0 (omega (arith, h.1))) made
        (path, other, fit_side g (shape_core g shape) n c good.r2 m free (suc l) (suc l) (omega arith) (omega (arith, lt))) (omega arith, lt)
        (sym (ap length (root_list_lem g shape n k a k_low c good)) ∙ u.1) crown in (
          record { r2 = after_r2 g shape n k a k_low c good free s numbers at_n at_Side stays high; sound = w.0 },
          w.1,
          omega (
            arith,
            lives_shifted (g.pages * n) p (N ∷ sides side (m - 1)) (places_of c)
                (places s (suc (suc l)) (the N)) p_in z,
            many,
          ),
          record {
            nodes_are = (let x = ap (λ (d : List Entry). length (gather (places s (suc l)) d)) crown in
                let y = two_nodes k a N four_bytes side (half g) (root_most g) r s fit fit' Cut
                (λ l. fit_side g (shape_core g shape) n c good.r2 m free m (suc l)
                some_m (omega arith)) tt (keep g (shape_core g shape) n c good.r2 m free) stays k_low l (2 * h) (following root_list 0) root_list
                (path, other, fit_side g (shape_core g shape) n c good.r2 m free (suc l) (suc l) (omega arith) (omega (arith, lt))) in
                omega (arith, x, y, list_nodes, needs_is g shape n k a k_low c good, ap bit e));
            filled = λ f. subst (λ (d : List Entry). All (Filled (half g) s) (gather (places s (suc l)) d)) (sym crown)
                (grown_filled k a N four_bytes side (half g) (root_most g) r s fit fit' Cut (λ l. fit_side g (shape_core g shape) n c good.r2 m free m (suc l)
                some_m (omega arith)) tt (keep g (shape_core g shape) n c good.r2 m free) stays k_low l root_list
                (path, other, fit_side g (shape_core g shape) n c good.r2 m free (suc l) (suc l) (omega arith) (omega (arith, lt)))
                (sym (ap length (root_list_lem g shape n k a k_low c good)) ∙ u.1) (following root_list 0) (list_filled f));
          },
        )

    pub insert_done : too_high g c k ≡ false → Done (crown_height g (suc c.level) (lists (suc c.level)) - 1)
    unfolding crown_height
    insert_done small = by_test grows
        (λ e. let z : suc (suc c.level) - 1 ≡ suc c.level = omega arith in rw (e, z) (grow e))
        (λ e. let z : suc c.level - 1 ≡ c.level = omega arith in rw (e, z) (stay small e))
