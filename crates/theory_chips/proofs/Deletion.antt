-- A deletion's one page on an abstract chip: R2, R5, R6 hold again, and the map is without K. Assumes nothing.
use Rattle.std.specs.Prelude.{◌≡◌, false, eqb, is_none}
use Rattle.std.proofs.Math.Path.{refl, ap, subst}
use Rattle.std.proofs.Common.{sym, ◌∙◌}
use mathlib.Core.List.{List, [], ◌∷◌}
use Rattle.std.proofs.Math.Bool.{true}
use Prim.Native.Nat.{ℕ, zero, suc, ◌*◌, ◌<◌, ◌≤◌}
use native.Mathlib.Omega.{arith}
use Rattle.std.proofs.Math.ListN.{length}
use borrow.Author.Tests.{le-leb, eq-eqb, ne_eqb}
use Rattle.geometry.specs.declared.Geometry.{Geometry}
use Rattle.geometry.specs.declared.Entry.{Entry}
use Rattle.geometry.specs.Tests.{pick, and_true}
use Rattle.geometry.specs.Geometry.{half, root_most}
use Rattle.geometry.specs.Shape.{Shape, shape_core}
use Rattle.geometry.specs.Bounds.{four_bytes}
use Rattle.model.specs.Count.{count}
use Rattle.model.specs.Image.{Nodes, Chip, the_root}
use Rattle.model.specs.Tree.{under, places, places_of, live, following, chosen, sought}
use Rattle.model.specs.Next.{ahead, taken}
use Rattle.model.specs.Edit.{remove, remove_in, kept, Top, collapse}
use Rattle.model.specs.Update.{root_node, side_page, delete_list, delete_top, delete_part}
use Rattle.theory_counts.specs.Cases.{by_le}
use Rattle.theory_nodes.specs.Entries.{split}
use Rattle.theory_nodes.specs.Nodes.{Ok, the, fit_of}
use Rattle.theory_trees.specs.Edit.{splice_length, at_root}
use Rattle.theory_trees.specs.Delete.{deleted, DeleteMade, none_left_lem, none_made}
use Rattle.theory_trees.specs.Proper.{Proper, delete_stay, delete_collapse}
use Rattle.theory_trees.specs.Path.{remove_as, root_is, on_path_top, made_from}
use Rattle.theory_trees.specs.Leaf.{bottom, bottom_fit}
use Rattle.theory_trees.proofs.Leaf.{less_shifted, collapse_shifted}
use Rattle.theory_chips.specs.Count.{lives_shifted}
use Rattle.theory_chips.specs.Next.{R2, step}
use Rattle.theory_chips.specs.Whole.{some_page, Whole, some_entry}
use Rattle.theory_chips.specs.Pages.{keep, fit_side, new_side}
use Rattle.theory_chips.specs.Deletion.{Done, Stays, left_list, top_low}

module _ (g : Geometry) (shape : Shape g) (n k : ℕ) (k_low : k < four_bytes) (c : Chip) (good : Whole g n c)
    (present : is_none (sought c k) ≡ false) where
  abbrev r : Nodes
  r = c.nodes

  abbrev es : List Entry
  es = root_node c

  abbrev N : ℕ
  N = side_page g n c 1

  abbrev lists : ℕ → List Entry
  lists = delete_list c k N

  abbrev fit : ℕ → ℕ → Type 0
  fit = fit_of (g.pages * n) c.er

  abbrev room_at : ℕ → ℕ
  room_at l = 2 * half g l

  abbrev root_list : List Entry
  root_list = at_root (remove_in k) (deleted r k N c.level) k c.level es

  abbrev top : Top
  top = delete_top c k N

  some_root : 0 < length es
  some_root = some_entry g n c good k k_low present

  root_list_lem : lists (suc c.level) ≡ root_list
  unfolding delete_list
  root_list_lem = on_path_top fit room_at r k (remove_in k) (λ e. remove k (e ∷ [])) (kept N) (remove_as k) c.level (the_root c)
      ∙ root_is fit room_at r k (remove_in k) (λ e. remove k (e ∷ [])) (kept N) (remove_as k) c.level four_bytes c.root k_low (λ _. some_root)
      good.sound.rooted.rises

  stays_top : (l : ℕ) (cs : List Entry) → (Stays g shape n k k_low c good present) l cs → collapse r l cs ≡ record { level = l; list = cs }
  unfolding Stays collapse
  stays_top zero cs h = refl
  stays_top (suc l) [] h = absurd (omega (arith, h))
  stays_top (suc l) (x ∷ []) h = absurd (omega (arith, h))
  stays_top (suc l) (x ∷ y ∷ cs) h = refl

  module _ (free : 1 ≤ count (g.pages * n) c.er) (s : Nodes) (numbers : ℕ → ℕ)
      (at_n : (j : ℕ) → 1 ≤ j → j ≤ g.top → s N j ≡ left_list g n c k j)
      (stays : (q l : ℕ) → fit (suc l) q → s q (suc l) ≡ r q (suc l)) (high : suc c.level ≤ g.top) where
    abbrev fit' : ℕ → ℕ → Type 0
    fit' = fit_of (g.pages * n) (taken g.pages n (ahead g n c) 1).er

    after_r2 : R2 g.pages n (taken g.pages n (ahead g n c) 1).er
    after_r2 = (step g.pages n (ahead g n c) (some_page g (shape_core g shape)) good.r2 1 free).r2

    fit_n : (l : ℕ) → fit' (suc l) N
    fit_n l = fit_side g (shape_core g shape) n c good.r2 1 free 1 (suc l) (omega arith) (omega arith)

    new_n : (l : ℕ) → fit (suc l) N → ⊥
    new_n l = new_side g (shape_core g shape) n c good.r2 1 free 1 l (omega arith) (omega arith)

    -- the page of the leaf that K goes to
    abbrev p : ℕ
    p = bottom r k c.level (the c.root)

    p_in : p < g.pages * n
    p_in = (bottom_fit fit room_at r k (root_most g) four_bytes c.level c.root k_low good.sound.rooted).0

    stay : (Stays g shape n k k_low c good present) c.level (lists (suc c.level)) → (Done g shape n k k_low c good present free s numbers at_n stays high) c.level
    unfolding delete_part delete_top delete_list Stays
    stay h =
        let e = stays_top c.level (lists (suc c.level)) h in
        let lv : (collapse r c.level (lists (suc c.level))).level ≡ c.level = ap (λ (x : Top). x.level) e in
        let ls : (collapse r c.level (lists (suc c.level))).list ≡ lists (suc c.level) =
        ap (λ (x : Top). x.list) e in
        let here : s N (suc c.level) ≡ root_list = at_n (suc c.level) (omega arith) high
        ∙ rw (lv, eq-eqb (suc c.level) (suc c.level) refl)
        (ls ∙ root_list_lem) in
        let made : DeleteMade r s k N c.level (chosen k es) =
        made_from fit room_at r k (remove_in k) (λ e. remove k (e ∷ [])) (kept N) (remove_as k)
        (λ j d. 1 ≤ length d → s N j ≡ d) c.level four_bytes (the_root c) k_low (λ _. some_root) good.sound.rooted.rises
        (λ j b d _. at_n j b (omega (arith, d, high)) ∙ rw (
          lv,
          ne_eqb j (suc c.level) (λ z. omega (arith, z, d)),
          eq-eqb c.level
              c.level refl,
          le-leb j c.level d,
          and_true true,
        ) refl) in
        let w = delete_stay N four_bytes (half g) (root_most g) r s fit fit' fit_n
        (keep g (shape_core g shape) n c good.r2 1 free) stays new_n k k_low c.level
        c.root good.sound some_root made here
        (λ i. rw (← root_list_lem) (two c.level i h)) in
        let z = less_shifted N four_bytes (half g) (root_most g) r s fit fit' fit_n
        (keep g (shape_core g shape) n c good.r2 1 free) stays new_n k k_low c.level
        c.root good.sound made some_root here in (
          record { r2 = after_r2; sound = w.0 },
          w.1,
          omega (
            arith,
            lives_shifted (g.pages * n) p (N ∷ []) (places_of c)
                (places s (suc c.level) (the N)) p_in z,
          ),
        )
      where
        two : (l : ℕ) → 1 ≤ l → (Stays g shape n k k_low c good present) l (lists (suc c.level)) → 2 ≤ length (lists (suc c.level))
        two zero i h = absurd (omega arith)
        two (suc l) i h = h

    wide : (j : ℕ) → room_at j ≤ root_most g j
    wide j = let z = shape.fits j in let w = shape.even j in omega (arith, z, w)

    -- one entry is left of a root above level 1
    drop : (lv : ℕ) (xs : List Entry) → Proper fit room_at (root_most g) four_bytes r lv c.root
        → xs ≡ at_root (remove_in k) (deleted r k N lv) k lv (r c.root (suc lv)) → 1 ≤ lv → length xs ≡ 1
        → s N (suc (collapse r lv xs).level) ≡ (collapse r lv xs).list
        → Proper fit' room_at (root_most g) four_bytes s (collapse r lv xs).level N ×
        (under s (suc (collapse r lv xs).level) (the N) ≡ remove k (under r (suc lv) (the c.root))) ×
        (count (g.pages * n) (live (places s (suc (collapse r lv xs).level) (the N))) ≤ count (g.pages * n) (live (places r (suc lv) (the c.root))))
    unfolding at_root
    drop zero xs h e i one at = absurd (omega arith)
    drop (suc l) xs h e i one at =
        let ls = r c.root (suc (suc l)) in
        let b = h.rooted.least (omega arith) in
        let sp = split (Ok fit room_at r (suc l)) k four_bytes ls (omega (arith, b)) k_low h.rooted.rises in
        let w = splice_length (Ok fit room_at r (suc l)) (deleted r k N (suc l)) k four_bytes ls (omega (arith, b)) k_low h.rooted.rises in
        let z = ap length e in
        let made : DeleteMade r s k N (suc l) (chosen k ls) =
        none_made k N four_bytes (half g) (root_most g) r s fit fit' fit_n
        (keep g (shape_core g shape) n c good.r2 1 free) stays k_low (suc l) (following sp.post four_bytes) (chosen k ls) sp.under sp.here
        (none_left_lem (deleted r k N (suc l) (chosen k ls)) (omega (arith, w, z, one, b))) in
        let one' : length (at_root (remove_in k) (deleted r k N (suc l)) k (suc l) ls) ≡ 1 = omega (arith, z, one) in
        subst (λ (x : List Entry). s N (suc (collapse r (suc l) x).level) ≡ (collapse r (suc l) x).list → Proper fit' room_at (root_most g) four_bytes s
        (collapse r (suc l) x).level N × (under s (suc (collapse r (suc l) x).level) (the N) ≡ remove k
        (under r (suc (suc l)) (the c.root))) × (count (g.pages * n) (live (places s (suc (collapse r (suc l) x).level) (the N))) ≤
        count (g.pages * n) (live (places r (suc (suc l)) (the c.root))))) (sym e)
        (λ at. let w = delete_collapse N four_bytes (half g) (root_most g) r s fit fit' fit_n
        (keep g (shape_core g shape) n c good.r2 1 free) stays new_n k k_low wide l
        c.root h made one' at in
        let v = collapse_shifted N four_bytes (half g) (root_most g) r s fit fit' fit_n
        (keep g (shape_core g shape) n c good.r2 1 free) stays new_n k k_low wide l
        c.root h made one' at in
        let q = (bottom_fit fit room_at r k (root_most g) four_bytes (suc l) c.root k_low h.rooted).0 in (
          w.0,
          w.1,
          omega (
            arith,
            lives_shifted (g.pages * n) (bottom r k (suc l) (the c.root)) (N ∷ []) (places r (suc (suc l)) (the c.root))
                (places s (suc (collapse r (suc l) (at_root (remove_in k) (deleted r k N (suc l)) k (suc l) ls)).level) (the N)) q v,
          ),
        )) at

    -- a root above level 1 keeps an entry
    some_left : (lv : ℕ) → Proper fit room_at (root_most g) four_bytes r lv c.root → 1 ≤ lv
        → 1 ≤ length (at_root (remove_in k) (deleted r k N lv) k lv (r c.root (suc lv)))
    unfolding at_root
    some_left zero h i = absurd (omega arith)
    some_left (suc l) h i =
        let ls = r c.root (suc (suc l)) in
        let b = h.rooted.least (omega arith) in
        let w = splice_length (Ok fit room_at r (suc l)) (deleted r k N (suc l)) k four_bytes ls (omega (arith, b)) k_low h.rooted.rises in
        omega (arith, w, b)

    pub delete_done : (Done g shape n k k_low c good present free s numbers at_n stays high) top.level
    unfolding delete_top delete_part Stays
    delete_done = by_le 2 (length (lists (suc c.level))) (λ q. kept_level (many c.level q))
        (λ q. by_le 1 c.level (λ i. lower i q) (λ i. kept_level (leaf_stays c.level i)))
      where
        many : (l : ℕ) → 2 ≤ length (lists (suc c.level)) → (Stays g shape n k k_low c good present) l (lists (suc c.level))
        many zero q = tt
        many (suc l) q = q

        leaf_stays : (l : ℕ) → l < 1 → (Stays g shape n k k_low c good present) l (lists (suc c.level))
        leaf_stays zero q = tt
        leaf_stays (suc l) q = absurd (omega arith)

        kept_level : (Stays g shape n k k_low c good present) c.level (lists (suc c.level))
            → (Done g shape n k k_low c good present free s numbers at_n stays high) (collapse r c.level (lists (suc c.level))).level
        kept_level h = let e : (collapse r c.level (lists (suc c.level))).level ≡ c.level =
            ap (λ (x : Top). x.level)
            (stays_top c.level (lists (suc c.level)) h) in rw e (stay h)

        lower : 1 ≤ c.level → length (lists (suc c.level)) < 2
            → (Done g shape n k k_low c good present free s numbers at_n stays high) (collapse r c.level (lists (suc c.level))).level
        lower i q =
            let t = collapse r c.level (lists (suc c.level)) in
            let z = ap length root_list_lem in
            let y = some_left c.level good.sound i in
            let x = top_low g shape n k k_low c good present in
            let w = drop c.level (lists (suc c.level)) good.sound root_list_lem i (omega (arith, q, z, y))
            (at_n (suc t.level) (omega arith) (omega (arith, x, high))
            ∙ rw (eq-eqb (suc t.level) (suc t.level) refl) refl) in
            (record { r2 = after_r2; sound = w.0 }, w.1, w.2)

  -- the root that is left is within the table: by the nodes that are the old ones but for N
  module _ (free : 1 ≤ count (g.pages * n) c.er) (high : suc c.level ≤ g.top) where
    abbrev s : Nodes
    s q j = pick (eqb q N) (left_list g n c k j) (r q j)

    s_n : (j : ℕ) → s N j ≡ left_list g n c k j
    s_n j = rw (eq-eqb N N refl) refl

    pub top_most : length top.list ≤ root_most g (suc top.level)
    unfolding delete_part
    top_most =
        let w = (delete_done free s c.seq (λ j _ _. s_n j) (λ q l h. rw (ne_eqb q N
        (λ z. new_side g (shape_core g shape) n c good.r2 1 free 1 l (omega arith) (omega arith)
        (subst (fit (suc l)) z h))) refl) high).0.sound.rooted.atmost in
        let e : s N (suc top.level) ≡ top.list =
        s_n (suc top.level) ∙ rw (eq-eqb (suc top.level) (suc top.level) refl) refl in
        subst (λ (x : List Entry). length x ≤ root_most g (suc top.level)) e w
