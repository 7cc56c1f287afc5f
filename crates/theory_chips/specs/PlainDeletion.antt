-- The plain tree's deletion on an abstract chip (request 12): R2, R5, R6 hold again, and the map is without K. Assumes
-- nothing.
use Rattle.std.specs.Prelude.{◌≡◌, Bool, eqb, leb, is_none}
use Rattle.std.proofs.Math.Path.{refl, ap, sym, subst}
use Rattle.std.proofs.Common.{◌∙◌, length-append}
use mathlib.Core.List.{List, [], ◌∷◌, ◌++◌}
use Rattle.std.proofs.Math.Bool.{true, false}
use Prim.Native.Nat.{ℕ, zero, suc, ◌+◌, ◌-◌, ◌*◌, ◌<◌, ◌≤◌}
use native.Mathlib.Omega.{arith}
use Rattle.std.proofs.Math.ListN.{length, get_or-append}
use borrow.Author.Tests.{eq-eqb, ne_eqb, le-leb, lt-leb}
use Rattle.geometry.specs.declared.Geometry.{Geometry}
use Rattle.geometry.specs.declared.Entry.{Entry}
use Rattle.geometry.specs.Tests.{pick, and_true, and_false, and_none}
use Rattle.geometry.specs.Geometry.{half, root_most}
use Rattle.geometry.specs.Shape.{Core}
use Rattle.geometry.specs.Bounds.{four_bytes}
use Rattle.model.specs.Count.{count}
use Rattle.model.specs.Image.{Nodes, Chip, the_root}
use Rattle.model.specs.Tree.{under, map_of, following, chosen, sought}
use Rattle.model.specs.Next.{ahead, nth, taken}
use Rattle.model.specs.Edit.{remove, remove_in, Top, collapse}
use Rattle.model.specs.Update.{root_node, delete_list}
use Rattle.model.specs.Plain.{kept_on, Plan, none_left, emptied, kept_page, plain_less, plain_top, kept_plans, delete_plans, plain_shrinks, plain_leaves}
use Rattle.theory_counts.specs.Tally.{count_most, count_same}
use Rattle.theory_counts.specs.Cases.{by_le, by_test, true_false}
use Rattle.theory_nodes.specs.Entries.{split}
use Rattle.theory_nodes.specs.Nodes.{Ok, the, fit_of}
use Rattle.theory_trees.specs.Edit.{splice_length, at_root}
use Rattle.theory_trees.specs.Delete.{deleted_on, none_left_lem, none_held}
use Rattle.theory_trees.specs.Proper.{Proper}
use Rattle.theory_trees.specs.Plain.{KeptHeld, KeptMade}
use Rattle.theory_trees.specs.PlainDelete.{plain_less_lem, plain_collapse}
use Rattle.theory_trees.specs.Path.{remove_as, root_is, on_path_top, made_from}
use Rattle.theory_chips.specs.Count.{count_all}
use Rattle.theory_chips.specs.Next.{R2, step}
use Rattle.theory_chips.specs.Whole.{some_page, Whole, some_entry}
use Rattle.theory_chips.specs.Pages.{side_inj, keep, fit_side, new_side}
use Rattle.theory_chips.specs.Deletion.{collapse_low}
use Rattle.theory_chips.specs.PlainEmptied.{path_length, none_same, some_left, left_some, count_tail, count_head, above_left, left_above}
use Rattle.theory_chips.specs.PlainPlans.{no_plan, plan_at, at_right, Empty, kept_length, kept_at}

-- a root that has two entries, or is a leaf, stays
collapse_stays : (r : Nodes) (l : ℕ) (cs : List Entry) → (1 ≤ l → 2 ≤ length cs)
    → collapse r l cs ≡ record { level = l; list = cs }
unfolding collapse
collapse_stays r zero cs h = refl
collapse_stays r (suc l) [] h = absurd (let w = h (omega arith) in omega (arith, w))
collapse_stays r (suc l) (x ∷ []) h = absurd (let w = h (omega arith) in omega (arith, w))
collapse_stays r (suc l) (x ∷ y ∷ cs) h = refl

collapse_falls : (r : Nodes) (l : ℕ) (cs : List Entry) → 1 ≤ l → length cs ≡ 1 → (collapse r l cs).level < l
unfolding collapse
collapse_falls r zero cs i one = absurd (omega (arith, i))
collapse_falls r (suc l) [] i one = absurd (omega (arith, one))
collapse_falls r (suc l) (x ∷ []) i one = let w = collapse_low r l (r x.addr (suc l)) in omega (arith, w)
collapse_falls r (suc l) (x ∷ y ∷ cs) i one = absurd (omega (arith, one))

module _ (g : Geometry) (core : Core g) (n k : ℕ) (k_low : k < four_bytes) (c : Chip) (good : Whole g n c)
    (present : is_none (sought c k) ≡ false) where
  abbrev r : Nodes
  r = c.nodes

  abbrev es : List Entry
  es = root_node c

  abbrev P : ℕ → ℕ
  P = kept_page g n c (emptied c k)

  abbrev lists : ℕ → List Entry
  lists = plain_less g n c k

  abbrev top : Top
  top = plain_top g n c k

  abbrev fit : ℕ → ℕ → Type 0
  fit = fit_of (g.pages * n) c.er

  abbrev room_at : ℕ → ℕ
  room_at l = 2 * half g l

  abbrev root_list : List Entry
  root_list = at_root (remove_in k) (deleted_on r k P c.level) k c.level es

  some_root : 0 < length es
  some_root = some_entry g n c good k k_low present

  root_list_lem : lists (suc c.level) ≡ root_list
  unfolding plain_less
  root_list_lem = on_path_top fit room_at r k (remove_in k) (λ e. remove k (e ∷ [])) (kept_on P) (remove_as k) c.level (the_root c)
      ∙ root_is fit room_at r k (remove_in k) (λ e. remove k (e ∷ [])) (kept_on P) (remove_as k) c.level four_bytes c.root k_low (λ _. some_root)
      good.sound.rooted.rises

  -- the emptied levels, counted with other pages, are those of these lists
  emptied_is : emptied c k ≡ count c.level (λ j. none_left (lists (suc j)))
  unfolding emptied plain_less delete_list
  emptied_is = count_same (λ j. none_left (delete_list c k 0 (suc j))) (λ j. none_left (lists (suc j))) c.level
      (λ i _. none_same (delete_list c k 0 (suc i)) (lists (suc i)) (path_length r k (λ _. 0) P c.level (the_root c) (suc i)))

  pub emptied_low : emptied c k ≤ c.level
  emptied_low = let w = count_most (λ j. none_left (lists (suc j))) c.level in omega (arith, w, emptied_is)

  -- a node that is left is above them
  left_high : (j : ℕ) → 1 ≤ j → j ≤ c.level → 1 ≤ length (lists j) → emptied c k < j
  unfolding plain_less
  left_high j b d h =
      let w = count_tail (j - 1) c.level (λ i. none_left (lists (suc i))) (λ i x y. some_left (lists (suc i)) (left_above fit room_at r k P
      c.level four_bytes (the_root c) k_low (λ _. some_root) good.sound.rooted.rises (suc i) j b (omega (arith, x)) (omega (arith, y)) h)) in
      omega (arith, w, emptied_is, b)

  -- one entry is left of a root above level 1: all below are emptied
  pub all_emptied : 1 ≤ c.level → length (lists (suc c.level)) ≡ 1 → emptied c k ≡ c.level
  unfolding plain_less
  all_emptied i one = emptied_is
      ∙ count_same (λ j. none_left (lists (suc j))) (λ _. true) c.level (λ j b. by_test (none_left (lists (suc j))) (λ z. z)
      (λ z. absurd (omega (
        arith,
        one,
        good.sound.rooted.least i,
        above_left fit room_at r k P c.level four_bytes (the_root c) k_low (λ _. some_root) good.sound.rooted.rises (suc j)
            (omega arith) (omega (arith, b)) (left_some (lists (suc j)) z),
      ))))
      ∙ count_all c.level

  -- the new root then goes to the next page
  first_page : 1 ≤ c.level → length (lists (suc c.level)) ≡ 1 → P (suc top.level) ≡ nth g.pages n
      (ahead g n c) 0
  unfolding plain_top kept_page
  first_page i one =
      let lo = collapse_low r c.level (lists (suc c.level)) in
      let all = all_emptied i one in
      ap (nth g.pages n (ahead g n c)) (let z : suc top.level - 1 - emptied c k ≡ 0 = omega (arith, lo, all) in z)

  -- the nodes s after m pages
  module _ (m : ℕ) (free : m ≤ count (g.pages * n) c.er) (s : Nodes) (numbers : ℕ → ℕ)
      (stays : (q l : ℕ) → fit (suc l) q → s q (suc l) ≡ r q (suc l)) where
    abbrev er' : ℕ → Bool
    er' = (taken g.pages n (ahead g n c) m).er

    abbrev fit' : ℕ → ℕ → Type 0
    fit' = fit_of (g.pages * n) er'

    abbrev Done : ℕ → ℕ → Type 0
    Done l p = Whole g n (record { er = er'; seq = numbers; nodes = s; level = l; root = p }) × (under s (suc l) (the p) ≡ remove k (map_of c))

    after_r2 : R2 g.pages n er'
    after_r2 = (step g.pages n (ahead g n c) (some_page g core) good.r2 m free).r2

    -- the i-th page to come, i below m
    abbrev Coming : ℕ → ℕ → Type 0
    Coming i q = (i < m) × (q ≡ nth g.pages n (ahead g n c) i)

    coming_fits : (i l q : ℕ) → Coming i q → fit' l q
    coming_fits i l q h = subst (fit' l) (sym h.1) (fit_side g core n c good.r2 m free (suc i) l (omega arith) (omega (arith, h.0)))

    coming_new : (i l q : ℕ) → Coming i q → fit (suc l) q → ⊥
    coming_new i l q h f = new_side g core n c good.r2 m free (suc i) l (omega arith) (omega (arith, h.0)) (subst (fit (suc l)) h.1 f)

    coming_apart : (i j q : ℕ) → Coming i q → Coming j q → i ≡ j
    coming_apart i j q h u =
        let e = side_inj g core n c good.r2 m free (suc i) (suc j) (omega arith) (omega (arith, h.0)) (omega arith) (omega (arith, u.0))
        (sym h.1 ∙ u.1) in omega (arith, e)

    -- the root stays at its level
    module _ (pages : m ≡ suc c.level - emptied c k) (at : (j : ℕ) → 1 ≤ j → j ≤ c.level → 1 ≤ length (lists j)
        → s (P j) j ≡ lists j)
        (at_root_lem : s (P (suc c.level)) (suc c.level) ≡ lists (suc c.level)) where
      -- the new page of level l
      abbrev N : ℕ → ℕ → Type 0
      N l q = (emptied c k < l) × (l ≤ suc c.level) × (q ≡ P l)

      coming : (l q : ℕ) → N l q → Coming (l - 1 - emptied c k) q
      unfolding kept_page
      coming l q h = (omega (arith, h.0, h.1, pages), h.2)

      alone : (i j p : ℕ) → N i p → N j p → i ≡ j
      alone i j p x y = let e = coming_apart (i - 1 - emptied c k) (j - 1 - emptied c k) p (coming i p x) (coming j p y) in omega (arith, e, x.0, y.0)

      fits : (i l q : ℕ) → N i q → fit' l q
      fits i l q h = coming_fits (i - 1 - emptied c k) l q (coming i q h)

      fresh : (i l q : ℕ) → N i q → fit (suc l) q → ⊥
      fresh i l q h = coming_new (i - 1 - emptied c k) l q (coming i q h)

      made : KeptMade r s k P fit' N c.level (chosen k es)
      unfolding plain_less
      made = made_from fit room_at r k (remove_in k) (λ e. remove k (e ∷ [])) (kept_on P) (remove_as k) (λ j d. KeptHeld P s fit' N j (the_root c) d) c.level
          four_bytes (the_root c) k_low (λ _. some_root) good.sound.rooted.rises
          (λ j b d h. let x : N j (P j) = (left_high j b d h, omega (arith, d), refl) in
          (at j b d h, fits j j (P j) x, x))

      pub less : (1 ≤ c.level → 2 ≤ length (lists (suc c.level))) → Done c.level (P (suc c.level))
      less b =
          let l = c.level in
          let nn : N (suc l) (P (suc l)) = (omega (arith, emptied_low), omega arith, refl) in
          let w = plain_less_lem k P four_bytes (half g) (root_most g) r s fit fit' N (keep g core n c good.r2 m free) stays k_low alone fresh l c.root
          good.sound made (at_root_lem ∙ root_list_lem) (fits (suc l) (suc l) (P (suc l)) nn) nn
          (λ i. let z = b i in let u = ap length root_list_lem in omega (arith, z, u)) in
          (record { r2 = after_r2; sound = w.0 }, w.1)

    wide : (j : ℕ) → room_at j ≤ root_most g j
    wide j = let z = core.fits j in let w = core.even j in omega (arith, z, w)

    -- one entry is left of a root above level 1: the new root, an old list, stands on q
    drop : (lv : ℕ) (xs : List Entry) → Proper fit room_at (root_most g) four_bytes r lv c.root
        → xs ≡ at_root (remove_in k) (deleted_on r k P lv) k lv (r c.root (suc lv)) → 1 ≤ lv → length xs ≡ 1
        → Coming 0 (P (suc (collapse r lv xs).level)) → s (P (suc (collapse r lv xs).level))
        (suc (collapse r lv xs).level) ≡ (collapse r lv xs).list
        → Proper fit' room_at (root_most g) four_bytes s (collapse r lv xs).level (P (suc (collapse r lv xs).level)) ×
        (under s (suc (collapse r lv xs).level) (the (P (suc (collapse r lv xs).level))) ≡ remove k (under r (suc lv) (the c.root)))
    unfolding at_root
    drop zero xs h e i one = absurd (omega (arith, i))
    drop (suc l) xs h e i one =
        let ls = r c.root (suc (suc l)) in
        let b = h.rooted.least (omega arith) in
        let sp = split (Ok fit room_at r (suc l)) k four_bytes ls (omega (arith, b)) k_low h.rooted.rises in
        let w = splice_length (Ok fit room_at r (suc l)) (deleted_on r k P (suc l)) k four_bytes ls (omega (arith, b)) k_low h.rooted.rises in
        let z = ap length e in
        let t = collapse r (suc l) (at_root (remove_in k) (deleted_on r k P (suc l)) k (suc l) ls) in
        let N : ℕ → ℕ → Type 0 = λ l q. (l ≡ suc t.level) × Coming 0 q in
        let made : KeptMade r s k P fit' N (suc l) (chosen k ls) = none_held k P (half g) r fit (KeptHeld P s fit' N)
        (λ l e c i j. absurd (omega (arith, i, j))) (suc l) (following sp.post four_bytes) (chosen k ls) sp.under sp.here
        (none_left_lem (deleted_on r k P (suc l) (chosen k ls)) (omega (arith, w, z, one, b))) in
        let one' : length (at_root (remove_in k) (deleted_on r k P (suc l)) k (suc l) ls) ≡ 1 = omega (arith, z, one) in
        subst (λ (x : List Entry). Coming 0 (P (suc (collapse r (suc l) x).level))
        → s (P (suc (collapse r (suc l) x).level)) (suc (collapse r (suc l) x).level) ≡ (collapse r (suc l) x).list
        → Proper fit' room_at (root_most g) four_bytes s (collapse r (suc l) x).level
        (P (suc (collapse r (suc l) x).level)) ×
        (under s (suc (collapse r (suc l) x).level) (the (P (suc (collapse r (suc l) x).level))) ≡ remove k (under r (suc (suc l)) (the c.root))))
        (sym e)
        (λ first at. plain_collapse k P four_bytes (half g) (root_most g) r s fit fit' N (keep g core n c good.r2 m free) stays k_low
        (λ i j p x y. x.0 ∙ sym y.0) (λ i l q x. coming_new 0 l q x.1) wide l c.root h made one' at
        (coming_fits 0 (suc t.level) (P (suc t.level)) first) (refl, first))

    pub fall : 1 ≤ m → 1 ≤ c.level → length (lists (suc c.level)) ≡ 1 → s (P (suc top.level)) (suc top.level)
        ≡ top.list
        → Done top.level (P (suc top.level))
    unfolding plain_top
    fall some i one at =
        let w = drop c.level (lists (suc c.level)) good.sound root_list_lem i one (omega (arith, some), first_page i one) at in
        (record { r2 = after_r2; sound = w.0 }, w.1)

  -- ---- the same by the plan of pages
  abbrev plans : List Plan
  plans = delete_plans g n c k

  abbrev root_plan : Top → Plan
  root_plan t = record { level = suc t.level; list = t.list }

  abbrev Stays : Type 0
  Stays = 1 ≤ c.level → 2 ≤ length (lists (suc c.level))

  pub top_stays : Stays → top ≡ record { level = c.level; list = lists (suc c.level) }
  unfolding plain_top
  top_stays h = collapse_stays r c.level (lists (suc c.level)) h

  pub top_falls : 1 ≤ c.level → length (lists (suc c.level)) ≡ 1 → top.level < c.level
  unfolding plain_top
  top_falls i one = collapse_falls r c.level (lists (suc c.level)) i one

  pub stay_plans : Stays → plans ≡ kept_plans lists c.level ++ (root_plan top ∷ [])
  unfolding delete_plans
  stay_plans h = rw (eq-eqb top.level c.level (ap (λ (x : Top). x.level) (top_stays h))) refl

  pub fall_plans : 1 ≤ c.level → length (lists (suc c.level)) ≡ 1 → plans ≡ root_plan top ∷ []
  unfolding delete_plans
  fall_plans i one = rw (ne_eqb top.level c.level (λ z. let w = top_falls i one in omega (arith, z, w))) refl

  -- the emptied levels are the lowest
  pub empties : (j : ℕ) → 1 ≤ j → j ≤ c.level → Empty lists (emptied c k) j
  unfolding plain_less
  empties j b d = (
    (λ t. let w = count_head j c.level (λ i. none_left (lists (suc i))) d (λ i x. by_test (none_left (lists (suc i))) (λ z. z)
        (λ z. absurd (true_false (none_left (lists j)) t (some_left (lists j) (left_above fit room_at r k P c.level four_bytes (the_root c) k_low
        (λ _. some_root) good.sound.rooted.rises j (suc i) (omega arith) (omega (arith, x)) d (left_some (lists (suc i)) z)))))) in
        omega (arith, w, emptied_is)),
    (λ h. by_test (none_left (lists j)) (λ z. z) (λ z. absurd (let w = left_high j b d (left_some (lists j) z) in
        omega (arith, w, h)))),
  )

  pub kept_count : length (kept_plans lists c.level) ≡ c.level - emptied c k
  kept_count = kept_length lists (emptied c k) c.level empties

  pub stay_count : Stays → length plans ≡ suc c.level - emptied c k
  stay_count h = let e = ap length (stay_plans h) in let w =
      length-append (kept_plans lists c.level) (root_plan top ∷ []) in
      omega (arith, e, w, kept_count, emptied_low)

  -- a root above level 1 keeps an entry
  root_left : (lv : ℕ) → Proper fit room_at (root_most g) four_bytes r lv c.root → 1 ≤ lv
      → 1 ≤ length (at_root (remove_in k) (deleted_on r k P lv) k lv (r c.root (suc lv)))
  unfolding at_root
  root_left zero h i = absurd (omega (arith, i))
  root_left (suc l) h i =
      let ls = r c.root (suc (suc l)) in
      let b = h.rooted.least (omega arith) in
      let w = splice_length (Ok fit room_at r (suc l)) (deleted_on r k P (suc l)) k four_bytes ls (omega (arith, b)) k_low h.rooted.rises in
      omega (arith, w, b)

  -- the root stays, or one entry is left of it
  pub by_root : {C : Type 0} → (Stays → C) → (1 ≤ c.level → length (lists (suc c.level)) ≡ 1 → C) → C
  by_root f h = by_le 1 c.level
      (λ i. by_le 2 (length (lists (suc c.level))) (λ q. f (λ _. q))
      (λ q. h i (let z = root_left c.level good.sound i in let w = ap length root_list_lem in
      omega (arith, z, w, q))))
      (λ i. f (λ z. absurd (omega (arith, i, z))))

  -- as many as the pages that the deletion leaves
  root_size : length (delete_list c k 0 (suc c.level)) ≡ length (lists (suc c.level))
  unfolding delete_list plain_less
  root_size = path_length r k (λ _. 0) P c.level (the_root c) (suc c.level)

  pub plans_count : length plans ≡ plain_leaves c k
  unfolding plain_leaves plain_shrinks
  plans_count = by_root
      (λ h. stay_count h ∙ let e : plain_shrinks c k ≡ false = not_shrinks h in let w = emptied_low in
      rw e (omega (arith, w)))
      (λ i one. let x = ap length (fall_plans i one) in
      rw (
        le-leb 1 c.level i,
        eq-eqb (length (delete_list c k 0 (suc c.level))) 1 (root_size
            ∙ one),
        and_true true,
      ) x)
    where
      not_shrinks : Stays → plain_shrinks c k ≡ false
      not_shrinks h = by_le 1 c.level
          (λ i. rw (ne_eqb (length (delete_list c k 0 (suc c.level))) 1 (λ z. let w = h i in let y = root_size in
          omega (arith, z, w, y))) (and_none (leb 1 c.level)))
          (λ i. rw (lt-leb 1 c.level i) (and_false (eqb (length (delete_list c k 0 (suc c.level))) 1)))

  -- the new root that was a node below is within the table: by the nodes that are the old ones but for its page
  pub fall_most : 1 ≤ count (g.pages * n) c.er → 1 ≤ c.level → length (lists (suc c.level)) ≡ 1
      → length top.list ≤ root_most g (suc top.level)
  fall_most free i one =
      let q = P (suc top.level) in
      let s : Nodes = λ p j. pick (eqb p q) top.list (r p j) in
      let here : (j : ℕ) → s q j ≡ top.list = λ j. rw (eq-eqb q q refl) refl in
      let stays : (p l : ℕ) → fit (suc l) p → s p (suc l) ≡ r p (suc l) =
      λ p l h. rw (ne_eqb p q (λ z. new_side g core n c good.r2 1 free 1 l
      (omega arith) (omega arith) (subst (fit (suc l)) (z ∙ first_page i one) h))) refl in
      let w = (fall 1 free s c.seq stays (omega arith) i one (here (suc top.level))).0.sound.rooted.atmost in
      subst (λ (x : List Entry). length x ≤ root_most g (suc top.level)) (here (suc top.level)) w

  -- the last plan is the root's
  last_plan : (i : ℕ) → length plans ≡ suc i → plan_at plans i ≡ root_plan top
  last_plan i e = by_root
      (λ h.
      let z = stay_count h in
      let at : c.level - emptied c k + 0 ≡ i = omega (arith, z, e, emptied_low) in
      ap (plan_at plans) (sym at) ∙ ap (λ ps. plan_at ps (c.level - emptied c k + 0)) (stay_plans h)
      ∙ at_right (kept_plans lists c.level) (root_plan top ∷ []) (c.level - emptied c k) 0 kept_count)
      (λ l one.
      let x = ap length (fall_plans l one) in
      let at : 0 ≡ i = omega (arith, x, e) in
      ap (plan_at plans) (sym at) ∙ ap (λ ps. plan_at ps 0) (fall_plans l one))

  last_page : (i : ℕ) → length plans ≡ suc i → P (suc top.level) ≡ nth g.pages n (ahead g n c) i
  unfolding kept_page
  last_page i e = by_root
      (λ h.
      let z = stay_count h in
      let y = ap (λ (x : Top). x.level) (top_stays h) in
      ap (nth g.pages n (ahead g n c)) (let w : suc top.level - 1 - emptied c k ≡ i =
      omega (arith, z, y, e, emptied_low) in w))
      (λ l one.
      let x = ap length (fall_plans l one) in
      first_page l one ∙ ap (nth g.pages n (ahead g n c)) (let w : 0 ≡ i = omega (arith, x, e) in w))

  -- the i-th plan's node stands on the i-th page to come
  module _ (free : length plans ≤ count (g.pages * n) c.er) (s : Nodes)
      (placed : (i : ℕ) → i < length plans → s (nth g.pages n (ahead g n c) i) (plan_at plans i).level ≡ (plan_at plans
      i).list)
      (stays : (q l : ℕ) → fit (suc l) q → s q (suc l) ≡ r q (suc l)) (numbers : ℕ → ℕ) where
    abbrev Deleted : ℕ → ℕ → Type 0
    Deleted l p = Whole g n (record { er = (taken g.pages n (ahead g n c) (length plans)).er; seq = numbers; nodes = s; level = l; root = p }) ×
        (under s (suc l) (the p) ≡ remove k (map_of c))

    at_plan : (q i : ℕ) (p : Plan) → i < length plans → q ≡ nth g.pages n (ahead g n c) i → plan_at plans i ≡ p
        → s q p.level ≡ p.list
    at_plan q i p b z e = subst (λ (x : Plan). s q x.level ≡ x.list) e
        (subst (λ y. s y (plan_at plans i).level ≡ (plan_at plans i).list) (sym z) (placed i b))

    kept_on_lem : Stays → (j : ℕ) → 1 ≤ j → j ≤ c.level → 1 ≤ length (lists j) → s (P j) j ≡ lists j
    unfolding kept_page
    kept_on_lem h zero b d u = absurd (omega (arith, b))
    kept_on_lem h (suc l) b d u =
        let v = emptied c k in
        let w = left_high (suc l) b d u in
        at_plan (P (suc l)) (l - v) (record { level = suc l; list = lists (suc l) }) (let z = stay_count h in
        omega (arith, z, d, w))
        (ap (nth g.pages n (ahead g n c)) (let z : suc l - 1 - v ≡ l - v = omega arith in z))
        (ap (λ ps. plan_at ps (l - v)) (stay_plans h)
        ∙ get_or-append (kept_plans lists c.level) (root_plan top ∷ []) no_plan (l - v) (omega (arith, kept_count, d, w))
        ∙ kept_at lists v c.level l empties d (omega (arith, w)))

    root_on : Stays → s (P (suc c.level)) (suc c.level) ≡ lists (suc c.level)
    unfolding kept_page
    root_on h =
        let v = emptied c k in
        at_plan (P (suc c.level)) (c.level - v + 0) (record { level = suc c.level; list = lists (suc c.level) })
        (let z = stay_count h in omega (arith, z, emptied_low))
        (ap (nth g.pages n (ahead g n c)) (let z : suc c.level - 1 - v ≡ c.level - v + 0 = omega arith in z))
        (ap (λ ps. plan_at ps (c.level - v + 0)) (stay_plans h)
        ∙ at_right (kept_plans lists c.level) (root_plan top ∷ []) (c.level - v) 0 kept_count
        ∙ ap root_plan (top_stays h))

    planned_less : Stays → Deleted c.level (P (suc c.level))
    planned_less h = less (length plans) free s numbers stays (stay_count h) (kept_on_lem h) (root_on h) h

    planned_fall : 1 ≤ c.level → length (lists (suc c.level)) ≡ 1 → Deleted top.level (P (suc top.level))
    planned_fall i one =
        let e = fall_plans i one in
        let x = ap length e in
        fall (length plans) free s numbers stays (omega (arith, x)) i one
        (at_plan (P (suc top.level)) 0 (root_plan top) (omega (arith, x)) (first_page i one) (ap (λ ps. plan_at ps 0) e))

    planned : Deleted top.level (P (suc top.level))
    planned = by_root (λ h. subst (λ l. Deleted l (P (suc l))) (sym (ap (λ (x : Top). x.level) (top_stays h))) (planned_less h)) planned_fall

    -- the root stands on the last page, i
    module _ (i : ℕ) (last : length plans ≡ suc i) where
      abbrev Final : ℕ → ℕ → ℕ → Type 0
      Final j l p = Whole g n (record { er = (taken g.pages n (ahead g n c) j).er; seq = numbers; nodes = s; level = l; root = p }) ×
          (under s (suc l) (the p) ≡ remove k (map_of c))

      pub planned_last : Final (suc i) ((plan_at plans i).level - 1) (nth g.pages n (ahead g n c) i)
      planned_last =
          let x = ap (λ (p : Plan). p.level) (last_plan i last) in
          let z : top.level ≡ (plan_at plans i).level - 1 = omega (arith, x) in
          subst (λ j. Final j ((plan_at plans i).level - 1) (nth g.pages n (ahead g n c) i)) last
          (subst (λ q. Final (length plans) ((plan_at plans i).level - 1) q) (last_page i last)
          (subst (λ j. Final (length plans) j (P (suc top.level))) z planned))
