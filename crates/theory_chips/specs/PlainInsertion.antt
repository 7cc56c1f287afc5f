-- The plain tree's insertion on an abstract chip (request 12): R2, R5, R6 hold again, and the map has K. Assumes
-- nothing.
use Rattle.std.specs.Prelude.{◌≡◌, List, [], ◌∷◌, Bool, true, false, ◌⊎◌, is_none}
use Rattle.std.proofs.Math.Path.{refl, ap, subst}
use Rattle.std.proofs.Common.{sym, ◌∙◌}
use Rattle.std.proofs.Math.Logic.{inl, inr}
use Prim.Native.Nat.{ℕ, zero, suc, ◌+◌, ◌-◌, ◌*◌, min, ◌<◌, ◌≤◌}
use native.Mathlib.Omega.{arith}
use Rattle.std.proofs.Math.ListN.{length, take, drop, length-append, get_or-append}
use borrow.Author.Tests.{eqb-true, eq-eqb, le-leb, lt-leb}
use Rattle.geometry.specs.declared.Geometry.{Geometry}
use Rattle.geometry.specs.declared.Entry.{Entry}
use Rattle.geometry.specs.Tests.{bit, and_left, and_right, and_both}
use Rattle.geometry.specs.Geometry.{half, root_most}
use Rattle.geometry.specs.Shape.{Core}
use Rattle.geometry.specs.Bounds.{four_bytes}
use Rattle.model.specs.Count.{count}
use Rattle.model.specs.Image.{Nodes, Chip, the_root}
use Rattle.model.specs.Tree.{under, map_of, following, chosen, find, sought}
use Rattle.model.specs.Next.{ahead, nth, taken}
use Rattle.model.specs.Edit.{put, put_in, gains, splits}
use Rattle.model.specs.Update.{root_node}
use Rattle.model.specs.Plain.{both, renewed, Plan, plain_cuts, plain_grows, left_page, right_page, plain_list, level_plans, plans_to, crown_plans, insert_plans}
use Rattle.theory_counts.specs.Tally.{bit_most}
use Rattle.theory_counts.specs.Cases.{by_eq, by_le, by_test, true_false}
use Rattle.theory_nodes.specs.Nodes.{the, fit_of}
use Rattle.theory_trees.specs.Edit.{at_root}
use Rattle.theory_trees.specs.Plain.{renews, RenewHeld, RenewMade}
use Rattle.theory_trees.proofs.PlainInsert.{plain_stay, plain_grow}
use Rattle.theory_trees.specs.Path.{put_as, root_is, on_path_top, made_from}
use Rattle.theory_trees.specs.Cuts.{root_size, splits_are, splits_le, all_below}
use Rattle.theory_chips.specs.Next.{R2, step}
use Rattle.theory_chips.specs.Whole.{some_page, Whole, sought_map}
use Rattle.theory_chips.specs.Pages.{side_inj, keep, fit_side, new_side}
use Rattle.theory_chips.specs.PlainPlans.{no_plan, plan_at, at_right, Cut, whole_plan, half_plans, level_length, plans_length, plans_at}

-- the pages that the insertion needs
abbrev pub insert_pages : Geometry → Chip → ℕ → ℕ
insert_pages g c k = suc c.level + plain_cuts g c k + bit (plain_grows g c k)

module _ (g : Geometry) (core : Core g) (n k a : ℕ) (k_low : k < four_bytes) (c : Chip) (good : Whole g n c)
    (narrow : root_most g (suc c.level) ≡ 2 * half g (suc c.level)) (some_half : 1 ≤ half g (suc c.level))
    (two-most : 2 ≤ root_most g (suc (suc c.level))) where
  abbrev r : Nodes
  r = c.nodes

  abbrev es : List Entry
  es = root_node c

  abbrev absent : Bool
  absent = is_none (sought c k)

  abbrev cuts : ℕ
  cuts = plain_cuts g c k

  abbrev grows : Bool
  grows = plain_grows g c k

  abbrev gained : Bool
  gained = gains r k (half g) absent c.level (chosen k es)

  abbrev L : ℕ → ℕ
  L = left_page g n c cuts

  abbrev R : ℕ → ℕ
  R = right_page g n c cuts

  abbrev fit : ℕ → ℕ → Type 0
  fit = fit_of (g.pages * n) c.er

  abbrev room_at : ℕ → ℕ
  room_at l = 2 * half g l

  abbrev lists : ℕ → List Entry
  lists = plain_list g n c k a

  abbrev m : ℕ
  m = insert_pages g c k

  some_root : 1 ≤ c.level → 0 < length es
  some_root i = let z = good.sound.rooted.least i in omega (arith, z)

  absent_is : is_none (find k (under r (suc c.level) (the_root c))) ≡ absent
  absent_is = ap is_none (sym (sought_map g n c good k k_low))

  abbrev root_list : List Entry
  root_list = at_root (put_in k a) (renews r k a L R (half g) c.level) k c.level es

  pub root_list_lem : lists (suc c.level) ≡ root_list
  unfolding plain_list
  root_list_lem = on_path_top fit room_at r k (put_in k a) (λ e. put k a (e ∷ [])) (renewed k L R (half g)) (put_as k a) c.level (the_root c)
      ∙ root_is fit room_at r k (put_in k a) (λ e. put k a (e ∷ [])) (renewed k L R (half g)) (put_as k a) c.level four_bytes c.root k_low some_root
      good.sound.rooted.rises

  root_length : length root_list ≡ length es + bit gained
  unfolding under
  root_length = root_size k a L (λ l _. L l) (λ l _. R l) (half g) r fit absent c.level four_bytes es some_root k_low
      good.sound.rooted.rises absent_is

  -- the root splits exactly if it would hold one entry too many
  pub grow_long : grows ≡ true → length root_list ≡ suc (room_at (suc c.level))
  unfolding plain_grows gains
  grow_long e =
      let x = eqb-true (length es) (room_at (suc c.level)) (and_left _ _ e) in
      let y = ap bit (and_right _ _ e) in
      omega (arith, root_length, x, y)

  pub stay_short : grows ≡ false → length root_list ≤ room_at (suc c.level)
  unfolding plain_grows gains
  stay_short e = by_test gained
      (λ z. by_eq (length es) (room_at (suc c.level))
      (λ y. absurd (true_false _ (and_both _ _ (eq-eqb (length es) (room_at (suc c.level)) y) z) e))
      (λ y. let w = good.sound.rooted.atmost in omega (arith, root_length, narrow, w, y, bit_most gained)))
      (λ z. let w = good.sound.rooted.atmost in omega (arith, root_length, narrow, w, ap bit z))

  cuts_low : cuts ≤ suc c.level
  unfolding plain_cuts
  cuts_low = splits_le k (half g) r absent (suc c.level) (the_root c)

  grow_cuts : grows ≡ true → cuts ≡ suc c.level
  unfolding plain_cuts plain_grows
  grow_cuts e = all_below k (half g) r absent (suc c.level) (the_root c) e

  -- the levels that split are 1 to cuts
  pub cut_levels : (j : ℕ) → 1 ≤ j → j ≤ suc c.level → Cut g lists cuts j
  unfolding plain_list plain_cuts plain_grows splits gains
  cut_levels j b d = by_le j c.level
      (λ q. let w = splits_are k a L (λ l _. L l) (λ l _. R l) (half g) r fit absent c.level four_bytes (the_root c) k_low some_root
      good.sound.rooted.rises absent_is j b q in (
        (λ h. let x = w.0 h in omega (arith, x)),
        (λ h. w.1 (by_test grows
            (λ t. let x = all_below k (half g) r absent c.level (chosen k es) (and_right _ _ t) in
            omega (arith, x, q))
            (λ t. let x = ap bit t in omega (arith, x, h)))),
      ))
      (λ q. let e : suc c.level ≡ j = omega (arith, d, q) in subst (Cut g lists cuts) e top_cut)
    where
      len : length (lists (suc c.level)) ≡ length root_list
      len = ap length root_list_lem

      top_cut : Cut g lists cuts (suc c.level)
      top_cut = (
        (λ h. by_test grows (λ t. let x = grow_cuts t in omega (arith, x)) (λ t. absurd (let x = stay_short t in
            omega (arith, x, h, len)))),
        (λ h. by_test grows (λ t. let x = grow_long t in omega (arith, x, len))
            (λ t. absurd (let x = splits_le k (half g) r absent c.level (chosen k es) in let y = ap bit t in
            omega (arith, x, y, h)))),
      )

  cut_level : (j : ℕ) → 1 ≤ j → j ≤ c.level → room_at j < length (lists j) → j ≤ cuts
  cut_level j b d = (cut_levels j b (omega (arith, d))).0

  module _ (free : m ≤ count (g.pages * n) c.er) (s : Nodes)
      (whole : (j : ℕ) → 1 ≤ j → j ≤ suc c.level → length (lists j) ≤ room_at j → s (L j) j ≡ lists j)
      (halves : (j : ℕ) → 1 ≤ j → j ≤ suc c.level → room_at j < length (lists j)
      → (s (L j) j ≡ take (half g j) (lists j)) ×
      (s (R j) j ≡ drop (half g j) (lists j)))
      (crown : grows ≡ true → s (L (suc (suc c.level))) (suc (suc c.level)) ≡ both (L (suc c.level))
      (R (suc c.level))
      (half g (suc c.level)) (following (lists (suc c.level)) 0) (lists (suc c.level)))
      (stays : (q l : ℕ) → fit (suc l) q → s q (suc l) ≡ r q (suc l)) (numbers : ℕ → ℕ) where
    abbrev er' : ℕ → Bool
    er' = (taken g.pages n (ahead g n c) m).er

    abbrev fit' : ℕ → ℕ → Type 0
    fit' = fit_of (g.pages * n) er'

    -- the new pages of level l
    abbrev N : ℕ → ℕ → Type 0
    N l q = (1 ≤ l) × (l ≤ suc c.level + bit grows) × ((q ≡ L l) ⊎ ((l ≤ cuts) × (q ≡ R l)))

    -- their places among the pages to come
    abbrev At : ℕ → ℕ → Type 0
    At l q = (i : ℕ) × (q ≡ nth g.pages n (ahead g n c) i) × (i < m) × (l - 1 + min (l - 1) cuts ≤ i) × (i ≤ l + min (l - 1) cuts) ×
        (l - 1 + min (l - 1) cuts < i → l ≤ cuts)

    place : (l q : ℕ) → N l q → At l q
    unfolding left_page right_page
    place l q (b, d, inl e) = (l - 1 + min (l - 1) cuts, e, low, omega arith, omega (arith, b), λ z. absurd (omega (arith, z)))
      where
        low : l - 1 + min (l - 1) cuts < suc c.level + cuts + bit grows
        low = by_test grows (λ t. let w = grow_cuts t in
            omega (arith, b, d, w, ap bit t)) (λ t. omega (arith, b, d, ap bit t))
    place l q (b, d, inr e) = (l - 1 + min l cuts, e.1, omega (arith, b, e.0, cuts_low), omega (arith, b, e.0), omega (arith, b, e.0), λ z. e.0)

    apart : (i j : ℕ) → i < m → j < m → nth g.pages n (ahead g n c) i ≡ nth g.pages n (ahead g n c) j → i ≡ j
    apart i j x y e = let w = side_inj g core n c good.r2 m free (suc i) (suc j) (omega arith) (omega (arith, x)) (omega arith) (omega (arith, y)) e in
        omega (arith, w)

    alone : (i j p : ℕ) → N i p → N j p → i ≡ j
    alone i j p x y =
        let u = place i p x in
        let v = place j p y in
        let e = apart u.0 v.0 u.2 v.2 (sym u.1 ∙ v.1) in
        by_le (suc i) j (λ z. absurd (less i j u.0 v.0 z u.4 v.3 e x.0 u.5)) (λ z.
        by_le (suc j) i (λ w. absurd (less j i v.0 u.0 w v.4 u.3 (sym e) y.0 v.5)) (λ w. omega (arith, z, w)))
      where
        -- a lower level's pages come before
        less : (i j u v : ℕ) → i < j → u ≤ i + min (i - 1) cuts → j - 1 + min (j - 1) cuts ≤ v → u ≡ v → 1 ≤ i
            → (i - 1 + min (i - 1) cuts < u → i ≤ cuts) → ⊥
        less i j u v z x y e b f = by_le u (i - 1 + min (i - 1) cuts) (λ w. omega (arith, z, w, y, e, b))
            (λ w. let h = f w in omega (arith, z, x, y, e, b, h))

    fresh : (i l q : ℕ) → N i q → fit (suc l) q → ⊥
    fresh i l q h f = let u = place i q h in
        new_side g core n c good.r2 m free (suc u.0) l (omega arith) (omega (arith, u.2)) (subst (fit (suc l)) u.1 f)

    fits : (i l q : ℕ) → N i q → fit' l q
    fits i l q h = let u = place i q h in
        subst (fit' l) (sym u.1) (fit_side g core n c good.r2 m free (suc u.0) l (omega arith) (omega (arith, u.2)))

    new_left : (j : ℕ) → 1 ≤ j → j ≤ suc c.level + bit grows → N j (L j)
    new_left j b d = (b, d, inl refl)

    made : RenewMade r s k a L R (half g) fit' N c.level (chosen k es)
    unfolding plain_list
    made = made_from fit room_at r k (put_in k a) (λ e. put k a (e ∷ [])) (renewed k L R (half g)) (put_as k a)
        (λ j d. RenewHeld L R (half g) s fit' N j (the_root c) d) c.level four_bytes (the_root c) k_low some_root good.sound.rooted.rises
        (λ j b d. let x = new_left j b (omega (arith, d)) in (
          (λ h. (whole j b (omega (arith, d)) h, fits j j (L j) x, x)),
          (λ h. let y : N j (R j) = (b, omega (arith, d), inr (cut_level j b d h, refl)) in let z =
              halves j b (omega (arith, d)) h in
              ((z.0, z.1, fits j j (L j) x, fits j j (R j) y), x, y)),
        ))

    after_r2 : R2 g.pages n er'
    after_r2 = (step g.pages n (ahead g n c) (some_page g core) good.r2 m free).r2

    abbrev Done : ℕ → ℕ → Type 0
    Done l p = Whole g n (record { er = er'; seq = numbers; nodes = s; level = l; root = p }) × (under s (suc l) (the p) ≡ put k a (map_of c))

    pub stay : grows ≡ false → Done c.level (L (suc c.level))
    stay e =
        let l = c.level in
        let short = stay_short e in
        let nn = new_left (suc l) (omega arith) (omega arith) in
        let here : s (L (suc l)) (suc l) ≡ root_list = whole (suc l) (omega arith) (omega arith) (let w =
        ap length root_list_lem in omega (arith, w, short))
        ∙ root_list_lem in
        let w = plain_stay k a four_bytes L R (half g) (root_most g) r s fit fit' N tt (keep g core n c good.r2 m free)
        stays k_low alone fresh l c.root (L (suc l)) good.sound
        made here (fits (suc l) (suc l) (L (suc l)) nn) nn (omega (arith, short, narrow)) in
        (record { r2 = after_r2; sound = w.0 }, w.1)

    pub grow : grows ≡ true → Done (suc c.level) (L (suc (suc c.level)))
    grow e =
        let l = c.level in
        let h = half g (suc l) in
        let long = grow_long e in
        let cu = grow_cuts e in
        let hs = halves (suc l) (omega arith) (omega arith) (let w = ap length root_list_lem in omega (arith, w, long)) in
        let nx = new_left (suc l) (omega arith) (omega arith) in
        let ny : N (suc l) (R (suc l)) = (omega arith, omega arith, inr (omega (arith, cu), refl)) in
        let nn = new_left (suc (suc l)) (omega arith) (omega (arith, ap bit e)) in
        let cr : s (L (suc (suc l))) (suc (suc l)) ≡ both (L (suc l)) (R (suc l)) h (following root_list 0) root_list =
        crown e ∙ ap (λ x. both (L (suc l)) (R (suc l)) h (following x 0) x) root_list_lem in
        let w = plain_grow k a four_bytes L R (half g) (root_most g) r s fit fit' N tt (keep g core n c good.r2 m free)
        stays k_low alone fresh l c.root (L (suc (suc l)))
        (L (suc l)) (R (suc l)) good.sound made
        (hs.0 ∙ ap (take h) root_list_lem, hs.1 ∙ ap (drop h) root_list_lem, fits (suc l) (suc l) (L (suc l)) nx, fits (suc l) (suc l) (R (suc l)) ny) nx ny
        cr (fits (suc (suc l)) (suc (suc l)) (L (suc (suc l))) nn) nn some_half (omega (arith, long)) (omega (arith, long, some_half)) two-most in
        (record { r2 = after_r2; sound = w.0 }, w.1)

  -- ---- the same by the plan of pages
  abbrev plans : List Plan
  plans = insert_plans g n c k a

  abbrev root_plans : List Plan
  root_plans = crown_plans g n c cuts (suc c.level) (lists (suc c.level))

  abbrev new_root : Plan
  new_root = record {
    level = suc (suc c.level);
    list = both (L (suc c.level)) (R (suc c.level)) (half g (suc c.level)) (following (lists (suc c.level)) 0) (lists (suc c.level));
  }

  crown_one : grows ≡ true → root_plans ≡ new_root ∷ []
  unfolding crown_plans
  crown_one t = let x = grow_long t in
      rw (lt-leb (length (lists (suc c.level))) (room_at (suc c.level)) (let w = ap length root_list_lem in
      omega (arith, x, w))) refl

  pub crown_none : grows ≡ false → root_plans ≡ []
  unfolding crown_plans
  crown_none t = let x = stay_short t in
      rw (le-leb (length (lists (suc c.level))) (room_at (suc c.level)) (let w = ap length root_list_lem in
      omega (arith, x, w))) refl

  plans_below : length (plans_to g lists (suc c.level)) ≡ suc c.level + min (suc c.level) cuts
  plans_below = plans_length g lists cuts (suc c.level) cut_levels

  -- as many as the pages that the insertion needs
  pub plans_count : length plans ≡ m
  unfolding insert_plans
  plans_count =
      let w = length-append (plans_to g lists (suc c.level)) root_plans in
      by_test grows
      (λ t. let x = ap length (crown_one t) in let y = grow_cuts t in let z = ap bit t in
      omega (arith, plans_below, w, x, y, z))
      (λ t. let x = ap length (crown_none t) in let z = ap bit t in omega (arith, plans_below, w, x, z, cuts_low))

  inside : (l i : ℕ) → l ≤ c.level → i < length (level_plans g (suc l) (lists (suc l)))
      → l + min l cuts + i < suc c.level + min (suc c.level) cuts
  inside l i b d = let v = level_length g lists cuts l (cut_levels (suc l) (omega arith) (omega (arith, b))) in
      omega (arith, v, d, b)

  level_at : (l i : ℕ) → l ≤ c.level → i < length (level_plans g (suc l) (lists (suc l)))
      → plan_at plans (l + min l cuts + i) ≡ plan_at (level_plans g (suc l) (lists (suc l))) i
  unfolding insert_plans
  level_at l i b d =
      get_or-append (plans_to g lists (suc c.level)) root_plans no_plan (l + min l cuts + i) (let w =
      inside l i b d in omega (arith, w, plans_below))
      ∙ plans_at g lists cuts (suc c.level) l i cut_levels (omega (arith, b)) d

  crown_place : grows ≡ true → plan_at plans (suc c.level + min (suc c.level) cuts + 0) ≡ new_root
  unfolding insert_plans
  crown_place t = at_right (plans_to g lists (suc c.level)) root_plans (suc c.level + min (suc c.level) cuts) 0 plans_below
      ∙ ap (λ ps. plan_at ps 0) (crown_one t)

  stay_cuts : grows ≡ false → cuts ≤ c.level
  stay_cuts t = by_le cuts c.level (λ z. z) (λ z. absurd (
      let x = (cut_levels (suc c.level) (omega arith) (omega arith)).1 (omega (arith, z, cuts_low)) in
      let y = stay_short t in
      let w = ap length root_list_lem in
      omega (arith, x, y, w)))

  -- the last plan is the root's
  stay_last : (i : ℕ) → m ≡ suc i → grows ≡ false → ((plan_at plans i).level ≡ suc c.level) ×
      (L (suc c.level) ≡ nth g.pages n (ahead g n c) i)
  unfolding left_page
  stay_last i e t =
      let l = c.level in
      let b = ap bit t in
      let short : length (lists (suc l)) ≤ room_at (suc l) = let x = stay_short t in let w = ap length root_list_lem in
      omega (arith, x, w) in
      let wp = whole_plan g lists cuts (suc l) short in
      let at : l + min l cuts + 0 ≡ i = let x = stay_cuts t in omega (arith, x, e, b) in (
        ap (λ j. (plan_at plans j).level) (sym at) ∙ ap (λ (p : Plan). p.level) (level_at l 0 (omega arith) (let x =
            ap length wp in omega (arith, x))
            ∙ ap (λ ps. plan_at ps 0) wp),
        ap (nth g.pages n (ahead g n c)) (let w : suc l - 1 + min (suc l - 1) cuts ≡ i = omega (arith, at) in w),
      )

  grow_last : (i : ℕ) → m ≡ suc i → grows ≡ true
      → ((plan_at plans i).level ≡ suc (suc c.level)) × (L (suc (suc c.level)) ≡ nth g.pages n (ahead g n c) i)
  unfolding left_page
  grow_last i e t =
      let l = suc c.level in
      let b = ap bit t in
      let at : l + min l cuts + 0 ≡ i = let x = grow_cuts t in omega (arith, x, e, b) in (
        ap (λ j. (plan_at plans j).level) (sym at) ∙ ap (λ (p : Plan). p.level) (crown_place t),
        ap (nth g.pages n (ahead g n c)) (let w : suc l - 1 + min (suc l - 1) cuts ≡ i = omega (arith, at) in w),
      )

  -- the i-th plan's node stands on the i-th page to come
  module _ (free : m ≤ count (g.pages * n) c.er) (s : Nodes)
      (placed : (i : ℕ) → i < m → s (nth g.pages n (ahead g n c) i) (plan_at plans i).level ≡ (plan_at plans i).list)
      (stays : (q l : ℕ) → fit (suc l) q → s q (suc l) ≡ r q (suc l)) (numbers : ℕ → ℕ) where
    at_plan : (q i : ℕ) (p : Plan) → i < m → q ≡ nth g.pages n (ahead g n c) i → plan_at plans i ≡ p
        → s q p.level ≡ p.list
    at_plan q i p b z e = subst (λ (x : Plan). s q x.level ≡ x.list) e
        (subst (λ y. s y (plan_at plans i).level ≡ (plan_at plans i).list) (sym z) (placed i b))

    on_level : (q l i : ℕ) (p : Plan) → l ≤ c.level → i < length (level_plans g (suc l) (lists (suc l)))
        → q ≡ nth g.pages n (ahead g n c) (l + min l cuts + i) → plan_at (level_plans g (suc l) (lists (suc l))) i ≡ p
        → s q p.level ≡ p.list
    on_level q l i p b d z e = at_plan q (l + min l cuts + i) p (let w = inside l i b d in
        omega (arith, w)) z (level_at l i b d ∙ e)

    whole_at : (j : ℕ) → 1 ≤ j → j ≤ suc c.level → length (lists j) ≤ room_at j → s (L j) j ≡ lists j
    unfolding left_page
    whole_at zero b d h = absurd (omega (arith, b))
    whole_at (suc l) b d h =
        let e = whole_plan g lists cuts (suc l) h in
        let x = ap length e in
        on_level (L (suc l)) l 0 (record { level = suc l; list = lists (suc l) }) (omega (arith, d)) (omega (arith, x))
        (ap (nth g.pages n (ahead g n c)) (let w : suc l - 1 + min (suc l - 1) cuts ≡ l + min l cuts + 0 =
        omega arith in w)) (ap (λ ps. plan_at ps 0) e)

    halves_at : (j : ℕ) → 1 ≤ j → j ≤ suc c.level → room_at j < length (lists j)
        → (s (L j) j ≡ take (half g j) (lists j)) ×
        (s (R j) j ≡ drop (half g j) (lists j))
    unfolding left_page right_page
    halves_at zero b d h = absurd (omega (arith, b))
    halves_at (suc l) b d h =
        let e = half_plans g lists cuts (suc l) h in
        let y = (cut_levels (suc l) b d).0 h in
        let x = ap length e in (
          on_level (L (suc l)) l 0 (record { level = suc l; list = take (half g (suc l)) (lists (suc l)) }) (omega (arith, d)) (omega (arith, x))
              (ap (nth g.pages n (ahead g n c)) (let w : suc l - 1 + min (suc l - 1) cuts ≡ l + min l cuts + 0 =
              omega arith in w))
              (ap (λ ps. plan_at ps 0) e),
          on_level (R (suc l)) l 1 (record { level = suc l; list = drop (half g (suc l)) (lists (suc l)) }) (omega (arith, d)) (omega (arith, x))
              (ap (nth g.pages n (ahead g n c)) (let w : suc l - 1 + min (suc l) cuts ≡ l + min l cuts + 1 =
              omega (arith, y) in w))
              (ap (λ ps. plan_at ps 1) e),
        )

    crown_at : grows ≡ true → s (L (suc (suc c.level))) (suc (suc c.level)) ≡ new_root.list
    unfolding left_page
    crown_at t =
        let l = suc c.level in
        let y = grow_cuts t in
        let z = ap bit t in
        at_plan (L (suc l)) (l + min l cuts + 0) new_root (omega (arith, y, z))
        (ap (nth g.pages n (ahead g n c)) (let w : suc l - 1 + min (suc l - 1) cuts ≡ l + min l cuts + 0 =
        omega arith in w))
        (crown_place t)

    abbrev Inserted : ℕ → ℕ → Type 0
    Inserted l p = Whole g n (record { er = (taken g.pages n (ahead g n c) m).er; seq = numbers; nodes = s; level = l; root = p }) ×
        (under s (suc l) (the p) ≡ put k a (map_of c))

    pub planned_stay : grows ≡ false → Inserted c.level (L (suc c.level))
    planned_stay = stay free s whole_at halves_at crown_at stays numbers

    pub planned_grow : grows ≡ true → Inserted (suc c.level) (L (suc (suc c.level)))
    planned_grow = grow free s whole_at halves_at crown_at stays numbers

    -- the root stands on the last page, i
    module _ (i : ℕ) (last : m ≡ suc i) where
      abbrev Final : ℕ → ℕ → ℕ → Type 0
      Final j l p = Whole g n (record { er = (taken g.pages n (ahead g n c) j).er; seq = numbers; nodes = s; level = l; root = p }) ×
          (under s (suc l) (the p) ≡ put k a (map_of c))

      final : (l p : ℕ) → ((plan_at plans i).level ≡ suc l) × (p ≡ nth g.pages n (ahead g n c) i) → Final m l p
          → Final (suc i) ((plan_at plans i).level - 1) (nth g.pages n (ahead g n c) i)
      final l p e h =
          let z : l ≡ (plan_at plans i).level - 1 = let x = e.0 in omega (arith, x) in
          subst (λ j. Final j ((plan_at plans i).level - 1) (nth g.pages n (ahead g n c) i)) last
          (subst (λ q. Final m ((plan_at plans i).level - 1) q) e.1 (subst (λ j. Final m j p) z h))

      pub planned : Final (suc i) ((plan_at plans i).level - 1) (nth g.pages n (ahead g n c) i)
      planned = by_test grows (λ t. final (suc c.level) (L (suc (suc c.level))) (grow_last i last t) (planned_grow t))
          (λ t. final c.level (L (suc c.level)) (stay_last i last t) (planned_stay t))
