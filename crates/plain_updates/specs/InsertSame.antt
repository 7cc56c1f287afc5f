-- An insertion's stores plan by plan are those level by level, over any pages to come that agree where they are named.
-- Assumes nothing.
use Rattle.std.specs.Prelude.{◌≡◌, true, false, length}
use Rattle.std.proofs.Math.Path.{refl, ap, sym}
use Rattle.std.proofs.Common.{◌∙◌}
use mathlib.Core.List.{List, [], ◌∷◌, ◌++◌, append_assoc, append-nil}
use Prim.Native.Nat.{ℕ, suc, ◌+◌, ◌-◌, ◌*◌, min, ◌<◌, ◌≤◌}
use native.Mathlib.Omega.{arith}
use borrow.Author.Tests.{le-leb, lt-leb}
use Rattle.geometry.specs.declared.Geometry.{Geometry}
use Rattle.geometry.specs.declared.Entry.{Entry}
use Rattle.geometry.specs.Geometry.{half, root_most}
use Rattle.geometry.specs.Shape.{Core}
use Rattle.geometry.specs.Tests.{bit}
use Rattle.geometry.specs.Bounds.{four_bytes}
use Rattle.model.specs.Image.{Chip, the_root}
use Rattle.model.specs.Tree.{following}
use Rattle.model.specs.Stores.{Store}
use Rattle.model.specs.Edit.{put_in}
use Rattle.model.specs.Plain.{both, Plan, laid, plain_cuts, plain_grows, plain_needs, left_page, right_page, plain_list, plans_to, crown_plans, insert_plans}
use Rattle.theory_counts.specs.Cases.{by_test}
use Rattle.theory_chips.specs.Whole.{Whole}
use Rattle.theory_chips.specs.PlainPlans.{Cut, plans_length, whole_plan}
use Rattle.theory_chips.specs.PlainInsertion.{root_list_lem, grow_long, stay_short, cut_levels}
use Rattle.plain_levels.specs.Levels.{node_store, left_place, right_place, level_stores, stores_to, crown_list, root_stores, list_at, insert_stores_at}
use Rattle.plain_updates.specs.Levels.{coming, below, root_store, node_same, below_same, laid_last, stores_to_lem}
use Rattle.plain_updates.specs.Pages.{renewed_same}

module _ (g : Geometry) (core : Core g) (n k a : ℕ) (k_low : k < four_bytes) (c : Chip) (good : Whole g n c)
    (narrow : root_most g (suc c.level) ≡ 2 * half g (suc c.level)) (some_half : 1 ≤ half g (suc c.level))
    (two-most : 2 ≤ root_most g (suc (suc c.level))) (page : ℕ → ℕ) (seq : ℕ)
    (agree : (i : ℕ) → i < plain_needs g c k → page i ≡ coming g n c i) where
  abbrev cuts : ℕ
  cuts = plain_cuts g c k

  abbrev h : ℕ
  h = suc c.level

  abbrev lists : ℕ → List Entry
  lists = plain_list g n c k a

  -- the root's list is long exactly if the root splits
  long : plain_grows g c k ≡ true → 2 * half g h < length (lists h)
  long t = let w = ap length (root_list_lem g core n k a k_low c good narrow some_half two-most) in
      let x = grow_long g core n k a k_low c good narrow some_half two-most t in omega (arith, w, x)

  short : plain_grows g c k ≡ false → length (lists h) ≤ 2 * half g h
  short t = let w = ap length (root_list_lem g core n k a k_low c good narrow some_half two-most) in
      let x = stay_short g core n k a k_low c good narrow some_half two-most t in omega (arith, w, x)

  cut : (l : ℕ) → l ≤ h → (j : ℕ) → 1 ≤ j → j ≤ l → Cut g lists cuts j
  cut l b j x y = cut_levels g core n k a k_low c good narrow some_half two-most j x (omega (arith, b, y))

  -- ---- the pages that are named are needed
  enough : h + cuts ≤ plain_needs g c k
  unfolding plain_needs
  enough = omega arith

  crown_needed : plain_grows g c k ≡ true → left_place cuts (suc h) < plain_needs g c k
  unfolding plain_needs
  crown_needed t = omega (arith, ap bit t)

  left_same : (j : ℕ) → 1 ≤ j → j ≤ h → page (left_place cuts j) ≡ left_page g n c cuts j
  unfolding left_page
  left_same j b d = agree (left_place cuts j) (omega (arith, b, d, enough))

  right_same : (j : ℕ) → 1 ≤ j → j ≤ h → page (right_place cuts j) ≡ right_page g n c cuts j
  unfolding right_page
  right_same j b d = agree (right_place cuts j) (omega (arith, b, d, enough))

  lists_same : list_at g c k a page cuts ≡ lists
  unfolding list_at plain_list
  lists_same = renewed_same c.nodes k (put_in k a) (λ j. page (left_place cuts j)) (left_page g n c cuts) (λ j. page (right_place cuts j))
      (right_page g n c cuts) (half g) c.level (the_root c) (λ j b d. left_same j b (omega (arith, d))) (λ j b d. right_same j b (omega (arith, d)))

  -- ---- the stores of levels 1 to l, and the root's
  levels_count : (l : ℕ) → l ≤ h → length (plans_to g lists l) ≡ l + min l cuts
  levels_count l b = plans_length g lists cuts l (cut l b)

  levels_same : (l : ℕ) → l ≤ h → stores_to g page seq cuts lists l ≡ below g (coming g n c) seq 0 (plans_to g lists l)
  levels_same l b = stores_to_lem g page seq cuts lists l (cut l b)
      ∙ below_same g page (coming g n c) seq (plain_needs g c k) agree 0 (plans_to g lists l) (let w = levels_count l b in
      omega (arith, w, b, enough))

  abbrev whole : Plan
  whole = record { level = h; list = lists h }

  abbrev crown : Plan
  crown = record { level = suc h; list = both (left_page g n c cuts h) (right_page g n c cuts h) (half g h) (following (lists h) 0) (lists h) }

  abbrev stores : List Store
  stores = stores_to g page seq cuts lists c.level ++ root_stores g page seq cuts h (lists h)

  stay_plans : plain_grows g c k ≡ false → insert_plans g n c k a ≡ plans_to g lists c.level ++ (whole ∷ [])
  unfolding insert_plans plans_to crown_plans
  stay_plans t = rw (whole_plan g lists cuts h (short t), le-leb (length (lists h)) (2 * half g h) (short t))
      (append-nil (plans_to g lists c.level ++ (whole ∷ [])))

  grow_plans : plain_grows g c k ≡ true → insert_plans g n c k a ≡ plans_to g lists h ++ (crown ∷ [])
  unfolding insert_plans crown_plans
  grow_plans t = rw (lt-leb (length (lists h)) (2 * half g h) (long t)) refl

  -- the places of both kinds of root
  abbrev last : ℕ → ℕ
  last l = 0 + length (plans_to g lists l)

  stay_root : plain_grows g c k ≡ false → root_stores g page seq cuts h (lists h) ≡ root_store g (coming g n c) seq
      (last c.level) whole ∷ []
  unfolding root_stores left_page
  stay_root t = rw (le-leb (length (lists h)) (2 * half g h) (short t)) (ap (λ s. s ∷ [])
      (node_same g page (coming g n c) seq (left_place cuts h) (last c.level) h h (lists h) (left_same h (omega arith) (omega arith))
      (let w = levels_count c.level (omega arith) in omega (arith, w))))

  crown_same : crown_list g page cuts h (lists h) ≡ crown.list
  crown_same = rw (left_same h (omega arith) (omega arith), right_same h (omega arith) (omega arith)) refl

  grow_root : plain_grows g c k ≡ true
      → root_stores g page seq cuts h (lists h) ≡ level_stores g page seq cuts h
      (lists h) ++ (root_store g (coming g n c) seq (last h) crown ∷ [])
  unfolding root_stores
  grow_root t = rw (lt-leb (length (lists h)) (2 * half g h) (long t)) (ap (λ s. level_stores g page seq cuts h (lists h) ++ (s ∷ []))
      (ap (node_store g page seq (left_place cuts (suc h)) (suc h) (suc h)) crown_same
      ∙ node_same g page (coming g n c) seq (left_place cuts (suc h)) (last h) (suc h) (suc h) crown.list (agree (left_place cuts (suc h)) (crown_needed t))
      (let w = levels_count h (omega arith) in omega (arith, w))))

  stay_stores_lem : plain_grows g c k ≡ false
      → stores ≡ below g (coming g n c) seq 0 (plans_to g lists c.level) ++ (root_store g (coming g n c) seq
      (last c.level) whole ∷ [])
  stay_stores_lem t = ap (λ ss. ss ++ root_stores g page seq cuts h (lists h)) (levels_same c.level (omega arith))
      ∙ ap (λ ss. below g (coming g n c) seq 0 (plans_to g lists c.level) ++ ss) (stay_root t)

  grow_stores : plain_grows g c k ≡ true → stores ≡ below g (coming g n c) seq 0 (plans_to g lists h) ++ (root_store g
      (coming g n c) seq (last h) crown ∷ [])
  unfolding stores_to
  grow_stores t =
      ap (λ ss. stores_to g page seq cuts lists c.level ++ ss) (grow_root t)
      ∙ sym (append_assoc (stores_to g page seq cuts lists c.level) (level_stores g page seq cuts h (lists h))
      (root_store g (coming g n c) seq (last h) crown ∷ []))
      ∙ ap (λ ss. ss ++ (root_store g (coming g n c) seq (last h) crown ∷ [])) (levels_same h (omega arith))

  pub insert_same : laid g n c seq 0 (insert_plans g n c k a) ≡ insert_stores_at g c k a page seq cuts
  unfolding insert_stores_at
  insert_same = by_test (plain_grows g c k)
      (λ t. ap (laid g n c seq 0) (grow_plans t) ∙ laid_last g n c seq 0 (plans_to g lists h) crown
      ∙ sym (grow_stores t))
      (λ t. ap (laid g n c seq 0) (stay_plans t) ∙ laid_last g n c seq 0 (plans_to g lists c.level) whole
      ∙ sym (stay_stores_lem t))
      ∙ ap (λ (ls : ℕ → List Entry). stores_to g page seq cuts ls c.level ++ root_stores g page seq cuts h (ls h)) (sym lists_same)
