-- A deletion's stores plan by plan are those level by level, over any pages to come that agree where they are named.
-- Assumes nothing.
use Rattle.std.specs.Prelude.{◌≡◌, refl, false, eqb, length, is_none}
use Rattle.std.proofs.Math.Path.{ap}
use Rattle.std.proofs.Common.{sym, ◌∙◌, arith, eq-eqb, ne_eqb}
use mathlib.Core.List.{List, [], ◌∷◌, ◌++◌}
use Prim.Native.Nat.{ℕ, suc, ◌+◌, ◌-◌, ◌<◌, ◌≤◌}
use Rattle.geometry.specs.declared.Geometry.{Geometry}
use Rattle.geometry.specs.declared.Entry.{Entry}
use Rattle.geometry.specs.Shape.{Core}
use Rattle.geometry.specs.Tests.{pick}
use Rattle.geometry.specs.Bounds.{four_bytes}
use Rattle.model.specs.Image.{Chip, the_root}
use Rattle.model.specs.Tree.{sought}
use Rattle.model.specs.Stores.{Store}
use Rattle.model.specs.Edit.{remove_in, Top, collapse}
use Rattle.model.specs.Plain.{Plan, laid, emptied, kept_page, plain_less, plain_top, kept_plans, delete_plans, plain_leaves}
use Rattle.theory_chips.specs.Whole.{Whole}
use Rattle.theory_chips.specs.PlainDeletion.{emptied_low, all_emptied, top_stays, top_falls, stay_plans, fall_plans, empties, kept_count, stay_count, by_root, plans_count}
use Rattle.plain_levels.specs.Levels.{node_store, kept_stores, less_at, top_at, delete_stores_at}
use Rattle.plain_updates.specs.Levels.{coming, below, root_store, node_same, below_same, laid_last, kept_to}
use Rattle.plain_updates.specs.Pages.{kept_same}

module _ (g : Geometry) (core : Core g) (n k : ℕ) (k_low : k < four_bytes) (c : Chip) (good : Whole g n c)
    (present : is_none (sought c k) ≡ false) (page : ℕ → ℕ) (seq : ℕ)
    (agree : (i : ℕ) → i < plain_leaves c k → page i ≡ coming g n c i) where
  abbrev v : ℕ
  v = emptied c k

  abbrev h : ℕ
  h = suc c.level

  abbrev lists : ℕ → List Entry
  lists = plain_less g n c k

  abbrev top : Top
  top = plain_top g n c k

  abbrev Stays : Type 0
  Stays = 1 ≤ c.level → 2 ≤ length (lists h)

  abbrev root : Plan
  root = record { level = h; list = lists h }

  -- ---- the pages that are needed
  stay_leaves : Stays → plain_leaves c k ≡ suc (c.level - v)
  stay_leaves s =
      let x = plans_count g core n k k_low c good present in
      let y = stay_count g core n k k_low c good present s in
      let z = emptied_low g core n k k_low c good present in
      omega (arith, x, y, z)

  fall_leaves : 1 ≤ c.level → length (lists h) ≡ 1 → plain_leaves c k ≡ 1
  fall_leaves i one =
      let x = plans_count g core n k k_low c good present in
      let y = ap length (fall_plans g core n k k_low c good present i one) in
      omega (arith, x, y)

  kept_needed : (j : ℕ) → 1 ≤ j → j ≤ c.level → j - 1 - v < plain_leaves c k
  kept_needed j b d = by_root g core n k k_low c good present (λ s. let w = stay_leaves s in omega (arith, w, b, d))
      (λ i one. let w = fall_leaves i one in let x = all_emptied g core n k k_low c good present i one in
      omega (arith, w, x, b, d))

  lists_same : less_at c k page v ≡ lists
  unfolding less_at plain_less kept_page
  lists_same = kept_same c.nodes k (remove_in k) (λ j. page (j - 1 - v)) (kept_page g n c v) c.level (the_root c)
      (λ j b d. agree (j - 1 - v) (kept_needed j b d))

  abbrev stores_of : (ℕ → List Entry) → Top → List Store
  stores_of ls t = pick (eqb t.level c.level) (kept_stores g page seq v ls c.level ++ (node_store g page seq (c.level - v) h h (ls h) ∷ []))
      (node_store g page seq 0 (suc t.level) (suc t.level) t.list ∷ [])

  -- ---- the root stays: the levels that are left, then its list
  abbrev last : ℕ
  last = 0 + length (kept_plans lists c.level)

  last_place : last ≡ c.level - v
  last_place = let w = kept_count g core n k k_low c good present in omega (arith, w)

  levels_same : Stays → kept_stores g page seq v lists c.level ≡ below g (coming g n c) seq 0
      (kept_plans lists c.level)
  levels_same s = kept_to g page seq v lists c.level (empties g core n k k_low c good present)
      ∙ below_same g page (coming g n c) seq (plain_leaves c k) agree 0 (kept_plans lists c.level) (let w =
      stay_leaves s in omega (arith, w, last_place))

  root_same : Stays → node_store g page seq (c.level - v) h h (lists h) ≡ root_store g (coming g n c) seq last root
  root_same s = node_same g page (coming g n c) seq (c.level - v) last h h (lists h)
      (agree (c.level - v) (let w = stay_leaves s in omega (arith, w))) (sym last_place)

  stay_plan : Stays → delete_plans g n c k ≡ kept_plans lists c.level ++ (root ∷ [])
  stay_plan s = stay_plans g core n k k_low c good present s
      ∙ ap (λ (t : Top). kept_plans lists c.level ++ (record { level = suc t.level; list = t.list } ∷ [])) (top_stays g core n k k_low c good present s)

  stay_same : Stays → laid g n c seq 0 (delete_plans g n c k) ≡ stores_of lists top
  stay_same s = rw (top_stays g core n k k_low c good present s, eq-eqb c.level c.level refl)
      (ap (laid g n c seq 0) (stay_plan s) ∙ laid_last g n c seq 0 (kept_plans lists c.level) root
      ∙ ap (λ ss. ss ++ (root_store g (coming g n c) seq last root ∷ [])) (sym (levels_same s))
      ∙ ap (λ x. kept_stores g page seq v lists c.level ++ (x ∷ [])) (sym (root_same s)))

  -- ---- it falls: the new root alone
  fall_same : 1 ≤ c.level → length (lists h) ≡ 1 → laid g n c seq 0 (delete_plans g n c k) ≡ stores_of lists top
  unfolding laid
  fall_same i one =
      let low = top_falls g core n k k_low c good present i one in
      rw (ne_eqb top.level c.level (λ z. omega (arith, z, low)))
      (ap (laid g n c seq 0) (fall_plans g core n k k_low c good present i one)
      ∙ ap (λ x. x ∷ []) (sym (node_same g page (coming g n c) seq 0 0 (suc top.level) (suc top.level) top.list
      (agree 0 (let w = fall_leaves i one in omega (arith, w))) refl)))

  pub delete_same : laid g n c seq 0 (delete_plans g n c k) ≡ delete_stores_at g c k page seq v
  unfolding delete_stores_at top_at plain_top
  delete_same = by_root g core n k k_low c good present stay_same fall_same
      ∙ ap (λ (ls : ℕ → List Entry). stores_of ls (collapse c.nodes c.level (ls h))) (sym lists_same)
