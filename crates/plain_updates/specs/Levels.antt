-- An update of the plain tree, plan by plan and level by level: the same stores, over any pages to come. Assumes
-- nothing.
use Rattle.std.specs.Prelude.{◌≡◌}
use Rattle.std.proofs.Math.Path.{refl, ap, sym}
use Rattle.std.proofs.Common.{◌∙◌, le-leb}
use mathlib.Core.List.{List, [], ◌∷◌, ◌++◌}
use Prim.Native.Nat.{ℕ, zero, suc, ◌+◌, ◌-◌, ◌*◌, min, ◌<◌, ◌≤◌}
use native.Mathlib.Omega.{arith}
use Rattle.std.proofs.Math.ListN.{length}
use Rattle.std.proofs.lemmas.Bool.{lt-leb}
use Rattle.geometry.specs.declared.Geometry.{Geometry}
use Rattle.geometry.specs.declared.Entry.{Entry}
use Rattle.geometry.specs.Geometry.{half}
use Rattle.geometry.specs.Tests.{pick}
use Rattle.model.specs.Image.{Chip}
use Rattle.model.specs.Next.{ahead, nth}
use Rattle.model.specs.Stores.{Store}
use Rattle.model.specs.Plain.{Plan, none_left, laid, level_plans, plans_to, kept_plans}
use Rattle.theory_counts.specs.Cases.{by_le, by_test}
use Rattle.theory_chips.specs.PlainPlans.{Cut, Empty, plans_length, kept_length}
use Rattle.plain_levels.specs.Levels.{node_store, left_place, right_place, level_stores, stores_to, kept_stores}

-- the pages to come, by the rule
abbrev pub coming : Geometry → ℕ → Chip → ℕ → ℕ
coming g n c = nth g.pages n (ahead g n c)

-- plans none of which is the root, from the i-th page to come on
unfoldable pub below : Geometry → (ℕ → ℕ) → ℕ → ℕ → List Plan → List Store
below g page seq i [] = []
below g page seq i (x ∷ xs) = node_store g page seq i 0 x.level x.list ∷ below g page seq (suc i) xs

-- the root, at the i-th page to come
abbrev pub root_store : Geometry → (ℕ → ℕ) → ℕ → ℕ → Plan → Store
root_store g page seq i x = node_store g page seq i x.level x.level x.list

module _ (g : Geometry) (page : ℕ → ℕ) (seq : ℕ) where
  below_append : (i : ℕ) (ps qs : List Plan) → below g page seq i (ps ++ qs) ≡ below g page seq i ps ++ below g page seq
      (i + length ps) qs
  unfolding below
  below_append i [] qs = ap (λ j. below g page seq j qs) (let z : i ≡ i + 0 = omega arith in z)
  below_append i (p ∷ ps) qs = ap (λ ss. node_store g page seq i 0 p.level p.list ∷ ss) (below_append (suc i) ps qs
      ∙ ap (λ j. below g page seq (suc i) ps ++ below g page seq j qs) (let z : suc i + length ps ≡ i + suc (length ps) = omega arith in z))

-- one place, and the same page there
pub node_same : (g : Geometry) (page page' : ℕ → ℕ) (seq i i' height l : ℕ) (es : List Entry) → page i ≡ page' i
    → i ≡ i'
    → node_store g page seq i height l es ≡ node_store g page' seq i' height l es
node_same g page page' seq i i' height l es p e = rw p (ap (λ j. node_store g page' seq j height l es) e)

-- pages that are the same below m
pub below_same : (g : Geometry) (page page' : ℕ → ℕ) (seq m : ℕ) → ((i : ℕ) → i < m → page i ≡ page' i)
    → (i : ℕ) (ps : List Plan) → i + length ps ≤ m
    → below g page seq i ps ≡ below g page' seq i ps
unfolding below
below_same g page page' seq m h i [] b = refl
below_same g page page' seq m h i (p ∷ ps) b =
    rw (h i (omega (arith, b)), below_same g page page' seq m h (suc i) ps (omega (arith, b))) refl

-- "the root last"
pub laid_last : (g : Geometry) (n : ℕ) (c : Chip) (seq i : ℕ) (ps : List Plan) (x : Plan)
    → laid g n c seq i (ps ++ (x ∷ [])) ≡ below g (coming g n c) seq i ps
    ++ (root_store g (coming g n c) seq (i + length ps) x ∷ [])
unfolding laid below
laid_last g n c seq i [] x = ap (λ j. root_store g (coming g n c) seq j x ∷ []) (let z : i ≡ i + 0 = omega arith in z)
laid_last g n c seq i (p ∷ []) x = ap (λ j. node_store g (coming g n c) seq i 0 p.level p.list
    ∷ root_store g (coming g n c) seq j x ∷ []) (let z : suc i ≡ i + 1 = omega arith in z)
laid_last g n c seq i (p ∷ q ∷ ps) x = ap (λ ss. node_store g (coming g n c) seq i 0 p.level p.list ∷ ss)
    (laid_last g n c seq (suc i) (q ∷ ps) x
    ∙ ap (λ j. below g (coming g n c) seq (suc i) (q ∷ ps) ++ (root_store g (coming g n c) seq j x ∷ []))
    (let z : suc i + suc (length ps) ≡ i + suc (suc (length ps)) = omega arith in z))

-- ---- insert: the levels that split are 1 to cuts
module _ (g : Geometry) (page : ℕ → ℕ) (seq cuts : ℕ) (lists : ℕ → List Entry) where
  level_stores_lem : (l : ℕ) → Cut g lists cuts (suc l)
      → level_stores g page seq cuts (suc l) (lists (suc l)) ≡ below g page seq (l + min l cuts)
      (level_plans g (suc l) (lists (suc l)))
  unfolding level_stores level_plans below
  level_stores_lem l h = by_le (length (lists (suc l))) (2 * half g (suc l))
      (λ q. rw (le-leb (length (lists (suc l))) (2 * half g (suc l)) q, left) refl)
      (λ q. rw (lt-leb (length (lists (suc l))) (2 * half g (suc l)) q, left, right (h.0 q)) refl)
    where
      left : left_place cuts (suc l) ≡ l + min l cuts
      left = omega arith

      right : suc l ≤ cuts → right_place cuts (suc l) ≡ suc (l + min l cuts)
      right q = omega (arith, q)

  -- the levels up to l
  pub stores_to_lem : (l : ℕ) → ((j : ℕ) → 1 ≤ j → j ≤ l → Cut g lists cuts j)
      → stores_to g page seq cuts lists l ≡ below g page seq 0 (plans_to g lists l)
  unfolding stores_to plans_to below
  stores_to_lem zero h = refl
  stores_to_lem (suc l) h =
      let len = plans_length g lists cuts l (λ j x y. h j x (omega (arith, y))) in
      ap (λ ss. ss ++ level_stores g page seq cuts (suc l) (lists (suc l))) (stores_to_lem l (λ j x y. h j x (omega (arith, y))))
      ∙ ap (λ ss. below g page seq 0 (plans_to g lists l) ++ ss) (level_stores_lem l (h (suc l) (omega arith) (omega arith))
      ∙ ap (λ i. below g page seq i (level_plans g (suc l) (lists (suc l)))) (let z : l + min l cuts ≡ 0 + length (plans_to g lists l) = omega (arith, len) in z))
      ∙ sym (below_append g page seq 0 (plans_to g lists l) (level_plans g (suc l) (lists (suc l))))

-- ---- delete: the emptied levels are 1 to v
module _ (g : Geometry) (page : ℕ → ℕ) (seq v : ℕ) (lists : ℕ → List Entry) where
  kept_level : (l : ℕ) → pick (none_left (lists (suc l))) [] (node_store g page seq (l - v) 0 (suc l)
      (lists (suc l)) ∷ [])
      ≡ below g page seq (l - v) (pick (none_left (lists (suc l)))
      [] (record { level = suc l; list = lists (suc l) } ∷ []))
  unfolding below
  kept_level l = by_test (none_left (lists (suc l))) (λ t. rw t refl) (λ t. rw t refl)

  -- the levels up to l
  pub kept_to : (l : ℕ) → ((j : ℕ) → 1 ≤ j → j ≤ l → Empty lists v j) → kept_stores g page seq v lists l ≡ below g page
      seq 0 (kept_plans lists l)
  unfolding kept_stores kept_plans below
  kept_to zero h = refl
  kept_to (suc l) h =
      let last : List Plan = pick (none_left (lists (suc l))) [] (record { level = suc l; list = lists (suc l) } ∷ []) in
      let len = kept_length lists v l (λ j x y. h j x (omega (arith, y))) in
      ap (λ ss. ss ++ pick (none_left (lists (suc l))) [] (node_store g page seq (l - v) 0 (suc l) (lists (suc l)) ∷ []))
      (kept_to l (λ j x y. h j x (omega (arith, y))))
      ∙ ap (λ ss. below g page seq 0 (kept_plans lists l) ++ ss) (kept_level l
      ∙ ap (λ i. below g page seq i last) (let z : l - v ≡ 0 + length (kept_plans lists l) = omega (arith, len) in z))
      ∙ sym (below_append g page seq 0 (kept_plans lists l) last)
