-- The plan of pages of the plain tree (request 12): each node's plan stands at the place that its page's number says.
-- Assumes nothing.
use Rattle.std.specs.Prelude.{◌≡◌, true, length, take, drop, get_or}
use Rattle.std.proofs.Math.Path.{refl}
use Rattle.std.proofs.Common.{ap, subst, ◌∙◌, zero-add, suc-add, le-leb}
use mathlib.Core.List.{List, [], ◌∷◌, ◌++◌}
use Prim.Native.Nat.{ℕ, zero, suc, ◌+◌, ◌-◌, ◌*◌, min, ◌<◌, ◌≤◌}
use native.Mathlib.Omega.{arith}
use Rattle.std.proofs.Math.ListN.{length-append, get_or-append}
use Rattle.std.proofs.lemmas.Bool.{lt-leb}
use Rattle.geometry.specs.declared.Geometry.{Geometry}
use Rattle.geometry.specs.declared.Entry.{Entry}
use Rattle.geometry.specs.Geometry.{half}
use Rattle.geometry.specs.Tests.{pick}
use Rattle.model.specs.Plain.{Plan, none_left, level_plans, plans_to, kept_plans}
use Rattle.theory_counts.specs.Cases.{by_eq, by_le, by_test}

-- a place beyond all plans
abbrev pub no_plan : Plan
no_plan = record { level = 0; list = [] }

abbrev pub plan_at : List Plan → ℕ → Plan
plan_at ps i = get_or ps i no_plan

pub at_right : (ps qs : List Plan) (m i : ℕ) → length ps ≡ m → plan_at (ps ++ qs) (m + i) ≡ plan_at qs i
at_right [] qs zero i e = ap (plan_at qs) (zero-add i)
at_right [] qs (suc m) i e = absurd (omega (arith, e))
at_right (p ∷ ps) qs zero i e = absurd (omega (arith, e))
at_right (p ∷ ps) qs (suc m) i e = ap (plan_at (p ∷ ps ++ qs)) (suc-add m i) ∙ at_right ps qs m i (omega (arith, e))

-- ---- insert: the levels that split are 1 to cuts
abbrev pub Cut : Geometry → (ℕ → List Entry) → ℕ → ℕ → Type 0
Cut g lists cuts j = (2 * half g j < length (lists j) → j ≤ cuts) × (j ≤ cuts → 2 * half g j < length (lists j))

module _ (g : Geometry) (lists : ℕ → List Entry) (cuts : ℕ) where
  abbrev room_at : ℕ → ℕ
  room_at l = 2 * half g l

  pub whole_plan : (l : ℕ) → length (lists l) ≤ room_at l
      → level_plans g l (lists l) ≡ record { level = l; list = lists l } ∷ []
  unfolding level_plans
  whole_plan l h = rw (le-leb (length (lists l)) (room_at l) h) refl

  pub half_plans : (l : ℕ) → room_at l < length (lists l)
      → level_plans g l (lists l) ≡ record { level = l; list = take (half g l) (lists l) } ∷ record {
        level = l;
        list = drop (half g l) (lists l);
      } ∷ []
  unfolding level_plans
  half_plans l h = rw (lt-leb (length (lists l)) (room_at l) h) refl

  pub level_length : (l : ℕ) → Cut g lists cuts (suc l) → l + min l cuts + length (level_plans g (suc l) (lists (suc l)))
      ≡ suc l + min (suc l) cuts
  unfolding level_plans
  level_length l h = by_le (suc l) cuts
      (λ z. let b = h.1 z in rw (lt-leb (length (lists (suc l))) (room_at (suc l)) b) (omega (arith, z)))
      (λ z. by_le (length (lists (suc l))) (room_at (suc l)) (λ b. rw (le-leb (length (lists (suc l))) (room_at (suc l)) b) (omega (arith, z)))
      (λ b. absurd (omega (arith, h.0 b, z))))

  -- the plans up to level l
  pub plans_length : (l : ℕ) → ((j : ℕ) → 1 ≤ j → j ≤ l → Cut g lists cuts j) → length (plans_to g lists l) ≡ l + min l
      cuts
  unfolding plans_to
  plans_length zero h = omega arith
  plans_length (suc l) h =
      let i = plans_length l (λ j a b. h j a (omega (arith, b))) in
      let w = length-append (plans_to g lists l) (level_plans g (suc l) (lists (suc l))) in
      let v = level_length l (h (suc l) (omega arith) (omega arith)) in
      omega (arith, i, w, v)

  -- those of level suc l begin at l and one more for each level below that splits
  pub plans_at : (m l i : ℕ) → ((j : ℕ) → 1 ≤ j → j ≤ m → Cut g lists cuts j) → suc l ≤ m
      → i < length (level_plans g (suc l) (lists (suc l)))
      → plan_at (plans_to g lists m) (l + min l cuts + i) ≡ plan_at (level_plans g (suc l) (lists (suc l))) i
  unfolding plans_to
  plans_at zero l i h b d = absurd (omega (arith, b))
  plans_at (suc m) l i h b d =
      let len = plans_length m (λ j x y. h j x (omega (arith, y))) in
      by_eq l m (λ z. rw z (at_right (plans_to g lists m) (level_plans g (suc m) (lists (suc m))) (m + min m cuts) i len))
      (λ z. let v = level_length l (h (suc l) (omega arith) (omega (arith, b))) in
      get_or-append (plans_to g lists m) (level_plans g (suc m) (lists (suc m))) no_plan (l + min l cuts + i) (omega (arith, len, v, d, b, z))
      ∙ plans_at m l i (λ j x y. h j x (omega (arith, y))) (omega (arith, b, z)) d)

-- ---- delete: the emptied levels are 1 to v
abbrev pub Empty : (ℕ → List Entry) → ℕ → ℕ → Type 0
Empty lists v j = (none_left (lists j) ≡ true → j ≤ v) × (j ≤ v → none_left (lists j) ≡ true)

module _ (lists : ℕ → List Entry) (v : ℕ) where
  pub kept_length : (l : ℕ) → ((j : ℕ) → 1 ≤ j → j ≤ l → Empty lists v j) → length (kept_plans lists l) ≡ l - v
  unfolding kept_plans
  kept_length zero h = omega arith
  kept_length (suc l) h =
      let i = kept_length l (λ j a b. h j a (omega (arith, b))) in
      let e = h (suc l) (omega arith) (omega arith) in
      by_le (suc l) v (λ z. let w = length-append (kept_plans lists l) [] in rw (e.1 z) (omega (arith, i, w, z)))
      (λ z. by_test (none_left (lists (suc l))) (λ t. absurd (omega (arith, e.0 t, z)))
      (λ t. let w = length-append (kept_plans lists l) (record { level = suc l; list = lists (suc l) } ∷ []) in
      rw t (omega (arith, i, w, z))))

  pub kept_at : (m l : ℕ) → ((j : ℕ) → 1 ≤ j → j ≤ m → Empty lists v j) → suc l ≤ m → v ≤ l
      → plan_at (kept_plans lists m) (l - v) ≡ record { level = suc l; list = lists (suc l) }
  unfolding kept_plans
  kept_at zero l h b d = absurd (omega (arith, b))
  kept_at (suc m) l h b d =
      let len = kept_length m (λ j x y. h j x (omega (arith, y))) in
      let e = h (suc m) (omega arith) (omega arith) in
      by_eq l m
      (λ z. by_test (none_left (lists (suc m))) (λ t. absurd (omega (arith, e.0 t, z, d)))
      (λ t. rw (t, z) (subst (λ i. plan_at (kept_plans lists m ++ (record { level = suc m; list = lists (suc m) } ∷ [])) i
      ≡ record { level = suc m; list = lists (suc m) })
      (let w : m - v + 0 ≡ m - v = omega arith in w)
      (at_right (kept_plans lists m) (record { level = suc m; list = lists (suc m) } ∷ []) (m - v) 0 len))))
      (λ z. get_or-append (kept_plans lists m) (pick (none_left (lists (suc m))) [] (record { level = suc m; list = lists (suc m) } ∷ [])) no_plan (l - v)
      (omega (arith, len, b, z, d))
      ∙ kept_at m l (λ j x y. h j x (omega (arith, y))) (omega (arith, b, z)) d)
