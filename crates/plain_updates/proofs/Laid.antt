-- The plain tree's pages on bytes (request 12): every plan's page but the last leaves the map as it is, the last one
-- carries the root. Assumes nothing.
use Rattle.std.specs.Prelude.{◌≡◌}
use Rattle.std.proofs.Math.Path.{refl, ap, subst}
use Rattle.std.proofs.Common.{sym, ◌∙◌}
use mathlib.Core.List.{List, [], ◌∷◌}
use Prim.Native.Nat.{ℕ, suc, ◌+◌, ◌<◌, ◌≤◌}
use native.Mathlib.Omega.{arith}
use Rattle.std.proofs.Math.ListN.{length}
use Rattle.geometry.specs.declared.Geometry.{Geometry}
use Rattle.geometry.specs.declared.Entry.{Entry}
use Rattle.geometry.specs.Shape.{Core}
use Rattle.model.specs.Count.{count}
use Rattle.model.specs.Image.{Chip, pages_of}
use Rattle.model.specs.Next.{ahead, nth}
use Rattle.model.specs.Page.{built, only}
use Rattle.model.specs.Stores.{Store, program, apply_store, apply_all}
use Rattle.model.specs.Legal.{Legal}
use Rattle.model.specs.Plain.{Plan, laid}
use Rattle.theory_chips.specs.Next.{R2}
use Rattle.theory_chips.specs.PlainPlans.{plan_at}
use Rattle.theory_images.specs.Built.{Parts}
use Rattle.theory_images.specs.Held.{Held}
use Rattle.theory_images.specs.Writes.{put_legal}
use Rattle.theory_updates.specs.Along.{Along}
use Rattle.plain_updates.specs.Single.{Buildable}
use Rattle.plain_updates.specs.Laid.{Finishes, Placed, PlainUpdated, last_placed, low_now, next_placed, some_left, store_is}

module _ (g : Geometry) (core : Core g) (n : ℕ) (c : Chip) (r2 : R2 g.pages n c.er) (seq : ℕ) (old : List Entry)
    (ps : List Plan)
    (free : length ps ≤ count (pages_of g n) c.er) (low : seq + length ps < 4294967295)
    (fine : (j : ℕ) → j < length ps → Buildable g (plan_at ps j)) where
  abbrev page_of : ℕ → ℕ
  page_of i = nth g.pages n (ahead g n c) i

  abbrev At : ℕ → List ℕ → Type 0
  At = Placed g n c seq old ps

  -- the page of plan i with height byte h
  abbrev store_of : ℕ → ℕ → Store
  store_of h i = program (page_of i) (built g (seq + suc i) h (only (plan_at ps i).level (plan_at ps i).list))

  module _ (i : ℕ) (lt : i < length ps) (x : List ℕ) (at : At i x) where
    abbrev p : Plan
    p = plan_at ps i

    abbrev parts : ℕ → List Entry
    parts = only p.level p.list

    abbrev held : Held g n x
    held = at.keeps.held

    abbrev ok : Parts g parts
    ok = (fine i lt).2

    legal_now : (h : ℕ) → h ≤ g.top → Legal g n x (store_of h i)
    legal_now h b = subst (Legal g n x) (sym (store_is g core n c r2 seq old ps free low fine i lt x at h)) (put_legal g core n x held (some_left g core n c r2 seq old ps free low fine i lt x at) parts ok (low_now g core n c r2 seq old ps free low fine i lt x at) h b)

  module _ (new : List Entry) (m : ℕ) (count_is : length ps ≡ suc m) (good : Finishes g n c ps new m) where
    -- the plans from i on are qs
    abbrev Rest : ℕ → List Plan → Type 0
    Rest i qs = (j : ℕ) → j < length qs → plan_at qs j ≡ plan_at ps (i + j)

    first_plan : (i : ℕ) (y : Plan) (qs : List Plan) → Rest i (y ∷ qs) → y ≡ plan_at ps i
    first_plan i y qs rest = rest 0 (omega arith) ∙ ap (plan_at ps) (let w : i + 0 ≡ i = omega arith in w)

    from_here : (i : ℕ) (qs : List Plan) (x : List ℕ) → At i x → i + length qs ≡ suc m → 1 ≤ length qs → Rest i qs
        → PlainUpdated g n old new x (laid g n c seq i qs)
    unfolding laid Along apply_all
    from_here i [] x at e some rest = absurd (omega (arith, some))
    from_here i (y ∷ []) x at e some rest = subst (λ (z : Plan). PlainUpdated g n old new x
        (program (page_of i) (built g (seq + suc i) z.level (only z.level z.list)) ∷ [])) (sym (first_plan i y [] rest)) final
      where
        final : PlainUpdated g n old new x (store_of (plan_at ps i).level i ∷ [])
        final =
            let lt : i < length ps = omega (arith, e, count_is) in
            let is : m ≡ i = omega (arith, e) in
            record {
              init = [];
              last = store_of (plan_at ps i).level i;
              list_is = refl;
              along = at.keeps;
              legal = legal_now i lt x at (plan_at ps i).level (fine i lt).1;
              end = last_placed g core n c r2 seq old ps free low fine i lt x at new (subst (Finishes g n c ps new) is good);
            }
    from_here i (y ∷ z ∷ qs) x at e some rest =
        let lt : i < length ps = omega (arith, e, count_is) in
        going lt (from_here (suc i) (z ∷ qs) (apply_store g (store_of 0 i) x) (next_placed g core n c r2 seq old ps free low fine i lt x at) (omega (arith, e)) (omega arith)
        (λ j b. rest (suc j) (omega (arith, b)) ∙ ap (plan_at ps) (let w : i + suc j ≡ suc i + j = omega arith in w)))
      where
        going : i < length ps → PlainUpdated g n old new (apply_store g (store_of 0 i) x)
            (laid g n c seq (suc i) (z ∷ qs))
            → PlainUpdated g n old new x (program (page_of i)
            (built g (seq + suc i) 0 (only y.level y.list)) ∷ laid g n c seq (suc i) (z ∷ qs))
        going lt u = subst (λ (w : Plan). PlainUpdated g n old new x
            (program (page_of i) (built g (seq + suc i) 0 (only w.level w.list)) ∷ laid g n c seq (suc i) (z ∷ qs))) (sym (first_plan i y (z ∷ qs) rest))
            (record {
              init = store_of 0 i ∷ u.init;
              last = u.last;
              list_is = ap (λ (ss : List Store). store_of 0 i ∷ ss) u.list_is;
              along = (at.keeps, legal_now i lt x at 0 (omega arith), u.along);
              legal = u.legal;
              end = u.end;
            })

    pub laid_updated : (x : List ℕ) → At 0 x → PlainUpdated g n old new x (laid g n c seq 0 ps)
    laid_updated x at = from_here 0 ps x at (omega (arith, count_is)) (omega (arith, count_is)) (λ j b. ap (plan_at ps) (let w : j ≡ 0 + j = omega arith in w))
