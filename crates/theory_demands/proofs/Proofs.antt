-- The demands' proofs, from the tests that an answer stands for. Assumes nothing.
use Rattle.std.specs.Prelude.{◌≡◌, refl, List, [], ◌∷◌, Bool, false, ◌⊎◌, ℕ, ◌-◌, ◌<◌, ◌≤◌, None, is_none}
use Rattle.std.proofs.Math.Path.{ap, sym}
use Rattle.std.proofs.Common.{subst, ◌∙◌, inl, inr, arith}
use Rattle.std.proofs.Math.Bool.{true}
use Rattle.geometry.specs.declared.Geometry.{Geometry}
use Rattle.geometry.specs.Tests.{pick}
use Rattle.geometry.specs.Shape.{Shape}
use Rattle.geometry.specs.Bounds.{four_bytes}
use Rattle.model.specs.Image.{blocks_of, Chip, chip_of}
use Rattle.model.specs.Tree.{find, sought}
use Rattle.model.specs.Stores.{programs, erases}
use Rattle.model.specs.Edit.{put, remove}
use Rattle.model.specs.Update.{needs, insert_stores, delete_store, delete_stores}
use Rattle.model.specs.Calls.{Outcome, refused, made, worn, insert, delete}
use Rattle.theory_counts.specs.Cases.{true_false}
use Rattle.theory_chips.specs.Insertion.{Fuller}
use Rattle.theory_updates.specs.Along.{Keeps}
use Rattle.theory_updates.specs.Lists.{not_worn, m_top}
use Rattle.theory_updates.proofs.Lists.{insert_updated, delete_collected, delete_updated}
use Rattle.theory_demands.specs.Words.{Ready, map_at, Holds, Kept, Began, OneOf, Own}
use Rattle.theory_demands.specs.Bridges.{few, some_pages, ready_keeps, updated_kept}
use Rattle.theory_demands.specs.Tests.{Met, tested_one, tested_met}
use Rattle.theory_demands.specs.Calls.{delete_tests, insert_passed, made_began, made_done, made_stopped, made_image}
use Rattle.theory_demands.proofs.Calls.{delete_is, delete_passed}
use Rattle.theory_demands.specs.Proofs.{found, none_is}

module _ (g : Geometry) (shape : Shape g) (img : List ℕ) (ready : Ready g img) (k : ℕ) where
  abbrev n : ℕ
  n = blocks_of g img

  abbrev c : Chip
  c = chip_of g n img

  abbrev keeps : Keeps g n (map_at g img) img
  keeps = ready_keeps g shape img ready

  pub delete_one : (al : ℕ) → OneOf (delete g img k al).answer (0 ∷ 3 ∷ 4 ∷ 7 ∷ [])
  delete_one al = subst (λ (o : Outcome). OneOf o.answer (0 ∷ 3 ∷ 4 ∷ 7 ∷ [])) (sym (delete_is g img k 0 al ready))
      (tested_one img (delete_tests g img k 0 al) _ (made_began g (delete_stores g n img k) al img))

  delete_met : (al j : ℕ) → 1 ≤ j → j ≤ 6 → (delete g img k al).answer ≡ j → Met j (delete_tests g img k 0 al)
  delete_met al j p q h = tested_met img j (delete_tests g img k 0 al) _ (made_began g (delete_stores g n img k) al img) p q
      (sym (ap (λ (o : Outcome). o.answer) (delete_is g img k 0 al ready)) ∙ h)

  module _ (k_low : k < four_bytes) where
    pub absent_answer : (al : ℕ) → (delete g img k al).answer ≡ 4 → find k (map_at g img) ≡ None
    absent_answer al h = sym (found g shape img ready k k_low) ∙ none_is (sought c k) (go (delete_met al 4 (omega arith) (omega arith) h))
      where
        go : Met 4 (delete_tests g img k 0 al) → is_none (sought c k) ≡ true
        go (inl e) = absurd (omega (arith, e.0))
        go (inr (inl e)) = e.1
        go (inr (inr e)) = absurd e

    pub answer_absent : (al : ℕ) → find k (map_at g img) ≡ None → ((delete g img k al).answer ≡ 3) ⊎
        ((delete g img k al).answer ≡ 4)
    answer_absent al h = subst (λ (o : Outcome). (o.answer ≡ 3) ⊎ (o.answer ≡ 4)) (sym (delete_is g img k 0 al ready))
        (go (worn g n img) (is_none (sought c k)) (ap is_none (found g shape img ready k k_low ∙ h)))
      where
        go : (x y : Bool) → y ≡ true
            → ((pick x (refused 3 img) (pick y (refused 4 img) (made g (delete_stores g n img k) al img))).answer ≡ 3) ⊎
            ((pick x (refused 3 img) (pick y (refused 4 img) (made g (delete_stores g n img k) al img))).answer ≡ 4)
        go true y e = inl refl
        go false true e = inr refl
        go false false e = absurd (true_false false e refl)

    pub insert_kept : (a al : ℕ) → a < four_bytes → Began (insert g img k a al)
        → Kept g (map_at g img) (put k a (map_at g img)) img (insert_stores g n img k a)
    insert_kept a al a-low b =
        let p = insert_passed g img k a al ready b in
        let f = few g shape img ready in
        let s = some_pages g shape img ready in
        let w = not_worn g n img p.0.0 in
        updated_kept g shape img ready (Fuller g (needs g c k) c) (map_at g img) (put k a (map_at g img)) (insert_stores g n img k a) (needs g c k)
        (m_top g shape n f (map_at g img) img keeps w s k a k_low a-low p.0.1.0 p.0.1.1.0)
        (insert_updated g shape n f (map_at g img) img keeps w s k a k_low a-low p.0.1.0 p.0.1.1.0)

    pub delete_pages : (al : ℕ) → Began (delete g img k al) → Own g n img 1 (delete_stores g n img k)
    unfolding delete_stores delete_store programs erases
    delete_pages al b =
        let p = delete_passed g img k 0 al ready b in
        record {
          own = _;
          list_is = refl;
          programs_are = refl;
          no_erase = refl;
          atmost = (let z = shape.top_low in omega (arith, z));
          collected = delete_collected g shape n (few g shape img ready) (map_at g img) img keeps (not_worn g n img p.0.0) (some_pages g shape img ready) k
              k_low p.0.1.0;
        }

    pub delete_kept : (al : ℕ) → Began (delete g img k al) → Kept g (map_at g img) (remove k (map_at g img)) img
        (delete_stores g n img k)
    delete_kept al b =
        let p = delete_passed g img k 0 al ready b in
        updated_kept g shape img ready _ (map_at g img) (remove k (map_at g img)) (delete_stores g n img k) 1 (let z =
        shape.top_low in omega (arith, z))
        (delete_updated g shape n (few g shape img ready) (map_at g img) img keeps (not_worn g n img p.0.0) (some_pages g shape img ready) k k_low
        p.0.1.0)

    -- the image of a finished call, and of a stopped one
    pub insert_ends : (a al : ℕ) → a < four_bytes → (insert g img k a al).answer ≡ 0 → Holds g (put k a (map_at g img))
        (insert g img k a al).image
    insert_ends a al a-low h =
        let p = insert_passed g img k a al ready (inl h) in
        let ss = insert_stores g n img k a in
        let e = ap (λ (o : Outcome). o.image) p.1
        ∙ made_done g ss al img (sym (ap (λ (o : Outcome). o.answer) p.1) ∙ h) in
        subst (Holds g (put k a (map_at g img))) (sym e) (insert_kept a al a-low (inl h)).end

    pub delete_ends : (al : ℕ) → (delete g img k al).answer ≡ 0 → Holds g (remove k (map_at g img))
        (delete g img k al).image
    delete_ends al h =
        let p = delete_passed g img k 0 al ready (inl h) in
        let ss = delete_stores g n img k in
        let e = ap (λ (o : Outcome). o.image) p.1
        ∙ made_done g ss al img (sym (ap (λ (o : Outcome). o.answer) p.1) ∙ h) in
        subst (Holds g (remove k (map_at g img))) (sym e) (delete_kept al (inl h)).end

    pub insert_stops : (a al : ℕ) → a < four_bytes → (insert g img k a al).answer ≡ 7 → Holds g (map_at g img)
        (insert g img k a al).image
    insert_stops a al a-low h =
        let p = insert_passed g img k a al ready (inr h) in
        let ss = insert_stores g n img k a in
        let e = ap (λ (o : Outcome). o.image) p.1 ∙ made_image g ss al img in
        subst (Holds g (map_at g img)) (sym e) ((insert_kept a al a-low (inr h)).before al
        (made_stopped g ss al img (sym (ap (λ (o : Outcome). o.answer) p.1) ∙ h)))

    pub delete_stops : (al : ℕ) → (delete g img k al).answer ≡ 7 → Holds g (map_at g img) (delete g img k al).image
    delete_stops al h =
        let p = delete_passed g img k 0 al ready (inr h) in
        let ss = delete_stores g n img k in
        let e = ap (λ (o : Outcome). o.image) p.1 ∙ made_image g ss al img in
        subst (Holds g (map_at g img)) (sym e) ((delete_kept al (inr h)).before al
        (made_stopped g ss al img (sym (ap (λ (o : Outcome). o.answer) p.1) ∙ h)))
