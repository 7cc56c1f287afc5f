-- The demands' proofs, from the tests that an answer stands for. Assumes nothing.
use Rattle.std.specs.Prelude.{◌≡◌, refl, List, [], ◌∷◌, Bool, false, ℕ, zero, suc, ◌+◌, ◌-◌, ◌*◌, ◌<◌, ◌≤◌, None, Option, Some, Err, is_none}
use Rattle.std.proofs.Math.Path.{ap, sym}
use Rattle.std.proofs.Common.{subst, ◌∙◌, inl, inr, arith}
use Rattle.std.proofs.Math.Bool.{true}
use borrow.Author.Tests.{ltb-true}
use Rattle.geometry.specs.declared.Geometry.{Geometry}
use Rattle.geometry.specs.declared.Entry.{Entry}
use Rattle.geometry.specs.Tests.{pick, and_right}
use Rattle.geometry.specs.Findings.{Verdict, Sound}
use Rattle.geometry.specs.Geometry.{half}
use Rattle.geometry.specs.Shape.{Shape}
use Rattle.geometry.specs.Bounds.{four_bytes}
use Rattle.model.specs.Image.{blocks_of, good_length, Nodes, Chip, chip_of}
use Rattle.model.specs.Tree.{chosen, find, sought}
use Rattle.model.specs.Rules.{verdict}
use Rattle.model.specs.Stores.{apply_all}
use Rattle.model.specs.Edit.{gains}
use Rattle.model.specs.Update.{root_node, root_gains, needs, too_high, insert_stores}
use Rattle.model.specs.Calls.{Outcome, refused, damaged, by_verdict, judged, answered, lookup, roomless, free_pages, insert}
use Rattle.theory_counts.specs.Cases.{true_false}
use Rattle.theory_chips.specs.Whole.{sought_map}
use Rattle.theory_chips.specs.Insertion.{Fuller}
use Rattle.theory_images.specs.Lengths.{blocks_same, length_all}
use Rattle.theory_updates.specs.Along.{Keeps}
use Rattle.theory_updates.specs.Lists.{not_worn, m_top}
use Rattle.theory_updates.proofs.Lists.{insert_collected, insert_own, insert_programs_only, insert_updated}
use Rattle.theory_demands.specs.Words.{Ready, map_at, Began, OneOf, Own}
use Rattle.theory_demands.specs.Bridges.{few, some_pages, ready_keeps}
use Rattle.theory_demands.specs.Tests.{Met, tested_one, tested_met}
use Rattle.theory_demands.specs.Calls.{judged_ready, insert_tests, insert_is, insert_passed, made_began, made_done}

pub lookup_image : (g : Geometry) (img : List ℕ) (k : ℕ) → (lookup g img k).image ≡ img
unfolding lookup judged by_verdict answered
lookup_image g img k = go (good_length g img) (verdict g (blocks_of g img) img) (sought (chip_of g (blocks_of g img) img) k)
  where
    go : (x : Bool) (v : Verdict) (o : Option ℕ) → (pick x (by_verdict v (damaged img) (answered o img))
        (refused 1 img)).image ≡ img
    go true Sound None = refl
    go true Sound (Some a) = refl
    go true (Err b) o = refl
    go false v o = refl

pub none_is : (o : Option ℕ) → is_none o ≡ true → o ≡ None
none_is None h = refl
none_is (Some a) h = absurd (true_false false h refl)

-- an entry gains only where K is absent
gains_absent : (r : Nodes) (k : ℕ) (half : ℕ → ℕ) (absent : Bool) (l : ℕ) (e : Entry) → gains r k half absent l e ≡ true
    → absent ≡ true
unfolding gains
gains_absent r k half absent zero e h = h
gains_absent r k half absent (suc l) e h =
    gains_absent r k half absent l (chosen k (r e.addr (suc l))) (and_right _ _ h)

module _ (g : Geometry) (shape : Shape g) (img : List ℕ) (ready : Ready g img) (k : ℕ) where
  abbrev n : ℕ
  n = blocks_of g img

  abbrev c : Chip
  c = chip_of g n img

  abbrev keeps : Keeps g n (map_at g img) img
  keeps = ready_keeps g shape img ready

  pub insert_one : (a al : ℕ) → OneOf (insert g img k a al).answer (0 ∷ 3 ∷ 5 ∷ 6 ∷ 7 ∷ [])
  insert_one a al = subst (λ (o : Outcome). OneOf o.answer (0 ∷ 3 ∷ 5 ∷ 6 ∷ 7 ∷ [])) (sym (insert_is g img k a al ready))
      (tested_one img (insert_tests g img k a al) _ (made_began g (insert_stores g n img k a) al img))

  -- a refusal is the number of a test that is met
  insert_met : (a al j : ℕ) → 1 ≤ j → j ≤ 6 → (insert g img k a al).answer ≡ j → Met j (insert_tests g img k a al)
  insert_met a al j p q h = tested_met img j (insert_tests g img k a al) _ (made_began g (insert_stores g n img k a) al img) p q
      (sym (ap (λ (o : Outcome). o.answer) (insert_is g img k a al ready)) ∙ h)

  -- ROOM: R8 leaves room for one page, so more are needed
  pub room_needs : (a al : ℕ) → (insert g img k a al).answer ≡ 6 → 2 ≤ needs g c k
  unfolding roomless
  room_needs a al h = go (insert_met a al 6 (omega arith) (omega arith) h)
    where
      go : Met 6 (insert_tests g img k a al) → 2 ≤ needs g c k
      go (inl e) = absurd (omega (arith, e.0))
      go (inr (inl e)) = absurd (omega (arith, e.0))
      go (inr (inr (inl e))) =
          let few_free = ltb-true (free_pages g n c) (2 * g.pages - 1 + needs g c k) e.1 in
          omega (arith, few_free, keeps.r8)
      go (inr (inr (inr e))) = absurd e

  module _ (k_low : k < four_bytes) where
    pub found : sought c k ≡ find k (map_at g img)
    found = sought_map g n c keeps.held.whole k k_low

    pub height_absent : (a al : ℕ) → (insert g img k a al).answer ≡ 5 → find k (map_at g img) ≡ None
    unfolding too_high root_gains
    height_absent a al h = sym found ∙ none_is (sought c k) (gains_absent c.nodes k (half g) (is_none (sought c k)) c.level
        (chosen k (root_node c)) (and_right _ _ (go (insert_met a al 5 (omega arith) (omega arith) h))))
      where
        go : Met 5 (insert_tests g img k a al) → too_high g c k ≡ true
        go (inl e) = absurd (omega (arith, e.0))
        go (inr (inl e)) = e.1
        go (inr (inr (inl e))) = absurd (omega (arith, e.0))
        go (inr (inr (inr e))) = absurd e

    -- what an insertion that answers 0 adds to the tree
    pub insert_fuller : (a al : ℕ) → a < four_bytes → (insert g img k a al).answer ≡ 0 → Fuller g (needs g c k) c
        (chip_of g n (insert g img k a al).image)
    insert_fuller a al a-low h =
        let p = insert_passed g img k a al ready (inl h) in
        let ss = insert_stores g n img k a in
        let e = ap (λ (o : Outcome). o.image) p.1
        ∙ made_done g ss al img (sym (ap (λ (o : Outcome). o.answer) p.1) ∙ h) in
        subst (λ (x : List ℕ). Fuller g (needs g c k) c (chip_of g n x)) (sym e)
        (insert_updated g shape n (few g shape img ready) (map_at g img) img keeps (not_worn g n img p.0.0) (some_pages g shape img ready) k a k_low
        a-low p.0.1.0 p.0.1.1.0).also

    pub insert_blocks : (a al : ℕ) → (insert g img k a al).answer ≡ 0 → blocks_of g (insert g img k a al).image ≡ n
    insert_blocks a al h =
        let p = insert_passed g img k a al ready (inl h) in
        let ss = insert_stores g n img k a in
        let e = ap (λ (o : Outcome). o.image) p.1
        ∙ made_done g ss al img (sym (ap (λ (o : Outcome). o.answer) p.1) ∙ h) in
        ap (blocks_of g) e ∙ blocks_same g img (apply_all g ss img) (length_all g ss img)

    pub insert_pages_lem : (a al : ℕ) → a < four_bytes → Began (insert g img k a al) → Own g n img (needs g c k)
        (insert_stores g n img k a)
    unfolding insert_stores
    insert_pages_lem a al a-low b =
        let p = insert_passed g img k a al ready b in
        let f = few g shape img ready in
        let s = some_pages g shape img ready in
        let w = not_worn g n img p.0.0 in
        record {
          own = _;
          list_is = refl;
          programs_are = insert_own g shape n f (map_at g img) img keeps w s k a k_low a-low p.0.1.0 p.0.1.1.0;
          no_erase = insert_programs_only g shape n f (map_at g img) img keeps w s k a k_low a-low p.0.1.0 p.0.1.1.0;
          atmost = m_top g shape n f (map_at g img) img keeps w s k a k_low a-low p.0.1.0 p.0.1.1.0;
          collected = insert_collected g shape n f (map_at g img) img keeps w s k a k_low a-low p.0.1.0 p.0.1.1.0;
        }

    pub lookup_is : lookup g img k ≡ answered (find k (map_at g img)) img
    unfolding lookup
    lookup_is = judged_ready g img (answered (sought c k) img) ready ∙ ap (λ (o : Option ℕ). answered o img) found
