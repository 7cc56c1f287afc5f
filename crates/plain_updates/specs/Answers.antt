-- The plain tree's calls (request 12) under demands 1 and 2, in the demands' words: which answers they give, and what
-- those say of the map. Which number is given where several apply, the definitions say: LENGTH, DAMAGED, WORN, ABSENT,
-- HEIGHT, ROOM, STOPPED, the first that applies. Assumes nothing.
use Rattle.std.specs.Prelude.{◌≡◌, refl, List, [], ◌∷◌, Bool, false, ◌⊎◌, ℕ, ◌<◌, ◌≤◌, None, Option, Some, is_none}
use Rattle.std.proofs.Math.Path.{ap}
use Rattle.std.proofs.Common.{sym, subst, ◌∙◌, inl, inr}
use Rattle.std.proofs.Math.Bool.{true}
use native.Mathlib.Omega.{arith}
use Rattle.geometry.specs.Geometry.{plain}
use Rattle.geometry.specs.Tests.{pick, bit, and_right}
use Rattle.geometry.specs.Bounds.{four_bytes}
use Rattle.model.specs.Image.{blocks_of, Chip, chip_of}
use Rattle.model.specs.Tree.{find, sought}
use Rattle.model.specs.Calls.{Outcome, refused, made, worn}
use Rattle.model.specs.Plain.{plain_high, plain_insert_stores, plain_needs, plain_insert_rest, plain_insert}
use Rattle.model.specs.Plain.{plain_roomless, plain_delete_stores, plain_leaves, plain_delete_rest, plain_delete}
use Rattle.theory_counts.specs.Cases.{true_false}
use Rattle.theory_chips.specs.Whole.{map_rises}
use Rattle.theory_chips.specs.PlainPresent.{present_pages}
use Rattle.theory_demands.specs.Words.{Ready, map_at, Rising, OneOf}
use Rattle.theory_demands.specs.Maps.{rising}
use Rattle.theory_demands.specs.Tests.{Met, tested_one, tested_met, tested_later}
use Rattle.theory_demands.specs.Calls.{made_began}
use Rattle.theory_demands.specs.Refusals.{Refuses, judged_refuses}
use Rattle.plain_updates.specs.Words.{plain_insert_tests, plain_delete_tests, plain_insert_rest_lem, plain_delete_rest_lem}
use Rattle.plain_updates.specs.Words.{plain_insert_is, plain_delete_is, ready_held, plain_found}

-- ---- Demand 1, every image: LENGTH for a bad length, DAMAGED with rule and page for an image that is not sound,
-- neither otherwise. That answers 1 to 6 leave the image: `plain_insert_refused`, `plain_delete_refused` (Words)
module _ (img : List ℕ) (k : ℕ) where
  abbrev n : ℕ
  n = blocks_of plain img

  abbrev c : Chip
  c = chip_of plain n img

  pub plain_insert_refuses : (a al : ℕ) → Refuses plain img (plain_insert plain img k a al)
  unfolding plain_insert
  plain_insert_refuses a al = judged_refuses plain img (plain_insert_rest plain n img k a al) (rw (plain_insert_rest_lem img k a al)
      (tested_later img (plain_insert_tests img k a al) _ (omega arith, (omega arith, (omega arith, tt)))
      (made_began plain (plain_insert_stores plain n img k a) al img)))

  pub plain_delete_refuses : (al : ℕ) → Refuses plain img (plain_delete plain img k al)
  unfolding plain_delete
  plain_delete_refuses al = judged_refuses plain img (plain_delete_rest plain n img k al) (rw (plain_delete_rest_lem img k 0 al)
      (tested_later img (plain_delete_tests img k 0 al) _ (omega arith, (omega arith, (omega arith, tt)))
      (made_began plain (plain_delete_stores plain n img k) al img)))

  -- ---- Demand 2: a sound image
  module _ (ready : Ready plain img) where
    -- insert answers 0, 3, 5, 6 or 7, and 5 for an absent key only
    pub plain_insert_answers : (a al : ℕ) → OneOf (plain_insert plain img k a al).answer (0 ∷ 3 ∷ 5 ∷ 6 ∷ 7 ∷ [])
    plain_insert_answers a al = subst (λ (o : Outcome). OneOf o.answer (0 ∷ 3 ∷ 5 ∷ 6 ∷ 7 ∷ [])) (sym (plain_insert_is img k a al ready))
        (tested_one img (plain_insert_tests img k a al) _ (made_began plain (plain_insert_stores plain n img k a) al img))

    -- delete answers 0, 3, 4, 6 or 7, and 4 exactly for an absent key, unless the chip is worn
    pub plain_delete_answers : (al : ℕ) → OneOf (plain_delete plain img k al).answer (0 ∷ 3 ∷ 4 ∷ 6 ∷ 7 ∷ [])
    plain_delete_answers al = subst (λ (o : Outcome). OneOf o.answer (0 ∷ 3 ∷ 4 ∷ 6 ∷ 7 ∷ [])) (sym (plain_delete_is img k 0 al ready))
        (tested_one img (plain_delete_tests img k 0 al) _ (made_began plain (plain_delete_stores plain n img k) al img))

    -- a refusal is the number of a test that is met
    insert_met : (a al j : ℕ) → 1 ≤ j → j ≤ 6 → (plain_insert plain img k a al).answer ≡ j
        → Met j (plain_insert_tests img k a al)
    insert_met a al j p q h = tested_met img j (plain_insert_tests img k a al) _ (made_began plain (plain_insert_stores plain n img k a) al img) p q
        (sym (ap (λ (o : Outcome). o.answer) (plain_insert_is img k a al ready)) ∙ h)

    delete_met : (al j : ℕ) → 1 ≤ j → j ≤ 6 → (plain_delete plain img k al).answer ≡ j
        → Met j (plain_delete_tests img k 0 al)
    delete_met al j p q h = tested_met img j (plain_delete_tests img k 0 al) _ (made_began plain (plain_delete_stores plain n img k) al img) p q
        (sym (ap (λ (o : Outcome). o.answer) (plain_delete_is img k 0 al ready)) ∙ h)

    module _ (k_low : k < four_bytes) where
      -- the map's keys rise strictly and stay below 2^32
      pub plain_map_sorted : Rising four_bytes (map_at plain img)
      plain_map_sorted = rising four_bytes (map_at plain img) (map_rises plain n c (ready_held img ready).whole)

      -- what the map has, by what descent finds
      by_sought : (is_none (sought c k) ≡ false → ⊥) → find k (map_at plain img) ≡ None
      by_sought h = sym (plain_found img ready k k_low) ∙ go (sought c k) h
        where
          go : (o : Option ℕ) → (is_none o ≡ false → ⊥) → o ≡ None
          go None f = refl
          go (Some a) f = absurd (f refl)

      pub plain_insert_height : (a al : ℕ) → (plain_insert plain img k a al).answer ≡ 5 → find k (map_at plain img) ≡ None
      unfolding plain_high plain_needs
      plain_insert_height a al h = by_sought (λ there.
          let grows = and_right _ _ (go (insert_met a al 5 (omega arith) (omega arith) h)) in
          let e = present_pages plain c k there in
          let b = ap bit grows in
          omega (arith, e, b))
        where
          go : Met 5 (plain_insert_tests img k a al) → plain_high plain c k ≡ true
          go (inl e) = absurd (omega (arith, e.0))
          go (inr (inl e)) = e.1
          go (inr (inr (inl e))) = absurd (omega (arith, e.0))
          go (inr (inr (inr e))) = absurd e

      pub plain_delete_absent : (al : ℕ) → (plain_delete plain img k al).answer ≡ 4 → find k (map_at plain img) ≡ None
      plain_delete_absent al h = by_sought (λ there. true_false _ (go (delete_met al 4 (omega arith) (omega arith) h)) there)
        where
          go : Met 4 (plain_delete_tests img k 0 al) → is_none (sought c k) ≡ true
          go (inl e) = absurd (omega (arith, e.0))
          go (inr (inl e)) = e.1
          go (inr (inr (inl e))) = absurd (omega (arith, e.0))
          go (inr (inr (inr e))) = absurd e

      pub plain_absent_delete : (al : ℕ) → find k (map_at plain img) ≡ None
          → ((plain_delete plain img k al).answer ≡ 3) ⊎ ((plain_delete plain img k al).answer ≡ 4)
      plain_absent_delete al h = subst (λ (o : Outcome). (o.answer ≡ 3) ⊎ (o.answer ≡ 4)) (sym (plain_delete_is img k 0 al ready))
          (go (worn plain n img) (is_none (sought c k)) (ap is_none (plain_found img ready k k_low ∙ h)))
        where
          rest : Outcome
          rest = pick (plain_roomless plain n c (plain_leaves c k)) (refused 6 img) (made plain (plain_delete_stores plain n img k) al img)

          go : (x y : Bool) → y ≡ true
              → ((pick x (refused 3 img) (pick y (refused 4 img) rest)).answer ≡ 3) ⊎
              ((pick x (refused 3 img) (pick y (refused 4 img) rest)).answer ≡ 4)
          go true y e = inl refl
          go false true e = inr refl
          go false false e = absurd (true_false false e refl)
