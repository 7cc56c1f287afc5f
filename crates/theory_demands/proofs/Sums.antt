-- Request 13: an import's counts are the sums of format's and its inserts' counts. Proofs for Carrying. Assumes
-- nothing.
use Rattle.std.specs.Prelude.{◌≡◌, Bool, true, false, ℕ, suc, ◌+◌, ◌*◌, ◌<◌, ◌≤◌, eqb, length}
use Rattle.std.proofs.Math.Path.{refl, ap, sym}
use Rattle.std.proofs.Common.{◌∙◌, inl, mul-suc, eqb-true}
use mathlib.Core.List.{List, [], ◌∷◌}
use native.Mathlib.Omega.{arith}
use Rattle.std.proofs.Math.Seq.{take_all}
use Rattle.std.proofs.lemmas.Bool.{eqb-false}
use Rattle.geometry.specs.declared.Geometry.{Geometry}
use Rattle.geometry.specs.declared.Entry.{Entry}
use Rattle.geometry.specs.Tests.{pick}
use Rattle.geometry.specs.Shape.{Shape}
use Rattle.geometry.specs.Bounds.{four_bytes}
use Rattle.model.specs.Image.{blocks_of, chip_of}
use Rattle.model.specs.Stores.{Store, programs, erases}
use Rattle.model.specs.Update.{needs, too_high, insert_stores}
use Rattle.model.specs.Calls.{Outcome, refused, made, worn, roomless, free_pages, insert}
use Rattle.text_decimals.specs.Decimals.{largest}
use Rattle.text_carrying.specs.Carrying.{word, counted, store_all}
use Rattle.text_carrying.specs.Back.{Rises, refused_stays}
use Rattle.theory_demands.specs.Words.{Ready}
use Rattle.theory_demands.specs.Calls.{insert_is, made_all}
use Rattle.theory_demands.proofs.Demands.{insert_done, insert_bounds}
use Rattle.theory_demands.specs.Demands.{insert_made_lem}
use Rattle.theory_demands.specs.Builds.{stores_most}
use Rattle.theory_demands.proofs.Builds.{insert_finishes}
use Rattle.theory_demands.specs.Stored.{inserted, store_more}
use Rattle.theory_demands.specs.Sums.{Limits, sum_of}

module _ (g : Geometry) (shape : Shape g) (allowed : stores_most g ≤ largest) where
  module _ (img : List ℕ) (ready : Ready g img) (k a : ℕ) (k_low : k < four_bytes) (a-low : a < four_bytes) where
    abbrev n : ℕ
    n = blocks_of g img

    abbrev ss : List Store
    ss = insert_stores g n img k a

    finished : (insert g img k a largest).answer ≡ 0 → Limits g (insert g img k a largest)
    unfolding made
    finished h =
        let b = insert_bounds g shape img ready k k_low a largest a-low (inl h) in
        let is = insert_made_lem g shape img ready k k_low a largest (inl h) in
        let z = sym (ap (λ (o : Outcome). o.answer) is) ∙ h in
        let all = take_all largest ss (made_all g ss largest img z) in
        record {
          programmed = let q = ap (λ (o : Outcome). o.programmed) is ∙ ap programs all in omega (arith, q, b.1);
          erased = let q = ap (λ (o : Outcome). o.erased) is ∙ ap erases all in omega (arith, q, b.2);
        }

    -- and no insert is STOPPED: the largest allowance is enough
    pub insert_limits : Limits g (insert g img k a largest) × ((insert g img k a largest).answer ≡ 7 → ⊥)
    insert_limits = go (worn g n img) (too_high g (chip_of g n img) k) (roomless g (free_pages g n (chip_of g n img)) (needs g (chip_of g n img) k)) refl refl refl
      where
        small : (j : ℕ) → j ≤ 6 → insert g img k a largest ≡ refused j img → Limits g (insert g img k a largest) ×
            ((insert g img k a largest).answer ≡ 7 → ⊥)
        small j h e = (
          record {
            programmed = let q = ap (λ (o : Outcome). o.programmed) e in omega (arith, q);
            erased = let q = ap (λ (o : Outcome). o.erased) e in omega (arith, q);
          },
          λ z. let q = ap (λ (o : Outcome). o.answer) e in omega (arith, q, z, h),
        )

        go : (x y z : Bool) → worn g n img ≡ x → too_high g (chip_of g n img) k ≡ y
            → roomless g (free_pages g n (chip_of g n img)) (needs g (chip_of g n img) k) ≡ z
            → Limits g (insert g img k a largest) × ((insert g img k a largest).answer ≡ 7 → ⊥)
        go true y z p q r = small 3 (omega arith) (insert_is g img k a largest ready ∙ rw p refl)
        go false true z p q r = small 5 (omega arith) (insert_is g img k a largest ready ∙ rw (p, q) refl)
        go false false true p q r = small 6 (omega arith) (insert_is g img k a largest ready ∙ rw (p, q, r) refl)
        go false false false p q r =
            let h = insert_finishes g shape img ready k k_low a largest a-low allowed p q r in
            (finished h, λ z. omega (arith, h, z))

  -- any count that an import adds up, at most `most` an insert
  module _ (count : Outcome → ℕ) (most : ℕ) (adds : (s o : Outcome) → count (counted s o) ≡ word (count s + count o))
      (limits : (o : Outcome) → Limits g o → count o ≤ most) where
    pub sums : (es : List Entry) (low : ℕ) (s : Outcome) → Rises low es → Ready g s.image → s.answer ≡ 0
        → count s + most * length es < four_bytes
        → count (store_all g s es) ≡ count s + sum_of g count s.image es
    unfolding store_all sum_of counted
    sums [] low s r h z few = omega arith
    sums (e ∷ es) low s r h z few =
        ap count (store_more g s e es z) ∙ go (eqb (inserted g s e).answer 0) refl (λ low s r h z few. sums es low s r h z few)
      where
        lim : count (inserted g s e) ≤ most
        lim = limits (inserted g s e) (insert_limits s.image h e.key e.addr r.1 r.2).0

        room : most * suc (length es) ≡ most * length es + most
        room = mul-suc most (length es) ∙ omega arith

        next : count (counted s (inserted g s e)) ≡ count s + count (inserted g s e)
        next = let q = adds s (inserted g s e) in let l = lim in let w = room in omega (arith, q, l, w, few)

        go : (t : Bool) → eqb (inserted g s e).answer 0 ≡ t
            → ((low : ℕ) (s : Outcome) → Rises low es → Ready g s.image → s.answer ≡ 0
            → count s + most * length es < four_bytes
            → count (store_all g s es) ≡ count s + sum_of g count s.image es)
            → count (store_all g (counted s (inserted g s e)) es)
            ≡ count s + (count (inserted g s e) + pick t (sum_of g count (inserted g s e).image es) 0)
        go true q ih =
            let a = eqb-true _ 0 q in
            let done = insert_done g shape s.image h e.key r.1 e.addr largest r.2 a in
            let i = ih (suc e.key) (counted s (inserted g s e)) r.3 done.ready a (let w = room in let l =
            lim in let m = next in omega (arith, few, w, l, m)) in
            let m = next in
            omega (arith, i, m)
        go false q ih =
            let a = eqb-false _ 0 q in
            let m = ap count (refused_stays g (counted s (inserted g s e)) es a) ∙ next in
            omega (arith, m)
