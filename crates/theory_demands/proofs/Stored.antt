-- Request 13: what an import's inserts leave. Proofs for Carrying. Assumes nothing.
use Rattle.std.specs.Prelude.{◌≡◌, Bool, true, false, ℕ, suc, ◌+◌, ◌<◌, ◌≤◌, eqb}
use Rattle.std.proofs.Math.Path.{refl, sym, subst}
use Rattle.std.proofs.Common.{ap, ◌∙◌, inr, arith, eq-eqb, ne_eqb, eqb-true}
use mathlib.Core.List.{List, [], ◌∷◌, ◌++◌, append_assoc, append-nil}
use Rattle.std.proofs.Math.Logic.{inl}
use Rattle.std.proofs.Math.ListN.{length, take, length-append}
use Rattle.std.proofs.Math.Seq.{take_at}
use Rattle.std.proofs.lemmas.Bool.{eqb-false}
use Rattle.geometry.specs.declared.Geometry.{Geometry}
use Rattle.geometry.specs.declared.Entry.{Entry}
use Rattle.geometry.specs.Shape.{Shape}
use Rattle.geometry.specs.Bounds.{four_bytes}
use Rattle.model.specs.Edit.{put}
use Rattle.model.specs.Calls.{Outcome, insert}
use Rattle.theory_lists.specs.All.{All, all_append, all_map}
use Rattle.theory_nodes.specs.Entries.{In}
use Rattle.theory_trees.specs.Insert.{put_local}
use Rattle.text_decimals.specs.Decimals.{largest}
use Rattle.text_carrying.specs.Carrying.{counted, store_all}
use Rattle.text_carrying.specs.Back.{Rises, refused_stays}
use Rattle.theory_demands.specs.Words.{Holds, OneOf}
use Rattle.theory_demands.specs.Demands.{insert_refused, insert_answers}
use Rattle.theory_demands.proofs.Demands.{insert_done, insert_stopped}
use Rattle.theory_demands.specs.Stored.{Stored, inserted, store_more}

-- a record above all others is put at the end
put_end : (k a : ℕ) (m : List Entry) → All (In 0 k) m → put k a m ≡ m ++ (record { key = k; addr = a } ∷ [])
put_end k a m h = sym (ap (put k a) (append-nil m)) ∙ (put_local k a).after 0 m [] h

module _ (g : Geometry) (shape : Shape g) where
  -- one insert, refused or stopped: the map is as it was
  refused_holds : (img : List ℕ) (m : List Entry) (k a : ℕ) → Holds g m img → k < four_bytes → a < four_bytes
      → ((insert g img k a largest).answer ≡ 0 → ⊥) → Holds g m (insert g img k a largest).image
  refused_holds img m k a h k_low a-low n = go (insert_answers g shape img h.ready k k_low a largest)
    where
      old : ((insert g img k a largest).image ≡ img) → Holds g m (insert g img k a largest).image
      old e = subst (Holds g m) (sym e) h

      low : 1 ≤ (insert g img k a largest).answer → (insert g img k a largest).answer ≤ 6
          → Holds g m (insert g img k a largest).image
      low p q = old (insert_refused g img k a largest p q)

      go : OneOf (insert g img k a largest).answer (0 ∷ 3 ∷ 5 ∷ 6 ∷ 7 ∷ [])
          → Holds g m (insert g img k a largest).image
      go (inl z) = absurd (n z)
      go (inr (inl z)) = low (omega (arith, z)) (omega (arith, z))
      go (inr (inr (inl z))) = low (omega (arith, z)) (omega (arith, z))
      go (inr (inr (inr (inl z)))) = low (omega (arith, z)) (omega (arith, z))
      go (inr (inr (inr (inr (inl z))))) = subst (λ x. Holds g x (insert g img k a largest).image) h.map_is
          (insert_stopped g shape img h.ready k k_low a largest a-low z)
      go (inr (inr (inr (inr (inr z))))) = absurd z

  -- the inserts of es after those of xs, whose keys are below low
  pub stored_all : (es xs : List Entry) (low : ℕ) (s : Outcome) → Rises low es → All (In 0 low) xs
      → Holds g xs s.image
      → s.answer ≡ 0 → s.address ≡ length xs → length xs + length es < four_bytes
      → Stored g (xs ++ es) (store_all g s es)
  unfolding store_all counted
  stored_all [] xs low s r h i z n few = record {
    some = let w = length-append xs [] in omega (arith, w, n);
    holds = subst (λ x. Holds g x s.image) (sym (ap (λ m. take m (xs ++ [])) n ∙ take_at xs [] (length xs) refl)) i;
    whole = λ _. n ∙ sym (ap length (append-nil xs));
    answers = inl z;
  }
  stored_all (e ∷ es) xs low s r h i z n few =
      subst (Stored g (xs ++ (e ∷ es))) (sym (store_more g s e es z)) (go (eqb (inserted g s e).answer 0) refl
      (λ xs low s r h i z n few. stored_all es xs low s r h i z n few))
    where
      below : All (In 0 e.key) xs
      below = all_map (In 0 low) (In 0 e.key) xs (λ x j. omega (arith, j, r.0)) h

      below' : All (In 0 (suc e.key)) (xs ++ (e ∷ []))
      below' = all_append (In 0 (suc e.key)) xs (e ∷ []) (all_map (In 0 low) (In 0 (suc e.key)) xs (λ x j. omega (arith, j, r.0)) h)
          ((omega arith, omega arith), tt)

      long : length (xs ++ (e ∷ [])) ≡ suc (length xs)
      long = length-append xs (e ∷ []) ∙ omega arith

      held : (inserted g s e).answer ≡ 0 → Holds g (xs ++ (e ∷ [])) (inserted g s e).image
      held q = subst (λ x. Holds g x (inserted g s e).image) (ap (put e.key e.addr) i.map_is
          ∙ put_end e.key e.addr xs below)
          (insert_done g shape s.image i.ready e.key r.1 e.addr largest r.2 q)

      one : (inserted g s e).answer ≡ 0 → (counted s (inserted g s e)).address ≡ length (xs ++ (e ∷ []))
      one q = rw (eq-eqb (inserted g s e).answer 0 q) (omega (arith, n, few, long))

      none : ((inserted g s e).answer ≡ 0 → ⊥) → (counted s (inserted g s e)).address ≡ length xs
      none q = rw (ne_eqb (inserted g s e).answer 0 q) (omega (arith, n, few))

      go : (t : Bool) → eqb (inserted g s e).answer 0 ≡ t
          → ((xs : List Entry) (low : ℕ) (s : Outcome) → Rises low es → All (In 0 low) xs → Holds g xs s.image
          → s.answer ≡ 0 → s.address ≡ length xs
          → length xs + length es < four_bytes → Stored g (xs ++ es) (store_all g s es))
          → Stored g (xs ++ (e ∷ es)) (store_all g (counted s (inserted g s e)) es)
      go true q ih =
          let a = eqb-true _ 0 q in
          subst (λ x. Stored g x (store_all g (counted s (inserted g s e)) es)) (append_assoc xs (e ∷ []) es)
          (ih (xs ++ (e ∷ [])) (suc e.key) (counted s (inserted g s e)) r.3 below' (held a) a (one a) (omega (arith, few, long)))
      go false q ih =
          let a = eqb-false _ 0 q in
          let w = length-append xs (e ∷ es) in
          let c = none a in
          subst (Stored g (xs ++ (e ∷ es))) (sym (refused_stays g (counted s (inserted g s e)) es a)) (record {
            some = omega (arith, w, c);
            holds = subst (λ x. Holds g x (inserted g s e).image) (sym (ap (λ m. take m (xs ++ (e ∷ es))) c
                ∙ take_at xs (e ∷ es) (length xs) refl))
                (refused_holds s.image xs e.key e.addr i r.1 r.2 a);
            whole = λ b. absurd (a b);
            answers = insert_answers g shape s.image i.ready e.key r.1 e.addr largest;
          })
