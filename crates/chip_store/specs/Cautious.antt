-- Laws of careful stores: which of a list are made, and of an append. Assumes nothing.
use Rattle.std.specs.Prelude.{◌≡◌, Bool, true, false, ltb, length, take}
use Rattle.std.proofs.Math.Path.{refl, ap}
use Rattle.std.proofs.Common.{sym, ◌∙◌, ltb-true, ltb-false}
use mathlib.Core.List.{List, [], ◌∷◌, ◌++◌, append-nil}
use Prim.Native.Nat.{ℕ, zero, suc, ◌<◌, ◌≤◌}
use native.Mathlib.Omega.{arith}
use Rattle.geometry.specs.declared.Geometry.{Geometry}
use Rattle.geometry.specs.Tests.{pick}
use Rattle.model.specs.Bytes.{erased}
use Rattle.model.specs.Stores.{Store, program, erase, apply_store, apply_all}
use Rattle.chip_store.specs.Careful.{careful, Cautious}

module _ (g : Geometry) where
  -- what is made programs erased pages only
  pub careful_cautious : (ss : List Store) (img : List ℕ) → Cautious g (careful g ss img) img
  unfolding careful Cautious
  careful_cautious [] img = tt
  careful_cautious (program p bs ∷ ss) img =
      go (erased g img p) refl (careful_cautious ss (apply_store g (program p bs) img))
    where
      then : List ℕ
      then = apply_store g (program p bs) img

      go : (t : Bool) → erased g img p ≡ t → Cautious g (careful g ss then) then
          → Cautious g (pick t (program p bs ∷ careful g ss then) []) img
      go true e c = (e, c)
      go false e c = tt
  careful_cautious (erase b ∷ ss) img = careful_cautious ss (apply_store g (erase b) img)

  -- and so do its first stores
  pub cautious_take : (m : ℕ) (ss : List Store) (img : List ℕ) → Cautious g ss img → Cautious g (take m ss) img
  unfolding Cautious
  cautious_take zero ss img c = tt
  cautious_take (suc m) [] img c = tt
  cautious_take (suc m) (program p bs ∷ ss) img c = (c.0, cautious_take m ss (apply_store g (program p bs) img) c.1)
  cautious_take (suc m) (erase b ∷ ss) img c = cautious_take m ss (apply_store g (erase b) img) c

  -- a list that programs erased pages only is made whole
  pub cautious_careful : (ss : List Store) (img : List ℕ) → Cautious g ss img → careful g ss img ≡ ss
  unfolding Cautious careful
  cautious_careful [] img c = refl
  cautious_careful (program p bs ∷ ss) img c =
      rw c.0 (ap (λ (l : List Store). program p bs ∷ l) (cautious_careful ss (apply_store g (program p bs) img) c.1))
  cautious_careful (erase b ∷ ss) img c = ap (λ (l : List Store). erase b ∷ l) (cautious_careful ss (apply_store g (erase b) img) c)

  -- no more are made than there are
  pub careful_few : (ss : List Store) (img : List ℕ) → length (careful g ss img) ≤ length ss
  unfolding careful
  careful_few [] img = omega arith
  careful_few (program p bs ∷ ss) img = go (erased g img p) (careful_few ss (apply_store g (program p bs) img))
    where
      more : List Store
      more = careful g ss (apply_store g (program p bs) img)

      go : (t : Bool) → length more ≤ length ss → length (pick t (program p bs ∷ more) []) ≤ suc (length ss)
      go true h = omega (arith, h)
      go false h = omega arith
  careful_few (erase b ∷ ss) img = omega (arith, careful_few ss (apply_store g (erase b) img))

  -- where as many are made as there are, all are
  pub careful_whole : (ss : List Store) (img : List ℕ) → length ss ≤ length (careful g ss img) → careful g ss img ≡ ss
  unfolding careful
  careful_whole [] img h = refl
  careful_whole (program p bs ∷ ss) img h = go (erased g img p) h (careful_whole ss (apply_store g (program p bs) img))
    where
      more : List Store
      more = careful g ss (apply_store g (program p bs) img)

      go : (t : Bool) → suc (length ss) ≤ length (pick t (program p bs ∷ more) [])
          → (length ss ≤ length more → more ≡ ss)
          → pick t (program p bs ∷ more) [] ≡ program p bs ∷ ss
      go true l f = ap (λ (l : List Store). program p bs ∷ l) (f (let z : suc (length ss) ≤ suc (length more) = l in
          omega arith))
      go false l f = absurd (let z : suc (length ss) ≤ 0 = l in omega arith)
  careful_whole (erase b ∷ ss) img h =
      ap (λ (l : List Store). erase b ∷ l) (careful_whole ss (apply_store g (erase b) img)
      (let z : suc (length ss) ≤ suc (length (careful g ss (apply_store g (erase b) img))) = h in omega arith))

  -- an append whose first part is made whole, and one whose first part is not
  careful_on : (xs ys : List Store) (img : List ℕ) → Cautious g xs img → careful g (xs ++ ys) img ≡ xs ++ careful g ys
      (apply_all g xs img)
  unfolding Cautious careful apply_all
  careful_on [] ys img c = refl
  careful_on (program p bs ∷ xs) ys img c =
      rw c.0 (ap (λ (l : List Store). program p bs ∷ l) (careful_on xs ys (apply_store g (program p bs) img) c.1))
  careful_on (erase b ∷ xs) ys img c = ap (λ (l : List Store). erase b ∷ l) (careful_on xs ys (apply_store g (erase b) img) c)

  pub append_whole : (xs ys : List Store) (img : List ℕ) → length xs ≤ length (careful g xs img)
      → careful g (xs ++ ys) img ≡ xs ++ careful g ys (apply_all g xs img)
  append_whole xs ys img h = careful_on xs ys img (rw (careful_whole xs img h) at (careful_cautious xs img))

  pub append_cut : (xs ys : List Store) (img : List ℕ) → length (careful g xs img) < length xs
      → careful g (xs ++ ys) img ≡ careful g xs img
  unfolding careful
  append_cut [] ys img h = absurd (let z : 0 < 0 = h in omega arith)
  append_cut (program p bs ∷ xs) ys img h = go (erased g img p) h (append_cut xs ys (apply_store g (program p bs) img))
    where
      more : List Store
      more = careful g xs (apply_store g (program p bs) img)

      all : List Store
      all = careful g (xs ++ ys) (apply_store g (program p bs) img)

      go : (t : Bool) → length (pick t (program p bs ∷ more) []) < suc (length xs)
          → (length more < length xs → all ≡ more)
          → pick t (program p bs ∷ all) [] ≡ pick t (program p bs ∷ more) []
      go true l f = ap (λ (l : List Store). program p bs ∷ l) (f (let z : suc (length more) < suc (length xs) = l in
          omega arith))
      go false l f = refl
  append_cut (erase b ∷ xs) ys img h =
      ap (λ (l : List Store). erase b ∷ l) (append_cut xs ys (apply_store g (erase b) img)
      (let z : suc (length (careful g xs (apply_store g (erase b) img))) < suc (length xs) = h in omega arith))

  -- the stores of the second part follow where those of the first are all made
  pub careful_append : (xs ys : List Store) (img : List ℕ) → careful g (xs ++ ys) img
      ≡ careful g xs img ++ pick (ltb (length (careful g xs img)) (length xs)) [] (careful g ys (apply_all g xs img))
  careful_append xs ys img = go (ltb (length (careful g xs img)) (length xs)) refl
    where
      go : (t : Bool) → ltb (length (careful g xs img)) (length xs) ≡ t
          → careful g (xs ++ ys) img ≡ careful g xs img ++ pick t [] (careful g ys (apply_all g xs img))
      go true e = append_cut xs ys img (ltb-true _ _ e) ∙ sym (append-nil (careful g xs img))
      go false e =
          let h : length xs ≤ length (careful g xs img) = ltb-false _ _ e in
          append_whole xs ys img h ∙ ap (λ (l : List Store). l ++ careful g ys (apply_all g xs img)) (sym (careful_whole xs img h))
