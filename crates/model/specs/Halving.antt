-- What the place found by halving is, in any node, sorted or not. Assumes nothing.
use Prim.Native.Nat.{ℕ, zero, suc, ◌+◌, ◌-◌, ◌^◌, ◌<◌, ◌≤◌}
use Rattle.std.specs.Prelude.{Bool, ◌≡◌, List, [], ◌∷◌, ◌++◌, length, take, drop}
use Rattle.std.proofs.Math.Bool.{true, false}
use Rattle.std.proofs.Math.Path.{refl, sym}
use Rattle.std.proofs.Common.{ap, ◌∙◌, arith}
use Rattle.std.proofs.Math.Dec.{ltb}
use borrow.Author.Tests.{lt-ltb, le-ltb, ltb-true, ltb-false}
use Rattle.geometry.specs.declared.Entry.{Entry}
use Rattle.geometry.specs.Tests.{pick}
use Rattle.model.specs.Tree.{entry_of, middle, halve, place}
use Rattle.model.specs.Edit.{swap}

-- entry i is not above k, unless it is the first; the one that follows is above k, unless i is the last
pub record Placed (k : ℕ) (es : List Entry) (i : ℕ) : Type 0 where
  pub inside : i < length es
  pub low : 0 < i → (entry_of es i).key ≤ k
  pub high : suc i < length es → k < (entry_of es (suc i)).key

below_power : (s : ℕ) → s < 2 ^ s
below_power zero = omega arith
below_power (suc s) = omega (arith, below_power s)

module _ (k : ℕ) (es : List Entry) where
  -- one step
  pub halve_left : (s lo hi : ℕ) → k < (entry_of es (middle lo hi)).key → halve (suc s) k es lo hi ≡ halve s k es lo
      (middle lo hi)
  unfolding halve
  halve_left s lo hi g = rw (lt-ltb _ _ g)

  pub halve_right : (s lo hi : ℕ) → (entry_of es (middle lo hi)).key ≤ k → halve (suc s) k es lo hi ≡ halve s k es
      (middle lo hi) hi
  unfolding halve
  halve_right s lo hi g = rw (le-ltb _ _ g)

  pub halve_done : (s lo hi : ℕ) → hi ≤ lo + 1 → halve s k es lo hi ≡ lo
  unfolding halve
  halve_done zero lo hi h = refl
  halve_done (suc s) lo hi h = go (ltb k (entry_of es (middle lo hi)).key) (omega arith)
      (halve_done s lo (middle lo hi) (omega arith)) (halve_done s (middle lo hi) hi (omega arith))
    where
      go : (t : Bool) → middle lo hi ≡ lo → halve s k es lo (middle lo hi) ≡ lo → halve s k es (middle lo hi) hi
          ≡ middle lo hi
          → halve s k es (pick t lo (middle lo hi)) (pick t (middle lo hi) hi) ≡ lo
      go true q a b = a
      go false q a b = b ∙ q

  -- s halvings are enough for 2^s entries, and more change nothing
  pub halve_enough : (s t lo hi : ℕ) → hi ≤ lo + 2 ^ s → hi ≤ lo + 2 ^ t → halve s k es lo hi ≡ halve t k es lo hi
  unfolding halve
  halve_enough zero t lo hi h g = sym (halve_done t lo hi h)
  halve_enough (suc s) zero lo hi h g = halve_done (suc s) lo hi g
  halve_enough (suc s) (suc t) lo hi h g = go (ltb k (entry_of es (middle lo hi)).key)
      (halve_enough s t lo (middle lo hi) (omega arith) (omega arith)) (halve_enough s t (middle lo hi) hi (omega arith) (omega arith))
    where
      go : (t' : Bool) → halve s k es lo (middle lo hi) ≡ halve t k es lo (middle lo hi)
          → halve s k es (middle lo hi) hi ≡ halve t k es (middle lo hi) hi
          → halve s k es (pick t' lo (middle lo hi)) (pick t' (middle lo hi) hi) ≡ halve t k es
          (pick t' lo (middle lo hi)) (pick t' (middle lo hi) hi)
      go true a b = a
      go false a b = b

  pub halve_steps : (s t lo hi : ℕ) → hi ≤ lo + 1 + s → hi ≤ lo + 1 + t → halve s k es lo hi ≡ halve t k es lo hi
  halve_steps s t lo hi h g = halve_enough s t lo hi (omega (arith, below_power s)) (omega (arith, below_power t))

  -- so at most s keys of 2^s entries are looked at: six of a root's 63
  pub place_few : (s : ℕ) → length es ≤ 2 ^ s → place k es ≡ halve s k es 0 (length es)
  unfolding place
  place_few s h = halve_enough (length es) s 0 (length es) (omega (arith, below_power (length es))) (omega arith)

  last : (lo hi : ℕ) → hi ≡ suc lo → hi ≤ length es → (0 < lo → (entry_of es lo).key ≤ k)
      → (hi < length es → k < (entry_of es hi).key) → Placed k es lo
  last lo hi q d low high = record { inside = omega arith; low = low; high = rw q at high }

  halve_placed : (s lo hi : ℕ) → hi ≤ lo + 1 + s → lo < hi → hi ≤ length es → (0 < lo → (entry_of es lo).key ≤ k)
      → (hi < length es → k < (entry_of es hi).key)
      → Placed k es (halve s k es lo hi)
  unfolding halve
  halve_placed zero lo hi b c d low high = last lo hi (omega arith) d low high
  halve_placed (suc s) lo hi b c d low high = go (ltb (lo + 1) hi) refl (ltb k (entry_of es (middle lo hi)).key) refl
      (λ q f. halve_placed s lo (middle lo hi) (omega (arith, q)) (omega (arith, q)) (omega (arith, q)) low (λ _. f))
      (λ q f. halve_placed s (middle lo hi) hi (omega (arith, q)) (omega (arith, q)) d (λ _. f) high)
    where
      go : (t : Bool) → ltb (lo + 1) hi ≡ t → (u : Bool) → ltb k (entry_of es (middle lo hi)).key ≡ u
          → (lo + 1 < hi → k < (entry_of es (middle lo hi)).key → Placed k es (halve s k es lo (middle lo hi)))
          → (lo + 1 < hi → (entry_of es (middle lo hi)).key ≤ k → Placed k es (halve s k es (middle lo hi) hi))
          → Placed k es (halve s k es (pick u lo (middle lo hi)) (pick u (middle lo hi) hi))
      go false e true f x y =
          let z = ltb-false (lo + 1) hi e in
          rw (halve_done s lo (middle lo hi) (omega (arith, z))) (last lo hi (omega (arith, z)) d low high)
      go false e false f x y =
          let z = ltb-false (lo + 1) hi e in
          let q : middle lo hi ≡ lo = omega (arith, z) in
          rw (halve_done s (middle lo hi) hi (omega (arith, z)), q) (last lo hi (omega (arith, z)) d low high)
      go true e true f x y = x (ltb-true (lo + 1) hi e) (ltb-true k _ f)
      go true e false f x y = y (ltb-true (lo + 1) hi e) (ltb-false k _ f)

  pub place_is : 0 < length es → Placed k es (place k es)
  unfolding place
  place_is n = halve_placed (length es) 0 (length es) (omega arith) n (omega arith) (λ z. absurd (omega arith)) (λ z. absurd (omega arith))

-- where keys rise: "the last entry whose key is not above K, or the first entry if there is none"
pub record Last (k : ℕ) (es : List Entry) (i : ℕ) : Type 0 where
  pub inside : i < length es
  pub low : 0 < i → (entry_of es i).key ≤ k
  pub rest : (j : ℕ) → i < j → j < length es → k < (entry_of es j).key

-- the place hangs on the keys alone
halve_keys : (k : ℕ) (xs ys : List Entry) → ((i : ℕ) → (entry_of xs i).key ≡ (entry_of ys i).key) → (s lo hi : ℕ)
    → halve s k xs lo hi ≡ halve s k ys lo hi
unfolding halve
halve_keys k xs ys e zero lo hi = refl
halve_keys k xs ys e (suc s) lo hi = rw (e (middle lo hi)) (halve_keys k xs ys e s _ _)

pub place_keys : (k : ℕ) (xs ys : List Entry) → length xs ≡ length ys
    → ((i : ℕ) → (entry_of xs i).key ≡ (entry_of ys i).key) → place k xs ≡ place k ys
unfolding place
place_keys k xs ys n e = rw n (halve_keys k xs ys e (length ys) 0 (length ys))

-- a splice, by its place
pub swap_cut : (f : Entry → List Entry) (i : ℕ) (es : List Entry) → i < length es
    → swap f i es ≡ take i es ++ (f (entry_of es i) ++ drop (suc i) es)
swap_cut f i [] h = absurd (omega arith)
swap_cut f zero (e ∷ es) h = refl
swap_cut f (suc i) (e ∷ es) h = ap (λ (l : List Entry). e ∷ l) (swap_cut f i es (omega arith))
