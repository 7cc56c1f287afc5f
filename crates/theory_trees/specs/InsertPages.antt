-- Where the nodes stand after an insertion; the path half is the one that holds K, or names N. Assumes nothing.
use Rattle.std.specs.Prelude.{◌≡◌, Bool, true, false, ◌⊎◌, length, take, drop}
use Rattle.std.proofs.Math.Path.{refl}
use mathlib.Core.List.{List, [], ◌∷◌, ◌++◌}
use Rattle.std.proofs.Common.{inl, inr, arith, leb-true, leb-false}
use Prim.Native.Nat.{ℕ, zero, suc, ◌<◌, ◌≤◌}
use Rattle.std.proofs.Math.ListN.{take-append-drop}
use Rattle.geometry.specs.declared.Entry.{Entry}
use Rattle.geometry.specs.Tests.{pick}
use Rattle.model.specs.Image.{Nodes}
use Rattle.model.specs.Tree.{gather, Place, places, following, chosen}
use Rattle.model.specs.Edit.{splice, turn, path_half, two}
use Rattle.theory_lists.specs.All.{All, Some, all_left, all_right, all_append}
use Rattle.theory_nodes.specs.Entries.{Rises, gather_append, next_append, Split, split}
use Rattle.theory_trees.specs.Edit.{page_where}
use Rattle.theory_trees.specs.Insert.{Halves}
use Rattle.theory_trees.specs.Tied.{Where}

-- Z holds of the last entry whose key is not above k
abbrev pub Sits : ℕ → (Entry → Type 0) → ℕ → List Entry → Type 0
Sits k Z y [] = ⊥
Sits k Z y (x ∷ es) = ((x.key ≤ k) × (k < following es y) × Z x) ⊎ Sits k Z y es

module _ (k : ℕ) (Z : Entry → Type 0) where
  pub sits_left : (y : ℕ) (xs ys : List Entry) → Sits k Z (following ys y) xs → Sits k Z y (xs ++ ys)
  sits_left y [] ys h = absurd h
  sits_left y (x ∷ xs) ys (inl h) = inl (h.0, rw (next_append xs ys y) h.1, h.2)
  sits_left y (x ∷ xs) ys (inr h) = inr (sits_left y xs ys h)

  pub sits_right : (y : ℕ) (xs ys : List Entry) → Sits k Z y ys → Sits k Z y (xs ++ ys)
  sits_right y [] ys h = h
  sits_right y (x ∷ xs) ys h = inr (sits_right y xs ys h)

  pub sits_some : (y : ℕ) (es : List Entry) → Sits k Z y es → Some Z es
  sits_some y [] h = absurd h
  sits_some y (e ∷ es) (inl h) = inl h.2
  sits_some y (e ∷ es) (inr h) = inr (sits_some y es h)

  pub splice_sits : (P : ℕ → Entry → Type 0) (f : Entry → List Entry) (hi : ℕ) (es : List Entry) → 0 < length es
      → k < hi → Rises P hi es
      → ((y : ℕ) → k < y → Sits k Z y (f (chosen k es))) → Sits k Z hi (splice f k es)
  splice_sits P f hi es c q h step = go (split P k hi es c q h)
    where
      go : Split P k hi es (chosen k es) (λ f. splice f k es) → Sits k Z hi (splice f k es)
      go s = rw (s.spliced f) (sits_right hi s.pre (f (chosen k es) ++ s.post)
          (sits_left hi (f (chosen k es)) s.post (step (following s.post hi) s.under)))

  pub sits_first : (P : ℕ → Entry → Type 0) (y : ℕ) (es : List Entry) → Rises P y es → Sits k Z y es → following es 0 ≤ k
  sits_first P y [] h i = absurd i
  sits_first P y (e ∷ []) h (inl i) = i.0
  sits_first P y (e ∷ []) h (inr i) = absurd i
  sits_first P y (e ∷ g ∷ es) h (inl i) = i.0
  sits_first P y (e ∷ g ∷ es) h (inr i) = let j = sits_first P y (g ∷ es) h.2 i in omega arith

  pub next_drop : (P : ℕ → Entry → Type 0) (y m : ℕ) (es : List Entry) → m < length es → Rises P y es
      → following es y ≤ following (drop m es) 0
  next_drop P y m [] b h = absurd (omega arith)
  next_drop P y zero (e ∷ es) b h = omega arith
  next_drop P y (suc m) (e ∷ es) b h = let i = next_drop P y m es (omega arith) h.2 in omega arith

  pub sits_drop : (P : ℕ → Entry → Type 0) (y m : ℕ) (c : List Entry) → m < length c → following (drop m c) 0 ≤ k
      → Rises P y c → Sits k Z y c
      → Some Z (drop m c)
  sits_drop P y zero c b d h i = sits_some y c i
  sits_drop P y (suc m) [] b d h i = absurd i
  sits_drop P y (suc m) (e ∷ c) b d h (inl i) = absurd (omega (arith, next_drop P y m c (omega arith) h.2, i.1))
  sits_drop P y (suc m) (e ∷ c) b d h (inr i) = sits_drop P y m c (omega arith) d h.2 i

  pub sits_take : (P : ℕ → Entry → Type 0) (y m : ℕ) (c : List Entry) → k < following (drop m c) 0 → Rises P y c
      → Sits k Z y c → Some Z (take m c)
  sits_take P y zero c d h i = absurd (omega (arith, sits_first P y c h i))
  sits_take P y (suc m) [] d h i = absurd i
  sits_take P y (suc m) (e ∷ c) d h (inl i) = inl i.2
  sits_take P y (suc m) (e ∷ c) d h (inr i) = inr (sits_take P y m c d h.2 i)

  -- the path half is the one that holds this entry
  pub half_holds : (P : ℕ → Entry → Type 0) (y m : ℕ) (c : List Entry) → m < length c → Rises P y c → Sits k Z y c
      → Some Z (path_half k m c)
  half_holds P y m c b h i = go (turn k m c) refl
    where
      go : (t : Bool) → turn k m c ≡ t → Some Z (pick t (drop m c) (take m c))
      go true d = sits_drop P y m c b (leb-true (following (drop m c) 0) k d) h i
      go false d = sits_take P y m c (leb-false (following (drop m c) 0) k d) h i

abbrev pub Names : ℕ → Entry → Type 0
Names n e = e.addr ≡ n

module _ (k n : ℕ) where
  pub two_sits : (o m z y : ℕ) (c : List Entry) → z ≤ k → k < y → Sits k (Names n) y (two k n o m z c)
  two_sits o m z y c b d = go (turn k m c) refl
    where
      go : (t : Bool) → turn k m c ≡ t
          → Sits k (Names n) y (record { key = z; addr = pick t o n } ∷ record { key = following (drop m c) 0; addr = pick t n o } ∷ [])
      go true e = inr (inl (leb-true (following (drop m c) 0) k e, d, refl))
      go false e = inl (b, leb-false (following (drop m c) 0) k e, refl)

module _ (k a n top : ℕ) (side half most : ℕ → ℕ) (r s : Nodes) (fit fit' : ℕ → ℕ → Type 0) (Cut : ℕ → Type 0)
    (fit_n : (l : ℕ) → fit' (suc l) n)
    (fit-a : fit' 0 a)
    (keep : (l a : ℕ) → fit l a → fit' l a) (same : (p l : ℕ) → fit (suc l) p → s p (suc l) ≡ r p (suc l))
    (k_top : k < top) where
  abbrev pub InsertWhere : Place → Type 0
  InsertWhere x = Where s n 1 side Cut (λ x. (1 ≤ x.level) × fit x.level x.page) x

  pub two_where : (W : Place → Type 0) (l m z : ℕ) (c : List Entry) → Halves k n side s fit' (suc l) m c
      → W (record { page = n; level = suc l })
      → W (record { page = side (suc l); level = suc l }) → All W (gather (places s l) c)
      → All W (gather (places s (suc l)) (two k n (side (suc l)) m z c))
  unfolding gather
  two_where W l m z c h w w' g = go (turn k m c) h.0 h.1
    where
      both : All W (gather (places s l) (take m c) ++ gather (places s l) (drop m c))
      both = rw (← gather_append (places s l) (take m c) (drop m c), take-append-drop m c) g

      lh : All W (gather (places s l) (take m c))
      lh = all_left W (gather (places s l) (take m c)) (gather (places s l) (drop m c)) both

      rh : All W (gather (places s l) (drop m c))
      rh = all_right W (gather (places s l) (take m c)) (gather (places s l) (drop m c)) both

      join : (x y : Entry) → All W (places s (suc l) x) → All W (places s (suc l) y)
          → All W (places s (suc l) x ++ (places s (suc l) y ++ []))
      join x y i j = all_append W (places s (suc l) x) (places s (suc l) y ++ []) i (all_append W (places s (suc l) y) [] j tt)

      go : (t : Bool) → s n (suc l) ≡ pick t (drop m c) (take m c) → s (side (suc l)) (suc l) ≡ pick t (take m c)
          (drop m c)
          → All W (gather (places s (suc l)) (record { key = z; addr = pick t (side (suc l)) n } ∷
          record { key = following (drop m c) 0; addr = pick t n (side (suc l)) } ∷ []))
      go true i j = join (record { key = z; addr = side (suc l) }) (record { key = following (drop m c) 0; addr = n })
          (page_where s W l z (side (suc l)) (take m c) j w' lh) (page_where s W l (following (drop m c) 0) n (drop m c) i w rh)
      go false i j = join (record { key = z; addr = n }) (record { key = following (drop m c) 0; addr = side (suc l) })
          (page_where s W l z n (take m c) i w lh) (page_where s W l (following (drop m c) 0) (side (suc l)) (drop m c) j w' rh)
