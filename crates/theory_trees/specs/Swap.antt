-- The places of a moved tree, exactly: those of the path from level a up are gone, the new page has one at each of
-- their levels, every other place stays. Assumes nothing.
use Rattle.std.specs.Prelude.{◌≡◌, Bool, true, false, ◌⊎◌, length, leb}
use Rattle.std.proofs.Math.Path.{refl}
use Rattle.std.proofs.Common.{sym, ap, subst, ◌∙◌, inl, inr, arith, le-leb, leb-true}
use mathlib.Core.List.{List, [], ◌∷◌, ◌++◌, append-nil}
use Prim.Native.Nat.{ℕ, zero, suc, ◌<◌, ◌≤◌}
use Rattle.geometry.specs.declared.Entry.{Entry}
use Rattle.geometry.specs.Tests.{pick}
use Rattle.model.specs.Image.{Nodes}
use Rattle.model.specs.Tree.{gather, Place, places, following, chosen}
use Rattle.model.specs.Edit.{splice}
use Rattle.theory_lists.specs.All.{All, Mem, all_append, all_map, all_both, all_get, all_mem}
use Rattle.theory_nodes.specs.Entries.{Rises}
use Rattle.theory_nodes.specs.Entries.{gather_append, gather_eq, gather_all, rises_all, Split, split}
use Rattle.theory_nodes.specs.Nodes.{Ok, places_same, the, Rooted}
use Rattle.theory_trees.specs.Edit.{edit, Made, no_places}
use Rattle.theory_trees.specs.Move.{moved, MoveMade}
use Rattle.theory_trees.specs.Proper.{all_any, places_level}
use Rattle.theory_nodes.specs.PathPlaces.{spot, path_places, mem_left, mem_right, mem_middle, Within, in_range, in_list, path_in}

-- a new place is on page n at level a or above, or is old and off the path
abbrev pub Come : ℕ → ℕ → List Place → List Place → Place → Type 0
Come n a old path x = ((x.page ≡ n) × (a ≤ x.level)) ⊎ (Mem x old × (Mem x path → ⊥))

-- what became of a list of places
pub record Swapped (n a : ℕ) (old path new : List Place) : Type 0 where
  pub gone : All (λ x. Mem x path ⊎ Mem x new) old
  pub come : All (Come n a old path) new
  pub put : All (λ x. Mem (spot n x.level) new) path

same_swap : (n a : ℕ) (xs : List Place) → Swapped n a xs [] xs
same_swap n a xs = record {
  gone = all_map (λ x. Mem x xs) (λ x. Mem x [] ⊎ Mem x xs) xs (λ x i. inr i) (all_mem xs);
  come = all_map (λ x. Mem x xs) (Come n a xs []) xs (λ x i. inr (i, λ z. z)) (all_mem xs);
  put = tt;
}

-- a node at level suc l on page q gives way to one on page n: pre and post are off the path, w is what became of the
-- chosen entry's places o with the path p
module _ (n a l q : ℕ) (pre post o p w : List Place) (high : a ≤ suc l) (sw : Swapped n a o p w)
    (low : All (λ x. x.level ≤ l) (pre ++ (o ++ post))) (off-pre : All (λ x. Mem x p → ⊥) pre)
    (off-post : All (λ x. Mem x p → ⊥) post) where
  abbrev Old : List Place
  Old = spot q (suc l) ∷ (pre ++ (o ++ post))

  abbrev Path : List Place
  Path = spot q (suc l) ∷ p

  abbrev New : List Place
  New = spot n (suc l) ∷ (pre ++ (w ++ post))

  node_gone : All (λ x. Mem x Path ⊎ Mem x New) (pre ++ (o ++ post))
  node_gone = all_append Gone pre (o ++ post)
      (all_map (λ x. Mem x pre) Gone pre (λ x i. inr (inr (mem_left x pre (w ++ post) i))) (all_mem pre))
      (all_append Gone o post (all_map (λ x. Mem x p ⊎ Mem x w) Gone o step sw.gone)
      (all_map (λ x. Mem x post) Gone post (λ x i. inr (inr (mem_right x pre (w ++ post) (mem_right x w post i)))) (all_mem post)))
    where
      Gone : Place → Type 0
      Gone x = Mem x Path ⊎ Mem x New

      step : (x : Place) → Mem x p ⊎ Mem x w → Gone x
      step x (inl i) = inl (inr i)
      step x (inr i) = inr (inr (mem_middle x pre w post i))

  -- an old place below the node is off the path if it is off the chosen entry's
  old_off : (x : Place) → Mem x (pre ++ (o ++ post)) → (Mem x p → ⊥) → Mem x Path → ⊥
  old_off x i d (inl e) =
      let b = all_get (λ z. z.level ≤ l) x (pre ++ (o ++ post)) low i in
      let c : suc l ≡ x.level = ap (λ (z : Place). z.level) e in
      omega arith
  old_off x i d (inr j) = d j

  old_come : (x : Place) → Mem x (pre ++ (o ++ post)) → (Mem x p → ⊥) → Come n a Old Path x
  old_come x i d = inr (inr i, old_off x i d)

  node_come : All (Come n a Old Path) (pre ++ (w ++ post))
  node_come = all_append (Come n a Old Path) pre (w ++ post)
      (aside pre (λ x i. mem_left x pre (o ++ post) i) off-pre)
      (all_append (Come n a Old Path) w post (all_map (Come n a o p) (Come n a Old Path) w step sw.come)
      (aside post (λ x i. mem_right x pre (o ++ post) (mem_right x o post i)) off-post))
    where
      step : (x : Place) → Come n a o p x → Come n a Old Path x
      step x (inl i) = inl i
      step x (inr i) = old_come x (mem_middle x pre o post i.0) i.1

      aside : (xs : List Place) → ((x : Place) → Mem x xs → Mem x (pre ++ (o ++ post))) → All (λ x. Mem x p → ⊥) xs
          → All (Come n a Old Path) xs
      aside xs f d = all_map (λ x. Mem x xs × (Mem x p → ⊥)) (Come n a Old Path) xs (λ x i. old_come x (f x i.0) i.1)
          (all_both (λ x. Mem x xs) (λ x. Mem x p → ⊥) xs (all_mem xs) d)

  node_swap : Swapped n a Old Path New
  node_swap = record {
    gone = (inl (inl refl), node_gone);
    come = (inl (refl, high), node_come);
    put = (
      inl refl,
      all_map (λ x. Mem (spot n x.level) w) (λ x. Mem (spot n x.level) New) p
          (λ x i. inr (mem_middle (spot n x.level) pre w post i)) sw.put,
    );
  }

-- ---- the tree
levels_of : (r : Nodes) (l : ℕ) (es : List Entry) → All (λ x. x.level ≤ l) (gather (places r l) es)
levels_of r l es = gather_all (λ x. x.level ≤ l) (places r l) es (all_any (λ e. All (λ x. x.level ≤ l) (places r l e)) es
    (λ e. all_map (λ x. (1 ≤ x.level) × (x.level ≤ l)) (λ x. x.level ≤ l) (places r l e) (λ x i. i.1) (places_level r l e)))

module _ (k a n : ℕ) (room : ℕ → ℕ) (r s : Nodes) (fit fit' : ℕ → ℕ → Type 0)
    (keep : (l b : ℕ) → fit l b → fit' l b) (same : (q l : ℕ) → fit (suc l) q → s q (suc l) ≡ r q (suc l)) where
  abbrev G : ℕ → List Entry → List Place
  G l es = gather (places r l) es

  abbrev H : ℕ → List Entry → List Place
  H l es = gather (places s l) es

  -- entries off the path have the places they had
  same_list : (l hi : ℕ) (es : List Entry) → Rises (Ok fit room r l) hi es → H l es ≡ G l es
  same_list l hi es h = gather_eq (places r l) (places s l) es
      (rises_all (Ok fit room r l) (λ x. places s l x ≡ places r l x) hi es (λ y x _ _ i. places_same fit room fit' r s keep same l y x i) h)

  -- no other entry's places are on the chosen one's path
  apart : (l lo hi lo' hi' : ℕ) (x : Entry) (es : List Entry) → (hi ≤ lo') ⊎ (hi' ≤ lo) → All (Within r lo hi) (G l es)
      → All (Within r lo' hi') (path_places r k a l x) → All (λ z. Mem z (path_places r k a l x) → ⊥) (G l es)
  apart l lo hi lo' hi' x es side h mine = all_map (Within r lo hi) (λ z. Mem z (path_places r k a l x) → ⊥) (G l es)
      (λ z i j. clash side (following (r z.page z.level) 0) i (all_get (Within r lo' hi') z (path_places r k a l x) mine j)) h
    where
      clash : (hi ≤ lo') ⊎ (hi' ≤ lo) → (first : ℕ) → (lo ≤ first) × (first < hi) → (lo' ≤ first) × (first < hi') → ⊥
      clash (inl b) first i j = omega (arith, i, j)
      clash (inr b) first i j = omega (arith, i, j)

  -- a node whose chosen entry's places were swapped
  list_swap : (l hi q : ℕ) (es : List Entry) (f : Entry → List Entry) → a ≤ suc l → 0 < length es → k < hi
      → Rises (Ok fit room r l) hi es
      → ((y : ℕ) → k < y → Ok fit room r l y (chosen k es)
      → Swapped n a (places r l (chosen k es)) (path_places r k a l (chosen k es)) (H l (f (chosen k es))))
      → Swapped n a (spot q (suc l) ∷ G l es) (spot q (suc l) ∷ path_places r k a l (chosen k es))
      (spot n (suc l) ∷ H l (splice f k es))
  unfolding gather
  list_swap l hi q es f high c kh h step = go (split (Ok fit room r l) k hi es c kh h)
    where
      x : Entry
      x = chosen k es

      P : List Place
      P = path_places r k a l x

      go : Split (Ok fit room r l) k hi es x (λ f. splice f k es)
          → Swapped n a (spot q (suc l) ∷ G l es) (spot q (suc l) ∷ P) (spot n (suc l) ∷ H l (splice f k es))
      go sp =
          let y = following sp.post hi in
          let whole : G l es ≡ G l sp.pre ++ (places r l x ++ G l sp.post) =
          ap (G l) sp.whole ∙ gather_append (places r l) sp.pre (x ∷ sp.post) in
          let new : H l (splice f k es) ≡ G l sp.pre ++ (H l (f x) ++ G l sp.post) =
          ap (H l) (sp.spliced f) ∙ gather_append (places s l) sp.pre (f x ++ sp.post)
          ∙ rw (gather_append (places s l) (f x) sp.post, same_list l x.key sp.pre sp.before, same_list l hi sp.post sp.rest) in
          let mine : All (Within r x.key y) P = all_map (λ z. Mem z (places r l x)) (Within r x.key y) P
          (λ z i. all_get (Within r x.key y) z (places r l x) (in_range fit room r l y x sp.up sp.here) i)
          (path_in fit room r k a l y x sp.under sp.here) in
          subst (λ m. Swapped n a (spot q (suc l) ∷ m) (spot q (suc l) ∷ P) (spot n (suc l) ∷ H l (splice f k es))) (sym whole)
          (subst (λ m. Swapped n a (spot q (suc l) ∷ (G l sp.pre ++ (places r l x ++ G l sp.post))) (spot q (suc l) ∷ P) (spot n (suc l) ∷ m))
          (sym new)
          (node_swap n a l q (G l sp.pre) (G l sp.post) (places r l x) P (H l (f x)) high (step y sp.under sp.here)
          (subst (λ m. All (λ z. z.level ≤ l) m) whole (levels_of r l es))
          (apart l 0 x.key x.key y x sp.pre (inl (omega arith)) (in_list fit room r l 0 x.key sp.pre (omega arith) sp.before) mine)
          (apart l y hi x.key y x sp.post (inr (omega arith)) (in_list fit room r l y hi sp.post (omega arith) sp.rest) mine)))

  entry_swap : (l y : ℕ) (e : Entry) → k < y → Ok fit room r l y e → MoveMade r s k a n l e
      → Swapped n a (places r l e) (path_places r k a l e) (H l (moved r k a n l e))
  unfolding path_places places Ok gather edit Made
  entry_swap zero y e q h m = record { gone = tt; come = tt; put = tt }
  entry_swap (suc l) y e q h m = go (leb a (suc l)) refl (λ y' kh ok. entry_swap l y' (chosen k (r e.addr (suc l))) kh ok m.1)
    where
      es : List Entry
      es = r e.addr (suc l)

      here : Place
      here = spot e.addr (suc l)

      P : List Place
      P = path_places r k a l (chosen k es)

      go : (t : Bool) → leb a (suc l) ≡ t
          → ((y : ℕ) → k < y → Ok fit room r l y (chosen k es) → Swapped n a (places r l (chosen k es)) P
          (H l (moved r k a n l (chosen k es))))
          → Swapped n a (here ∷ G l es) (pick t (here ∷ P) []) (H (suc l)
          (pick t (record { key = e.key; addr = n } ∷ []) (e ∷ [])))
      go true d ih =
          let i = leb-true a (suc l) d in
          subst (λ w. Swapped n a (here ∷ G l es) (here ∷ P) w)
          (sym (append-nil (spot n (suc l) ∷ H l (s n (suc l))) ∙ ap (λ w. spot n (suc l) ∷ H l w) (m.0 i)))
          (list_swap l y e.addr es (moved r k a n l) i h.1 q h.4 ih)
      go false d ih =
          subst (λ w. Swapped n a (here ∷ G l es) [] w)
          (sym (append-nil (places s (suc l) e) ∙ places_same fit room fit' r s keep same (suc l) y e h)) (same_swap n a (here ∷ G l es))

  -- the whole tree
  pub root_swap : (most : ℕ → ℕ) (top l p₀ : ℕ) → Rooted fit room most top r l p₀
      → (0 < length (r p₀ (suc l)) → k < top) → a ≤ suc l
      → MoveMade r s k a n l (chosen k (r p₀ (suc l))) → s n (suc l) ≡ splice (moved r k a n l) k (r p₀ (suc l))
      → Swapped n a (places r (suc l) (the p₀)) (path_places r k a (suc l) (the p₀)) (places s (suc l) (the n))
  unfolding places path_places
  root_swap most top zero p₀ h q b m e = rw (le-leb a 1 b) (record {
    gone = (inl (inl refl), no_places (λ x. Mem x (spot p₀ 1 ∷ []) ⊎ Mem x (places s 1 (the n))) r (r p₀ 1));
    come = (inl (refl, b), no_places (Come n a (places r 1 (the p₀)) (spot p₀ 1 ∷ [])) s (s n 1));
    put = (inl refl, tt);
  })
  root_swap most top (suc l) p₀ h q b m e =
      let es = r p₀ (suc (suc l)) in
      let z = h.least (omega arith) in
      rw (le-leb a (suc (suc l)) b, e) (list_swap (suc l) top p₀ es (moved r k a n (suc l)) b (omega (arith, z)) (q (omega (arith, z))) h.rises
      (λ y kh ok. entry_swap (suc l) y (chosen k es) kh ok m))
