-- A page whose lowest live node is on a path has all its live nodes there, by R6. Assumes nothing.
use Rattle.std.specs.Prelude.{◌≡◌, refl, Bool, true, false, length, leb}
use Rattle.std.proofs.Common.{sym, ap, subst, ◌∙◌, inr, arith, le-leb}
use mathlib.Core.List.{List, [], ◌∷◌, ◌++◌}
use Rattle.std.proofs.Math.Logic.{inl}
use Prim.Native.Nat.{ℕ, zero, suc, ◌*◌, ◌<◌, ◌≤◌}
use Rattle.geometry.specs.declared.Entry.{Entry}
use Rattle.geometry.specs.Tests.{pick}
use Rattle.model.specs.Image.{Nodes}
use Rattle.model.specs.Tree.{gather, Place, places, following, chosen}
use Rattle.model.specs.Edit.{splice}
use Rattle.theory_lists.specs.All.{All, Mem, all_append, all_map, all_get}
use Rattle.theory_nodes.specs.Entries.{Rises, gather_append, gather_all, rises_all, rises_floor, Split, split}
use Rattle.theory_nodes.specs.Nodes.{Ok, the, Rooted}
use Rattle.theory_trees.specs.Edit.{no_places}
use Rattle.theory_trees.specs.Move.{Tie, below}
use Rattle.theory_trees.proofs.Move.{off_path_lem}
use Rattle.theory_nodes.specs.PathPlaces.{spot, path_places, Within, in_range, path_in}
use Rattle.theory_trees.specs.OnPath.{OnIt}

-- page q has its lowest live node at level m
module _ (k a q m : ℕ) (half : ℕ → ℕ) (r : Nodes) (fit : ℕ → ℕ → Type 0) (m-pos : 1 ≤ m) where
  abbrev tied : ℕ → ℕ → Type 0
  tied l x = fit l x × Tie r q m l x

  abbrev room_at : ℕ → ℕ
  room_at l = 2 * half l

  abbrev Tied : ℕ → ℕ → Entry → Type 0
  Tied l y e = Ok tied room_at r l y e

  -- places of other pages ask nothing
  not_it : (path xs : List Place) → All (λ z. z.page ≡ q → ⊥) xs → All (OnIt q path) xs
  not_it path xs h = all_map (λ z. z.page ≡ q → ⊥) (OnIt q path) xs (λ z d j. absurd (d j)) h

  -- q's lowest node is the node at level suc l itself
  list_low : (l hi : ℕ) (path : List Place) (es : List Entry) → m ≡ suc l → Rises (Tied l) hi es → All (OnIt q path)
      (gather (places r l) es)
  list_low l hi path es e h = gather_all (OnIt q path) (places r l) es
      (rises_all (Tied l) (λ x. All (OnIt q path) (places r l x)) hi es
      (λ y x _ _ i. not_it path (places r l x) (below q m half r fit m-pos l y x (omega arith) i)) h)

  -- q's lowest node is on the path below: off the chosen entry q has no live node
  list_down : (l hi : ℕ) (h : Place) (es : List Entry) → 0 < length es → k < hi → Rises (Tied l) hi es
      → Mem (spot q m) (path_places r k a l (chosen k es))
      → ((y : ℕ) → k < y → Tied l y (chosen k es) → All (OnIt q (path_places r k a l (chosen k es)))
      (places r l (chosen k es)))
      → All (OnIt q (h ∷ path_places r k a l (chosen k es))) (gather (places r l) es)
  unfolding gather
  list_down l hi h es c kh rs i ih = go (split (Tied l) k hi es c kh rs)
    where
      x : Entry
      x = chosen k es

      P : List Place
      P = h ∷ path_places r k a l x

      go : Split (Tied l) k hi es x (λ f. splice f k es) → All (OnIt q P) (gather (places r l) es)
      go sp =
          let y = following sp.post hi in
          let at = all_get (Within r x.key y) (spot q m) (places r l x) (in_range tied room_at r l y x sp.up sp.here)
          (all_get (λ z. Mem z (places r l x)) (spot q m) (path_places r k a l x) (path_in tied room_at r k a l y x sp.under sp.here) i) in
          let whole = ap (gather (places r l)) sp.whole ∙ gather_append (places r l) sp.pre (x ∷ sp.post) in
          let left : All (OnIt q P) (gather (places r l) sp.pre) = gather_all (OnIt q P) (places r l) sp.pre
          (rises_all (Tied l) (λ z. All (OnIt q P) (places r l z)) x.key sp.pre
          (λ y' z b d j. not_it P (places r l z) (off_path_lem q m half r fit m-pos l y' z b j (inl (omega (arith, d, at))))) sp.before) in
          let mine : All (OnIt q P) (places r l x) =
          all_map (OnIt q (path_places r k a l x)) (OnIt q P) (places r l x) (λ z f j. inr (f j)) (ih y sp.under sp.here) in
          let right : All (OnIt q P) (gather (places r l) sp.post) = gather_all (OnIt q P) (places r l) sp.post
          (rises_all (λ y' z. Tied l y' z × (y ≤ z.key)) (λ z. All (OnIt q P) (places r l z)) hi sp.post
          (λ y' z b d j. not_it P (places r l z) (off_path_lem q m half r fit m-pos l y' z b j.0 (inr (omega (arith, j.1, at)))))
          (rises_floor (Tied l) y hi sp.post (omega arith) sp.rest)) in
          subst (λ w. All (OnIt q P) w) (sym whole)
          (all_append (OnIt q P) (gather (places r l) sp.pre) (places r l x ++ gather (places r l) sp.post) left
          (all_append (OnIt q P) (places r l x) (gather (places r l) sp.post) mine right))

  list_on : (l hi p : ℕ) (es : List Entry) → 0 < length es → k < hi → Rises (Tied l) hi es
      → Mem (spot q m) (spot p (suc l) ∷ path_places r k a l (chosen k es))
      → ((y : ℕ) → k < y → Tied l y (chosen k es) → Mem (spot q m) (path_places r k a l (chosen k es))
      → All (OnIt q (path_places r k a l (chosen k es))) (places r l (chosen k es)))
      → All (OnIt q (spot p (suc l) ∷ path_places r k a l (chosen k es))) (spot p (suc l) ∷ gather (places r l) es)
  list_on l hi p es c kh rs (inl e) ih = (
    (λ _. inl refl),
    list_low l hi (spot p (suc l) ∷ path_places r k a l (chosen k es)) es (sym (ap (λ (z : Place). z.level) e)) rs,
  )
  list_on l hi p es c kh rs (inr i) ih = ((λ _. inl refl), list_down l hi (spot p (suc l)) es c kh rs i (λ y b d. ih y b d i))

  entry_on : (l y : ℕ) (e : Entry) → k < y → Tied l y e → Mem (spot q m) (path_places r k a l e)
      → All (OnIt q (path_places r k a l e)) (places r l e)
  unfolding places path_places Ok
  entry_on zero y e kh h i = tt
  entry_on (suc l) y e kh h i = go (leb a (suc l)) i (λ y' b c d. entry_on l y' (chosen k (r e.addr (suc l))) b c d)
    where
      es : List Entry
      es = r e.addr (suc l)

      here : Place
      here = spot e.addr (suc l)

      P : List Place
      P = path_places r k a l (chosen k es)

      go : (t : Bool) → Mem (spot q m) (pick t (here ∷ P) [])
          → ((y : ℕ) → k < y → Tied l y (chosen k es) → Mem (spot q m) P → All (OnIt q P) (places r l (chosen k es)))
          → All (OnIt q (pick t (here ∷ P) [])) (here ∷ gather (places r l) es)
      go true j ih = list_on l y e.addr es h.1 kh h.4 j ih
      go false j ih = absurd j

  pub root_on : (most : ℕ → ℕ) (top l p₀ : ℕ) → Rooted tied room_at most top r l p₀
      → (0 < length (r p₀ (suc l)) → k < top) → a ≤ suc l
      → Mem (spot q m) (path_places r k a (suc l) (the p₀)) → All (OnIt q (path_places r k a (suc l) (the p₀)))
      (places r (suc l) (the p₀))
  unfolding places path_places
  root_on most top zero p₀ h c b i =
      let e : path_places r k a 1 (the p₀) ≡ spot p₀ 1 ∷ [] = rw (le-leb a 1 b) refl in
      subst (λ (P : List Place). All (OnIt q P) (places r 1 (the p₀))) (sym e)
      ((λ _. inl refl), no_places (OnIt q (spot p₀ 1 ∷ [])) r (r p₀ 1))
  root_on most top (suc l) p₀ h c b i =
      let es = r p₀ (suc (suc l)) in
      let z = h.least (omega arith) in
      let P = spot p₀ (suc (suc l)) ∷ path_places r k a (suc l) (chosen k es) in
      let e : path_places r k a (suc (suc l)) (the p₀) ≡ P = rw (le-leb a (suc (suc l)) b) refl in
      subst (λ (P : List Place). All (OnIt q P) (places r (suc (suc l)) (the p₀))) (sym e)
      (list_on (suc l) top p₀ es (omega (arith, z)) (c (omega (arith, z))) h.rises
      (subst (λ (P : List Place). Mem (spot q m) P) e i) (λ y kh ok j. entry_on (suc l) y (chosen k es) kh ok j))
