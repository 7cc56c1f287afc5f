-- The places of the path to a key, from level a up: they are live, at different levels, and their first keys stay in
-- the ranges of the entries above. Assumes nothing.
use Rattle.std.specs.Prelude.{◌≡◌, refl, Bool, true, false, length, leb}
use Rattle.std.proofs.Common.{sym, ap, subst, ◌∙◌, inl, inr, arith}
use mathlib.Core.List.{List, [], ◌∷◌, ◌++◌}
use Prim.Native.Nat.{ℕ, zero, suc, ◌<◌, ◌≤◌}
use Rattle.geometry.specs.declared.Entry.{Entry}
use Rattle.geometry.specs.Tests.{pick}
use Rattle.model.specs.Image.{Nodes}
use Rattle.model.specs.Tree.{gather, Place, places, following, chosen}
use Rattle.model.specs.Edit.{splice}
use Rattle.theory_lists.specs.All.{All, Mem, all_map, some_left, some_right}
use Rattle.theory_nodes.specs.Entries.{Rises, gather_append, gather_all, rises_all, rises_floor, Split, split}
use Rattle.theory_nodes.specs.Nodes.{Ok, next_more}
use Rattle.theory_nodes.specs.Entries.{first_below}

abbrev pub spot : ℕ → ℕ → Place
spot page level = record { page = page; level = level }

-- the path's places from level a up: of the node at level l that e names, and down with K
unfoldable pub path_places : Nodes → ℕ → ℕ → ℕ → Entry → List Place
path_places r k a zero e = []
path_places r k a (suc l) e = pick (leb a (suc l)) (spot e.addr (suc l) ∷ path_places r k a l (chosen k (r e.addr (suc l)))) []

-- ---- membership in joined lists
pub mem_left : {A : Type 0} (x : A) (xs ys : List A) → Mem x xs → Mem x (xs ++ ys)
mem_left x xs ys m = some_left (λ z. z ≡ x) xs ys m

pub mem_right : {A : Type 0} (x : A) (xs ys : List A) → Mem x ys → Mem x (xs ++ ys)
mem_right x xs ys m = some_right (λ z. z ≡ x) xs ys m

pub mem_middle : {A : Type 0} (x : A) (xs ys zs : List A) → Mem x ys → Mem x (xs ++ (ys ++ zs))
mem_middle x xs ys zs m = mem_right x xs (ys ++ zs) (mem_left x ys zs m)

-- ---- the path's levels
pub path_levels : (r : Nodes) (k a l : ℕ) (e : Entry)
    → All (λ x. (1 ≤ x.level) × (x.level ≤ l)) (path_places r k a l e)
unfolding path_places
path_levels r k a zero e = tt
path_levels r k a (suc l) e = go (leb a (suc l)) (path_levels r k a l (chosen k (r e.addr (suc l))))
  where
    down : List Place
    down = path_places r k a l (chosen k (r e.addr (suc l)))

    go : (t : Bool) → All (λ x. (1 ≤ x.level) × (x.level ≤ l)) down
        → All (λ x. (1 ≤ x.level) × (x.level ≤ suc l)) (pick t (spot e.addr (suc l) ∷ down) [])
    go true h = (
      (omega arith, omega arith),
      all_map (λ x. (1 ≤ x.level) × (x.level ≤ l)) (λ x. (1 ≤ x.level) × (x.level ≤ suc l)) down (λ x i. (i.0, omega (arith, i.1))) h,
    )
    go false h = tt

-- a path has at most one place a level
pub path_few : (r : Nodes) (k a l : ℕ) (e : Entry) → length (path_places r k a l e) ≤ l
unfolding path_places
path_few r k a zero e = omega arith
path_few r k a (suc l) e = go (leb a (suc l)) (path_few r k a l (chosen k (r e.addr (suc l))))
  where
    down : List Place
    down = path_places r k a l (chosen k (r e.addr (suc l)))

    go : (t : Bool) → length down ≤ l → length (pick t (spot e.addr (suc l) ∷ down) []) ≤ suc l
    go true h = omega arith
    go false h = omega arith

-- ---- first keys stay in the range of the entry above
abbrev pub Within : Nodes → ℕ → ℕ → Place → Type 0
Within r lo hi x = (lo ≤ following (r x.page x.level) 0) × (following (r x.page x.level) 0 < hi)

module _ (fit : ℕ → ℕ → Type 0) (room : ℕ → ℕ) (r : Nodes) where
  -- what holds of each entry's places by the entry's own range holds of the list's by the list's
  list_range : (l lo hi : ℕ) (es : List Entry) → ((y : ℕ) (x : Entry) → x.key < y → Ok fit room r l y x
      → All (Within r x.key y) (places r l x))
      → lo ≤ following es hi → Rises (Ok fit room r l) hi es → All (Within r lo hi) (gather (places r l) es)
  list_range l lo hi es each q h = gather_all (Within r lo hi) (places r l) es
      (rises_all (λ y x. Ok fit room r l y x × (lo ≤ x.key)) (λ x. All (Within r lo hi) (places r l x)) hi es
      (λ y x b d i. all_map (Within r x.key y) (Within r lo hi) (places r l x) (λ z j. (omega (arith, j, i.1), omega (arith, j, d))) (each y x b i.0))
      (rises_floor (Ok fit room r l) lo hi es q h))

  pub in_range : (l y : ℕ) (e : Entry) → e.key < y → Ok fit room r l y e → All (Within r e.key y) (places r l e)
  unfolding places Ok
  in_range zero y e b h = tt
  in_range (suc l) y e b h =
      let es = r e.addr (suc l) in
      let c = next_more y 0 es h.1 in
      let d = first_below (Ok fit room r l) y es h.1 h.4 in
      ((omega (arith, c, h.3), omega (arith, c, d)), list_range l e.key y es (λ y x. in_range l y x) h.3 h.4)

  pub in_list : (l lo hi : ℕ) (es : List Entry) → lo ≤ following es hi → Rises (Ok fit room r l) hi es → All (Within r lo hi)
      (gather (places r l) es)
  in_list l lo hi es q h = list_range l lo hi es (λ y x. in_range l y x) q h

  -- ---- the path's places are places
  module _ (k a : ℕ) where
    pub path_in : (l y : ℕ) (e : Entry) → k < y → Ok fit room r l y e → All (λ z. Mem z (places r l e))
        (path_places r k a l e)
    unfolding path_places places Ok gather
    path_in zero y e q h = tt
    path_in (suc l) y e q h = go (leb a (suc l)) (split (Ok fit room r l) k y (r e.addr (suc l)) h.1 q h.4)
        (λ y' b c. path_in l y' (chosen k (r e.addr (suc l))) b c)
      where
        es : List Entry
        es = r e.addr (suc l)

        x : Entry
        x = chosen k es

        here : Place
        here = spot e.addr (suc l)

        go : (t : Bool) → Split (Ok fit room r l) k y es x (λ f. splice f k es)
            → ((y : ℕ) → k < y → Ok fit room r l y x → All (λ z. Mem z (places r l x)) (path_places r k a l x))
            → All (λ z. Mem z (here ∷ gather (places r l) es)) (pick t (here ∷ path_places r k a l x) [])
        go false sp ih = tt
        go true sp ih =
            let whole = ap (gather (places r l)) sp.whole ∙ gather_append (places r l) sp.pre (x ∷ sp.post) in (
              inl refl,
              all_map (λ z. Mem z (places r l x)) (λ z. Mem z (here ∷ gather (places r l) es)) (path_places r k a l x)
                  (λ z i. inr (subst (λ m. Mem z m) (sym whole)
                  (mem_middle z (gather (places r l) sp.pre) (places r l x) (gather (places r l) sp.post) i)))
                  (ih (following sp.post y) sp.under sp.here),
            )
