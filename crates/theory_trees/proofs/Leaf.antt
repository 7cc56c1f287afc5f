-- By how much an update raises the live pages: the page of the old leaf dies, and what is new stands on N and the other
-- halves' pages. Assumes nothing.
use Rattle.std.specs.Prelude.{◌≡◌, Bool, ◌⊎◌, length, eqb}
use Rattle.std.proofs.Math.Path.{refl, ap}
use Rattle.std.proofs.Common.{sym, subst, ◌∙◌, arith, eq-eqb, leb-false, eqb-true}
use mathlib.Core.List.{List, [], ◌∷◌, ◌++◌}
use Rattle.std.proofs.Math.Bool.{true, false}
use Rattle.std.proofs.Math.Logic.{inl, inr}
use Prim.Native.Nat.{ℕ, zero, suc, ◌+◌, ◌*◌, ◌<◌, ◌≤◌, min}
use Rattle.std.proofs.Math.Dec.{leb}
use Rattle.std.proofs.lemmas.Bool.{eqb-false}
use Rattle.geometry.specs.declared.Entry.{Entry}
use Rattle.geometry.specs.Tests.{pick, bit}
use Rattle.model.specs.Image.{Nodes}
use Rattle.model.specs.Tree.{gather, Place, places, following, chosen}
use Rattle.model.specs.Edit.{splice, put, put_in, two, named, path_half, remove, remove_in, kept, collapse}
use Rattle.theory_lists.specs.All.{All, Mem, all_left, all_append, all_map}
use Rattle.theory_nodes.specs.Entries.{Rises, gather_eq, gather_all, all_gather, next_append, next_le, rises_all, Split, split}
use Rattle.theory_nodes.specs.Nodes.{Ok, next_more, places_same, the, Rooted, rooted_with}
use Rattle.theory_trees.specs.Edit.{splice_length, edit, at_root, Made, no_places, page_where}
use Rattle.theory_trees.specs.Insert.{Halves, InsertHeld, inserted, InsertMade}
use Rattle.theory_nodes.specs.Entries.{first_below}
use Rattle.theory_trees.specs.Delete.{deleted, DeleteHeld, DeleteMade, delete_made_lem, none_left_lem, the_top}
use Rattle.theory_trees.specs.Move.{Tie}
use Rattle.theory_trees.proofs.Move.{off_path_lem}
use Rattle.theory_trees.proofs.Tied.{tie_all}
use Rattle.theory_trees.specs.Tied.{Where}
use Rattle.theory_trees.specs.InsertPages.{two_where}
use Rattle.theory_trees.proofs.InsertPages.{stay_where, grow_where}
use Rattle.theory_trees.specs.DeletePages.{left_low_of, less_where, collapse_where}
use Rattle.theory_trees.specs.Proper.{Proper, LiveAt, at_mem, with_live, places_level, less_is}
use Rattle.theory_trees.specs.Leaf.{Shifted, bottom, bottom_fit, hits, sides}

module _ (fit : ℕ → ℕ → Type 0) (room : ℕ → ℕ) (r : Nodes) (k : ℕ) where
  -- its first key is in the range of every entry on the path
  way_in : (l y : ℕ) (e : Entry) → k < y → Ok fit room r (suc l) y e
      → (e.key ≤ following (r (bottom r k l e) 1) 0) × (following (r (bottom r k l e) 1) 0 < y)
  unfolding bottom Ok
  way_in zero y e q h =
      let es = r e.addr 1 in
      let a = first_below (Ok fit room r 0) y es h.1 h.4 in
      let b = next_more y 0 es h.1 in
      (omega (arith, h.3, b), a)
  way_in (suc l) y e q h =
      let es = r e.addr (suc (suc l)) in
      let s = split (Ok fit room r (suc l)) k y es h.1 q h.4 in
      let i = way_in l (following s.post y) (chosen k es) s.under s.here in
      let a = next_le (Ok fit room r (suc l)) (chosen k es).key s.pre s.before in
      let b = next_le (Ok fit room r (suc l)) y s.post s.rest in
      let c = ap (λ m. following m y) s.whole ∙ next_append s.pre (chosen k es ∷ s.post) y in
      (omega (arith, h.3, c, a, i.0), omega (arith, i.1, b))

-- every entry of a spliced list, off the path by a key k' of the chosen entry's range
module _ (k k' : ℕ) (P : ℕ → Entry → Type 0) (f : Entry → List Entry) (W : Entry → Type 0)
    (off : (y : ℕ) (x : Entry) → x.key < y → P y x → ((y ≤ k') ⊎ (k' < x.key)) → W x) where
  post_at : (hi : ℕ) (post : List Entry) → k' < following post hi → Rises P hi post → All W post
  post_at hi [] q h = tt
  post_at hi (e ∷ es) q h = (off (following es hi) e h.0 h.1 (inr q), post_at hi es (omega arith) h.2)

  splice_each_at : (hi : ℕ) (es : List Entry) → 0 < length es → k < hi → Rises P hi es
      → ((y : ℕ) → k < y → (chosen k es).key < y → P y (chosen k es) → All W (f (chosen k es)) ×
      ((chosen k es).key ≤ k') × (k' < y))
      → All W (splice f k es)
  splice_each_at hi es n q h step = go (split P k hi es n q h)
    where
      go : Split P k hi es (chosen k es) (λ f. splice f k es) → All W (splice f k es)
      go s = let st = step (following s.post hi) s.under s.up s.here in
          rw (s.spliced f) (all_append W s.pre (f (chosen k es) ++ s.post)
          (rises_all P W (chosen k es).key s.pre (λ y x q c i. off y x q i (inl (omega (arith, st.1, c)))) s.before)
          (all_append W (f (chosen k es)) s.post st.0 (post_at hi s.post st.2 s.rest)))

-- the page p of the leaf that an edit goes to has no live node afterwards
module _ (p : ℕ) (half : ℕ → ℕ) (r s : Nodes) (fit fit' : ℕ → ℕ → Type 0)
    (keep : (l b : ℕ) → fit l b × Tie r p 1 l b → fit' l b) (same : (q l : ℕ) → fit (suc l) q × Tie r p 1 (suc l) q
    → s q (suc l) ≡ r q (suc l))
    (k : ℕ) where
  abbrev tie : ℕ → ℕ → Type 0
  tie l q = fit l q × Tie r p 1 l q

  abbrev room_at : ℕ → ℕ
  room_at l = 2 * half l

  abbrev Dead : Place → Type 0
  Dead x = x.page ≡ p → ⊥

  -- in the old nodes too: entries off the path have no place on p
  off_list : (f : Entry → List Entry) (l hi : ℕ) (es : List Entry) → 0 < length es → k < hi
      → Rises (Ok tie room_at r (suc l)) hi es
      → bottom r k l (chosen k es) ≡ p → f (chosen k es) ≡ [] → All Dead (gather (places r (suc l)) (splice f k es))
  off_list f l hi es c q h b none = gather_all Dead (places r (suc l)) (splice f k es)
      (splice_each_at k (following (r p 1) 0) (Ok tie room_at r (suc l)) f (λ e. All Dead (places r (suc l) e))
      (λ y x z i o. off_path_lem p 1 half r fit (omega arith) (suc l) y x z i o) hi es c q h
      (λ y u v i. (
        subst (λ m. All (λ e. All Dead (places r (suc l) e)) m) (sym none) tt,
        rw b at (way_in tie room_at r k l y (chosen k es) u i).0,
        rw b at (way_in tie room_at r k l y (chosen k es) u i).1,
      )))

  module _ (base : Entry → List Entry) (name : ℕ → Entry → List Entry → List Entry) (Held : ℕ → Entry → List Entry
      → Type 0)
      (name-dead : (l : ℕ) (e : Entry) (c : List Entry) → Held (suc l) e c → All Dead (gather (places s l) c)
      → All Dead (gather (places s (suc l)) (name (suc l) e c))) where
    list_dead : (l hi : ℕ) (es : List Entry) → 0 < length es → k < hi → Rises (Ok tie room_at r (suc l)) hi es
        → bottom r k l (chosen k es) ≡ p
        → ((y : ℕ) → k < y → (chosen k es).key < y → Ok tie room_at r (suc l) y (chosen k es)
        → All Dead (gather (places s (suc l)) (edit r k base name (suc l) (chosen k es))))
        → All Dead (gather (places s (suc l)) (splice (edit r k base name (suc l)) k es))
    list_dead l hi es c q h b step = gather_all Dead (places s (suc l)) (splice (edit r k base name (suc l)) k es)
        (splice_each_at k (following (r p 1) 0) (Ok tie room_at r (suc l)) (edit r k base name (suc l)) (λ e. All Dead (places s (suc l) e))
        (λ y x z i o. subst (λ m. All Dead m) (sym (places_same tie room_at fit' r s keep same (suc l) y x i))
        (off_path_lem p 1 half r fit (omega arith) (suc l) y x z i o)) hi es c q h
        (λ y u v i. (
          all_gather Dead (places s (suc l)) (edit r k base name (suc l) (chosen k es)) (step y u v i),
          rw b at (way_in tie room_at r k l y (chosen k es) u i).0,
          rw b at (way_in tie room_at r k l y (chosen k es) u i).1,
        )))

    edit_dead : (l hi : ℕ) (e : Entry) → k < hi → e.key < hi → Ok tie room_at r (suc l) hi e → bottom r k l e ≡ p
        → Made r k base name Held (suc l) e → All Dead (gather (places s (suc l)) (edit r k base name (suc l) e))
    unfolding edit Made Ok bottom
    edit_dead zero hi e q b h w m = name-dead zero e (splice (edit r k base name 0) k (r e.addr 1)) m.0
        (no_places Dead s (splice (edit r k base name 0) k (r e.addr 1)))
    edit_dead (suc l) hi e q b h w m = let es = r e.addr (suc (suc l)) in
        name-dead (suc l) e (splice (edit r k base name (suc l)) k es) m.0
        (list_dead l hi es h.1 q h.4 w (λ y u v i. edit_dead l y (chosen k es) u v i w m.1))

    -- below the root's list
    pub root_dead : (leaf : List Entry → List Entry) (most : ℕ → ℕ) (top l p₀ : ℕ) → k < top
        → Rooted tie room_at most top r l p₀
        → bottom r k l (the p₀) ≡ p → Made r k base name Held l (chosen k (r p₀ (suc l)))
        → All Dead (gather (places s l) (at_root leaf (edit r k base name l) k l (r p₀ (suc l))))
    unfolding at_root bottom
    root_dead leaf most top zero p₀ q h w m = no_places Dead s (leaf (r p₀ 1))
    root_dead leaf most top (suc l) p₀ q h w m =
        let es = r p₀ (suc (suc l)) in
        let z = h.least (omega arith) in
        list_dead l top es (omega (arith, z)) q h.rises w (λ y u v i. edit_dead l y (chosen k es) u v i w m)

hits_side : (side : ℕ → ℕ) (i j : ℕ) → 1 ≤ i → i ≤ j → 1 ≤ hits (sides side j) (side i)
unfolding sides hits
hits_side side i zero a b = absurd (omega arith)
hits_side side i (suc j) a b = go (eqb i (suc j)) refl (λ c. hits_side side i j a c)
  where
    go : (t : Bool) → eqb i (suc j) ≡ t → (i ≤ j → 1 ≤ hits (sides side j) (side i))
        → 1 ≤ bit (eqb (side i) (side (suc j))) + hits (sides side j) (side i)
    go true e f = let a : bit (eqb (side i) (side (suc j))) ≡ 1 =
        rw (eqb-true i (suc j) e, eq-eqb (side (suc j)) (side (suc j)) refl) refl in omega arith
    go false e f = let z = eqb-false i (suc j) e in let y = f (omega arith) in omega arith

module _ (n top : ℕ) (half most : ℕ → ℕ) (r s : Nodes) (fit fit' : ℕ → ℕ → Type 0) (fit_n : (l : ℕ) → fit' (suc l) n)
    (keep : (l b : ℕ) → fit l b → fit' l b) (same : (q l : ℕ) → fit (suc l) q → s q (suc l) ≡ r q (suc l))
    (new-n : (l : ℕ) → fit (suc l) n → ⊥)
    (k : ℕ) (k_top : k < top) (l p₀ : ℕ) (h : Proper fit (λ l. 2 * half l) most top r l p₀) where
  abbrev room : ℕ → ℕ
  room l = 2 * half l

  abbrev spots : List Place
  spots = places r (suc l) (the p₀)

  abbrev p : ℕ
  p = bottom r k l (the p₀)

  abbrev fit_live : ℕ → ℕ → Type 0
  fit_live j q = fit j q × LiveAt spots j q

  both : fit 1 p × LiveAt spots 1 p
  both = bottom_fit fit_live room r k most top l p₀ k_top (with_live fit room most top r l p₀ h.rooted)

  tied_root : Rooted (λ j q. fit j q × Tie r p 1 j q) room most top r l p₀
  tied_root = rooted_with fit room most top r (Tie r p 1) l p₀ (λ _. tt)
      (tie_all r p 1 spots h.tied both.1 (all_map (λ x. (1 ≤ x.level) × (x.level ≤ suc l)) (λ x. x.page ≡ p → 1 ≤ x.level) spots
      (λ x i _. i.0) (places_level r (suc l) (the p₀)))) h.rooted

  n_p : n ≡ p → ⊥
  n_p e = new-n 0 (subst (fit 1) (sym e) both.0)

  abbrev keep' : (j b : ℕ) → fit j b × Tie r p 1 j b → fit' j b
  keep' j b i = keep j b i.0

  abbrev same' : (q j : ℕ) → fit (suc j) q × Tie r p 1 (suc j) q → s q (suc j) ≡ r q (suc j)
  same' q j i = same q j i.0

  where_in : (S : ℕ) (side : ℕ → ℕ) (Cut : ℕ → Type 0) (low : ℕ) → ((j : ℕ) → Cut j → (1 ≤ j) × (j ≤ S)) → (x : Place)
      → Where s n low side Cut (λ x. (1 ≤ x.level) × fit_live x.level x.page) x
      → (1 ≤ hits (n ∷ sides side S) x.page) ⊎ Mem x spots
  unfolding hits
  where_in S side Cut low cut x (inl i) = let z : bit (eqb x.page n) ≡ 1 = rw (eq-eqb x.page n i.0) refl in
      inl (omega arith)
  where_in S side Cut low cut x (inr (inl i)) =
      let z = hits_side side x.level S (cut x.level i.0).0 (cut x.level i.0).1 in
      let w : hits (sides side S) x.page ≡ hits (sides side S) (side x.level) = ap (hits (sides side S)) i.1 in
      inl (omega arith)
  where_in S side Cut low cut x (inr (inr i)) = inr (at_mem spots x.page x.level i.0 i.1.1)

  module _ (a S : ℕ) (side : ℕ → ℕ) (Cut : ℕ → Type 0) (cut : (j : ℕ) → Cut j → (1 ≤ j) × (j ≤ S)) (fit-a : fit' 0 a)
      (new_side : (l j : ℕ) → Cut l → fit (suc j) (side l) → ⊥) (made : InsertMade r s k a n side half fit' Cut l
      (chosen k (r p₀ (suc l)))) where
    abbrev root_list : List Entry
    root_list = at_root (put_in k a) (inserted r k a n side half l) k l (r p₀ (suc l))

    side_p : (i : ℕ) → Cut i → side i ≡ p → ⊥
    side_p i c e = new_side i 0 c (subst (fit 1) (sym e) both.0)

    Dies : Place → Type 0
    Dies x = x.page ≡ p → ⊥

    named_dead : (j : ℕ) (e : Entry) (c : List Entry) → InsertHeld k n side half s fit' Cut (suc j) e c
        → All Dies (gather (places s j) c)
        → All Dies (gather (places s (suc j)) (named k n side half (suc j) e c))
    unfolding gather Dies
    named_dead j e c i w = go (leb (length c) (2 * half (suc j))) refl i.0
      where
        go : (t : Bool) → leb (length c) (2 * half (suc j)) ≡ t → s n (suc j) ≡ pick t c (path_half k (half (suc j)) c)
            → All Dies (gather (places s (suc j)) (pick t (record { key = min e.key k; addr = n } ∷ [])
            (two k n (side (suc j)) (half (suc j)) (min e.key k) c)))
        go true d f = all_append Dies (places s (suc j) (record { key = min e.key k; addr = n })) []
            (page_where s Dies j (min e.key k) n c f n_p w) tt
        go false d f = let u = i.1 (leb-false (length c) (2 * half (suc j)) d) in
            two_where k a n top side half most r s fit fit' Cut fit_n fit-a keep same k_top Dies j (half (suc j)) (min e.key k) c
            (f, u.0, u.1) n_p (side_p (suc j) u.2) w

    list_dies : All Dies (gather (places s l) root_list)
    unfolding Dies
    list_dies = root_dead p half r s fit fit' keep' same' k (λ e. put k a (e ∷ [])) (named k n side half) (InsertHeld k n side half s fit' Cut)
        named_dead (put_in k a) most top l p₀ k_top tied_root refl made

    pub stay_shifted : s n (suc l) ≡ root_list → Shifted (n ∷ sides side S) p spots (places s (suc l) (the n))
    unfolding Dies
    stay_shifted e = record {
      was = both.1;
      dead = page_where s Dies l 0 n root_list e n_p list_dies;
      within = all_map (Where s n 1 side Cut (λ x. (1 ≤ x.level) × fit_live x.level x.page))
          (λ x. (1 ≤ hits (n ∷ sides side S) x.page) ⊎ Mem x spots) (places s (suc l) (the n)) (where_in S side Cut 1 cut)
          (stay_where k a n top side half most r s fit_live fit' Cut fit_n fit-a (λ l b i. keep l b i.0) (λ q l i. same q l i.0) k_top l p₀
          (with_live fit room most top r l p₀ h.rooted) made e);
    }

    pub grow_shifted : Halves k n side s fit' (suc l) (2 * half (suc l)) root_list → Cut (suc l)
        → length root_list ≡ 4 * half (suc l)
        → s n (suc (suc l)) ≡ two k n (side (suc l)) (2 * half (suc l)) (following root_list 0) root_list
        → Shifted (n ∷ sides side S) p spots (places s (suc (suc l)) (the n))
    unfolding Dies
    grow_shifted hs c len e = record {
      was = both.1;
      dead = page_where s Dies (suc l) 0 n (two k n (side (suc l)) (2 * half (suc l)) (following root_list 0) root_list) e n_p
          (two_where k a n top side half most r s fit fit' Cut fit_n fit-a keep same k_top Dies l (2 * half (suc l)) (following root_list 0) root_list
          hs n_p (side_p (suc l) c) list_dies);
      within = all_map (Where s n 1 side Cut (λ x. (1 ≤ x.level) × fit_live x.level x.page))
          (λ x. (1 ≤ hits (n ∷ sides side S) x.page) ⊎ Mem x spots) (places s (suc (suc l)) (the n)) (where_in S side Cut 1 cut)
          (grow_where k a n top side half most r s fit_live fit' Cut fit_n fit-a (λ l b i. keep l b i.0) (λ q l i. same q l i.0) k_top l p₀
          (with_live fit room most top r l p₀ h.rooted) made hs c len e);
    }

  abbrev root_less : List Entry
  root_less = at_root (remove_in k) (deleted r k n l) k l (r p₀ (suc l))

  kept_dead : (j : ℕ) (e : Entry) (c : List Entry) → DeleteHeld n s (suc j) e c
      → All (λ x. x.page ≡ p → ⊥) (gather (places s j) c)
      → All (λ x. x.page ≡ p → ⊥) (gather (places s (suc j)) (kept n (suc j) e c))
  unfolding gather
  kept_dead j e [] i w = tt
  kept_dead j e (x ∷ c) i w = all_append (λ x. x.page ≡ p → ⊥) (places s (suc j) (record { key = e.key; addr = n })) []
      (page_where s (λ x. x.page ≡ p → ⊥) j e.key n (x ∷ c) (i (omega arith)) n_p w) tt

  pub less_shifted : DeleteMade r s k n l (chosen k (r p₀ (suc l))) → 0 < length (r p₀ (suc l)) → s n (suc l) ≡ root_less
      → Shifted (n ∷ []) p spots (places s (suc l) (the n))
  unfolding sides
  less_shifted made some e = record {
    was = both.1;
    dead = page_where s (λ x. x.page ≡ p → ⊥) l 0 n root_less e n_p
        (root_dead p half r s fit fit' keep' same' k (λ e. remove k (e ∷ [])) (kept n) (DeleteHeld n s) kept_dead (remove_in k) most top l p₀ k_top
        tied_root refl made);
    within = all_map (Where s n (left_low_of r k n l (r p₀ (suc l))) (λ _. 0) (λ _. ⊥) (λ x. (1 ≤ x.level) × fit_live x.level x.page))
        (λ x. (1 ≤ hits (n ∷ []) x.page) ⊎ Mem x spots) (places s (suc l) (the n))
        (where_in 0 (λ _. 0) (λ _. ⊥) (left_low_of r k n l (r p₀ (suc l))) (λ j z. absurd z))
        (less_where k n top half most r s fit_live fit' (λ l b i. keep l b i.0) (λ q l i. same q l i.0) k_top l p₀
        (with_live fit room most top r l p₀ h.rooted) some made
        (e ∙ less_is n top half most r s fit fit' fit_n keep same new-n k k_top l (r p₀ (suc l)) some h.rooted.rises));
  }

-- what holds of every place below a list holds below the root it collapses to
collapse_all : (D : Place → Type 0) (r : Nodes) (l : ℕ) (c : List Entry) → All D (gather (places r l) c)
    → All D (gather (places r (collapse r l c).level) (collapse r l c).list)
unfolding collapse gather places
collapse_all D r zero c h = h
collapse_all D r (suc l) [] h = h
collapse_all D r (suc l) (x ∷ []) h = collapse_all D r l (r x.addr (suc l)) (all_left D (places r (suc l) x) [] h).1
collapse_all D r (suc l) (x ∷ y ∷ c) h = h

module _ (n top : ℕ) (half most : ℕ → ℕ) (r s : Nodes) (fit fit' : ℕ → ℕ → Type 0) (fit_n : (l : ℕ) → fit' (suc l) n)
    (keep : (l b : ℕ) → fit l b → fit' l b) (same : (q l : ℕ) → fit (suc l) q → s q (suc l) ≡ r q (suc l))
    (new-n : (l : ℕ) → fit (suc l) n → ⊥)
    (k : ℕ) (k_top : k < top) (wide : (j : ℕ) → 2 * half j ≤ most j)
    (l p₀ : ℕ) (h : Proper fit (λ l. 2 * half l) most top r (suc l) p₀)
    (made : DeleteMade r s k n (suc l) (chosen k (r p₀ (suc (suc l)))))
    (one : length (root_less n top half most r s fit fit' fit_n keep same new-n k k_top (suc l) p₀ h) ≡ 1) where
  abbrev left : List Entry
  left = root_less n top half most r s fit fit' fit_n keep same new-n k k_top (suc l) p₀ h

  abbrev page : ℕ
  page = bottom r k (suc l) (the p₀)

  abbrev Gone : Place → Type 0
  Gone x = x.page ≡ page → ⊥

  abbrev old : List Place
  old = places r (suc (suc l)) (the p₀)

  abbrev alive : ℕ → ℕ → Type 0
  alive j q = fit j q × LiveAt old j q

  left_dead : All Gone (gather (places r (suc l)) left)
  unfolding at_root bottom
  left_dead =
      let es = r p₀ (suc (suc l)) in
      let b = h.rooted.least (omega arith) in
      let w = splice_length (Ok fit (λ l. 2 * half l) r (suc l)) (deleted r k n (suc l)) k top es (omega (arith, b)) k_top h.rooted.rises in
      off_list page half r s fit fit' (keep' n top half most r s fit fit' fit_n keep same new-n k k_top (suc l) p₀ h)
      (same' n top half most r s fit fit' fit_n keep same new-n k k_top (suc l) p₀ h) k (deleted r k n (suc l)) l top es (omega (arith, b)) k_top
      (tied_root n top half most r s fit fit' fit_n keep same new-n k k_top (suc l) p₀ h).rises refl
      (none_left_lem (deleted r k n (suc l) (chosen k es)) (omega (arith, w, one, b)))

  pub collapse_shifted : s n (suc (collapse r (suc l) left).level) ≡ (collapse r (suc l) left).list
      → Shifted (n ∷ []) page old (places s (suc (collapse r (suc l) left).level) (the n))
  unfolding sides
  collapse_shifted e =
      let t = collapse r (suc l) left in
      let laid = delete_made_lem r s k n fit' fit_n (suc l) (chosen k (r p₀ (suc (suc l)))) made in
      let up = (the_top k (λ _. n) top half most r s fit fit' keep same k_top wide l p₀ h.rooted laid one e).rises in
      let up' = (the_top k (λ _. n) top half most r s alive fit' (λ l b i. keep l b i.0) (λ q l i. same q l i.0) k_top wide l p₀
      (with_live fit (λ l. 2 * half l) most top r (suc l) p₀ h.rooted) laid one e).rises in
      let is : gather (places s t.level) t.list ≡ gather (places r t.level) t.list =
      gather_eq (places r t.level) (places s t.level) t.list (rises_all (Ok fit (λ l. 2 * half l) r t.level)
      (λ x. places s t.level x ≡ places r t.level x) top t.list
      (λ y x _ _ i. places_same fit (λ l. 2 * half l) fit' r s keep same t.level y x i) up) in
      record {
        was = (both n top half most r s fit fit' fit_n keep same new-n k k_top (suc l) p₀ h).1;
        dead = page_where s Gone t.level 0 n t.list e (n_p n top half most r s fit fit' fit_n keep same new-n k k_top (suc l) p₀ h)
            (subst (λ m. All Gone m) (sym is) (collapse_all Gone r (suc l) left left_dead));
        within = all_map (Where s n (suc t.level) (λ _. 0) (λ _. ⊥) (λ x. (1 ≤ x.level) × alive x.level x.page))
            (λ x. (1 ≤ hits (n ∷ []) x.page) ⊎ Mem x old) (places s (suc t.level) (the n))
            (where_in n top half most r s fit fit' fit_n keep same new-n k k_top (suc l) p₀ h 0 (λ _. 0) (λ _. ⊥) (suc t.level) (λ j z. absurd z))
            (collapse_where k n top half most r s alive fit' (λ l b i. keep l b i.0) (λ q l i. same q l i.0) k_top t.level t.list up' e);
      }
