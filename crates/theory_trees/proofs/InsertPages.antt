-- Where the nodes stand after an insertion; the path half is the one that holds K, or names N. Assumes nothing.
use Rattle.std.specs.Prelude.{◌≡◌, Bool, true, false, ◌⊎◌, length, drop, leb}
use Rattle.std.proofs.Math.Path.{refl}
use mathlib.Core.List.{List, [], ◌∷◌}
use Rattle.std.proofs.Common.{inl, inr, arith, leb-false}
use Prim.Native.Nat.{ℕ, zero, suc, ◌*◌, ◌<◌, ◌≤◌, min}
use Rattle.geometry.specs.declared.Entry.{Entry}
use Rattle.geometry.specs.Tests.{pick}
use Rattle.model.specs.Image.{Nodes}
use Rattle.model.specs.Tree.{gather, places, following, chosen}
use Rattle.model.specs.Edit.{splice, put, put_in, turn, path_half, two, named, path_part}
use Rattle.theory_lists.specs.All.{All, Some, all_append, all_map}
use Rattle.theory_nodes.specs.Entries.{Rises}
use Rattle.theory_nodes.specs.Nodes.{Ok, places_fit, Rooted}
use Rattle.theory_trees.specs.Edit.{edit, at_root, Made, no_places, page_where, edit_list_places}
use Rattle.theory_trees.specs.Insert.{Halves, InsertHeld, inserted, InsertMade, Fresh}
use Rattle.theory_trees.proofs.Insert.{ins_list_ok, fresh}
use Rattle.theory_trees.specs.InsertPages.{InsertWhere, Names, Sits, half_holds, sits_some, splice_sits, two_sits, two_where}

module _ (k n : ℕ) where
  named_sits : (side half : ℕ → ℕ) (l y : ℕ) (e : Entry) (c : List Entry) → k < y → Sits k (Names n) y
      (named k n side half l e c)
  named_sits side half l y e c d = go (leb (length c) (2 * half l))
    where
      go : (t : Bool) → Sits k (Names n) y (pick t (record { key = min e.key k; addr = n } ∷ []) (two k n (side l)
          (half l) (min e.key k) c))
      go true = inl (omega arith, d, refl)
      go false = two_sits k n (side l) (half l) (min e.key k) y c (omega arith) d

module _ (k a n top : ℕ) (side half most : ℕ → ℕ) (r s : Nodes) (fit fit' : ℕ → ℕ → Type 0) (Cut : ℕ → Type 0)
    (fit_n : (l : ℕ) → fit' (suc l) n)
    (fit-a : fit' 0 a)
    (keep : (l a : ℕ) → fit l a → fit' l a) (same : (p l : ℕ) → fit (suc l) p → s p (suc l) ≡ r p (suc l))
    (k_top : k < top) where
  abbrev room_at : ℕ → ℕ
  room_at l = 2 * half l

  abbrev inserts : ℕ → Entry → List Entry
  inserts = inserted r k a n side half

  off_where : (l y : ℕ) (e : Entry) → e.key < y → Ok fit room_at r l y e → ((y ≤ k) ⊎ (k < e.key)) → All (InsertWhere k a n top side half most r s fit fit' Cut fit_n fit-a keep same k_top)
      (places r l e)
  off_where l y e b h o = all_map (λ x. (1 ≤ x.level) × fit x.level x.page) (InsertWhere k a n top side half most r s fit fit' Cut fit_n fit-a keep same k_top) (places r l e) (λ x i. inr (inr i))
      (places_fit fit room_at r l y e h)

  -- the changed list of a node above the leaves has the entry that names n where descent takes it
  list_sits : (l hi : ℕ) (es : List Entry) → 1 ≤ l → 0 < length es → k < hi → Rises (Ok fit room_at r l) hi es
      → Sits k (Names n) hi (splice (inserts l) k es)
  unfolding edit
  list_sits zero hi es b c q h = absurd (omega arith)
  list_sits (suc l) hi es b c q h = splice_sits k (Names n) (Ok fit room_at r (suc l)) (inserts (suc l)) hi es c q h
      (λ y d. named_sits k n side half (suc l) y (chosen k es) (splice (inserts l) k (r (chosen k es).addr (suc l))) d)

  -- the node on n at a level above the leaves names n
  part_names : (l y : ℕ) (es : List Entry) → 1 ≤ l → 0 < length es → k < y → Rises (Ok fit room_at r l) y es
      → InsertMade r s k a n side half fit' Cut l (chosen k es)
      → Some (Names n) (path_part k half (suc l) (splice (inserts l) k es))
  part_names l y es b c q h m = go (leb (length (splice (inserts l) k es)) (2 * half (suc l))) refl
    where
      i : Sits k (Names n) y (splice (inserts l) k es)
      i = list_sits l y es b c q h

      up : Rises (Ok fit' room_at s l) y (splice (inserts l) k es)
      up = (ins_list_ok k a n top side half most r s fit fit' Cut fit_n fit-a keep same k_top l y es c q h m).up

      go : (t : Bool) → leb (length (splice (inserts l) k es)) (2 * half (suc l)) ≡ t
          → Some (Names n) (pick t (splice (inserts l) k es) (path_half k (half (suc l)) (splice (inserts l) k es)))
      go true d = sits_some k (Names n) y (splice (inserts l) k es) i
      go false d = let w = leb-false (length (splice (inserts l) k es)) (2 * half (suc l)) d in
          half_holds k (Names n) (Ok fit' room_at s l) y
          (half (suc l))
          (splice (inserts l) k es) (omega arith) up i

  name_where : (l y : ℕ) (e : Entry) → k < y → e.key < y → Ok fit room_at r (suc l) y e
      → InsertMade r s k a n side half fit' Cut (suc l) e
      → All (InsertWhere k a n top side half most r s fit fit' Cut fit_n fit-a keep same k_top) (gather (places s l) (splice (inserts l) k (r e.addr (suc l))))
      → All (InsertWhere k a n top side half most r s fit fit' Cut fit_n fit-a keep same k_top) (gather (places s (suc l))
      (named k n side half (suc l) e (splice (inserts l) k (r e.addr (suc l)))))
  unfolding gather Ok Made
  name_where l y e q b h m w = go (leb (length c) (2 * half (suc l))) refl m.0.0
    where
      c : List Entry
      c = splice (inserts l) k (r e.addr (suc l))

      on_n : (InsertWhere k a n top side half most r s fit fit' Cut fit_n fit-a keep same k_top) (record { page = n; level = suc l })
      on_n = inl (refl, omega arith, λ d. rw m.0.0 (part_names l y (r e.addr (suc l)) (omega arith) h.1 q h.4 m.1))

      go : (t : Bool) → leb (length c) (2 * half (suc l)) ≡ t → s n (suc l) ≡ pick t c (path_half k (half (suc l)) c)
          → All (InsertWhere k a n top side half most r s fit fit' Cut fit_n fit-a keep same k_top)
          (gather (places s (suc l)) (pick t (record { key = min e.key k; addr = n } ∷ [])
          (two k n (side (suc l)) (half (suc l)) (min e.key k) c)))
      go true d i = all_append (InsertWhere k a n top side half most r s fit fit' Cut fit_n fit-a keep same k_top) (places s (suc l) (record { key = min e.key k; addr = n })) []
          (page_where s (InsertWhere k a n top side half most r s fit fit' Cut fit_n fit-a keep same k_top) l (min e.key k) n c i on_n w) tt
      go false d i = let u = m.0.1 (leb-false (length c) (2 * half (suc l)) d) in
          two_where k a n top side half most r s fit fit' Cut fit_n fit-a keep same k_top (InsertWhere k a n top side half most r s fit fit' Cut fit_n fit-a keep same k_top) l (half (suc l)) (min e.key k) c
          (i, u.0, u.1) on_n (inr (inl (u.2, refl))) w

  -- the places below the root's list
  root_where : (l p : ℕ) → Rooted fit room_at most top r l p → InsertMade r s k a n side half fit' Cut l
      (chosen k (r p (suc l)))
      → All (InsertWhere k a n top side half most r s fit fit' Cut fit_n fit-a keep same k_top) (gather (places s l) (at_root (put_in k a) (inserts l) k l (r p (suc l))))
  unfolding at_root
  root_where zero p h m = no_places (InsertWhere k a n top side half most r s fit fit' Cut fit_n fit-a keep same k_top) s (put_in k a (r p 1))
  root_where (suc l) p h m = let g = h.least (omega arith) in
      edit_list_places fit fit' room_at r s keep same k (λ e. put k a (e ∷ []))
      (named k n side half) (InsertHeld k n side half s fit' Cut) (InsertWhere k a n top side half most r s fit fit' Cut fit_n fit-a keep same k_top) off_where name_where (suc l) top (r p (suc (suc l))) (omega arith) k_top
      h.rises m

  root_names : (l p : ℕ) → 1 ≤ l → Rooted fit room_at most top r l p → Sits k (Names n) top
      (at_root (put_in k a) (inserts l) k l (r p (suc l)))
  unfolding at_root
  root_names zero p b h = absurd (omega arith)
  root_names (suc l) p b h = let g = h.least (omega arith) in
      list_sits (suc l) top (r p (suc (suc l))) (omega arith) (omega arith) k_top h.rises

  pub stay_where : (l p : ℕ) → Rooted fit room_at most top r l p → InsertMade r s k a n side half fit' Cut l
      (chosen k (r p (suc l)))
      → s n (suc l) ≡ at_root (put_in k a) (inserts l) k l (r p (suc l))
      → All (InsertWhere k a n top side half most r s fit fit' Cut fit_n fit-a keep same k_top) (places s (suc l) (record { key = 0; addr = n }))
  stay_where l p h m e = page_where s (InsertWhere k a n top side half most r s fit fit' Cut fit_n fit-a keep same k_top) l 0 n (at_root (put_in k a) (inserts l) k l (r p (suc l))) e
      (inl (
        refl,
        omega arith,
        λ d. rw e (sits_some k (Names n) top (at_root (put_in k a) (inserts l) k l (r p (suc l)))
            (root_names l p (omega arith) h)),
      ))
      (root_where l p h m)

  pub grow_where : (l p : ℕ) → Rooted fit room_at most top r l p → InsertMade r s k a n side half fit' Cut l
      (chosen k (r p (suc l)))
      → Halves k n side s fit' (suc l) (2 * half (suc l)) (at_root (put_in k a) (inserts l) k l (r p (suc l)))
      → Cut (suc l)
      → length (at_root (put_in k a) (inserts l) k l (r p (suc l))) ≡ 4 * half (suc l)
      → s n (suc (suc l)) ≡ two k n (side (suc l)) (2 * half (suc l))
      (following (at_root (put_in k a) (inserts l) k l (r p (suc l))) 0)
      (at_root (put_in k a) (inserts l) k l (r p (suc l)))
      → All (InsertWhere k a n top side half most r s fit fit' Cut fit_n fit-a keep same k_top) (places s (suc (suc l)) (record { key = 0; addr = n }))
  grow_where l p h m hs cut len e = page_where s (InsertWhere k a n top side half most r s fit fit' Cut fit_n fit-a keep same k_top) (suc l) 0 n (two k n (side (suc l)) (2 * half (suc l)) (following c 0) c) e
      (inl (refl, omega arith, λ d. rw e (either (turn k (2 * half (suc l)) c))))
      (two_where k a n top side half most r s fit fit' Cut fit_n fit-a keep same k_top (InsertWhere k a n top side half most r s fit fit' Cut fit_n fit-a keep same k_top) l (2 * half (suc l)) (following c 0) c hs (inl (
        refl,
        omega arith,
        λ d. rw hs.0
            (half_holds k (Names n) (Ok fit' room_at s l) top (2 * half (suc l)) c (omega (arith, f.some)) f.rises
            (root_names l p (omega arith) h)),
      )) (inr (inl (cut, refl))) (root_where l p h m))
    where
      c : List Entry
      c = at_root (put_in k a) (inserts l) k l (r p (suc l))

      f : Fresh k a n top side half most r s fit fit' Cut fit_n fit-a keep same k_top l (r p (suc l)) c
      f = fresh k a n top side half most r s fit fit' Cut fit_n fit-a keep same k_top l (r p (suc l)) h.least h.rises m

      either : (t : Bool)
          → Some (Names n)
          (record { key = following c 0; addr = pick t (side (suc l)) n } ∷ record {
            key = following (drop (2 * half (suc l)) c) 0;
            addr = pick t n
                (side (suc l));
          } ∷ [])
      either true = inr (inl refl)
      either false = inl refl
