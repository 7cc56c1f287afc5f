-- Insert in the plain tree of request 12, an instance of `Above`: each node of the path has a page of its own. The map
-- with K put in, R5 and R6. Assumes nothing.
use Rattle.std.specs.Prelude.{◌≡◌, Bool, true, false, ◌⊎◌, length, take, drop, leb}
use Rattle.std.proofs.Math.Path.{refl}
use mathlib.Core.List.{List, [], ◌∷◌, ◌++◌}
use Rattle.std.proofs.Common.{inl, inr, arith, leb-true, leb-false}
use Prim.Native.Nat.{ℕ, zero, suc, ◌*◌, ◌<◌, ◌≤◌, min}
use Rattle.std.proofs.Math.ListN.{take-append-drop}
use Rattle.geometry.specs.declared.Entry.{Entry}
use Rattle.geometry.specs.Tests.{pick}
use Rattle.model.specs.Image.{Nodes}
use Rattle.model.specs.Tree.{gather, under, Place, places, following, chosen}
use Rattle.model.specs.Edit.{splice, put, put_in}
use Rattle.model.specs.Plain.{both, renewed}
use Rattle.theory_lists.specs.All.{All, all_left, all_right, all_append, all_map}
use Rattle.theory_nodes.specs.Entries.{gather_append}
use Rattle.theory_nodes.specs.Nodes.{Ok, places_fit, the, Rooted}
use Rattle.theory_trees.specs.Edit.{at_root, Made, made_map, no_places, page_where, edit_list_places}
use Rattle.theory_trees.specs.Above.{Both, AboveHeld}
use Rattle.theory_trees.proofs.Above.{stay_pairs, stay_ok, grow_pairs, grow_ok}
use Rattle.theory_nodes.specs.Tied.{Tied}
use Rattle.theory_trees.specs.Proper.{Proper, with_live}
use Rattle.theory_trees.specs.Plain.{renews, RenewHeld, RenewMade}
use Rattle.theory_trees.specs.PlainTied.{LiveFit, PlainWhere, plain_tied}

-- where the nodes stand: W holds of the new pages and of the old ones
module _ (k a top : ℕ) (left right half most : ℕ → ℕ) (r s : Nodes) (fit fit' N : ℕ → ℕ → Type 0)
    (keep : (l a : ℕ) → fit l a → fit' l a) (same : (p l : ℕ) → fit (suc l) p → s p (suc l) ≡ r p (suc l))
    (k_top : k < top)
    (W : Place → Type 0) (new : (l q : ℕ) → N l q → W (record { page = q; level = l }))
    (old : (x : Place) → (1 ≤ x.level) × fit x.level x.page → W x) where
  abbrev room_at : ℕ → ℕ
  room_at l = 2 * half l

  abbrev lays : ℕ → Entry → List Entry
  lays = renews r k a left right half

  abbrev Making : ℕ → Entry → Type 0
  Making = RenewMade r s k a left right half fit' N

  both_where : (l m z x y : ℕ) (c : List Entry) → Both s fit' (suc l) m c x y → N (suc l) x → N (suc l) y
      → All W (gather (places s l) c)
      → All W (gather (places s (suc l)) (both x y m z c))
  unfolding gather
  both_where l m z x y c h n n' g =
      let b : All W (gather (places s l) (take m c) ++ gather (places s l) (drop m c)) =
      rw (← gather_append (places s l) (take m c) (drop m c), take-append-drop m c) g in
      all_append W (places s (suc l) (record { key = z; addr = x })) (places s (suc l) (record { key = following (drop m c) 0; addr = y }) ++ [])
      (page_where s W l z x (take m c) h.0 (new (suc l) x n) (all_left W (gather (places s l) (take m c)) (gather (places s l) (drop m c)) b))
      (all_append W (places s (suc l) (record { key = following (drop m c) 0; addr = y })) []
      (page_where s W l (following (drop m c) 0) y (drop m c) h.1 (new (suc l) y n')
      (all_right W (gather (places s l) (take m c)) (gather (places s l) (drop m c)) b)) tt)

  name_where : (l y : ℕ) (e : Entry) → k < y → e.key < y → Ok fit room_at r (suc l) y e → Making (suc l) e
      → All W (gather (places s l) (splice (lays l) k (r e.addr (suc l))))
      → All W (gather (places s (suc l)) (renewed k left right half (suc l) e
      (splice (lays l) k (r e.addr (suc l)))))
  unfolding gather Made
  name_where l y e q b h m w = go (leb (length c) (2 * half (suc l))) refl
    where
      c : List Entry
      c = splice (lays l) k (r e.addr (suc l))

      go : (t : Bool) → leb (length c) (2 * half (suc l)) ≡ t
          → All W (gather (places s (suc l)) (pick t (record { key = min e.key k; addr = left (suc l) } ∷ [])
          (both (left (suc l)) (right (suc l)) (half (suc l)) (min e.key k) c)))
      go true d = let u = m.0.0 (leb-true (length c) (2 * half (suc l)) d) in
          all_append W (places s (suc l) (record { key = min e.key k; addr = left (suc l) })) []
          (page_where s W l (min e.key k) (left (suc l)) c u.0 (new (suc l) (left (suc l)) u.2) w) tt
      go false d = let u = m.0.1 (leb-false (length c) (2 * half (suc l)) d) in
          both_where l (half (suc l)) (min e.key k) (left (suc l)) (right (suc l)) c u.0 u.1 u.2 w

  off_where : (l y : ℕ) (e : Entry) → e.key < y → Ok fit room_at r l y e → ((y ≤ k) ⊎ (k < e.key))
      → All W (places r l e)
  off_where l y e b h o = all_map (λ x. (1 ≤ x.level) × fit x.level x.page) W (places r l e) old (places_fit fit room_at r l y e h)

  -- the places below the root's list
  root_where : (l p : ℕ) → Rooted fit room_at most top r l p → Making l (chosen k (r p (suc l)))
      → All W (gather (places s l) (at_root (put_in k a) (lays l) k l (r p (suc l))))
  unfolding at_root
  root_where zero p h m = no_places W s (put_in k a (r p 1))
  root_where (suc l) p h m = let g = h.least (omega arith) in
      edit_list_places fit fit' room_at r s keep same k (λ e. put k a (e ∷ []))
      (renewed k left right half) (RenewHeld left right half s fit' N) W off_where name_where (suc l) top (r p (suc (suc l))) (omega arith) k_top
      h.rises m

-- R5, R6 and the map
module _ (k a top : ℕ) (left right half most : ℕ → ℕ) (r s : Nodes) (fit fit' N : ℕ → ℕ → Type 0)
    (fit-a : fit' 0 a) (keep : (l a : ℕ) → fit l a → fit' l a) (same : (p l : ℕ) → fit (suc l) p → s p (suc l) ≡ r p
    (suc l)) (k_top : k < top)
    (alone : (i j p : ℕ) → N i p → N j p → i ≡ j) (fresh : (i l q : ℕ) → N i q → fit (suc l) q → ⊥) where
  abbrev room_of : ℕ → ℕ
  room_of l = 2 * half l

  abbrev root_list : ℕ → ℕ → List Entry
  root_list l p = at_root (put_in k a) (renews r k a left right half l) k l (r p (suc l))

  abbrev Renewing : ℕ → ℕ → Type 0
  Renewing l p = RenewMade r s k a left right half fit' N l (chosen k (r p (suc l)))

  laid : (l : ℕ) (e : Entry) → RenewMade r s k a left right half fit' N l e
      → Made r k (λ e. put k a (e ∷ [])) (renewed k left right half)
      (AboveHeld left (λ l _. left l) (λ l _. right l) half s fit') l e
  laid = made_map r k (λ e. put k a (e ∷ [])) (renewed k left right half) (RenewHeld left right half s fit' N)
      (AboveHeld left (λ l _. left l) (λ l _. right l) half s fit') (λ l e c h. (
        λ b. let u = h.0 b in
            (u.0, u.1),
        λ b. (h.1 b).0,
      ))

  abbrev W : ℕ → ℕ → Place → Type 0
  W l p = PlainWhere fit N (places r (suc l) (the p))

  below : (l p : ℕ) → Proper fit room_of most top r l p → Renewing l p → All (W l p) (gather (places s l) (root_list l p))
  below l p h m = root_where k a top left right half most r s (LiveFit fit (places r (suc l) (the p))) fit' N (λ l b i. keep l b i.0)
      (λ q l i. same q l i.0) k_top (W l p) (λ l q n. inl n) (λ x i. inr i) l p (with_live fit room_of most top r l p h.rooted) m

  retied : (l p j n : ℕ) → Proper fit room_of most top r l p → All (W l p) (places s j (the n))
      → Tied s (places s j (the n))
  retied l p j n h = plain_tied r s fit N same alone fresh (places r (suc l) (the p)) (places s j (the n)) h.tied

  -- the root does not grow: it stands on n
  pub plain_stay : (l p n : ℕ) → Proper fit room_of most top r l p → Renewing l p
      → s n (suc l) ≡ root_list l p → fit' (suc l) n → N (suc l) n → length (root_list l p) ≤ most (suc l)
      → Proper fit' room_of most top s l n × (under s (suc l) (the n) ≡ put k a (under r (suc l) (the p)))
  plain_stay l p n h m e fn nn b =
      let m' = laid l (chosen k (r p (suc l))) m in (
        record {
          rooted = stay_ok k a top left (λ l _. left l) (λ l _. right l) half most r s fit fit' fit-a keep same k_top l p n fn h.rooted m' e b;
          tied = retied l p (suc l) n h (page_where s (W l p) l 0 n (root_list l p) e (inl nn) (below l p h m));
        },
        stay_pairs k a top left (λ l _. left l) (λ l _. right l) half most r s fit fit' fit-a keep same k_top l p n h.rooted m' e,
      )

  -- the root grows: its halves stand on x and y, the new root on n
  pub plain_grow : (l p n x y : ℕ) → Proper fit room_of most top r l p → Renewing l p
      → Both s fit' (suc l) (half (suc l)) (root_list l p) x y → N (suc l) x → N (suc l) y
      → s n (suc (suc l)) ≡ both x y (half (suc l)) (following (root_list l p) 0) (root_list l p) → fit' (suc (suc l)) n
      → N (suc (suc l)) n
      → 1 ≤ half (suc l) → 2 * half (suc l) < length (root_list l p) → length (root_list l p) ≤ 3 * half (suc l)
      → 2 ≤ most (suc (suc l))
      → Proper fit' room_of most top s (suc l) n × (under s (suc (suc l)) (the n) ≡ put k a (under r (suc l) (the p)))
  plain_grow l p n x y h m hs nx ny e fn nn h1 c1 c2 w =
      let m' = laid l (chosen k (r p (suc l))) m in (
        record {
          rooted = grow_ok k a top left (λ l _. left l) (λ l _. right l) half most r s fit fit' fit-a keep same k_top l p n x y (half (suc l))
              h.rooted m' hs e fn h1 (omega arith) (omega arith) (omega arith) w;
          tied = retied l p (suc (suc l)) n h
              (page_where s (W l p) (suc l) 0 n (both x y (half (suc l)) (following (root_list l p) 0) (root_list l p)) e (inl nn)
              (both_where k a top left right half most r s (LiveFit fit (places r (suc l) (the p))) fit' N (λ l b i. keep l b i.0)
              (λ q l i. same q l i.0) k_top (W l p) (λ l q n. inl n) (λ x i. inr i) l (half (suc l)) (following (root_list l p) 0) x y (root_list l p)
              hs nx ny (below l p h m)));
        },
        grow_pairs k a top left (λ l _. left l) (λ l _. right l) half most r s fit fit' fit-a keep same k_top l p n x y (half (suc l)) h.rooted
            m' hs e,
      )
