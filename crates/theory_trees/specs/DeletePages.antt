-- Where the nodes stand after a deletion. Assumes nothing.
use Rattle.std.specs.Prelude.{◌≡◌, ◌⊎◌}
use Rattle.std.proofs.Math.Path.{refl, ap}
use Rattle.std.proofs.Common.{sym, subst, inr}
use mathlib.Core.List.{List, [], ◌∷◌}
use Rattle.std.proofs.Math.Logic.{inl}
use Prim.Native.Nat.{ℕ, zero, suc, ◌*◌, ◌<◌, ◌≤◌}
use native.Mathlib.Omega.{arith}
use Rattle.std.proofs.Math.ListN.{length}
use Rattle.geometry.specs.declared.Entry.{Entry}
use Rattle.model.specs.Image.{Nodes}
use Rattle.model.specs.Tree.{gather, Place, places, chosen}
use Rattle.model.specs.Edit.{splice, remove, kept}
use Rattle.theory_lists.specs.All.{All, Some, all_append, all_map}
use Rattle.theory_nodes.specs.Entries.{Rises, gather_all, rises_all}
use Rattle.theory_nodes.specs.Nodes.{Ok, places_fit, places_same, Rooted}
use Rattle.theory_trees.specs.Edit.{splice_some, edit, Made, no_places, page_where, list_places}
use Rattle.theory_trees.specs.Delete.{deleted, DeleteHeld, DeleteMade}
use Rattle.theory_trees.specs.Tied.{Where}

-- the level of the lowest node that the deletion leaves on the path's page, if it leaves any
abbrev pub stop : List Entry → ℕ → ℕ → ℕ
stop [] a b = a
stop (x ∷ xs) a b = b

unfoldable pub left_low : Nodes → ℕ → ℕ → ℕ → Entry → ℕ
left_low r k n zero e = 1
left_low r k n (suc l) e = stop (deleted r k n l (chosen k (r e.addr (suc l)))) (suc l) (left_low r k n l (chosen k (r e.addr (suc l))))

-- the same at a list
abbrev pub left_low_of : Nodes → ℕ → ℕ → ℕ → List Entry → ℕ
left_low_of r k n l es = stop (deleted r k n l (chosen k es)) (suc l) (left_low r k n l (chosen k es))

module _ (k n top : ℕ) (half most : ℕ → ℕ) (r s : Nodes) (fit fit' : ℕ → ℕ → Type 0)
    (keep : (l a : ℕ) → fit l a → fit' l a) (same : (p l : ℕ) → fit (suc l) p → s p (suc l) ≡ r p (suc l))
    (k_top : k < top) where
  abbrev pub DeleteWhere : ℕ → Place → Type 0
  DeleteWhere low x = Where s n low (λ _. 0) (λ _. ⊥) (λ x. (1 ≤ x.level) × fit x.level x.page) x

  abbrev room_at : ℕ → ℕ
  room_at l = 2 * half l

  abbrev deletes : ℕ → Entry → List Entry
  deletes = deleted r k n

  low_le : (l : ℕ) (e : Entry) → left_low r k n l e ≤ suc l
  unfolding left_low
  low_le zero e = omega arith
  low_le (suc l) e = go (deletes l (chosen k (r e.addr (suc l)))) (low_le l (chosen k (r e.addr (suc l))))
    where
      go : (ds : List Entry) → left_low r k n l (chosen k (r e.addr (suc l))) ≤ suc l
          → stop ds (suc l) (left_low r k n l (chosen k (r e.addr (suc l)))) ≤ suc (suc l)
      go [] i = omega arith
      go (d ∷ ds) i = omega arith

  off_where : (low : ℕ) (l y : ℕ) (e : Entry) → e.key < y → Ok fit room_at r l y e → ((y ≤ k) ⊎ (k < e.key))
      → All (DeleteWhere low) (places r l e)
  off_where low l y e b h o = all_map (λ x. (1 ≤ x.level) × fit x.level x.page) (DeleteWhere low) (places r l e) (λ x i. inr (inr i))
      (places_fit fit room_at r l y e h)

  -- what is left of the path's entry above the leaves names n
  left_names : (l : ℕ) (e d : Entry) (ds : List Entry) → deletes (suc l) e ≡ d ∷ ds
      → Some (λ e. e.addr ≡ n) (deletes (suc l) e)
  unfolding edit
  left_names l e d ds q = go (splice (deletes l) k (r e.addr (suc l))) q
    where
      go : (c : List Entry) → kept n (suc l) e c ≡ d ∷ ds → Some (λ e. e.addr ≡ n) (kept n (suc l) e c)
      go [] i = absurd (omega (arith, ap length i))
      go (x ∷ c) i = inl refl

  names_left : (l hi : ℕ) (es : List Entry) (d : Entry) (ds : List Entry) → 0 < length es → k < hi
      → Rises (Ok fit room_at r l) hi es
      → deletes l (chosen k es) ≡ d ∷ ds → left_low r k n l (chosen k es) < suc l
      → Some (λ e. e.addr ≡ n) (splice (deletes l) k es)
  unfolding left_low
  names_left zero hi es d ds c q h i b = absurd (omega arith)
  names_left (suc l) hi es d ds c q h i b =
      splice_some (Ok fit room_at r (suc l)) (λ e. e.addr ≡ n) (deletes (suc l)) k hi es c q h
      (left_names l (chosen k es) d ds i)

  -- the places below a changed list, and that the list names n if its level is above the lowest
  abbrev ListWhere : ℕ → List Entry → ℕ → Type 0
  ListWhere l c low = All (DeleteWhere low) (gather (places s l) c) × (low ≤ suc l) × (low < suc l → Some (λ e. e.addr ≡ n) c)

  list_where : (l hi : ℕ) (es : List Entry) → 0 < length es → k < hi → Rises (Ok fit room_at r l) hi es
      → ((y : ℕ) → k < y → (chosen k es).key < y → Ok fit room_at r l y (chosen k es)
      → All (DeleteWhere (left_low r k n l (chosen k es)))
      (gather (places s l) (deletes l (chosen k es))))
      → ListWhere l (splice (deletes l) k es) (left_low_of r k n l es)
  unfolding gather
  list_where l hi es c q h step = go (deletes l (chosen k es)) refl
    where
      go : (ds : List Entry) → deletes l (chosen k es) ≡ ds → ListWhere l (splice (deletes l) k es)
          (stop ds (suc l) (left_low r k n l (chosen k es)))
      go [] i = (
        list_places fit fit' room_at r s keep same k (λ e. remove k (e ∷ [])) (kept n) (DeleteHeld n s) (DeleteWhere (suc l))
            (off_where (suc l)) l hi es c q h (λ y a b o. rw i tt),
        omega arith,
        λ b. absurd (omega arith),
      )
      go (d ∷ ds) i = (
        list_places fit fit' room_at r s keep same k (λ e. remove k (e ∷ [])) (kept n) (DeleteHeld n s)
            (DeleteWhere (left_low r k n l (chosen k es))) (off_where (left_low r k n l (chosen k es))) l hi es c q h step,
        low_le l (chosen k es),
        names_left l hi es d ds c q h i,
      )

  node_where : (l z low : ℕ) (c : List Entry) → s n (suc l) ≡ c → ListWhere l c low
      → All (DeleteWhere low) (places s (suc l) (record { key = z; addr = n }))
  node_where l z low c e h = page_where s (DeleteWhere low) l z n c e (inl (refl, h.1, λ d. rw e (h.2 d))) h.0

  kept_where : (l low : ℕ) (e : Entry) (c : List Entry) → DeleteHeld n s (suc l) e c → ListWhere l c low
      → All (DeleteWhere low) (gather (places s (suc l)) (kept n (suc l) e c))
  unfolding gather
  kept_where l low e [] m h = tt
  kept_where l low e (x ∷ c) m h = all_append (DeleteWhere low) (places s (suc l) (record { key = e.key; addr = n })) []
      (node_where l e.key low (x ∷ c) (m (omega arith)) h) tt

  pub edit_where : (l y : ℕ) (e : Entry) → k < y → e.key < y → Ok fit room_at r l y e → DeleteMade r s k n l e
      → All (DeleteWhere (left_low r k n l e)) (gather (places s l) (deletes l e))
  unfolding edit Made Ok left_low
  edit_where zero y e q b h m = no_places (DeleteWhere 1) s (remove k (e ∷ []))
  edit_where (suc l) y e q b h m = let es = r e.addr (suc l) in
      kept_where l (left_low_of r k n l es) e (splice (deletes l) k es) m.0
      (list_where l y es h.1 q h.4 (λ y a b i. edit_where l y (chosen k es) a b i m.1))

  -- the root stays at its level
  pub less_where : (l p : ℕ) → Rooted fit room_at most top r l p → 0 < length (r p (suc l)) → DeleteMade r s k n l
      (chosen k (r p (suc l)))
      → s n (suc l) ≡ splice (deletes l) k (r p (suc l))
      → All (DeleteWhere (left_low_of r k n l (r p (suc l)))) (places s (suc l) (record { key = 0; addr = n }))
  less_where l p h c m e = let es = r p (suc l) in node_where l 0 (left_low_of r k n l es) (splice (deletes l) k es) e
      (list_where l top es c k_top h.rises (λ y a b i. edit_where l y (chosen k es) a b i m))

  -- the root collapses to an old list, which then stands alone on n
  pub collapse_where : (l : ℕ) (c : List Entry) → Rises (Ok fit room_at r l) top c → s n (suc l) ≡ c
      → All (DeleteWhere (suc l)) (places s (suc l) (record { key = 0; addr = n }))
  collapse_where l c h e = node_where l 0 (suc l) c e (
    gather_all (DeleteWhere (suc l)) (places s l) c (rises_all (Ok fit room_at r l) (λ x. All (DeleteWhere (suc l)) (places s l x)) top c
        (λ y x _ _ i. subst (λ m. All (DeleteWhere (suc l)) m) (sym (places_same fit room_at fit' r s keep same l y x i))
        (all_map (λ x. (1 ≤ x.level) × fit x.level x.page) (DeleteWhere (suc l)) (places r l x) (λ x i. inr (inr i))
        (places_fit fit room_at r l y x i))) h),
    omega arith,
    λ b. absurd (omega arith),
  )
