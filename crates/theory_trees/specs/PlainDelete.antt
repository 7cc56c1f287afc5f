-- Delete in the plain tree of request 12: each node of the path that is left has a page of its own. The map without K,
-- R5 and R6. Assumes nothing.
use Rattle.std.specs.Prelude.{◌≡◌, length}
use Rattle.std.proofs.Common.{sym, subst, inl, inr, arith}
use mathlib.Core.List.{List, [], ◌∷◌}
use Prim.Native.Nat.{ℕ, zero, suc, ◌*◌, ◌<◌, ◌≤◌}
use Rattle.geometry.specs.declared.Entry.{Entry}
use Rattle.model.specs.Image.{Nodes}
use Rattle.model.specs.Tree.{gather, under, Place, places, chosen}
use Rattle.model.specs.Edit.{splice, remove, remove_in, Top, collapse}
use Rattle.model.specs.Plain.{kept_on}
use Rattle.theory_lists.specs.All.{All, all_append, all_map}
use Rattle.theory_nodes.specs.Entries.{Rises, gather_all, rises_all}
use Rattle.theory_nodes.specs.Nodes.{Ok, places_fit, places_same, the, Rooted}
use Rattle.theory_trees.specs.Edit.{at_root, Made, made_map, no_places, page_where, edit_list_places}
use Rattle.theory_trees.specs.Delete.{deleted_on, DeleteHeldOn, DeleteMadeOn, less_pairs, less_ok, the_top, collapse_pairs, collapse_ok}
use Rattle.theory_nodes.specs.Tied.{Tied}
use Rattle.theory_trees.specs.Proper.{Proper, with_live}
use Rattle.theory_trees.specs.Plain.{KeptHeld, KeptMade}
use Rattle.theory_trees.specs.PlainTied.{LiveFit, PlainWhere, plain_tied}

-- where the nodes stand: W holds of the new pages and of the old ones
module _ (k : ℕ) (n : ℕ → ℕ) (top : ℕ) (half most : ℕ → ℕ) (r s : Nodes) (fit fit' N : ℕ → ℕ → Type 0)
    (keep : (l a : ℕ) → fit l a → fit' l a) (same : (p l : ℕ) → fit (suc l) p → s p (suc l) ≡ r p (suc l))
    (k_top : k < top)
    (W : Place → Type 0) (new : (l q : ℕ) → N l q → W (record { page = q; level = l }))
    (old : (x : Place) → (1 ≤ x.level) × fit x.level x.page → W x) where
  abbrev room_at : ℕ → ℕ
  room_at l = 2 * half l

  abbrev deletes : ℕ → Entry → List Entry
  deletes = deleted_on r k n

  kept_where : (l : ℕ) (e : Entry) (c : List Entry) → KeptHeld n s fit' N (suc l) e c → All W (gather (places s l) c)
      → All W (gather (places s (suc l)) (kept_on n (suc l) e c))
  unfolding gather
  kept_where l e [] m w = tt
  kept_where l e (x ∷ c) m w = let u = m (omega arith) in
      all_append W (places s (suc l) (record { key = e.key; addr = n (suc l) })) []
      (page_where s W l e.key (n (suc l)) (x ∷ c) u.0 (new (suc l) (n (suc l)) u.2) w) tt

  old_places : (l y : ℕ) (e : Entry) → Ok fit room_at r l y e → All W (places r l e)
  old_places l y e h = all_map (λ x. (1 ≤ x.level) × fit x.level x.page) W (places r l e) old (places_fit fit room_at r l y e h)

  name_where : (l y : ℕ) (e : Entry) → k < y → e.key < y → Ok fit room_at r (suc l) y e → KeptMade r s k n fit' N
      (suc l) e
      → All W (gather (places s l) (splice (deletes l) k (r e.addr (suc l))))
      → All W (gather (places s (suc l)) (kept_on n (suc l) e (splice (deletes l) k (r e.addr (suc l)))))
  unfolding Made
  name_where l y e q b h m w = kept_where l e (splice (deletes l) k (r e.addr (suc l))) m.0 w

  less_where : (l p : ℕ) → Rooted fit room_at most top r l p → KeptMade r s k n fit' N l (chosen k (r p (suc l)))
      → All W (gather (places s l) (at_root (remove_in k) (deletes l) k l (r p (suc l))))
  unfolding at_root
  less_where zero p h m = no_places W s (remove_in k (r p 1))
  less_where (suc l) p h m = let g = h.least (omega arith) in
      edit_list_places fit fit' room_at r s keep same k (λ e. remove k (e ∷ []))
      (kept_on n) (KeptHeld n s fit' N) W (λ l y e _ i _. old_places l y e i) name_where (suc l) top (r p (suc (suc l))) (omega arith) k_top
      h.rises m

  -- an old list
  old_where : (l : ℕ) (c : List Entry) → Rises (Ok fit room_at r l) top c → All W (gather (places s l) c)
  old_where l c h = gather_all W (places s l) c (rises_all (Ok fit room_at r l) (λ x. All W (places s l x)) top c
      (λ y x _ _ i. subst (λ m. All W m) (sym (places_same fit room_at fit' r s keep same l y x i)) (old_places l y x i)) h)

-- R5, R6 and the map
module _ (k : ℕ) (n : ℕ → ℕ) (top : ℕ) (half most : ℕ → ℕ) (r s : Nodes) (fit fit' N : ℕ → ℕ → Type 0)
    (keep : (l a : ℕ) → fit l a → fit' l a) (same : (p l : ℕ) → fit (suc l) p → s p (suc l) ≡ r p (suc l))
    (k_top : k < top)
    (alone : (i j p : ℕ) → N i p → N j p → i ≡ j) (fresh : (i l q : ℕ) → N i q → fit (suc l) q → ⊥) where
  abbrev room_of : ℕ → ℕ
  room_of l = 2 * half l

  abbrev root_less : ℕ → ℕ → List Entry
  root_less l p = at_root (remove_in k) (deleted_on r k n l) k l (r p (suc l))

  abbrev Keeping : ℕ → ℕ → Type 0
  Keeping l p = KeptMade r s k n fit' N l (chosen k (r p (suc l)))

  abbrev W : ℕ → ℕ → Place → Type 0
  W l p = PlainWhere fit N (places r (suc l) (the p))

  laid : (l : ℕ) (e : Entry) → KeptMade r s k n fit' N l e → DeleteMadeOn r s k n fit' l e
  laid = made_map r k (λ e. remove k (e ∷ [])) (kept_on n) (KeptHeld n s fit' N) (DeleteHeldOn n s fit') (λ l e c h b. let u = h b in (u.0, u.1))

  retied : (l p j q : ℕ) → Proper fit room_of most top r l p → All (W l p) (places s j (the q))
      → Tied s (places s j (the q))
  retied l p j q h = plain_tied r s fit N same alone fresh (places r (suc l) (the p)) (places s j (the q)) h.tied

  -- the root stays at its level
  pub plain_less_lem : (l p : ℕ) → Proper fit room_of most top r l p → Keeping l p
      → s (n (suc l)) (suc l) ≡ root_less l p → fit' (suc l) (n (suc l)) → N (suc l) (n (suc l))
      → (1 ≤ l → 2 ≤ length (root_less l p))
      → Proper fit' room_of most top s l (n (suc l)) ×
      (under s (suc l) (the (n (suc l))) ≡ remove k (under r (suc l) (the p)))
  plain_less_lem l p h m e fn nn b =
      let m' = laid l (chosen k (r p (suc l))) m in (
        record {
          rooted = less_ok k n top half most r s fit fit' keep same k_top l p h.rooted m' e fn b;
          tied = retied l p (suc l) (n (suc l)) h (page_where s (W l p) l 0 (n (suc l)) (root_less l p) e (inl nn)
              (less_where k n top half most r s (LiveFit fit (places r (suc l) (the p))) fit' N (λ l b i. keep l b i.0) (λ q l i. same q l i.0)
              k_top (W l p) (λ l q i. inl i) (λ x i. inr i) l p (with_live fit room_of most top r l p h.rooted) m));
        },
        less_pairs k n top half most r s fit fit' keep same k_top l p h.rooted m' e,
      )

  -- what a root with one entry gives way to, and its page
  abbrev top_at : ℕ → ℕ → Top
  top_at l p = collapse r (suc l) (root_less (suc l) p)

  abbrev top_page : ℕ → ℕ → ℕ
  top_page l p = n (suc (top_at l p).level)

  -- the root collapses to an old list, which then stands alone on its new page
  pub plain_collapse : ((j : ℕ) → room_of j ≤ most j) → (l p : ℕ) → Proper fit room_of most top r (suc l) p
      → Keeping (suc l) p
      → length (root_less (suc l) p) ≡ 1 → s (top_page l p) (suc (top_at l p).level) ≡ (top_at l p).list
      → fit' (suc (top_at l p).level) (top_page l p) → N (suc (top_at l p).level) (top_page l p)
      → Proper fit' room_of most top s (top_at l p).level (top_page l p) ×
      (under s (suc (top_at l p).level) (the (top_page l p)) ≡ remove k (under r (suc (suc l)) (the p)))
  plain_collapse wide l p h m one e fn nn =
      let t = top_at l p in
      let m' = laid (suc l) (chosen k (r p (suc (suc l)))) m in
      let live = LiveFit fit (places r (suc (suc l)) (the p)) in
      let old = the_top k n top half most r s live fit' (λ l b i. keep l b i.0) (λ q l i. same q l i.0) k_top wide l p
      (with_live fit room_of most top r (suc l) p h.rooted) m' one e in (
        record {
          rooted = collapse_ok k n top half most r s fit fit' keep same k_top wide l p h.rooted m' one e fn;
          tied = retied (suc l) p (suc t.level) (top_page l p) h (page_where s (W (suc l) p) t.level 0 (top_page l p) t.list e (inl nn)
              (old_where k n top half most r s live fit' N (λ l b i. keep l b i.0) (λ q l i. same q l i.0) k_top (W (suc l) p)
              (λ l q i. inl i) (λ x i. inr i) t.level t.list old.rises));
        },
        collapse_pairs k n top half most r s fit fit' keep same k_top wide l p h.rooted m' one e,
      )
