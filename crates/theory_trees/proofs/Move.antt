-- Move: the map stays, R5 stays, and the moved page has no live node left. Assumes nothing.
use Rattle.std.specs.Prelude.{◌≡◌, Bool, ◌⊎◌, length}
use Rattle.std.proofs.Math.Path.{refl}
use Rattle.std.proofs.Common.{sym, subst, ◌∙◌, inr, le-leb, leb-true, leb-false}
use mathlib.Core.List.{List, [], ◌∷◌}
use Rattle.std.proofs.Math.Bool.{true, false}
use Rattle.std.proofs.Math.Logic.{inl}
use Prim.Native.Nat.{ℕ, zero, suc, ◌*◌, ◌<◌, ◌≤◌}
use native.Mathlib.Omega.{arith}
use Rattle.std.proofs.Math.Dec.{leb}
use Rattle.geometry.specs.declared.Entry.{Entry}
use Rattle.geometry.specs.Tests.{pick}
use Rattle.model.specs.Image.{Nodes}
use Rattle.model.specs.Tree.{gather, Place, places, following, chosen}
use Rattle.model.specs.Edit.{splice, renamed}
use Rattle.theory_lists.specs.All.{All, Some, all_append, all_map, all_both}
use Rattle.theory_nodes.specs.Entries.{Rises, gather_all, rises_all, rises_floor}
use Rattle.theory_nodes.specs.Nodes.{Ok, places_fit, places_same, Rooted}
use Rattle.theory_trees.specs.Edit.{splice_some, edit, Made, no_places, edit_list_places}
use Rattle.theory_trees.specs.Move.{MoveHeld, MoveMade, MoveWhere, OnNew, Tie, below, moved, reach}

apart : (y k z : ℕ) → ((y ≤ k) ⊎ (k < z)) → (z ≤ k) × (k < y) → ⊥
apart y k z (inl h) i = omega arith
apart y k z (inr h) i = omega arith

shift : (y y' k z z' : ℕ) → y' ≤ y → z ≤ z' → ((y ≤ k) ⊎ (k < z)) → (y' ≤ k) ⊎ (k < z')
shift y y' k z z' b c (inl h) = inl (omega arith)
shift y y' k z z' b c (inr h) = inr (omega arith)

module _ (p a : ℕ) (half : ℕ → ℕ) (r : Nodes) (fit : ℕ → ℕ → Type 0) (a-pos : 1 ≤ a) where
  abbrev tied : ℕ → ℕ → Type 0
  tied l q = fit l q × Tie r p a l q

  abbrev room_at' : ℕ → ℕ
  room_at' l = 2 * half l

  abbrev key : ℕ
  key = following (r p a) 0

  -- off the path of p's lowest node, p has no live node
  pub off_path_lem : (l y : ℕ) (e : Entry) → e.key < y → Ok tied room_at' r l y e → ((y ≤ key) ⊎ (key < e.key))
      → All (λ x. x.page ≡ p → ⊥) (places r l e)
  unfolding places Ok
  off_path_lem zero y e b h o = tt
  off_path_lem (suc l) y e b h o = (
    (λ i. apart y key e.key o (reach p a half r fit a-pos l y e h i)),
    gather_all (λ x. x.page ≡ p → ⊥) (places r l) (r e.addr (suc l))
        (rises_all (λ y x. Ok tied room_at' r l y x × (e.key ≤ x.key)) (λ x. All (λ x. x.page ≡ p → ⊥) (places r l x)) y (r e.addr (suc l))
        (λ y' x c d i. off_path_lem l y' x c i.0 (shift y y' key e.key x.key d i.1 o))
        (rises_floor (Ok tied room_at' r l) e.key y (r e.addr (suc l)) h.3 h.4)),
  )

-- the places of the moved tree: on n, each but the lowest with an entry that names n; or old ones of other pages than p
module _ (p a n top : ℕ) (half most : ℕ → ℕ) (r s : Nodes) (fit fit' : ℕ → ℕ → Type 0) (a-pos : 1 ≤ a)
    (keep : (l b : ℕ) → fit l b × Tie r p a l b → fit' l b) (same : (q l : ℕ) → fit (suc l) q × Tie r p a (suc l) q
    → s q (suc l) ≡ r q (suc l)) where
  abbrev tie : ℕ → ℕ → Type 0
  tie l q = fit l q × Tie r p a l q

  abbrev first : ℕ
  first = following (r p a) 0

  abbrev room_at'' : ℕ → ℕ
  room_at'' l = 2 * half l

  abbrev moves' : ℕ → Entry → List Entry
  moves' = moved r first a n

  old_where : (l y : ℕ) (e : Entry) → Ok tie room_at'' r l y e → All (λ x. x.page ≡ p → ⊥) (places r l e)
      → All (MoveWhere p a n top half most r s fit fit' a-pos keep same) (places r l e)
  old_where l y e h d = all_map (λ x. (x.page ≡ p → ⊥) × ((1 ≤ x.level) × tie x.level x.page)) (MoveWhere p a n top half most r s fit fit' a-pos keep same) (places r l e)
      (λ x i. inr (i.0, i.1.0, i.1.1.0))
      (all_both (λ x. x.page ≡ p → ⊥) (λ x. (1 ≤ x.level) × tie x.level x.page) (places r l e) d (places_fit tie room_at'' r l y e h))

  -- above level a the moved lists name n
  names_new : (l hi : ℕ) (es : List Entry) → a ≤ l → 0 < length es → first < hi → Rises (Ok tie room_at'' r l) hi es
      → Some (λ e. e.addr ≡ n) (splice (moves' l) first es)
  unfolding edit
  names_new zero hi es b c q h = absurd (omega arith)
  names_new (suc l) hi es b c q h = splice_some (Ok tie room_at'' r (suc l)) (λ e. e.addr ≡ n) (moves' (suc l)) first hi es c q h
      (rw (le-leb a (suc l) b) (inl refl))

  where_new : (l hi : ℕ) (es : List Entry) → a ≤ suc l → 0 < length es → first < hi → Rises (Ok tie room_at'' r l) hi es
      → s n (suc l) ≡ splice (moves' l) first es → (OnNew p a n top half most r s fit fit' a-pos keep same) (record { page = n; level = suc l })
  where_new l hi es b c q h e = (refl, b, (λ d. rw e (names_new l hi es (omega arith) c q h)))

  name_where : (l y : ℕ) (e : Entry) → first < y → e.key < y → Ok tie room_at'' r (suc l) y e → MoveMade r s first a n
      (suc l) e
      → All (MoveWhere p a n top half most r s fit fit' a-pos keep same) (gather (places s l) (splice (moves' l) first (r e.addr (suc l))))
      → All (MoveWhere p a n top half most r s fit fit' a-pos keep same) (gather (places s (suc l))
      (renamed a n (suc l) e (splice (moves' l) first (r e.addr (suc l)))))
  unfolding gather places Ok Made
  name_where l y e q b h m w = go (leb a (suc l)) refl
    where
      c : List Entry
      c = splice (moves' l) first (r e.addr (suc l))

      go : (t : Bool) → leb a (suc l) ≡ t → All (MoveWhere p a n top half most r s fit fit' a-pos keep same)
          (gather (places s (suc l)) (pick t (record { key = e.key; addr = n } ∷ []) (e ∷ [])))
      go true d = let i = leb-true a (suc l) d in (
        inl (where_new l y (r e.addr (suc l)) i h.1 q h.4 (m.0 i)),
        all_append (MoveWhere p a n top half most r s fit fit' a-pos keep same)
            (gather (places s l) (s n (suc l))) [] (rw (m.0 i) w) tt,
      )
      go false d = all_append (MoveWhere p a n top half most r s fit fit' a-pos keep same) (places s (suc l) e) [] (subst (λ x. All (MoveWhere p a n top half most r s fit fit' a-pos keep same) x)
          (sym (places_same tie room_at'' fit' r s keep same (suc l) y e h))
          (old_where (suc l) y e h (below p a half r fit a-pos (suc l) y e (leb-false a (suc l) d) h))) tt

  pub moved_where : (l p₀ : ℕ) → Rooted tie room_at'' most top r l p₀ → (0 < length (r p₀ (suc l)) → first < top)
      → a ≤ suc l
      → MoveMade r s first a n l (chosen first (r p₀ (suc l))) → s n (suc l) ≡ splice (moves' l) first (r p₀ (suc l))
      → All (MoveWhere p a n top half most r s fit fit' a-pos keep same) (places s (suc l) (record { key = 0; addr = n }))
  unfolding places
  moved_where zero p₀ h q b m e = (inl (refl, b, (λ d. absurd (omega arith))), no_places (MoveWhere p a n top half most r s fit fit' a-pos keep same) s (s n 1))
  moved_where (suc l) p₀ h q b m e =
      let es = r p₀ (suc (suc l)) in
      let g = h.least (omega arith) in
      let z = q (omega arith) in (
        inl (where_new (suc l) top es b (omega arith) z h.rises e),
        rw e (edit_list_places tie fit' room_at'' r s keep same first (λ e. e ∷ []) (renamed a n) (MoveHeld a n s) (MoveWhere p a n top half most r s fit fit' a-pos keep same)
            (λ l y e b h o. old_where l y e h (off_path_lem p a half r fit a-pos l y e b h o)) name_where
            (suc l) top es (omega arith) z h.rises m),
      )

  -- the moved page is dead
  pub moved_dead : (l p₀ : ℕ) → (n ≡ p → ⊥) → Rooted tie room_at'' most top r l p₀
      → (0 < length (r p₀ (suc l)) → first < top) → a ≤ suc l
      → MoveMade r s first a n l (chosen first (r p₀ (suc l))) → s n (suc l) ≡ splice (moves' l) first (r p₀ (suc l))
      → All (λ x. x.page ≡ p → ⊥) (places s (suc l) (record { key = 0; addr = n }))
  moved_dead l p₀ d h q b m e = all_map (MoveWhere p a n top half most r s fit fit' a-pos keep same) (λ x. x.page ≡ p → ⊥) (places s (suc l) (record { key = 0; addr = n })) go
      (moved_where l p₀ h q b m e)
    where
      go : (x : Place) → (MoveWhere p a n top half most r s fit fit' a-pos keep same) x → x.page ≡ p → ⊥
      go x (inl i) j = d (sym i.0 ∙ j)
      go x (inr i) j = i.0 j
