-- With insertions only every node below the root is at least half full, and each split adds one node: how many nodes
-- there are. Assumes nothing.
use Rattle.std.specs.Prelude.{◌≡◌, Bool, true, false, ◌⊎◌, leb}
use Rattle.std.proofs.Math.Path.{refl, ap}
use Rattle.std.proofs.Common.{leb-false}
use mathlib.Core.List.{List, [], ◌∷◌}
use Prim.Native.Nat.{ℕ, zero, suc, ◌*◌, ◌<◌, ◌≤◌, min}
use native.Mathlib.Omega.{arith}
use Rattle.std.proofs.Math.ListN.{length}
use Rattle.geometry.specs.declared.Entry.{Entry}
use Rattle.geometry.specs.Tests.{pick}
use Rattle.model.specs.Image.{Nodes}
use Rattle.model.specs.Tree.{gather, places, chosen}
use Rattle.model.specs.Edit.{splice, put, put_in, path_half, two, named}
use Rattle.theory_lists.specs.All.{All, all_append, all_map}
use Rattle.theory_nodes.specs.Entries.{Rises, all_gather, rises_map, rises_both}
use Rattle.theory_nodes.specs.Nodes.{Ok, ok_with, places_fit, node_same}
use Rattle.theory_trees.specs.Edit.{at_root, Made, no_places, page_where, edit_list_places}
use Rattle.theory_trees.specs.Insert.{Halves, InsertHeld, inserted, InsertMade}
use Rattle.theory_trees.proofs.Insert.{ins_list_ok}
use Rattle.theory_trees.specs.InsertPages.{two_where}
use Rattle.theory_trees.specs.Fill.{Filled, halves_filled}

rises_with : (fit : ℕ → ℕ → Type 0) (room : ℕ → ℕ) (Z : ℕ → ℕ → Type 0) (r : Nodes) (l hi : ℕ) (es : List Entry)
    → ((a : ℕ) → Z 0 a)
    → All (λ x. Z x.level x.page) (gather (places r l) es) → Rises (Ok fit room r l) hi es
    → Rises (Ok (λ l a. fit l a × Z l a) room r l) hi es
rises_with fit room Z r l hi es z a h = rises_map (λ y x. Ok fit room r l y x × All (λ p. Z p.level p.page) (places r l x))
    (Ok (λ l a. fit l a × Z l a) room r l) hi es (λ y x _ _ i. ok_with fit room Z r l y x z i.1 i.0)
    (rises_both (Ok fit room r l) (λ x. All (λ p. Z p.level p.page) (places r l x)) hi es h
    (all_gather (λ p. Z p.level p.page) (places r l) es a))

module _ (k a n top : ℕ) (side half most : ℕ → ℕ) (r s : Nodes) (fit fit' : ℕ → ℕ → Type 0) (Cut : ℕ → Type 0)
    (fit_n : (l : ℕ) → fit' (suc l) n)
    (fit-a : fit' 0 a)
    (keep : (l a : ℕ) → fit l a → fit' l a) (same : (p l : ℕ) → fit (suc l) p → s p (suc l) ≡ r p (suc l))
    (k_top : k < top) where
  abbrev room_at : ℕ → ℕ
  room_at l = 2 * half l

  abbrev inserts : ℕ → Entry → List Entry
  inserts = inserted r k a n side half

  abbrev Half : ℕ → ℕ → Type 0
  Half l q = 1 ≤ l → half l ≤ length (r q l)

  abbrev fit_h : ℕ → ℕ → Type 0
  fit_h l q = fit l q × Half l q

  abbrev keep_h : (l q : ℕ) → fit_h l q → fit' l q
  keep_h l q i = keep l q i.0

  abbrev same_h : (q l : ℕ) → fit_h (suc l) q → s q (suc l) ≡ r q (suc l)
  same_h q l i = same q l i.0

  off_filled : (l y : ℕ) (e : Entry) → e.key < y → Ok fit_h room_at r l y e → ((y ≤ k) ⊎ (k < e.key))
      → All (Filled half s) (places r l e)
  off_filled l y e b h o = all_map (λ x. (1 ≤ x.level) × fit_h x.level x.page) (Filled half s) (places r l e)
      (λ x i. let z = ap length (node_same fit r s same x.page x.level i.0 i.1.0) in let w =
      i.1.1 i.0 in omega (arith, z, w))
      (places_fit fit_h room_at r l y e h)

  named_filled : (l y : ℕ) (e : Entry) → k < y → e.key < y → Ok fit_h room_at r (suc l) y e
      → InsertMade r s k a n side half fit' Cut (suc l) e
      → All (Filled half s) (gather (places s l) (splice (inserts l) k (r e.addr (suc l))))
      → All (Filled half s) (gather (places s (suc l))
      (named k n side half (suc l) e (splice (inserts l) k (r e.addr (suc l)))))
  unfolding gather Ok Made
  named_filled l y e q b h m w = go (leb (length c) (2 * half (suc l))) refl m.0.0
    where
      c : List Entry
      c = splice (inserts l) k (r e.addr (suc l))

      wide : half (suc l) ≤ length c
      wide = let z = (ins_list_ok k a n top side half most r s fit_h fit' Cut fit_n fit-a keep_h same_h k_top l y (r e.addr (suc l)) h.1 q h.4
          m.1).few in let v = h.0.1 (omega arith) in omega (arith, z, v)

      go : (t : Bool) → leb (length c) (2 * half (suc l)) ≡ t → s n (suc l) ≡ pick t c (path_half k (half (suc l)) c)
          → All (Filled half s)
          (gather (places s (suc l)) (pick t (record { key = min e.key k; addr = n } ∷ [])
          (two k n (side (suc l)) (half (suc l)) (min e.key k) c)))
      go true d i = all_append (Filled half s) (places s (suc l) (record { key = min e.key k; addr = n })) []
          (page_where s (Filled half s) l (min e.key k) n c i (let z = ap length i in omega (arith, z, wide)) w) tt
      go false d i =
          let u = m.0.1 (leb-false (length c) (2 * half (suc l)) d) in
          let z = halves_filled k (half (suc l)) (half (suc l)) c (omega arith) (omega (arith, leb-false (length c) (2 * half (suc l)) d)) in
          let x = ap length i in
          let v = ap length u.0 in
          two_where k a n top side half most r s fit fit' Cut fit_n fit-a keep same k_top (Filled half s) l (half (suc l)) (min e.key k) c
          (i, u.0, u.1) (omega (arith, x, z)) (omega (arith, v, z)) w

  -- below the root's list
  pub root_filled : (l : ℕ) (es : List Entry) → (1 ≤ l → 0 < length es) → Rises (Ok fit room_at r l) top es
      → All (Filled half r) (gather (places r l) es) → InsertMade r s k a n side half fit' Cut l (chosen k es)
      → All (Filled half s) (gather (places s l) (at_root (put_in k a) (inserts l) k l es))
  unfolding at_root
  root_filled zero es c h f m = no_places (Filled half s) s (put_in k a es)
  root_filled (suc l) es c h f m = edit_list_places fit_h fit' room_at r s keep_h same_h k (λ e. put k a (e ∷ [])) (named k n side half)
      (InsertHeld k n side half s fit' Cut) (Filled half s) off_filled named_filled (suc l) top es (c (omega arith)) k_top
      (rises_with fit room_at Half r (suc l) top es (λ q z. absurd (omega arith))
      (all_map (Filled half r) (λ x. Half x.level x.page) (gather (places r (suc l)) es) (λ x i _. i) f) h) m

  -- a root that grows: both halves are filled
  pub grown_filled : (l : ℕ) (c : List Entry) → Halves k n side s fit' (suc l) (2 * half (suc l)) c
      → length c ≡ 4 * half (suc l) → (z : ℕ)
      → All (Filled half s) (gather (places s l) c) → All (Filled half s)
      (gather (places s (suc l)) (two k n (side (suc l)) (2 * half (suc l)) z c))
  grown_filled l c hs len z w =
      let v = halves_filled k (2 * half (suc l)) (half (suc l)) c (omega arith) (omega (arith, len)) in
      let x = ap length hs.0 in
      let y = ap length hs.1 in
      two_where k a n top side half most r s fit fit' Cut fit_n fit-a keep same k_top (Filled half s) l (2 * half (suc l)) z c hs
      (omega (arith, x, v)) (omega (arith, y, v)) w
