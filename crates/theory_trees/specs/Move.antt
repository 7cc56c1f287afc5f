-- Move: the map stays, R5 stays, and the moved page has no live node left. Assumes nothing.
use Rattle.std.specs.Prelude.{◌≡◌, Bool, ◌⊎◌, length}
use Rattle.std.proofs.Math.Path.{refl}
use Rattle.std.proofs.Common.{◌∙◌, inr, leb-true}
use mathlib.Core.List.{List, [], ◌∷◌, append-nil}
use Rattle.std.proofs.Math.Bool.{true, false}
use Rattle.std.proofs.Math.Logic.{inl}
use Prim.Native.Nat.{ℕ, zero, suc, ◌+◌, ◌*◌, ◌<◌, ◌≤◌}
use native.Mathlib.Omega.{arith}
use Rattle.std.proofs.Math.Dec.{leb}
use Rattle.geometry.specs.declared.Entry.{Entry}
use Rattle.geometry.specs.Tests.{pick}
use Rattle.model.specs.Image.{Nodes}
use Rattle.model.specs.Tree.{gather, under, Place, places, following, chosen}
use Rattle.model.specs.Edit.{splice, renamed}
use Rattle.theory_counts.specs.Cases.{by_le}
use Rattle.theory_lists.specs.All.{All, Some}
use Rattle.theory_nodes.specs.Entries.{Rises, gather_eq, gather_all, next_le, rises_all}
use Rattle.theory_nodes.specs.Nodes.{Ok, next_more, ok_same, under_same, the, Rooted}
use Rattle.theory_trees.specs.Edit.{Local, edit, Made, Out, edit_list, edit_list_ok}
use Rattle.theory_nodes.specs.Entries.{first_below}

same_local : (k : ℕ) → Local k (λ x. x)
same_local k = record { after = λ lo xs ys h. refl; before = λ lo hi ys zs q h. refl }

abbrev pub moved : Nodes → ℕ → ℕ → ℕ → ℕ → Entry → List Entry
moved r k a n l e = edit r k (λ e. e ∷ []) (renamed a n) l e

abbrev pub MoveHeld : ℕ → ℕ → Nodes → ℕ → Entry → List Entry → Type 0
MoveHeld a n s l e c = a ≤ l → s n l ≡ c

abbrev pub MoveMade : Nodes → Nodes → ℕ → ℕ → ℕ → ℕ → Entry → Type 0
MoveMade r s k a n l e = Made r k (λ e. e ∷ []) (renamed a n) (MoveHeld a n s) l e

module _ (k a n top : ℕ) (half most : ℕ → ℕ) (r s : Nodes) (fit fit' : ℕ → ℕ → Type 0)
    (fit_n : (l : ℕ) → fit' (suc l) n)
    (keep : (l a : ℕ) → fit l a → fit' l a) (same : (p l : ℕ) → fit (suc l) p → s p (suc l) ≡ r p (suc l)) where
  abbrev room_at : ℕ → ℕ
  room_at l = 2 * half l

  abbrev moves : ℕ → Entry → List Entry
  moves = moved r k a n

  abbrev Making : ℕ → Entry → Type 0
  Making = MoveMade r s k a n

  pub renamed_under : (l hi : ℕ) (e : Entry) (c : List Entry) → Ok fit room_at r (suc l) hi e
      → MoveHeld a n s (suc l) e c
      → gather (under s l) c ≡ under r (suc l) e → gather (under s (suc l)) (renamed a n (suc l) e c) ≡ under r
      (suc l) e
  unfolding under gather
  renamed_under l hi e c o h i = go (leb a (suc l)) refl
    where
      go : (t : Bool) → leb a (suc l) ≡ t → gather (under s (suc l))
          (pick t (record { key = e.key; addr = n } ∷ []) (e ∷ [])) ≡ under r (suc l) e
      go true b = rw (h (leb-true a (suc l) b)) (append-nil (gather (under s l) c) ∙ i)
      go false b = append-nil (under s (suc l) e) ∙ under_same fit room_at fit' r s keep same (suc l) hi e o

  pub renamed_ok : (l y i : ℕ) (e : Entry) (c : List Entry) → Ok fit room_at r (suc l) y e → MoveHeld a n s (suc l) e c
      → k < y → e.key < y
      → Rises (Ok fit' room_at s l) y c → e.key ≤ following c y
      → 1 ≤ i → i ≤ room_at (suc l) → i + 1 ≤ suc (length c) → suc (length c) ≤ i + 1
      → Out (Ok fit' room_at s (suc l)) (λ z. z) 1 1 y e.key (renamed a n (suc l) e c)
  unfolding Ok
  renamed_ok l y i e c o h q b up from i1 i2 c1 c2 = go (leb a (suc l)) refl
    where
      go : (t : Bool) → leb a (suc l) ≡ t
          → Out (Ok fit' room_at s (suc l)) (λ z. z) 1 1 y e.key
          (pick t (record { key = e.key; addr = n } ∷ []) (e ∷ []))
      go true d = ((b, rw (h (leb-true a (suc l) d)) (fit_n l, omega arith, omega arith, from, up), tt), omega arith, omega arith, omega arith)
      go false d = ((b, ok_same fit room_at fit' r s keep same (suc l) y e o, tt), omega arith, omega arith, omega arith)

  pub self_ok : (y : ℕ) (e : Entry) → k < y → e.key < y → fit 0 e.addr → Out (Ok fit' room_at s 0) (λ z. z) 1 1 y
      e.key (e ∷ [])
  unfolding Ok
  self_ok y e q b h = ((b, keep 0 e.addr h, tt), omega arith, omega arith, omega arith)

  pub record Carried (l : ℕ) (es c : List Entry) : Type 0 where
    pub pairs_are : gather (under s l) c ≡ gather (under r l) es
    pub rises : Rises (Ok fit' room_at s l) top c
    pub many : length c ≡ length es

  pub carried : (l : ℕ) (es : List Entry) → (0 < length es → k < top) → Rises (Ok fit room_at r l) top es
      → Making l (chosen k es)
      → Carried l es (splice (moves l) k es)
  unfolding splice
  carried l [] q h m = record { pairs_are = go; rises = tt; many = refl }
    where
      go : gather (under s l) [] ≡ gather (under r l) []
      go = gather_eq (under r l) (under s l) [] tt
  carried l (e ∷ es) q h m =
      let z = q (omega arith) in
      let p = edit_list fit fit' room_at r s keep same k (λ e. e ∷ []) (renamed a n) (MoveHeld a n s) (λ x. x) (same_local k)
      (λ e. refl) renamed_under l top (e ∷ es) (omega arith) z h m in
      let o = edit_list_ok fit fit' room_at r s keep same k (λ e. e ∷ []) (renamed a n) (MoveHeld a n s) (λ z. z) 1 1 (λ z. omega arith)
      (λ z i. omega arith) (λ y z i. omega arith) self_ok renamed_ok l top (e ∷ es) (omega arith) z h m in
      record { pairs_are = p; rises = o.up; many = omega (arith, o.few, o.many) }

  abbrev pub root_moved : ℕ → ℕ → List Entry
  root_moved l p = splice (moves l) k (r p (suc l))

  pub move_pairs : (l p : ℕ) → Rooted fit room_at most top r l p → (0 < length (r p (suc l)) → k < top)
      → Making l (chosen k (r p (suc l)))
      → s n (suc l) ≡ root_moved l p
      → under s (suc l) (the n) ≡ under r (suc l) (the p)
  unfolding under
  move_pairs l p h q m e = rw e (carried l (r p (suc l)) q h.rises m).pairs_are

  pub move_ok : (l p : ℕ) → Rooted fit room_at most top r l p → (0 < length (r p (suc l)) → k < top)
      → Making l (chosen k (r p (suc l)))
      → s n (suc l) ≡ root_moved l p
      → Rooted fit' room_at most top s l n
  move_ok l p h q m e =
      let f = carried l (r p (suc l)) q h.rises m in
      record {
        fits = fit_n l;
        least = λ z. rw e (omega (arith, f.many, h.least z));
        atmost = rw e (omega (arith, f.many, h.atmost));
        rises = rw e
            f.rises;
      }

-- R6 at one page p whose lowest live level is a
abbrev pub Tie : Nodes → ℕ → ℕ → ℕ → ℕ → Type 0
Tie r p a zero q = Unit {0}
Tie r p a (suc l) q = q ≡ p → (a ≤ suc l) × (a < suc l → Some (λ e. e.addr ≡ p) (r p (suc l)))

module _ (p a : ℕ) (half : ℕ → ℕ) (r : Nodes) (fit : ℕ → ℕ → Type 0) (a-pos : 1 ≤ a) where
  abbrev tied : ℕ → ℕ → Type 0
  tied l q = fit l q × Tie r p a l q

  abbrev room_at' : ℕ → ℕ
  room_at' l = 2 * half l

  abbrev key : ℕ
  key = following (r p a) 0

  -- an entry that names p, below p's lowest live level's parent: the first key of p's lowest node is in its range
  named_range : (P : ℕ → Entry → Type 0) (k lo hi : ℕ) (es : List Entry) → lo ≤ following es hi → Rises P hi es
      → Some (λ e. e.addr ≡ p) es
      → ((y : ℕ) (x : Entry) → P y x → x.addr ≡ p → (x.key ≤ k) × (k < y)) → (lo ≤ k) × (k < hi)
  named_range P k lo hi [] q h z step = absurd z
  named_range P k lo hi (e ∷ es) q h (inl z) step = omega (arith, step (following es hi) e h.1 z, next_le P hi es h.2)
  named_range P k lo hi (e ∷ es) q h (inr z) step = named_range P k lo hi es (omega arith) h.2 z step

  at_lowest : (l y : ℕ) (e : Entry) → Ok tied room_at' r (suc l) y e → e.addr ≡ p → a ≡ suc l → (e.key ≤ key) ×
      (key < y)
  unfolding Ok
  at_lowest l y e h i j =
      let es = r e.addr (suc l) in
      let w : following (r p a) 0 ≡ following es 0 = rw (i, j) in
      let b = first_below (Ok tied room_at' r l) y es h.1 h.4 in
      let c = next_more y 0 es h.1 in
      omega (arith, w, b, c, h.3)

  pub reach : (l y : ℕ) (e : Entry) → Ok tied room_at' r (suc l) y e → e.addr ≡ p → (e.key ≤ key) × (key < y)
  unfolding Ok
  reach zero y e h i = let z = h.0.1 i in at_lowest zero y e h i (omega (arith, z.0))
  reach (suc l) y e h i =
      let z = h.0.1 i in
      by_le (suc (suc l)) a (λ g. at_lowest (suc l) y e h i (omega (arith, z.0)))
      (λ g. named_range (Ok tied room_at' r (suc l)) key e.key y (r e.addr (suc (suc l))) h.3 h.4
      (rw i (z.1 (omega (arith, g)))) (λ y x. reach l y x))

  -- nor has it one below its lowest level
  pub below : (l y : ℕ) (e : Entry) → l < a → Ok tied room_at' r l y e → All (λ x. x.page ≡ p → ⊥) (places r l e)
  unfolding places Ok
  below zero y e b h = tt
  below (suc l) y e b h = (
    (λ i. omega (arith, (h.0.1 i).0)),
    gather_all (λ x. x.page ≡ p → ⊥) (places r l) (r e.addr (suc l))
        (rises_all (Ok tied room_at' r l) (λ x. All (λ x. x.page ≡ p → ⊥) (places r l x)) y (r e.addr (suc l))
        (λ y x _ _ i. below l y x (omega arith) i)
        h.4),
  )

-- the places of the moved tree: on n, each but the lowest with an entry that names n; or old ones of other pages than p
module _ (p a n top : ℕ) (half most : ℕ → ℕ) (r s : Nodes) (fit fit' : ℕ → ℕ → Type 0) (a-pos : 1 ≤ a)
    (keep : (l b : ℕ) → fit l b × Tie r p a l b → fit' l b) (same : (q l : ℕ) → fit (suc l) q × Tie r p a (suc l) q
    → s q (suc l) ≡ r q (suc l)) where
  abbrev pub OnNew : Place → Type 0
  OnNew x = (x.page ≡ n) × (a ≤ x.level) × (a < x.level → Some (λ e. e.addr ≡ n) (s n x.level))

  abbrev pub Off : Place → Type 0
  Off x = (x.page ≡ p → ⊥) × (1 ≤ x.level) × fit x.level x.page

  abbrev pub MoveWhere : Place → Type 0
  MoveWhere x = OnNew x ⊎ Off x
