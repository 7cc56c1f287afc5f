-- Insert over any pages: a changed node that stays whole stands on `one`, its halves on `left` and `right`. The map
-- with K put in, and R5 of the new nodes, whether the root stays or grows. The μ-Tree (Insert) and the plain tree
-- (PlainInsert) are instances. Assumes nothing.
use Rattle.std.specs.Prelude.{◌≡◌, Bool, length}
use Rattle.std.proofs.Math.Path.{refl, ap}
use Rattle.std.proofs.Common.{sym, ◌∙◌}
use mathlib.Core.List.{List, [], ◌∷◌}
use Rattle.std.proofs.Math.Bool.{true, false}
use Prim.Native.Nat.{ℕ, zero, suc, ◌+◌, ◌*◌, ◌<◌, ◌≤◌, min}
use native.Mathlib.Omega.{arith}
use Rattle.std.proofs.Math.Dec.{leb}
use borrow.Author.Tests.{leb-true, leb-false}
use Rattle.geometry.specs.declared.Entry.{Entry}
use Rattle.geometry.specs.Tests.{pick}
use Rattle.model.specs.Image.{Nodes}
use Rattle.model.specs.Tree.{under, following, chosen}
use Rattle.model.specs.Edit.{splice, put, put_in}
use Rattle.model.specs.Plain.{both}
use Rattle.theory_nodes.specs.Entries.{Rises, gather_one}
use Rattle.theory_nodes.specs.Nodes.{Ok, next_more, the, Rooted}
use Rattle.theory_trees.specs.Edit.{edit, at_root, Made, Out, Changed, edit_list, edit_list_ok}
use Rattle.theory_trees.specs.Above.{AboveHeld, Both, Fresh, above, above_under, both_ok, both_under, ok_node, put_local, put_ok}

module _ (k a : ℕ) (one : ℕ → ℕ) (left right : ℕ → List Entry → ℕ) (half : ℕ → ℕ) (s : Nodes) (fit' : ℕ → ℕ → Type 0)
  where
    abbrev room : ℕ → ℕ
    room l = 2 * half l

    abbrev Held : ℕ → Entry → List Entry → Type 0
    Held = AboveHeld one left right half s fit'

    abbrev aboves : ℕ → Entry → List Entry → List Entry
    aboves = above k one left right half

    module _ (fit : ℕ → ℕ → Type 0) (fit-a : fit' 0 a) (keep : (l a : ℕ) → fit l a → fit' l a) where
      pub above_ok : (l y i : ℕ) (e : Entry) (c : List Entry) → Held (suc l) e c → k < y → e.key < y
          → Rises (Ok fit' room s l) y c → min e.key k ≤ following c y
          → 1 ≤ i → i ≤ room (suc l) → i + 1 ≤ suc (length c) → suc (length c) ≤ i + 2
          → Out (Ok fit' room s (suc l)) (λ z. min z k) 1 2 y e.key (aboves (suc l) e c)
      above_ok l y i e c h q b up from i1 i2 c1 c2 = go (leb (length c) (2 * half (suc l))) refl
        where
          go : (t : Bool) → leb (length c) (2 * half (suc l)) ≡ t
              → Out (Ok fit' room s (suc l)) (λ z. min z k) 1 2 y e.key
              (pick t (record { key = min e.key k; addr = one (suc l) } ∷ [])
              (both (left (suc l) c) (right (suc l) c) (half (suc l)) (min e.key k) c))
          go true d = let w = leb-true (length c) (2 * half (suc l)) d in let u = h.0 w in (
            (omega arith, ok_node s fit' room l y (min e.key k) (one (suc l)) c u.0 u.1 (omega arith) w from up, tt),
            omega arith,
            omega arith,
            omega arith,
          )
          go false d = let w = leb-false (length c) (2 * half (suc l)) d in let u = h.1 w in (
            both_ok s fit' room l y (half (suc l)) (min e.key k) (left (suc l) c) (right (suc l) c) c u from (omega arith) (omega arith)
                (omega arith) (omega arith) up,
            omega arith,
            omega arith,
            omega arith,
          )

module _ (k a top : ℕ) (one : ℕ → ℕ) (left right : ℕ → List Entry → ℕ) (half most : ℕ → ℕ) (r s : Nodes) (fit fit' : ℕ
    → ℕ → Type 0)
    (fit-a : fit' 0 a) (keep : (l a : ℕ) → fit l a → fit' l a) (same : (p l : ℕ) → fit (suc l) p → s p (suc l) ≡ r p
    (suc l)) (k_top : k < top) where
  abbrev room_at : ℕ → ℕ
  room_at l = 2 * half l

  abbrev names : ℕ → Entry → List Entry → List Entry
  names = above k one left right half

  abbrev lays : ℕ → Entry → List Entry
  lays = edit r k (λ e. put k a (e ∷ [])) names

  abbrev Laying : ℕ → Entry → Type 0
  Laying = Made r k (λ e. put k a (e ∷ [])) names (AboveHeld one left right half s fit')

  pub ins_list_ok : (l hi : ℕ) (es : List Entry) → 0 < length es → k < hi → Rises (Ok fit room_at r l) hi es
      → Laying l (chosen k es)
      → Changed (Ok fit' room_at s l) (λ z. min z k) 1 2 hi (following es hi) (length es) (splice (lays l) k es)
  ins_list_ok = edit_list_ok fit fit' room_at r s keep same k (λ e. put k a (e ∷ [])) names (AboveHeld one left right half s fit')
      (λ z. min z k) 1 2 (λ z. omega arith) (λ z i. omega arith) (λ y z i. omega arith) (put_ok k a one left right half s fit' fit fit-a keep)
      (λ l y i e c _. above_ok k a one left right half s fit' fit fit-a keep l y i e c)

  fresh_some : (l : ℕ) (es : List Entry) → 0 < length es → Rises (Ok fit room_at r l) top es → Laying l (chosen k es)
      → (Fresh k a top one left right half most r s fit fit' fit-a keep same k_top) l es (splice (lays l) k es)
  fresh_some l es e h m =
      let p = edit_list fit fit' room_at r s keep same k (λ e. put k a (e ∷ [])) names (AboveHeld one left right half s fit') (put k a)
      (put_local k a) (λ e. refl) (λ l hi e c _ h i. above_under k a one left right half s fit' l e c h
      ∙ i) l top es e k_top h m in
      let o = ins_list_ok l top es e k_top h m in
      record { pairs_are = p; rises = o.up; few = omega (arith, o.few); some = omega (arith, o.few); many = omega (arith, o.many) }

  pub fresh : (l : ℕ) (es : List Entry) → (1 ≤ l → 2 ≤ length es) → Rises (Ok fit room_at r l) top es
      → Laying l (chosen k es)
      → (Fresh k a top one left right half most r s fit fit' fit-a keep same k_top) l es (at_root (put_in k a) (lays l) k l es)
  unfolding at_root edit under Ok put_in
  fresh zero [] g h m = record {
    pairs_are = gather_one (put k a []) ∙ ap (put k a) (sym (gather_one []));
    rises = (k_top, fit-a, tt);
    few =
        omega arith;
    some = omega arith;
    many = omega arith;
  }
  fresh zero (e ∷ es) g h m = fresh_some zero (e ∷ es) (omega arith) h m
  fresh (suc l) es g h m = fresh_some (suc l) es (omega (arith, g (omega arith))) h m

  abbrev root_list : ℕ → ℕ → List Entry
  root_list l p = at_root (put_in k a) (lays l) k l (r p (suc l))

  -- the root does not grow: it stands on n
  pub stay_pairs : (l p n : ℕ) → Rooted fit room_at most top r l p → Laying l (chosen k (r p (suc l)))
      → s n (suc l) ≡ root_list l p
      → under s (suc l) (the n) ≡ put k a (under r (suc l) (the p))
  unfolding under
  stay_pairs l p n h m e = rw e (fresh l (r p (suc l)) h.least h.rises m).pairs_are

  pub stay_ok : (l p n : ℕ) → fit' (suc l) n → Rooted fit room_at most top r l p → Laying l (chosen k (r p (suc l)))
      → s n (suc l) ≡ root_list l p
      → length (root_list l p) ≤ most (suc l)
      → Rooted fit' room_at most top s l n
  stay_ok l p n fn h m e b =
      let f = fresh l (r p (suc l)) h.least h.rises m in
      record { fits = fn; least = λ z. rw e (omega (arith, f.few, h.least z)); atmost = rw e b; rises = rw e f.rises }

  -- the root grows: its halves, cut at m, stand on x and y, the new root on n
  module _ (l p n x y m : ℕ) (h : Rooted fit room_at most top r l p) (d : Laying l (chosen k (r p (suc l))))
      (halves : Both s fit' (suc l) m (root_list l p) x y) (crown : s n (suc (suc l)) ≡ both x y m
      (following (root_list l p) 0) (root_list l p)) where
    pub grow_pairs : under s (suc (suc l)) (the n) ≡ put k a (under r (suc l) (the p))
    unfolding under
    grow_pairs = rw crown (both_under s fit' l m (following (root_list l p) 0) x y (root_list l p) halves
        ∙ (fresh l (r p (suc l)) h.least h.rises d).pairs_are)

    pub grow_ok : fit' (suc (suc l)) n → 1 ≤ m → m ≤ 2 * half (suc l) → m < length (root_list l p)
        → length (root_list l p) ≤ m + 2 * half (suc l) → 2 ≤ most (suc (suc l)) → Rooted fit' room_at most top s
        (suc l) n
    grow_ok fn m1 m2 c1 c2 w =
        let f = fresh l (r p (suc l)) h.least h.rises d in
        record {
          fits = fn;
          least = λ z. rw crown (omega arith);
          atmost = rw crown w;
          rises = rw crown (both_ok s fit' room_at l top m (following (root_list l p) 0) x y (root_list l p) halves
              (rw (next_more 0 top (root_list l p) f.some) (omega arith)) m1 m2 c1 c2 f.rises);
        }
