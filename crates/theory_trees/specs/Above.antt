-- Insert over any pages: a changed node that stays whole stands on `one`, its halves on `left` and `right`. The map
-- with K put in, and R5 of the new nodes, whether the root stays or grows. The μ-Tree (Insert) and the plain tree
-- (PlainInsert) are instances. Assumes nothing.
use Rattle.std.specs.Prelude.{◌≡◌, Bool, length, take, drop}
use Rattle.std.proofs.Math.Path.{refl, ap}
use Rattle.std.proofs.Common.{sym, ◌∙◌, take-append-drop, length-take, length-drop}
use mathlib.Core.List.{List, [], ◌∷◌, ◌++◌, append-nil}
use Rattle.std.proofs.Math.Bool.{true, false}
use Prim.Native.Nat.{ℕ, zero, suc, ◌+◌, ◌*◌, ◌<◌, ◌≤◌, min}
use native.Mathlib.Omega.{arith}
use Rattle.std.proofs.Math.Dec.{eqb, leb, ltb}
use borrow.Author.Tests.{lt-ltb, le-ltb, ne_eqb, ltb-true, ltb-false, leb-true, leb-false, eqb-false}
use Rattle.geometry.specs.declared.Entry.{Entry}
use Rattle.geometry.specs.Tests.{pick}
use Rattle.model.specs.Image.{Nodes}
use Rattle.model.specs.Tree.{gather, under, following, chosen}
use Rattle.model.specs.Edit.{splice, put, put_in}
use Rattle.model.specs.Plain.{both}
use Rattle.theory_lists.specs.All.{All}
use Rattle.theory_nodes.specs.Entries.{In, Rises, gather_append, gather_one, next_append, rises_left, rises_right, first_below}
use Rattle.theory_nodes.specs.Nodes.{Ok, next_more}
use Rattle.theory_trees.specs.Edit.{Local, splice_op, Out}

put_after : (k a lo : ℕ) (xs ys : List Entry) → All (In lo k) xs → put k a (xs ++ ys) ≡ xs ++ put k a ys
put_after k a lo [] ys h = refl
put_after k a lo (e ∷ xs) ys h = rw (lt-ltb e.key k h.0.1) (ap (λ l. e ∷ l) (put_after k a lo xs ys h.1))

put_before : (k a lo hi : ℕ) (ys zs : List Entry) → k < lo → All (In lo hi) zs → put k a (ys ++ zs) ≡ put k a ys ++ zs
put_before k a lo hi [] [] q h = refl
put_before k a lo hi [] (e ∷ zs) q h = simp (le-ltb e.key k (omega arith), ne_eqb e.key k (λ p. omega (arith, h.0.0)))
put_before k a lo hi (e ∷ ys) zs q h = go (ltb e.key k) (eqb e.key k) (put_before k a lo hi ys zs q h)
  where
    go : (s t : Bool) → put k a (ys ++ zs) ≡ put k a ys ++ zs
        → pick s (e ∷ put k a (ys ++ zs)) (record { key = k; addr = a } ∷ pick t (ys ++ zs) (e ∷ ys ++ zs)) ≡ pick s
        (e ∷ put k a ys)
        (record { key = k; addr = a } ∷ pick t ys (e ∷ ys)) ++ zs
    go true t i = ap (λ l. e ∷ l) i
    go false true i = refl
    go false false i = refl

pub put_local : (k a : ℕ) → Local k (put k a)
put_local k a = record { after = put_after k a; before = put_before k a }

-- a leaf: to put into the list is to put at the chosen entry
pub put_splice : (k a hi : ℕ) (es : List Entry) → 0 < length es → k < hi → Rises (λ y x. Unit {0}) hi es
    → splice (λ e. put k a (e ∷ [])) k es ≡ put k a es
put_splice k a hi es n q h =
    sym (gather_one (splice (λ e. put k a (e ∷ [])) k es))
    ∙ splice_op k (put k a) (put_local k a) (λ y x. Unit {0}) (λ e. e ∷ []) (λ e. e ∷ []) (λ e. put k a (e ∷ [])) (λ y x b i. (omega arith, tt))
    (λ y x i. refl) hi es n q h (λ y _ _ _. gather_one (put k a (chosen k es ∷ [])))
    ∙ ap (put k a) (gather_one es)

pub put_in_lem : (k a hi : ℕ) (es : List Entry) → k < hi → Rises (λ y x. Unit {0}) hi es → put_in k a es ≡ put k a es
unfolding put_in
put_in_lem k a hi [] q h = refl
put_in_lem k a hi (e ∷ es) q h = put_splice k a hi (e ∷ es) (omega arith) q h

first_less : (P : ℕ → Entry → Type 0) (y m : ℕ) (c : List Entry) → 1 ≤ m → m < length c → Rises P y c
    → following c y < following (drop m c) 0
first_less P y zero c q b h = absurd (omega arith)
first_less P y (suc m) [] q b h = absurd (omega arith)
first_less P y (suc zero) (e ∷ []) q b h = absurd (omega arith)
first_less P y (suc zero) (e ∷ g ∷ es) q b h = h.0
first_less P y (suc (suc m)) (e ∷ []) q b h = absurd (omega arith)
first_less P y (suc (suc m)) (e ∷ g ∷ es) q b h = let i =
    first_less P y (suc m) (g ∷ es) (omega arith) (omega arith) h.2 in omega arith

-- what stands above a changed node c at level l
abbrev pub above : ℕ → (ℕ → ℕ) → (ℕ → List Entry → ℕ) → (ℕ → List Entry → ℕ) → (ℕ → ℕ) → ℕ → Entry → List Entry
    → List Entry
above k one left right half l e c = pick (leb (length c) (2 * half l)) (record { key = min e.key k; addr = one l } ∷ [])
    (both (left l c) (right l c) (half l) (min e.key k) c)

-- the halves of c, cut at m, stand on x and y
abbrev pub Both : Nodes → (ℕ → ℕ → Type 0) → ℕ → ℕ → List Entry → ℕ → ℕ → Type 0
Both s fit l m c x y = (s x l ≡ take m c) × (s y l ≡ drop m c) × fit l x × fit l y

-- a changed node stands where it should
abbrev pub AboveHeld : (ℕ → ℕ) → (ℕ → List Entry → ℕ) → (ℕ → List Entry → ℕ) → (ℕ → ℕ) → Nodes → (ℕ → ℕ → Type 0) → ℕ
    → Entry → List Entry → Type 0
AboveHeld one left right half s fit l e c = (length c ≤ 2 * half l → (s (one l) l ≡ c) × fit l (one l)) ×
    (2 * half l < length c → Both s fit l (half l) c (left l c) (right l c))

module _ (s : Nodes) (fit' : ℕ → ℕ → Type 0) where
  -- the pairs under the two halves
  pub both_under : (l m z x y : ℕ) (c : List Entry) → Both s fit' (suc l) m c x y → gather (under s (suc l))
      (both x y m z c) ≡ gather (under s l) c
  unfolding under gather
  both_under l m z x y c h = rw (h.0, h.1, append-nil (gather (under s l) (drop m c))) (sym (gather_append (under s l) (take m c) (drop m c))
      ∙ ap (gather (under s l)) (take-append-drop m c))

  module _ (room : ℕ → ℕ) where
    pub ok_node : (l y z p : ℕ) (es : List Entry) → s p (suc l) ≡ es → fit' (suc l) p → 1 ≤ length es
        → length es ≤ room (suc l) → z ≤ following es y
        → Rises (Ok fit' room s l) y es → Ok fit' room s (suc l) y (record { key = z; addr = p })
    unfolding Ok
    ok_node l y z p es e f g h i j = rw e (f, g, h, i, j)

    pub both_ok : (l y m z u v : ℕ) (c : List Entry) → Both s fit' (suc l) m c u v → z ≤ following c y → 1 ≤ m → m ≤ room (suc l) → m < length c
        → length c ≤ m + room (suc l) → Rises (Ok fit' room s l) y c → Rises (Ok fit' room s (suc l)) y (both u v m z c)
    both_ok l y m z u v c h d m1 m2 c1 c2 up = (
      omega (arith, first_less P y m c m1 c1 up),
      ok_node l (following (drop m c) 0) z u (take m c) h.0 h.2 len.0 len.1 from left,
      (
        first_below P y (drop m c) len.2 right,
        ok_node l y (following (drop m c) 0) v (drop m c) h.1 h.3 len.2 len.3 (rw same_next (omega arith)) right,
        tt,
      ),
    )
      where
        P : ℕ → Entry → Type 0
        P = Ok fit' room s l

        len : (1 ≤ length (take m c)) × (length (take m c) ≤ room (suc l)) × (1 ≤ length (drop m c)) ×
            (length (drop m c) ≤ room (suc l))
        len = omega (arith, length-take m c, length-drop m c)

        whole : Rises P y (take m c ++ drop m c)
        whole = rw (take-append-drop m c) up

        right : Rises P y (drop m c)
        right = rises_right P y (take m c) (drop m c) whole

        same_next : following (drop m c) y ≡ following (drop m c) 0
        same_next = next_more y 0 (drop m c) len.2

        left : Rises P (following (drop m c) 0) (take m c)
        left = rw same_next at (rises_left P y (take m c) (drop m c) whole)

        from : z ≤ following (take m c) (following (drop m c) 0)
        from = let i = ap (λ x. following x y) (take-append-drop m c) in let j = next_append (take m c) (drop m c) y in
            let f =
            ap (following (take m c)) same_next in omega (arith, i, j, f)

module _ (k a : ℕ) (one : ℕ → ℕ) (left right : ℕ → List Entry → ℕ) (half : ℕ → ℕ) (s : Nodes) (fit' : ℕ → ℕ → Type 0)
  where
    abbrev room : ℕ → ℕ
    room l = 2 * half l

    abbrev Held : ℕ → Entry → List Entry → Type 0
    Held = AboveHeld one left right half s fit'

    abbrev aboves : ℕ → Entry → List Entry → List Entry
    aboves = above k one left right half

    pub above_under : (l : ℕ) (e : Entry) (c : List Entry) → Held (suc l) e c → gather (under s (suc l))
        (aboves (suc l) e c) ≡ gather (under s l) c
    unfolding under gather
    above_under l e c h = go (leb (length c) (2 * half (suc l))) refl
      where
        go : (t : Bool) → leb (length c) (2 * half (suc l)) ≡ t
            → gather (under s (suc l))
            (pick t (record { key = min e.key k; addr = one (suc l) } ∷ [])
            (both (left (suc l) c) (right (suc l) c) (half (suc l)) (min e.key k) c)) ≡ gather (under s l) c
        go true b = rw (h.0 (leb-true (length c) (2 * half (suc l)) b)).0 (append-nil (gather (under s l) c))
        go false b = both_under s fit' l (half (suc l)) (min e.key k) (left (suc l) c) (right (suc l) c) c
            (h.1 (leb-false (length c) (2 * half (suc l)) b))

    module _ (fit : ℕ → ℕ → Type 0) (fit-a : fit' 0 a) (keep : (l a : ℕ) → fit l a → fit' l a) where
      pub put_ok : (y : ℕ) (e : Entry) → k < y → e.key < y → fit 0 e.addr → Out (Ok fit' room s 0) (λ z. min z k) 1 2 y e.key (put k a (e ∷ []))
      unfolding Ok
      put_ok y e q b h = go (ltb e.key k) (eqb e.key k) refl refl
        where
          go : (t u : Bool) → ltb e.key k ≡ t → eqb e.key k ≡ u
              → Out (Ok fit' room s 0) (λ z. min z k) 1 2 y e.key
              (pick t (e ∷ record { key = k; addr = a } ∷ []) (record { key = k; addr = a } ∷ pick u [] (e ∷ [])))
          go true u c d = ((ltb-true e.key k c, keep 0 e.addr h, (q, fit-a, tt)), omega arith, omega arith, omega arith)
          go false true c d = ((q, fit-a, tt), omega arith, omega arith, omega arith)
          go false false c d = (
            let f = ltb-false e.key k c in let g = eqb-false e.key k d in
                (omega arith, fit-a, (b, keep 0 e.addr h, tt)),
            omega arith,
            omega arith,
            omega arith,
          )

module _ (k a top : ℕ) (one : ℕ → ℕ) (left right : ℕ → List Entry → ℕ) (half most : ℕ → ℕ) (r s : Nodes) (fit fit' : ℕ
    → ℕ → Type 0)
    (fit-a : fit' 0 a) (keep : (l a : ℕ) → fit l a → fit' l a) (same : (p l : ℕ) → fit (suc l) p → s p (suc l) ≡ r p
    (suc l)) (k_top : k < top) where
  abbrev room_at : ℕ → ℕ
  room_at l = 2 * half l

  -- the list at the root: its pairs are the pairs with k put in; it rises; it has at most one entry more
  pub record Fresh (l : ℕ) (es c : List Entry) : Type 0 where
    pub pairs_are : gather (under s l) c ≡ put k a (gather (under r l) es)
    pub rises : Rises (Ok fit' room_at s l) top c
    pub few : length es ≤ length c
    pub some : 1 ≤ length c
    pub many : length c ≤ suc (length es)
