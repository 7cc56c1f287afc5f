-- A move leaves k alone: the moved tree has the same keys and counts at the same places. Assumes nothing.
use Rattle.std.specs.Prelude.{◌≡◌, Bool, true, false, length, leb}
use Rattle.std.proofs.Math.Path.{refl}
use Rattle.std.proofs.Common.{ap, sym, subst, arith, leb-true}
use mathlib.Core.List.{List, [], ◌∷◌, ◌++◌}
use Prim.Native.Nat.{ℕ, zero, suc, ◌<◌}
use Rattle.geometry.specs.declared.Entry.{Entry}
use Rattle.geometry.specs.Tests.{pick}
use Rattle.model.specs.Image.{Nodes}
use Rattle.model.specs.Tree.{following, entry_of, place, chosen}
use Rattle.model.specs.Edit.{splice, gains, splits}
use Rattle.model.specs.Halving.{place_is, place_keys}
use Rattle.theory_nodes.specs.Entries.{Rises, Split, split}
use Rattle.theory_nodes.specs.Nodes.{Ok}
use Rattle.theory_trees.specs.Edit.{edit, Made}
use Rattle.theory_trees.specs.Move.{moved, MoveMade}

-- two lists, entry by entry
abbrev pub Likes : (Entry → Entry → Type 0) → List Entry → List Entry → Type 0
Likes R [] [] = Unit {0}
Likes R [] (y ∷ ys) = ⊥
Likes R (x ∷ xs) [] = ⊥
Likes R (x ∷ xs) (y ∷ ys) = R x y × Likes R xs ys

-- the same keys and the same pairs at the same places, on pages of their own
unfoldable pub Like : Nodes → Nodes → ℕ → Entry → Entry → Type 0
Like r s zero e e' = e ≡ e'
Like r s (suc l) e e' = (e.key ≡ e'.key) × Likes (Like r s l) (r e.addr (suc l)) (s e'.addr (suc l))

likes_append : (R : Entry → Entry → Type 0) (xs xs' ys ys' : List Entry) → Likes R xs xs' → Likes R ys ys'
    → Likes R (xs ++ ys) (xs' ++ ys')
likes_append R [] [] ys ys' h i = i
likes_append R [] (x' ∷ xs') ys ys' h i = absurd h
likes_append R (x ∷ xs) [] ys ys' h i = absurd h
likes_append R (x ∷ xs) (x' ∷ xs') ys ys' h i = (h.0, likes_append R xs xs' ys ys' h.1 i)

likes_self : (P : ℕ → Entry → Type 0) (R : Entry → Entry → Type 0) (hi : ℕ) (es : List Entry) → Rises P hi es
    → ((y : ℕ) (x : Entry) → P y x → R x x)
    → Likes R es es
likes_self P R hi [] h f = tt
likes_self P R hi (e ∷ es) h f = (f (following es hi) e h.1, likes_self P R hi es h.2 f)

pub like_key : (r s : Nodes) (l : ℕ) (e e' : Entry) → Like r s l e e' → e.key ≡ e'.key
unfolding Like
like_key r s zero e e' h = ap (λ (x : Entry). x.key) h
like_key r s (suc l) e e' h = h.0

pub likes_length : (R : Entry → Entry → Type 0) (xs ys : List Entry) → Likes R xs ys → length xs ≡ length ys
likes_length R [] [] h = refl
likes_length R [] (y ∷ ys) h = absurd h
likes_length R (x ∷ xs) [] h = absurd h
likes_length R (x ∷ xs) (y ∷ ys) h = ap suc (likes_length R xs ys h.1)

likes_keys : (R : Entry → Entry → Type 0) (xs ys : List Entry) → ((x y : Entry) → R x y → x.key ≡ y.key)
    → Likes R xs ys
    → (i : ℕ) → (entry_of xs i).key ≡ (entry_of ys i).key
likes_keys R [] [] f h i = refl
likes_keys R [] (y ∷ ys) f h i = absurd h
likes_keys R (x ∷ xs) [] f h i = absurd h
likes_keys R (x ∷ xs) (y ∷ ys) f h zero = f x y h.0
likes_keys R (x ∷ xs) (y ∷ ys) f h (suc i) = likes_keys R xs ys f h.1 i

likes_at : (R : Entry → Entry → Type 0) (xs ys : List Entry) (i : ℕ) → i < length xs → Likes R xs ys → R (entry_of xs i)
    (entry_of ys i)
likes_at R [] ys i n h = absurd (omega arith)
likes_at R (x ∷ xs) [] i n h = absurd h
likes_at R (x ∷ xs) (y ∷ ys) zero n h = h.0
likes_at R (x ∷ xs) (y ∷ ys) (suc i) n h = likes_at R xs ys i (omega arith) h.1

-- descent goes alike
pub likes_chosen : (R : Entry → Entry → Type 0) (k : ℕ) (xs ys : List Entry) → ((x y : Entry) → R x y → x.key ≡ y.key)
    → 0 < length xs
    → Likes R xs ys → R (chosen k xs) (chosen k ys)
unfolding chosen
likes_chosen R k xs ys f n h = rw (← (place_keys k xs ys (likes_length R xs ys h) (likes_keys R xs ys f h)))
    (likes_at R xs ys (place k xs) (place_is k xs n).inside h)

module _ (fit : ℕ → ℕ → Type 0) (room : ℕ → ℕ) (r s : Nodes) (k : ℕ) (half : ℕ → ℕ) (absent : Bool) where
  pub gains_like : (l hi : ℕ) (e e' : Entry) → Ok fit room r l hi e → k < hi → Like r s l e e'
      → gains r k half absent l e ≡ gains s k half absent l e'
  unfolding gains Like Ok
  gains_like zero hi e e' o q h = refl
  gains_like (suc l) hi e e' o q h =
      let es = r e.addr (suc l) in
      let sp = split (Ok fit room r l) k hi es o.1 q o.4 in
      rw (
        likes_length (Like r s l) es (s e'.addr (suc l)) h.1,
        gains_like l (following sp.post hi) (chosen k es)
            (chosen k (s e'.addr (suc l))) sp.here sp.under (likes_chosen (Like r s l) k es (s e'.addr (suc l)) (like_key r s l) o.1
            h.1),
      ) refl

  pub splits_like : (l hi : ℕ) (e e' : Entry) → Ok fit room r l hi e → k < hi → Like r s l e e'
      → splits r k half absent l e ≡ splits s k half absent l e'
  unfolding splits Like Ok
  splits_like zero hi e e' o q h = refl
  splits_like (suc l) hi e e' o q h =
      let es = r e.addr (suc l) in
      let sp = split (Ok fit room r l) k hi es o.1 q o.4 in
      rw (
        gains_like (suc l) hi e e' o q h,
        splits_like l (following sp.post hi) (chosen k es) (chosen k (s e'.addr (suc l))) sp.here sp.under
            (likes_chosen (Like r s l) k es (s e'.addr (suc l)) (like_key r s l) o.1 h.1),
      ) refl

-- the moved tree is like the old one
module _ (k a n : ℕ) (room : ℕ → ℕ) (r s : Nodes) (fit : ℕ → ℕ → Type 0) (same : (p l : ℕ) → fit (suc l) p
    → s p (suc l) ≡ r p (suc l)) where
  like_same : (l hi : ℕ) (e : Entry) → Ok fit room r l hi e → Like r s l e e
  unfolding Like Ok
  like_same zero hi e h = refl
  like_same (suc l) hi e h = (
    refl,
    rw (same e.addr l h.0) (likes_self (Ok fit room r l) (Like r s l) hi (r e.addr (suc l)) h.4
        (λ y x i. like_same l y x i)),
  )

  abbrev moves : ℕ → Entry → List Entry
  moves = moved r k a n

  list_like : (l hi : ℕ) (es : List Entry) → 0 < length es → k < hi → Rises (Ok fit room r l) hi es
      → ((y : ℕ) → k < y → (chosen k es).key < y → Ok fit room r l y (chosen k es) → Likes (Like r s l)
      (chosen k es ∷ []) (moves l (chosen k es)))
      → Likes (Like r s l) es (splice (moves l) k es)
  list_like l hi es c q h step = go (split (Ok fit room r l) k hi es c q h)
    where
      go : Split (Ok fit room r l) k hi es (chosen k es) (λ f. splice f k es) → Likes (Like r s l) es
          (splice (moves l) k es)
      go sp = subst (λ m. Likes (Like r s l) m (splice (moves l) k es)) (sym sp.whole)
          (subst (λ m. Likes (Like r s l) (sp.pre ++ (chosen k es ∷ sp.post)) m) (sym (sp.spliced (moves l)))
          (likes_append (Like r s l) sp.pre sp.pre (chosen k es ∷ sp.post) (moves l (chosen k es) ++ sp.post)
          (likes_self (Ok fit room r l) (Like r s l) (chosen k es).key sp.pre sp.before (λ y x i. like_same l y x i))
          (likes_append (Like r s l) (chosen k es ∷ []) (moves l (chosen k es)) sp.post sp.post
          (step (following sp.post hi) sp.under sp.up sp.here) (likes_self (Ok fit room r l) (Like r s l) hi sp.post sp.rest
          (λ y x i. like_same l y x i)))))

  pub move_like : (l hi : ℕ) (e : Entry) → k < hi → Ok fit room r l hi e → MoveMade r s k a n l e → Likes (Like r s l)
      (e ∷ []) (moves l e)
  unfolding edit Made Ok Like
  move_like zero hi e q h m = (refl, tt)
  move_like (suc l) hi e q h m = go (leb a (suc l)) refl (list_like l hi (r e.addr (suc l)) h.1 q h.4
      (λ y u v i. move_like l y (chosen k (r e.addr (suc l))) u i m.1))
    where
      c : List Entry
      c = splice (moves l) k (r e.addr (suc l))

      go : (t : Bool) → leb a (suc l) ≡ t → Likes (Like r s l) (r e.addr (suc l)) c
          → Likes (Like r s (suc l)) (e ∷ []) (pick t (record { key = e.key; addr = n } ∷ []) (e ∷ []))
      go true d i = ((refl, rw (m.0 (leb-true a (suc l) d)) i), tt)
      go false d i = (like_same (suc l) hi e h, tt)

  pub move_list_like : (l hi : ℕ) (es : List Entry) → 0 < length es → k < hi → Rises (Ok fit room r l) hi es
      → MoveMade r s k a n l (chosen k es)
      → Likes (Like r s l) es (splice (moves l) k es)
  move_list_like l hi es c q h m = list_like l hi es c q h (λ y u v i. move_like l y (chosen k es) u i m)

  pub move_root_like : (l hi : ℕ) (es : List Entry) → k < hi → Rises (Ok fit room r l) hi es → MoveMade r s k a n l
      (chosen k es)
      → Likes (Like r s l) es (splice (moves l) k es)
  unfolding splice
  move_root_like l hi [] q h m = tt
  move_root_like l hi (e ∷ es) q h m = move_list_like l hi (e ∷ es) (omega arith) q h m

  -- a tree whose pages keep their content is like itself
  pub root_like_same : (l hi : ℕ) (es : List Entry) → Rises (Ok fit room r l) hi es → Likes (Like r s l) es es
  root_like_same l hi es h = likes_self (Ok fit room r l) (Like r s l) hi es h (λ y x i. like_same l y x i)
