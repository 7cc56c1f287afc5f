-- Lookup: descent finds what the map has. Assumes nothing.
use Rattle.std.specs.Prelude.{◌≡◌, Bool, true, false, length, eqb, None, Some}
use Rattle.std.proofs.Math.Path.{refl, ap, sym}
use Rattle.std.proofs.Common.{◌∙◌, arith, ne_eqb}
use mathlib.Core.List.{List, [], ◌∷◌, ◌++◌}
use Prim.Native.Nat.{ℕ, zero, suc, ◌<◌, ◌≤◌}
use Rattle.geometry.specs.declared.Entry.{Entry}
use Rattle.geometry.specs.Tests.{pick}
use Rattle.model.specs.Image.{Nodes}
use Rattle.model.specs.Tree.{gather, under, following, chosen, leaf, find, find_in}
use Rattle.model.specs.Edit.{splice}
use Rattle.theory_lists.specs.All.{All}
use Rattle.theory_nodes.specs.Entries.{In, Rises, gather_append, gather_one, rises_append, next_le, rises_more, Split, split}
use Rattle.theory_nodes.specs.Nodes.{Ok, under_in, the, Rooted}
use Rattle.theory_nodes.specs.Entries.{rises_in, pre_in}

find_after : (k lo : ℕ) (xs ys : List Entry) → All (In lo k) xs → find k (xs ++ ys) ≡ find k ys
unfolding find
find_after k lo [] ys h = refl
find_after k lo (e ∷ xs) ys h = rw (ne_eqb e.key k (λ p. omega (arith, h.0.1))) (find_after k lo xs ys h.1)

find_none : (k lo hi : ℕ) (zs : List Entry) → k < lo → All (In lo hi) zs → find k zs ≡ None
unfolding find
find_none k lo hi [] q h = refl
find_none k lo hi (e ∷ zs) q h = rw (ne_eqb e.key k (λ p. omega (arith, h.0.0))) (find_none k lo hi zs q h.1)

find_before : (k lo hi : ℕ) (ys zs : List Entry) → k < lo → All (In lo hi) zs → find k (ys ++ zs) ≡ find k ys
unfolding find
find_before k lo hi [] zs q h = find_none k lo hi zs q h
find_before k lo hi (e ∷ ys) zs q h = go (eqb e.key k) (find_before k lo hi ys zs q h)
  where
    go : (t : Bool) → find k (ys ++ zs) ≡ find k ys → pick t (Some e.addr) (find k (ys ++ zs)) ≡ pick t
        (Some e.addr) (find k ys)
    go true i = refl
    go false i = i

module _ (fit : ℕ → ℕ → Type 0) (room : ℕ → ℕ) (r : Nodes) (k : ℕ) where
  keeps : (l y : ℕ) (x : Entry) → x.key < y → Ok fit room r l y x → All (In x.key y) (under r l x)
  keeps l y x q i = under_in fit room r l y x q i

  pub find_list : (l hi : ℕ) (es : List Entry) → 0 < length es → k < hi → Rises (Ok fit room r l) hi es
      → find k (gather (under r l) es) ≡ find k (under r l (chosen k es))
  unfolding gather
  find_list l hi es n q h = go (split (Ok fit room r l) k hi es n q h)
    where
      go : Split (Ok fit room r l) k hi es (chosen k es) (λ f. splice f k es) → find k (gather (under r l) es) ≡ find k
          (under r l (chosen k es))
      go s =
          let x = chosen k es in
          ap (λ m. find k (gather (under r l) m)) s.whole
          ∙ ap (find k) (gather_append (under r l) s.pre (x ∷ s.post))
          ∙ find_after k 0 (gather (under r l) s.pre) (under r l x ++ gather (under r l) s.post)
          (pre_in k (Ok fit room r l) (under r l) (keeps l) x.key s.pre s.upto s.before)
          ∙ find_before k (following s.post hi) hi (under r l x) (gather (under r l) s.post) s.under
          (rises_in k (Ok fit room r l) (under r l) (keeps l) (following s.post hi) hi s.post (omega arith) s.rest)

  -- joined lists that rise each in its range
  gather_rises : (l hi : ℕ) (es : List Entry) → Rises (Ok fit room r l) hi es
      → ((y : ℕ) (x : Entry) → x.key < y → Ok fit room r l y x → Rises (λ y x. Unit {0}) y (under r l x))
      → Rises (λ y x. Unit {0}) hi (gather (under r l) es)
  unfolding gather
  gather_rises l hi [] h step = tt
  gather_rises l hi (e ∷ es) h step =
      let a = rises_in k (Ok fit room r l) (under r l) (keeps l) (following es hi) hi es (omega arith) h.2 in
      rises_append (λ y x. Unit {0}) hi (under r l e) (gather (under r l) es)
      (raise (following es hi) (under r l e) (gather (under r l) es) (next_le (Ok fit room r l) hi es h.2) a (step (following es hi) e h.0 h.1))
      (gather_rises l hi es h.2 step)
    where
      first : (y : ℕ) (zs : List Entry) → y ≤ hi → All (In y hi) zs → y ≤ following zs hi
      first y [] b i = b
      first y (z ∷ zs) b i = i.0.0

      raise : (y : ℕ) (xs zs : List Entry) → y ≤ hi → All (In y hi) zs → Rises (λ y x. Unit {0}) y xs
          → Rises (λ y x. Unit {0}) (following zs hi) xs
      raise y xs zs b i j = rises_more (λ y x. Unit {0}) (λ y x. Unit {0}) y (following zs hi) xs (first y zs b i) (λ y y' x _ _ _. tt) j

  -- a leaf has under k what its list has
  pub find_in_lem : (hi : ℕ) (es : List Entry) → k < hi → Rises (Ok fit room r 0) hi es → find_in k es ≡ find k es
  unfolding find_in find under
  find_in_lem hi [] q h = refl
  find_in_lem hi (e ∷ es) q h = sym (ap (find k) (sym (gather_one (e ∷ es))) ∙ find_list 0 hi (e ∷ es) (omega arith) q h)

  -- descent from an entry finds what the pairs under it have
  pub find_leaf : (l hi : ℕ) (e : Entry) → k < hi → Ok fit room r (suc l) hi e → find k (under r (suc l) e) ≡ find_in k
      (leaf r k l e)
  unfolding under leaf Ok
  find_leaf zero hi e q h = ap (find k) (gather_one (r e.addr 1)) ∙ sym (find_in_lem hi (r e.addr 1) q h.4)
  find_leaf (suc l) hi e q h =
      let es = r e.addr (suc (suc l)) in
      let s = split (Ok fit room r (suc l)) k hi es h.1 q h.4 in
      find_list (suc l) hi es h.1 q h.4 ∙ find_leaf l (following s.post hi) (chosen k es) s.under s.here

  -- lookup answers as the map does
  pub find_root : (most : ℕ → ℕ) (top l p : ℕ) → k < top → Rooted fit room most top r l p
      → find_in k (leaf r k l (the p)) ≡ find k (under r (suc l) (the p))
  unfolding under leaf
  find_root most top zero p q h = find_in_lem top (r p 1) q h.rises ∙ ap (find k) (sym (gather_one (r p 1)))
  find_root most top (suc l) p q h =
      let es = r p (suc (suc l)) in
      let g = h.least (omega arith) in
      let s = split (Ok fit room r (suc l)) k top es (omega arith) q h.rises in
      sym (find_list (suc l) top es (omega arith) q h.rises
      ∙ find_leaf l (following s.post top) (chosen k es) s.under s.here)

  -- the keys of the map rise strictly
  pub under_rises : (l hi : ℕ) (e : Entry) → e.key < hi → Ok fit room r l hi e → Rises (λ y x. Unit {0}) hi
      (under r l e)
  unfolding under Ok
  under_rises zero hi e q h = (q, tt, tt)
  under_rises (suc l) hi e q h = gather_rises l hi (r e.addr (suc l)) h.4 (λ y x b i. under_rises l y x b i)

  pub root_rises : (most : ℕ → ℕ) (top l p : ℕ) → Rooted fit room most top r l p → Rises (λ y x. Unit {0}) top
      (under r (suc l) (the p))
  unfolding under
  root_rises most top l p h = gather_rises l top (r p (suc l)) h.rises (λ y x b i. under_rises l y x b i)
