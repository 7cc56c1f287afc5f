-- Request 1's cost: the nodes that the walk between two keys looks at, and how many they are. Assumes nothing.
use Rattle.std.specs.Prelude.{◌≡◌, Bool, leb, ltb, take, drop}
use Rattle.std.proofs.Math.Path.{refl, ap, subst}
use Rattle.std.proofs.Common.{sym, ◌∙◌, mul-add, mul-le-mul_left, take-append-drop, drop_of_length-le, drop-cons, leb-true, leb-false, ltb-true, ltb-false, lt-ltb, le-ltb}
use mathlib.Core.List.{List, [], ◌∷◌}
use Rattle.std.proofs.Math.Bool.{true, false}
use Prim.Native.Nat.{ℕ, zero, suc, ◌+◌, ◌*◌, ◌<◌, ◌≤◌}
use native.Mathlib.Omega.{arith}
use Rattle.std.proofs.Math.Nat.{suc-mul}
use Rattle.std.proofs.Math.ListN.{length, length-append}
use Rattle.std.proofs.Math.Seq.{drop-nil}
use Rattle.std.proofs.lemmas.Bool.{lt-leb}
use Rattle.geometry.specs.declared.Entry.{Entry}
use Rattle.geometry.specs.Tests.{pick, bit}
use Rattle.model.specs.Image.{Nodes, Chip, the_root}
use Rattle.model.specs.Tree.{gather, under, following, Place, entry_of, place}
use Rattle.model.specs.Halving.{Placed, place_is}
use Rattle.model.specs.Listing.{up_to, reached, ranged}
use Rattle.theory_counts.specs.Least.{by_lt}
use Rattle.theory_nodes.specs.Entries.{Rises, rises_right, next_le}
use Rattle.theory_nodes.specs.Nodes.{Ok, under_in, the}
use Rattle.theory_nodes.specs.Between.{between_all}
use Rattle.theory_nodes.proofs.Between.{ranged_is}

-- the nodes that the walk under an entry at level l looks at
unfoldable pub looked : Nodes → ℕ → ℕ → ℕ → Entry → List Place
looked r low high zero e = []
looked r low high (suc l) e = record { page = e.addr; level = suc l } ∷ gather (looked r low high l) (reached low high (r e.addr (suc l)))

abbrev pub looked_of : Chip → ℕ → ℕ → List Place
looked_of c low high = looked c.nodes low high (suc c.level) (the_root c)

-- two counts under a level's factor
both : (l a b x y : ℕ) → a ≤ l * x → b ≤ l * y → a + b ≤ l * (x + y)
both l a b x y h i = let q = mul-add l x y in omega (arith, q, h, i)

same : (l a b x y : ℕ) → a ≤ l * x → b ≡ a → x ≡ y → b ≤ l * y
same l a b x y h e f = rw (e, ← f) h

more : (l a x y : ℕ) → a ≤ l * x → x ≤ y → a ≤ l * y
more l a x y h i = let w = mul-le-mul_left {m = x} {n = y} l i in omega (arith, h, w)

module _ (fit : ℕ → ℕ → Type 0) (room : ℕ → ℕ) (r : Nodes) (low high : ℕ) where
  -- how many ends of the asked range may lie inside that from k to y
  abbrev ends : ℕ → ℕ → ℕ
  ends k y = bit (leb k low) + bit (ltb (suc high) y)

  -- pairs found and nodes looked at below some entries
  abbrev pairs_in : ℕ → List Entry → ℕ
  pairs_in l es = length (gather (ranged r low high l) es)

  abbrev nodes_in : ℕ → List Entry → ℕ
  nodes_in l es = length (gather (looked r low high l) es)

  abbrev Few : ℕ → Type 0
  Few l = (y : ℕ) (e : Entry) → e.key < y → e.key ≤ high → low < y → Ok fit room r l y e
      → length (looked r low high l e) ≤ l * (ends e.key y + length (ranged r low high l e))

  upto_none : (y : ℕ) (es : List Entry) → high < following es y → up_to high es ≡ []
  unfolding up_to
  upto_none y [] h = refl
  upto_none y (e ∷ es) h = rw (lt-leb e.key high h) refl

  -- from an entry on, where the low key lies before the next one: only that entry's range and the last one's have an
  -- end inside
  head_few : (l top : ℕ) (e : Entry) (es : List Entry) → Rises (Ok fit room r l) top (e ∷ es) → low < following es top
      → Few l
      → nodes_in l (up_to high es) ≤ l * (bit (ltb (suc high) top) + pairs_in l (up_to high es))
      → nodes_in l (up_to high (e ∷ es)) ≤ l * (ends e.key top + pairs_in l (up_to high (e ∷ es)))
  unfolding up_to gather
  head_few l top e es h q step tail = go (leb e.key high) refl
    where
      own : e.key ≤ high → length (looked r low high l e) ≤ l * (ends e.key
          (following es top) + length (ranged r low high l e))
      own c = step (following es top) e h.0 c q h.1

      joined : (us : List Entry)
          → (nodes_in l (e ∷ us) ≡ length (looked r low high l e) + nodes_in l us) ×
          (pairs_in l (e ∷ us) ≡ length (ranged r low high l e) + pairs_in l us)
      joined us = (
        length-append (looked r low high l e) (gather (looked r low high l) us),
        length-append
            (ranged r low high l e) (gather (ranged r low high l) us),
      )

      -- the range of this entry has the high end: it is the last
      last : e.key ≤ high → suc high < following es top → nodes_in l (e ∷ up_to high es) ≤ l * (ends e.key top + pairs_in l
          (e ∷ up_to high es))
      last c z =
          let w = next_le (Ok fit room r l) top es h.2 in
          let j = joined [] in
          let x : bit (ltb (suc high) (following es top)) ≡ bit (ltb (suc high) top) =
          ap bit (lt-ltb (suc high) (following es top) z ∙ sym (lt-ltb (suc high) top (omega (arith, z, w)))) in
          rw (upto_none top es (omega (arith, z))) (same l (length (looked r low high l e)) _ _ _ (own c) (omega (arith, j.0)) (omega (arith, j.1, x)))

      -- it has not: the others come after it
      later : e.key ≤ high → following es top ≤ suc high → nodes_in l (e ∷ up_to high es) ≤ l * (ends e.key top + pairs_in l
          (e ∷ up_to high es))
      later c z =
          let j = joined (up_to high es) in
          let x : bit (ltb (suc high) (following es top)) ≡ 0 = ap bit (le-ltb (suc high) (following es top) z) in
          same l _ _ _ _ (both l (length (looked r low high l e)) (nodes_in l (up_to high es)) (ends e.key (following es top) + length (ranged r low high l e))
          (bit (ltb (suc high) top) + pairs_in l (up_to high es)) (own c) tail) (omega (arith, j.0)) (omega (arith, j.1, x))

      by_end : e.key ≤ high → (t : Bool) → ltb (suc high) (following es top) ≡ t
          → nodes_in l (e ∷ up_to high es) ≤ l * (ends e.key top + pairs_in l (e ∷ up_to high es))
      by_end c true z = last c (ltb-true (suc high) (following es top) z)
      by_end c false z = later c (ltb-false (suc high) (following es top) z)

      go : (t : Bool) → leb e.key high ≡ t
          → nodes_in l (pick t (e ∷ up_to high es) []) ≤ l * (ends e.key top + pairs_in l
          (pick t (e ∷ up_to high es) []))
      go true x = by_end (leb-true e.key high x) (ltb (suc high) (following es top)) refl
      go false x = omega arith

  -- the entries after it are all above the low key
  tail_few : (l top : ℕ) (es : List Entry) → Rises (Ok fit room r l) top es → low < following es top → Few l
      → nodes_in l (up_to high es) ≤ l * (bit (ltb (suc high) top) + pairs_in l (up_to high es))
  unfolding up_to gather
  tail_few l top [] h q step = omega arith
  tail_few l top (e ∷ es) h q step =
      let w : bit (leb e.key low) ≡ 0 = ap bit (lt-leb e.key low q) in
      let z : low < following es top = omega (arith, q, h.0) in
      same l _ _ _ _ (head_few l top e es h z step (tail_few l top es h.2 z step)) refl (omega (arith, w))

  list_few : (l top : ℕ) (e : Entry) (es : List Entry) → Rises (Ok fit room r l) top (e ∷ es) → low < following es top
      → Few l
      → nodes_in l (up_to high (e ∷ es)) ≤ l * (ends e.key top + pairs_in l (up_to high (e ∷ es)))
  list_few l top e es h q step = head_few l top e es h q step (tail_few l top es h.2 q step)

  -- ---- a node
  first_least : (P : ℕ → Entry → Type 0) (y i : ℕ) (es : List Entry) → Rises P y es → i < length es
      → following es y ≤ (entry_of es i).key
  first_least P y i [] h b = absurd (omega arith)
  first_least P y zero (e ∷ es) h b = omega arith
  first_least P y (suc i) (e ∷ es) h b = let w = first_least P y i es h.2 (omega arith) in omega (arith, w, h.0)

  next_after_lem : (y i : ℕ) (es : List Entry) → low < y → (i < length es → low < (entry_of es i).key)
      → low < following (drop i es) y
  next_after_lem y i es q f = by_lt i (length es)
      (λ b. subst (λ (xs : List Entry). low < following xs y) (sym (drop-cons es i (record { key = 0; addr = 0 }) b)) (f b))
      (λ b. subst (λ (xs : List Entry). low < following xs y) (sym (drop_of_length-le es {i = i} b)) q)

  less_bit : (k m : ℕ) → k ≤ m → bit (leb m low) ≤ bit (leb k low)
  less_bit k m h = go (leb k low) (leb m low) refl refl
    where
      go : (t u : Bool) → leb k low ≡ t → leb m low ≡ u → bit u ≤ bit t
      go true true x z = omega arith
      go true false x z = omega arith
      go false true x z = absurd (let a = leb-false k low x in let b = leb-true m low z in omega (arith, a, b, h))
      go false false x z = omega arith

  from_few : (l y k i : ℕ) (es : List Entry) → Placed low es i → Rises (Ok fit room r l) y es → k ≤ following es y → low < y
      → Few l
      → nodes_in l (up_to high (drop i es)) ≤ l * (ends k y + pairs_in l (up_to high (drop i es)))
  from_few l y k i es at h b q step =
      let x = entry_of es i in
      let post = drop (suc i) es in
      let cut = drop-cons es i (record { key = 0; addr = 0 }) at.inside in
      let up = subst (Rises (Ok fit room r l) y) cut
      (rises_right (Ok fit room r l) y (take i es) (drop i es) (subst (Rises (Ok fit room r l) y) (sym (take-append-drop i es)) h)) in
      let least = first_least (Ok fit room r l) y i es h at.inside in
      let fewer = less_bit k x.key (omega (arith, least, b)) in
      subst (λ (us : List Entry). nodes_in l (up_to high us) ≤ l * (ends k y + pairs_in l (up_to high us))) (sym cut)
      (more l (nodes_in l (up_to high (x ∷ post))) (ends x.key y + pairs_in l (up_to high (x ∷ post))) (ends k y + pairs_in l (up_to high (x ∷ post)))
      (list_few l y x post up (next_after_lem y (suc i) es q at.high) step) (omega (arith, fewer)))

  node_few : (l y k : ℕ) (es : List Entry) → Rises (Ok fit room r l) y es → k ≤ following es y → low < y → Few l
      → nodes_in l (reached low high es) ≤ l * (ends k y + pairs_in l (reached low high es))
  unfolding gather up_to
  node_few l y k [] h b q step =
      subst (λ (us : List Entry). nodes_in l (up_to high us) ≤ l * (ends k y + pairs_in l (up_to high us)))
      (sym (drop-nil {A = Entry} (place low []))) (omega arith)
  node_few l y k (e ∷ es) h b q step = from_few l y k (place low (e ∷ es)) (e ∷ es) (place_is low (e ∷ es) (omega arith)) h b q step

  -- ---- some pair stands under each entry
  list_some : (l y : ℕ) (es : List Entry) → 1 ≤ length es → Rises (Ok fit room r l) y es
      → ((y : ℕ) (e : Entry) → Ok fit room r l y e → 1 ≤ length (under r l e)) → 1 ≤ length (gather (under r l) es)
  unfolding gather
  list_some l y [] n h step = absurd (omega arith)
  list_some l y (e ∷ es) n h step =
      let w = length-append (under r l e) (gather (under r l) es) in
      let i = step (following es y) e h.1 in
      omega (arith, w, i)

  under_some : (l y : ℕ) (e : Entry) → Ok fit room r l y e → 1 ≤ length (under r l e)
  unfolding under Ok
  under_some zero y e h = omega arith
  under_some (suc l) y e h = list_some l y (r e.addr (suc l)) h.1 h.4 (under_some l)

  -- an entry whose range has no end inside is listed whole
  some_here : (l y : ℕ) (e : Entry) → e.key < y → e.key ≤ high → Ok fit room r l y e
      → 1 ≤ ends e.key y + length (ranged r low high l e)
  some_here l y e b c h = go (leb e.key low) (ltb (suc high) y) refl refl
    where
      go : (t u : Bool) → leb e.key low ≡ t → ltb (suc high) y ≡ u
          → 1 ≤ bit t + bit u + length (ranged r low high l e)
      go true u x z = omega arith
      go false true x z = omega arith
      go false false x z =
          let whole = ap length (ranged_is fit room r low high l y e b c h
          ∙ between_all low high e.key y (under r l e) (let w = leb-false e.key low x in
          omega (arith, w)) (ltb-false (suc high) y z)
          (under_in fit room r l y e b h)) in
          let i = under_some l y e h in
          omega (arith, whole, i)

  few_below : (l : ℕ) → Few l
  unfolding looked ranged Ok
  few_below zero y e b c q h = omega arith
  few_below (suc l) y e b c q h =
      let n = node_few l y e.key (r e.addr (suc l)) h.4 h.3 q (few_below l) in
      let s = some_here (suc l) y e b c h in
      let w = suc-mul l (ends e.key y + pairs_in l (reached low high (r e.addr (suc l)))) in
      omega (arith, n, s, w)

  -- from the root down
  pub looked_few : (l top p : ℕ) → low < top → Rises (Ok fit room r l) top (r p (suc l))
      → length (looked r low high (suc l) (the p)) ≤ suc l * (2 + length (ranged r low high (suc l) (the p)))
  unfolding looked ranged
  looked_few l top p q h =
      let es = r p (suc l) in
      let n = node_few l top 0 es h (omega arith) q (few_below l) in
      let two = bits (leb 0 low) (ltb (suc high) top) in
      let m = more l (nodes_in l (reached low high es)) (ends 0 top + pairs_in l (reached low high es))
      (2 + pairs_in l (reached low high es)) n (omega (arith, two)) in
      let w = suc-mul l (2 + pairs_in l (reached low high es)) in
      omega (arith, m, w)
    where
      bits : (t u : Bool) → bit t + bit u ≤ 2
      bits true true = omega arith
      bits true false = omega arith
      bits false true = omega arith
      bits false false = omega arith
