-- A list with an entry put in, taken out or cut at a place, and the arrays that loops leave of it. Assumes nothing.
use Rattle.std.specs.Prelude.{◌≡◌, ◌⊎◌, length, set, get_or, take}
use Rattle.std.proofs.Math.Path.{refl, ap}
use Rattle.std.proofs.Common.{sym, ◌∙◌, ⊎_elim, eq-or-lt_of_le, length-set, length-append, length-drop, get_or-append-add, get_or-set_same, get_or-set_other, take-suc-set, ext_get_or}
use mathlib.Core.List.{List, [], ◌∷◌, ◌++◌, map}
use Prim.Native.Nat.{ℕ, zero, suc, ◌+◌, ◌-◌, ◌≤◌, ◌<◌}
use Rattle.std.proofs.Math.Nat.{zero-add}
use Rattle.std.proofs.Math.Decide.{dec_lt}
use native.Mathlib.Omega.{arith}
use Rattle.std.proofs.Math.ListN.{drop, get_or-append}
use Rattle.std.proofs.lemmas.List.{length-map}
use Rattle.std.proofs.Math.Seq.{length-take-le, get_or-take, get_or-drop}
use Rattle.model.specs.Stores.{written}
use Rattle.theory_lists.specs.Written.{length_written, written_before, written_inside}

-- f 0, f 1, .. f (n - 1)
unfoldable pub tab : {A : Type 0} → (ℕ → A) → ℕ → List A
tab f zero = []
tab f (suc n) = tab f n ++ (f n ∷ [])

unfoldable pub insert_at : {A : Type 0} → ℕ → A → List A → List A
insert_at i x es = take i es ++ (x ∷ drop i es)

unfoldable pub remove_at : {A : Type 0} → ℕ → List A → List A
remove_at i es = take i es ++ drop (i + 1) es

-- the length of an array of structs, from what owning it tells
pub length_mapped : (X Y : Type 0) (f : X → Y) (l : List X) (n : ℕ) → length (map f l) ≡ n → length l ≡ n
length_mapped X Y f l n e = sym (length-map l f) ∙ e

-- a number is below another, it, or above
pub three : {P : Type 0} (k i : ℕ) → (k < i → P) → (k ≡ i → P) → (i < k → P) → P
three k i below same above = elim (dec_lt k i) [ yes h ↦ below h | no h ↦ ⊎_elim (λ e. same (sym e)) above (eq-or-lt_of_le {n = i} {m = k} (omega arith)) ]

-- a list cut short, and a place of it changed
pub take_set : {A : Type 0} (c i : ℕ) (x : A) (l : List A) → take c (set l i x) ≡ set (take c l) i x
take_set zero i x l = refl
take_set (suc c) i x [] = refl
take_set (suc c) zero x (y ∷ l) = refl
take_set (suc c) (suc i) x (y ∷ l) = ap (λ m. y ∷ m) (take_set c i x l)

module _ {A : Type 0} (d : A) where
  -- an index past the first list
  pub append_at : (xs ys : List A) (k m : ℕ) → k ≡ length xs + m → get_or (xs ++ ys) k d ≡ get_or ys m d
  append_at xs ys k m e = rw e (get_or-append-add xs ys m d)

  -- ---- tab
  -- what a loop has filled from the front
  pub take_written : (l : List A) (f : ℕ → A) (n : ℕ) → n ≤ length l → take n (written l 0 f n) ≡ tab f n
  unfolding tab written
  take_written l f zero h = refl
  take_written l f (suc n) h =
      rw zero-add (take-suc-set (written l 0 f n) n (f n) (rw length_written h)
      ∙ ap (λ (t : List A). t ++ (f n ∷ [])) (take_written l f n (omega arith)))

  -- ---- insert_at
  module _ (i : ℕ) (x : A) (es : List A) (h : i ≤ length es) where
    pub length_insert : length (insert_at i x es) ≡ length es + 1
    unfolding insert_at
    length_insert = simp (length-append, length-take-le i es h, length-drop) (omega arith)

    pub insert_before : (k : ℕ) → k < i → get_or (insert_at i x es) k d ≡ get_or es k d
    unfolding insert_at
    insert_before k p =
        get_or-append (take i es) (x ∷ drop i es) d k (rw (length-take-le i es h) p) ∙ get_or-take i es k d p

    pub insert_same : get_or (insert_at i x es) i d ≡ x
    unfolding insert_at
    insert_same = append_at (take i es) (x ∷ drop i es) i 0 (rw (length-take-le i es h) (omega arith))

    pub insert_after : (k : ℕ) → i ≤ k → get_or (insert_at i x es) (k + 1) d ≡ get_or es k d
    unfolding insert_at
    insert_after k p =
        append_at (take i es) (x ∷ drop i es) (k + 1) (suc (k - i)) (rw (length-take-le i es h) (omega arith))
        ∙ get_or-drop i es (k - i) d ∙ (let e : i + (k - i) ≡ k = omega arith in rw e)

  -- ---- remove_at
  module _ (i : ℕ) (es : List A) (h : i < length es) where
    pub length_remove : length (remove_at i es) + 1 ≡ length es
    unfolding remove_at
    length_remove = simp (length-append, length-take-le i es (omega arith), length-drop) (omega arith)

    pub remove_before : (k : ℕ) → k < i → get_or (remove_at i es) k d ≡ get_or es k d
    unfolding remove_at
    remove_before k p = get_or-append (take i es) (drop (i + 1) es) d k (rw (length-take-le i es (omega arith)) p)
        ∙ get_or-take i es k d p

    pub remove_after : (k : ℕ) → i ≤ k → get_or (remove_at i es) k d ≡ get_or es (k + 1) d
    unfolding remove_at
    remove_after k p =
        append_at (take i es) (drop (i + 1) es) k (k - i) (rw (length-take-le i es (omega arith)) (omega arith))
        ∙ get_or-drop (i + 1) es (k - i) d ∙ (let e : i + 1 + (k - i) ≡ k + 1 = omega arith in rw e)

  -- ---- the arrays that the loops of a node leave. e is the array, c the count
  module _ (e : List A) (c : ℕ) (hc : c ≤ length e) where
    count : length (take c e) ≡ c
    count = length-take-le c e hc

    pub inserted : (i : ℕ) (x : A) → i ≤ c → c < length e
        → take (c + 1) (set (written e (i + 1) (λ k. get_or e (i + k) d) (c - i)) i x) ≡ insert_at i x (take c e)
    inserted i x hi hl =
        let w : List A = written e (i + 1) (λ k. get_or e (i + k) d) (c - i) in
        let lw : length w ≡ length e = length_written e (i + 1) (λ k. get_or e (i + k) d) (c - i) in
        let ls : length (set w i x) ≡ length e = length-set w i x ∙ lw in
        let lt : length (take (c + 1) (set w i x)) ≡ c + 1 = length-take-le (c + 1) (set w i x) (rw ls (omega arith)) in
        let hi' : i ≤ length (take c e) = rw count hi in
        ext_get_or d _ _ (lt ∙ sym (length_insert i x (take c e) hi' ∙ ap (λ (n : ℕ). n + 1) count))
        (λ k p.
        let p' : k < c + 1 = rw lt at p in
        get_or-take (c + 1) (set w i x) k d p'
        ∙ three k i
        (λ (b : k < i).
        get_or-set_other w i k x d (omega arith) ∙ written_before e (i + 1) (λ k. get_or e (i + k) d) (c - i) k d (omega arith)
        ∙ sym (insert_before i x (take c e) hi' k b ∙ get_or-take c e k d (omega arith)))
        (λ (q : k ≡ i). rw q (get_or-set_same w i x d (rw lw (omega arith)) ∙ sym (insert_same i x (take c e) hi')))
        (λ (a : i < k).
        let q : i + 1 + (k - i - 1) ≡ k = omega arith in
        let q₂ : i + (k - i - 1) ≡ k - 1 = omega arith in
        let q₃ : k - 1 + 1 ≡ k = omega arith in
        get_or-set_other w i k x d (omega arith)
        ∙ (rw q at (written_inside e (i + 1) (λ k. get_or e (i + k) d) (c - i) (k - i - 1) d (omega arith) (omega arith)))
        ∙ (rw q₂ (sym (get_or-take c e (k - 1) d (omega arith))))
        ∙ sym (rw q₃ at (insert_after i x (take c e) hi' (k - 1) (omega arith)))))

    pub removed : (i : ℕ) → i < c → take (c - 1) (written e i (λ k. get_or e (i + 1 + k) d) (c - 1 - i)) ≡ remove_at i
        (take c e)
    removed i hi =
        let f : ℕ → A = λ k. get_or e (i + 1 + k) d in
        let w : List A = written e i f (c - 1 - i) in
        let lw : length w ≡ length e = length_written e i f (c - 1 - i) in
        let lt : length (take (c - 1) w) ≡ c - 1 = length-take-le (c - 1) w (rw lw (omega arith)) in
        let hi' : i < length (take c e) = rw count hi in
        let lr : length (remove_at i (take c e)) + 1 ≡ c = length_remove i (take c e) hi' ∙ count in
        ext_get_or d _ _ (lt ∙ (omega arith))
        (λ k p.
        let p' : k < c - 1 = rw lt at p in
        get_or-take (c - 1) w k d p'
        ∙ elim (dec_lt k i) [
          | yes b ↦ written_before e i f (c - 1 - i) k d b ∙ sym (remove_before i (take c e) hi' k b
              ∙ get_or-take c e k d (omega arith))
          | no nb ↦
              (let q : i + (k - i) ≡ k = omega arith in
              let q₂ : i + 1 + (k - i) ≡ k + 1 = omega arith in
              (rw q at (written_inside e i f (c - 1 - i) (k - i) d (omega arith) (omega arith)))
              ∙ (rw q₂ (sym (get_or-take c e (k + 1) d (omega arith))))
              ∙ sym (remove_after i (take c e) hi' k (omega arith)))
        ])

    pub right : (h : ℕ) → h ≤ c → take (c - h) (written e 0 (λ k. get_or e (h + k) d) (c - h)) ≡ drop h (take c e)
    right h hh =
        let f : ℕ → A = λ k. get_or e (h + k) d in
        let w : List A = written e 0 f (c - h) in
        let lw : length w ≡ length e = length_written e 0 f (c - h) in
        let lt : length (take (c - h) w) ≡ c - h = length-take-le (c - h) w (rw lw (omega arith)) in
        ext_get_or d _ _ (lt ∙ sym (length-drop h (take c e) ∙ ap (λ (n : ℕ). n - h) count))
        (λ k p.
        let p' : k < c - h = rw lt at p in
        get_or-take (c - h) w k d p'
        ∙ (rw zero-add at (written_inside e 0 f (c - h) k d (omega arith) p'))
        ∙ sym (get_or-drop h (take c e) k d ∙ get_or-take c e (h + k) d (omega arith)))
