-- A buffer filled pair by pair is the buffer that the model has. Assumes nothing.
use Rattle.std.specs.Prelude.{ℕ, suc, ◌+◌, ◌*◌, ◌<◌, ◌≤◌, Bool, true, false, ◌≡◌, refl, List, [], ◌∷◌, ◌++◌, ltb, length, set}
use Rattle.std.proofs.Common.{sym, ap, ◌∙◌, append_assoc, length-set, length-append, arith, lt-ltb, le-ltb}
use Rattle.std.proofs.lemmas.List.{set_at}
use Rattle.geometry.specs.declared.Entry.{Entry}
use Rattle.geometry.specs.Tests.{pick}
use Rattle.model.specs.Listing.{as_numbers, written_of, filled}
use Rattle.call_list.specs.Listing.{put_pair, put_pairs}

-- one pair
pub put_in_lem : (b : List ℕ) (i : ℕ) (e : Entry) → 2 * i + 1 < length b → set (set b (2 * i) e.key)
    (2 * i + 1) e.addr ≡ put_pair b i e
unfolding put_pair
put_in_lem b i e h = sym (rw (lt-ltb _ _ h) refl)

pub put_out : (b : List ℕ) (i : ℕ) (e : Entry) → length b ≤ 2 * i + 1 → b ≡ put_pair b i e
unfolding put_pair
put_out b i e h = sym (rw (le-ltb _ _ h) refl)

-- pairs leave the length
length_pair : (b : List ℕ) (i : ℕ) (e : Entry) → length (put_pair b i e) ≡ length b
unfolding put_pair
length_pair b i e = go (ltb (2 * i + 1) (length b))
  where
    go : (t : Bool) → length (pick t (set (set b (2 * i) e.key) (2 * i + 1) e.addr) b) ≡ length b
    go true = length-set (set b (2 * i) e.key) (2 * i + 1) e.addr ∙ length-set b (2 * i) e.key
    go false = refl

pub length_pairs : (b : List ℕ) (i : ℕ) (es : List Entry) → length (put_pairs b i es) ≡ length b
unfolding put_pairs
length_pairs b i [] = refl
length_pairs b i (e ∷ es) = length_pairs (put_pair b i e) (i + 1) es ∙ length_pair b i e

pub put_append : (b : List ℕ) (i : ℕ) (xs ys : List Entry) → put_pairs b i (xs ++ ys) ≡ put_pairs (put_pairs b i xs)
    (i + length xs) ys
unfolding put_pairs
put_append b i [] ys = let q : i + 0 ≡ i = omega arith in rw q refl
put_append b i (x ∷ xs) ys =
    let q : i + 1 + length xs ≡ i + suc (length xs) = omega arith in
    put_append (put_pair b i x) (i + 1) xs ys ∙ ap (λ (j : ℕ). put_pairs (put_pairs (put_pair b i x) (i + 1) xs) j ys) q

-- no pair goes past the end
put_past : (b : List ℕ) (i : ℕ) (es : List Entry) → length b ≤ 2 * i + 1 → put_pairs b i es ≡ b
unfolding put_pairs
put_past b i [] h = refl
put_past b i (e ∷ es) h = rw (← (put_out b i e h)) (put_past b (i + 1) es (omega arith))

-- a buffer with room for a pair, and one without
filled_more : (e : Entry) (es : List Entry) (x y : ℕ) (b : List ℕ) → filled (e ∷ es) (x ∷ y ∷ b)
    ≡ e.key ∷ e.addr ∷ filled es b
unfolding filled as_numbers
filled_more e es x y b =
    let q : written_of (e ∷ es) (x ∷ y ∷ b) ≡ suc (written_of es b) = omega arith in
    let w : 2 * suc (written_of es b) ≡ suc (suc (2 * written_of es b)) = omega arith in
    rw (q, w) refl

filled_none : (es : List Entry) (b : List ℕ) → written_of es b ≡ 0 → filled es b ≡ b
unfolding filled as_numbers
filled_none es b h = rw h refl

put_filled : (pre : List ℕ) (i : ℕ) → length pre ≡ 2 * i → (es : List Entry) (b : List ℕ)
    → put_pairs (pre ++ b) i es ≡ pre ++ filled es b
unfolding put_pairs
put_filled pre i len [] b = rw (filled_none [] b (omega arith)) refl
put_filled pre i len (e ∷ es) [] = put_past (pre ++ []) i (e ∷ es) (let w = length-append pre [] in
    omega (arith, w, len))
    ∙ ap (λ m. pre ++ m) (sym (filled_none (e ∷ es) [] (omega arith)))
put_filled pre i len (e ∷ es) (x ∷ []) = put_past (pre ++ (x ∷ [])) i (e ∷ es) (let w = length-append pre (x ∷ []) in
    omega (arith, w, len))
    ∙ ap (λ m. pre ++ m) (sym (filled_none (e ∷ es) (x ∷ []) (omega arith)))
put_filled pre i len (e ∷ es) (x ∷ y ∷ b) =
    let k = e.key in
    let a = e.addr in
    let w = length-append pre (x ∷ y ∷ b) in
    let one : put_pair (pre ++ (x ∷ y ∷ b)) i e ≡ (pre ++ (k ∷ a ∷ [])) ++ b =
    sym (put_in_lem (pre ++ (x ∷ y ∷ b)) i e (omega (arith, w, len)))
    ∙ ap (λ (m : List ℕ). set m (2 * i + 1) a) (set_at pre x (y ∷ b) k (2 * i) len
    ∙ sym (append_assoc pre (k ∷ []) (y ∷ b)))
    ∙ set_at (pre ++ (k ∷ [])) y b a (2 * i + 1) (length-append pre (k ∷ []) ∙ (omega (arith, len)))
    ∙ append_assoc pre (k ∷ []) (a ∷ b) ∙ sym (append_assoc pre (k ∷ a ∷ []) b) in
    ap (λ (m : List ℕ). put_pairs m (i + 1) es) one
    ∙ put_filled (pre ++ (k ∷ a ∷ [])) (i + 1) (length-append pre (k ∷ a ∷ []) ∙ (omega (arith, len))) es b
    ∙ append_assoc pre (k ∷ a ∷ []) (filled es b) ∙ ap (λ (m : List ℕ). pre ++ m) (sym (filled_more e es x y b))

-- all pairs, from the start
pub put_all : (es : List Entry) (b : List ℕ) → put_pairs b 0 es ≡ filled es b
put_all es b = put_filled [] 0 refl es b
