-- Laws of pieces, and of bytes put into a buffer. Assumes nothing.
use Rattle.std.specs.Prelude.{ℕ, suc, ◌+◌, ◌<◌, ◌≤◌, Bool, true, false, ◌≡◌, refl, List, [], ◌∷◌, ◌++◌, eqb, length, take, drop, get_or, set}
use Rattle.std.proofs.Common.{ap, sym, ◌∙◌, add-zero, add-one, arith, length-append, drop-cons, length-take-le, take_at, eq-eqb, ne_eqb, eqb-true}
use Rattle.std.proofs.Math.Seq.{drop-length, set_out}
use Rattle.std.proofs.lemmas.List.Edits.{sets, sets-eq}
use Rattle.geometry.specs.Tests.{pick}
use Rattle.text_lines.specs.Lines.{Pieces, before, pieces, fields, reach}

-- ---- pieces put together again
unfoldable pub joined : ℕ → List (List ℕ) → List ℕ → List ℕ
joined at [] r = r
joined at (p ∷ ps) r = (p ++ (at ∷ [])) ++ joined at ps r

pub pieces_join : (at : ℕ) (bs : List ℕ) → joined at (pieces at bs).ended (pieces at bs).rest ≡ bs
unfolding pieces joined
pieces_join at [] = refl
pieces_join at (b ∷ bs) = go (eqb b at) refl (pieces_join at bs)
  where
    more : (E : List (List ℕ)) (R : List ℕ) → joined at (before b E R).ended (before b E R).rest ≡ b ∷ joined at E R
    more [] R = refl
    more (p ∷ ps) R = refl

    go : (t : Bool) → eqb b at ≡ t → joined at (pieces at bs).ended (pieces at bs).rest ≡ bs
        → joined at (pick t (record { ended = [] ∷ (pieces at bs).ended; rest = (pieces at bs).rest })
        (before b (pieces at bs).ended (pieces at bs).rest)).ended
        (pick t (record { ended = [] ∷ (pieces at bs).ended; rest = (pieces at bs).rest }) (before b (pieces at bs).ended (pieces at bs).rest)).rest ≡ b ∷ bs
    go true e i = ap (λ m. at ∷ m) i ∙ ap (λ m. m ∷ bs) (sym (eqb-true b at e))
    go false e i = more (pieces at bs).ended (pieces at bs).rest ∙ ap (λ m. b ∷ m) i

-- ---- the first piece, by where it ends
pub reach_within : (at : ℕ) (bs : List ℕ) → reach at bs ≤ length bs
unfolding reach
reach_within at [] = omega arith
reach_within at (b ∷ bs) = go (eqb b at) (reach_within at bs)
  where
    go : (t : Bool) → reach at bs ≤ length bs → pick t 0 (suc (reach at bs)) ≤ suc (length bs)
    go true h = omega arith
    go false h = omega arith

-- the first piece, and those of what stands after its end
abbrev pub cut_at : ℕ → ℕ → List ℕ → Pieces
cut_at at n bs = record { ended = take n bs ∷ (pieces at (drop (suc n) bs)).ended; rest = (pieces at (drop (suc n) bs)).rest }

pub pieces_more : (at : ℕ) (bs : List ℕ) → reach at bs < length bs → pieces at bs ≡ cut_at at (reach at bs) bs
unfolding pieces reach
pieces_more at [] h = absurd (omega arith)
pieces_more at (b ∷ bs) h = go (eqb b at) h (pieces_more at bs)
  where
    go : (t : Bool) → pick t 0 (suc (reach at bs)) < suc (length bs)
        → (reach at bs < length bs → pieces at bs ≡ cut_at at (reach at bs) bs)
        → pick t (record { ended = [] ∷ (pieces at bs).ended; rest = (pieces at bs).rest })
        (before b (pieces at bs).ended (pieces at bs).rest)
        ≡ cut_at at (pick t 0 (suc (reach at bs))) (b ∷ bs)
    go true g i = refl
    go false g i = ap (λ (x : Pieces). before b x.ended x.rest) (i (omega arith))

pub pieces_last : (at : ℕ) (bs : List ℕ) → length bs ≤ reach at bs → pieces at bs ≡ record { ended = []; rest = bs }
unfolding pieces reach
pieces_last at [] h = refl
pieces_last at (b ∷ bs) h = go (eqb b at) h (pieces_last at bs)
  where
    go : (t : Bool) → suc (length bs) ≤ pick t 0 (suc (reach at bs))
        → (length bs ≤ reach at bs → pieces at bs ≡ record { ended = []; rest = bs })
        → pick t (record { ended = [] ∷ (pieces at bs).ended; rest = (pieces at bs).rest })
        (before b (pieces at bs).ended (pieces at bs).rest)
        ≡ record { ended = []; rest = b ∷ bs }
    go true g i = absurd (omega arith)
    go false g i = ap (λ (x : Pieces). before b x.ended x.rest) (i (omega arith))

-- the fields of a line, from the first on
pub fields_more : (bs : List ℕ) → reach 9 bs < length bs
    → fields bs ≡ take (reach 9 bs) bs ∷ fields (drop (suc (reach 9 bs)) bs)
fields_more bs h = ap (λ (x : Pieces). x.ended ++ (x.rest ∷ [])) (pieces_more 9 bs h)

pub fields_last : (bs : List ℕ) → length bs ≤ reach 9 bs → fields bs ≡ bs ∷ []
fields_last bs h = ap (λ (x : Pieces). x.ended ++ (x.rest ∷ [])) (pieces_last 9 bs h)

-- ---- how far the code has come
pub reach_stops : (s : List ℕ) (i b at : ℕ) → b ≡ get_or s i 0 → i < length s → b ≡ at → reach at (drop i s) ≡ 0
unfolding reach
reach_stops s i b at e h q = rw (drop-cons s i 0 h, ← e, eq-eqb b at q) refl

pub reach_goes : (s : List ℕ) (i b at : ℕ) → b ≡ get_or s i 0 → i < length s → (b ≡ at → ⊥)
    → reach at (drop i s) ≡ suc (reach at (drop (i + 1) s))
unfolding reach
reach_goes s i b at e h q = rw (drop-cons s i 0 h, ← e, ne_eqb b at q, add-one) refl

pub reach_ends : (s : List ℕ) (i at : ℕ) → length s ≤ i → i ≤ length s → reach at (drop i s) ≡ 0
unfolding reach
reach_ends s i at h g = let q : i ≡ length s = omega arith in rw (q, drop-length) refl

-- ---- bytes put into a buffer; nothing is put outside it
pub put_past : (buf : List ℕ) (at b : ℕ) → length buf ≤ at → buf ≡ set buf at b
put_past buf at b h = sym (set_out buf at b h)

pub sets_append : (buf : List ℕ) (at : ℕ) (xs ys : List ℕ) → sets buf at (xs ++ ys) ≡ sets (sets buf at xs)
    (at + length xs) ys
sets_append buf at [] ys = rw add-zero refl
sets_append buf at (x ∷ xs) ys = sets_append (set buf at x) (suc at) xs ys
    ∙ (let q : suc at + length xs ≡ at + suc (length xs) = omega arith in rw q refl)

-- a byte more
pub sets_snoc : (buf : List ℕ) (at : ℕ) (xs : List ℕ) (b : ℕ) → set (sets buf at xs) (at + length xs) b ≡ sets buf at
    (xs ++ (b ∷ []))
sets_snoc buf at xs b = sym (sets_append buf at xs (b ∷ []))

-- what a buffer that has room then begins with
pub take_sets : (buf : List ℕ) (at : ℕ) (xs : List ℕ) → at + length xs ≤ length buf → take (at + length xs)
    (sets buf at xs) ≡ take at buf ++ xs
take_sets buf at xs h = rw (sets-eq xs buf at h)
    (take_at (take at buf ++ xs) (drop (at + length xs) buf) (at + length xs)
    (length-append (take at buf) xs ∙ rw (length-take-le at buf (omega arith)) refl))

pub ruleset text_laws = (reach_stops, reach_goes, reach_ends, put_past)
