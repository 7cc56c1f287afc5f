-- Request 1's proofs on maps and buffers: the part of a map between two keys, and a buffer filled with it. Assumes
-- nothing.
use Rattle.std.proofs.Math.Path.{◌≡◌, refl, ap}
use Rattle.std.proofs.Common.{◌∙◌, arith, length-take, get_or-take}
use mathlib.Core.List.{List, [], ◌∷◌, ◌++◌}
use Rattle.std.specs.Prelude.{Bool, ℕ, zero, suc, ◌+◌, ◌-◌, ◌*◌, ◌<◌, ◌≤◌, take, None, Option, Some}
use Rattle.std.proofs.Math.Bool.{true, false}
use Rattle.std.proofs.Math.Dec.{eqb, leb}
use Rattle.std.proofs.Math.ListN.{length, drop, get_or, length-append, length-drop, get_or-append}
use Rattle.std.proofs.Math.Seq.{get_or-drop, get_or-append-add}
use borrow.Author.Tests.{lt-leb, leb-true, eqb-true}
use Rattle.geometry.specs.declared.Entry.{Entry}
use Rattle.geometry.specs.Tests.{pick, ◌&◌}
use Rattle.model.specs.Tree.{following, entry_of, find}
use Rattle.model.specs.Listing.{between, as_numbers, written_of, filled}
use Rattle.theory_demands.specs.Words.{Rising}

-- ---- the part of a map
module _ (low high : ℕ) where
  -- keys rise in it as in the map
  next_between : (k hi : ℕ) (es : List Entry) → k < following es hi → Rising hi es → k < following (between low high es) hi
  unfolding between
  next_between k hi [] h up = h
  next_between k hi (e ∷ es) h up = go (leb low e.key & leb e.key high) (next_between k hi es (omega (arith, h, up.0)) up.1)
    where
      go : (t : Bool) → k < following (between low high es) hi
          → k < following (pick t (e ∷ between low high es) (between low high es)) hi
      go true i = h
      go false i = i

  pub between_rising : (hi : ℕ) (es : List Entry) → Rising hi es → Rising hi (between low high es)
  unfolding between
  between_rising hi [] up = tt
  between_rising hi (e ∷ es) up =
      go (leb low e.key & leb e.key high) (next_between e.key hi es up.0 up.1) (between_rising hi es up.1)
    where
      go : (t : Bool) → e.key < following (between low high es) hi → Rising hi (between low high es)
          → Rising hi (pick t (e ∷ between low high es) (between low high es))
      go true h i = (h, i)
      go false h i = i

  -- a key between is found in it as in the map, no other is
  pub between_finds : (k : ℕ) (es : List Entry) → find k (between low high es) ≡ pick (leb low k & leb k high)
      (find k es) None
  unfolding between find
  between_finds k [] = go (leb low k & leb k high)
    where
      go : (t : Bool) → ◌≡◌ {A = Option ℕ} None (pick t None None)
      go true = refl
      go false = refl
  between_finds k (e ∷ es) = go (eqb e.key k) (leb low e.key & leb e.key high) refl refl (between_finds k es)
    where
      go : (t u : Bool) → eqb e.key k ≡ t → (leb low e.key & leb e.key high) ≡ u → find k (between low high es)
          ≡ pick (leb low k & leb k high) (find k es) None
          → find k (pick u (e ∷ between low high es) (between low high es)) ≡ pick (leb low k & leb k high)
          (pick (eqb e.key k) (Some e.addr) (find k es)) None
      go true true x y i = let w = eqb-true e.key k x in rw (x, ← w, y) refl
      go true false x y i = let w = eqb-true e.key k x in i ∙ rw (← w, y) refl
      go false true x y i = rw x i
      go false false x y i = rw x i

  -- "Low above high gives zero pairs"
  pub between_none : (es : List Entry) → high < low → between low high es ≡ []
  unfolding between ◌&◌
  between_none [] h = refl
  between_none (e ∷ es) h = go (leb low e.key) refl (between_none es h)
    where
      go : (t : Bool) → leb low e.key ≡ t → between low high es ≡ [] → pick (t & leb e.key high)
          (e ∷ between low high es) (between low high es) ≡ []
      go true x i = rw (lt-leb e.key high (let w = leb-true low e.key x in omega (arith, w, h))) i
      go false x i = i

-- ---- a filled buffer
numbers_length : (es : List Entry) → length (as_numbers es) ≡ 2 * length es
unfolding as_numbers
numbers_length [] = refl
numbers_length (e ∷ es) = let i = numbers_length es in omega (arith, i)

numbers_key : (es : List Entry) (i : ℕ) → i < length es → get_or (as_numbers es) (2 * i) 0 ≡ (entry_of es i).key
unfolding as_numbers
numbers_key [] i h = absurd (omega arith)
numbers_key (e ∷ es) zero h = refl
numbers_key (e ∷ es) (suc i) h = let q : 2 * suc i ≡ suc (suc (2 * i)) = omega arith in
    rw q (numbers_key es i (omega arith))

numbers_address : (es : List Entry) (i : ℕ) → i < length es → get_or (as_numbers es) (2 * i + 1) 0 ≡ (entry_of es i).addr
unfolding as_numbers
numbers_address [] i h = absurd (omega arith)
numbers_address (e ∷ es) zero h = refl
numbers_address (e ∷ es) (suc i) h = let q : 2 * suc i + 1 ≡ suc (suc (2 * i + 1)) = omega arith in
    rw q (numbers_address es i (omega arith))

module _ (es : List Entry) (buffer : List ℕ) where
  abbrev first : List Entry
  first = take (written_of es buffer) es

  few : length first ≡ written_of es buffer
  few = length-take (written_of es buffer) es ∙ (omega arith)

  front : length (as_numbers first) ≡ 2 * written_of es buffer
  front = numbers_length first ∙ ap (λ (m : ℕ). 2 * m) few

  -- as long as before
  pub filled_length : length (filled es buffer) ≡ length buffer
  unfolding filled
  filled_length = length-append (as_numbers first) (drop (2 * written_of es buffer) buffer)
      ∙ (let a = front in let b = length-drop (2 * written_of es buffer) buffer in omega (arith, a, b))

  -- pair i at numbers 2i and 2i + 1
  pub filled_key : (i : ℕ) → i < written_of es buffer → get_or (filled es buffer) (2 * i) 0 ≡ (entry_of es i).key
  unfolding filled
  filled_key i h =
      get_or-append (as_numbers first) (drop (2 * written_of es buffer) buffer) 0 (2 * i) (let a = front in
      omega (arith, a, h))
      ∙ numbers_key first i (let a = few in omega (arith, a, h))
      ∙ ap (λ (e : Entry). e.key) (get_or-take (written_of es buffer) es i (record { key = 0; addr = 0 }) h)

  pub filled_address : (i : ℕ) → i < written_of es buffer → get_or (filled es buffer) (2 * i + 1) 0 ≡ (entry_of es i).addr
  unfolding filled
  filled_address i h =
      get_or-append (as_numbers first) (drop (2 * written_of es buffer) buffer) 0 (2 * i + 1) (let a = front in
      omega (arith, a, h))
      ∙ numbers_address first i (let a = few in omega (arith, a, h))
      ∙ ap (λ (e : Entry). e.addr) (get_or-take (written_of es buffer) es i (record { key = 0; addr = 0 }) h)

  -- "numbers beyond those stay as they were"
  pub filled_beyond : (j : ℕ) → 2 * written_of es buffer ≤ j → get_or (filled es buffer) j 0 ≡ get_or buffer j 0
  unfolding filled
  filled_beyond j h =
      let w = 2 * written_of es buffer in
      let q : j ≡ length (as_numbers first) + (j - w) = (let a = front in omega (arith, a, h)) in
      let z : w + (j - w) ≡ j = omega (arith, h) in
      ap (λ (m : ℕ). get_or (as_numbers first ++ drop w buffer) m 0) q
      ∙ get_or-append-add (as_numbers first) (drop w buffer) (j - w) 0
      ∙ get_or-drop w buffer (j - w) 0 ∙ ap (λ (m : ℕ). get_or buffer m 0) z
