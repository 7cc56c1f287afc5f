-- The walk that sets bits, in the form in which the code has the premises. Assumes nothing.
use Rattle.std.specs.Prelude.{ℕ, zero, suc, ◌+◌, ◌-◌, ◌*◌, ◌/◌, ◌%◌, ◌^◌, ◌<◌, ◌≤◌, min, Bool, ◌≡◌, List, [], ◌∷◌, length, get_or, set, take}
use Rattle.std.proofs.Math.Path.{refl, sym}
use Rattle.std.proofs.lemmas.List.{length-take-le, length-replicate, get_or-replicate, set-append_left, take-append-drop}
use Rattle.std.proofs.Common.{ap, ◌∙◌, ◌++◌, replicate, drop, length-set, ext_get_or, arith, mod-eq_of_lt, one-mul, lt-ltb, le-ltb}
use Rattle.std.specs.Int.Bits.{bit_or}
use Rattle.std.proofs.Math.Pow.{pow-lt}
use Rattle.geometry.specs.declared.Geometry.{Geometry}
use Rattle.geometry.specs.Bounds.{four_bytes}
use Rattle.model.specs.Bytes.{u32_at, node_place, node_at}
use Rattle.model.specs.Tree.{Place, places, places_of, live}
use Rattle.theory_counts.specs.Least.{by_lt}
use Rattle.chip_read.specs.Chip.{naming, chip_with}
use Rattle.live_walk.specs.Stops.{Steps, Walked, Going, leaves_at, walked_none, walked_out, walked_leaf, walked_end, walked_leaves, walked_root, going_turn, going_start, leaves_start, leaves_go, level_two}
use Rattle.live_words.specs.Words.{word_of, word, words_of, filled}
use Rattle.live_words.specs.Filled.{length_filled, filled_in, filled_past}
use Rattle.model.specs.Stores.{written}
use Rattle.live_tell.specs.Counts.{Counted, count_laws}
use Rattle.live_tell.specs.Telling.{mark_one, mark_all, nowhere, marked_live}

-- ---- one bit
pub one_bit : (j : ℕ) → j < 32 → 1 * 2 ^ j % four_bytes ≡ 2 ^ j
one_bit j h = rw one-mul (mod-eq_of_lt (pow-lt h))

pub bit_set : (w j r : ℕ) → r ≡ 2 ^ j → bit_or w r ≡ bit_or w (2 ^ j)
bit_set w j r e = rw e

module _ (m p at : ℕ) (words : List ℕ) (e : at ≡ p / 32) where
  pub mark_far : m ≤ at → words ≡ mark_one m words p
  unfolding mark_one
  mark_far h = sym (rw (le-ltb (p / 32) m (omega (arith, e, h))) refl)

  pub mark_in : (w : ℕ) → at < m → w ≡ bit_or (get_or words at 0) (2 ^ (p % 32)) → set words at w ≡ mark_one m words p
  unfolding mark_one
  mark_in w h f = sym (rw (lt-ltb (p / 32) m (omega (arith, e, h)), f, e) refl)

-- ---- the walk
module _ (m : ℕ) (g : Geometry) (img : List ℕ) where
  steps : Steps (mark_all m) (λ t p l. mark_one m t p)
  unfolding mark_all
  steps = record { none = λ t. refl; more = λ x xs t. refl }

  module _ (l p left : ℕ) (t : List ℕ) where
    pub marked_none : l ≡ 0 → Walked (mark_all m) g img l p left left t t
    marked_none = walked_none (mark_all m) (λ t p l. mark_one m t p) steps g img l p left t

    pub marked_out : left ≡ 0 → Walked (mark_all m) g img l p left 0 t t
    marked_out = walked_out (mark_all m) (λ t p l. mark_one m t p) steps g img l p left t

    pub marked_leaf : (u : List ℕ) → u ≡ mark_one m t p → l ≡ 1 → (left ≡ 0 → ⊥) → Walked (mark_all m) g img l p left
        (left - 1) t u
    marked_leaf = walked_leaf (mark_all m) (λ t p l. mark_one m t p) steps g img l p left t

    pub marked_end : (at n i left' : ℕ) (u w : List ℕ) → at ≡ node_place g p l → Counted g img p l n → u ≡ mark_one m t p
        → Going (mark_all m) g img l at n (left - 1) u i left' w → n ≤ i → (l ≡ 0 → ⊥) → (left ≡ 0 → ⊥)
        → Walked (mark_all m) g img l p left left' t w
    marked_end at n i left' u w ea c = walked_end (mark_all m) (λ t p l. mark_one m t p) steps g img l p left t at n i left' u w ea c.count

  pub marked_turn : (l at n left₀ : ℕ) (t₀ : List ℕ) (i left : ℕ) (t : List ℕ) (a r q : ℕ) (u : List ℕ)
      → Going (mark_all m) g img l at n left₀ t₀ i left t → a ≡ u32_at img (at + 8 * i + 4)
      → Walked (mark_all q) g img (l - 1) a left r t u → q ≡ m → i < n
      → Going (mark_all m) g img l at n left₀ t₀ (i + 1) r u
  marked_turn l at n left₀ t₀ i left t a r q u x ea y e =
      going_turn (mark_all m) (λ t p l. mark_one m t p) steps g img l at n left₀ t₀ i left t a r u x ea (rw e at y)

  pub marked_leaves : (p left at n k r q : ℕ) (t u w : List ℕ) → at ≡ node_place g p 2 → Counted g img p 2 n
      → u ≡ mark_one m t p
      → k ≡ min n (left - 1) → w ≡ mark_all q (leaves_at img at k) u → q ≡ m → r ≡ left - 1 - k → (left ≡ 0 → ⊥)
      → Walked (mark_all m) g img 2 p left r t w
  marked_leaves p left at n k r q t u w ea c eu ek ew e er more =
      rw er (walked_leaves (mark_all m) (λ t p l. mark_one m t p) steps g img p left at n k t u w ea c.count eu ek (rw e at ew) more)

  pub leaves_begin : (at : ℕ) (t : List ℕ) → t ≡ mark_all m (leaves_at img at 0) t
  leaves_begin = leaves_start (mark_all m) (λ t p l. mark_one m t p) steps img

  pub leaves_turn : (at : ℕ) (t : List ℕ) (i a q : ℕ) (u w : List ℕ) → u ≡ mark_all m (leaves_at img at i) t
      → a ≡ u32_at img (at + 8 * i + 4) → w ≡ mark_one q u a → q ≡ m
      → w ≡ mark_all m (leaves_at img at (i + 1)) t
  leaves_turn at t i a q u w eu ea ew e =
      leaves_go (mark_all m) (λ t p l. mark_one m t p) steps img at i a t u w eu ea (rw e at ew)

  pub leaves_end : (at : ℕ) (t : List ℕ) (i k : ℕ) (u : List ℕ) → u ≡ mark_all m (leaves_at img at i) t → i ≤ k → k ≤ i
      → u ≡ mark_all m (leaves_at img at k) t
  leaves_end at t i k u e h j = let z : i ≡ k = omega arith in rw (← z) e

pub mark_same : (m p : ℕ) (t u : List ℕ) → u ≡ mark_one m t p → length u ≡ length t
unfolding mark_one
mark_same m p t u e = by_lt (p / 32) m
    (λ h. rw (e, lt-ltb (p / 32) m h) (length-set t (p / 32) (bit_or (get_or t (p / 32) 0) (2 ^ (p % 32))))) (λ h. rw (e, le-ltb (p / 32) m h) refl)

all_same : (m : ℕ) (xs : List Place) (t : List ℕ) → length (mark_all m xs t) ≡ length t
unfolding mark_all
all_same m [] t = refl
all_same m (x ∷ xs) t = all_same m xs (mark_one m t x.page) ∙ mark_same m x.page t (mark_one m t x.page) refl

pub leaves_same : (m : ℕ) (xs : List Place) (t u : List ℕ) → u ≡ mark_all m xs t → length u ≡ length t
leaves_same m xs t u e = rw e (all_same m xs t)

pub marked_same : (m : ℕ) (g : Geometry) (img : List ℕ) (l p left r : ℕ) (t u : List ℕ)
    → Walked (mark_all m) g img l p left r t u → length u ≡ length t
marked_same m g img l p left r t u x = rw x.done (all_same m (take left (places (node_at g img) l (naming p))) t)

-- ---- cleared words
no_bits : (n at : ℕ) → word_of nowhere n at ≡ 0
unfolding word_of nowhere
no_bits zero at = refl
no_bits (suc n) at = rw (no_bits n (at + 1)) refl

all_clear : (words : List ℕ) → replicate (length words) 0 ≡ filled nowhere (length words) words
unfolding word
all_clear words =
    let k = length words in
    ext_get_or 0 (replicate k 0) (filled nowhere k words) (length-replicate {A = ℕ} k 0 ∙ sym (length_filled nowhere k words))
    (λ i h. each i (omega (arith, h, length-replicate {A = ℕ} k 0)))
  where
    each : (i : ℕ) → i < length words → get_or (replicate (length words) 0) i 0
        ≡ get_or (filled nowhere (length words) words) i 0
    each i h = get_or-replicate {A = ℕ} (length words) i 0 0 h
        ∙ sym (filled_in nowhere (length words) words i h h ∙ no_bits 32 (32 * i))

-- the first k words worked out, and others behind them
filled_front : (f : ℕ → Bool) (k : ℕ) (front back : List ℕ) → k ≤ length front
    → filled f k front ++ back ≡ filled f k (front ++ back)
unfolding filled written
filled_front f zero front back h = refl
filled_front f (suc k) front back h =
    sym (set-append_left (filled f k front) back (0 + k) (word f k) (omega (arith, h, length_filled f k front)))
    ∙ ap (λ (l : List ℕ). set l (0 + k) (word f k)) (filled_front f k front back (omega arith))

-- ---- no more words than are lent
filled_within : (f : ℕ → Bool) (m : ℕ) (old : List ℕ) → filled f (min m (length old)) old ≡ filled f m old
filled_within f m old =
    let k = min m (length old) in
    ext_get_or 0 (filled f k old) (filled f m old) (length_filled f k old
    ∙ sym (length_filled f m old)) (λ i h. each i (omega (arith, h, length_filled f k old)))
  where
    each : (i : ℕ) → i < length old → get_or (filled f (min m (length old)) old) i 0 ≡ get_or (filled f m old) i 0
    each i h = by_lt i m
        (λ b. filled_in f (min m (length old)) old i (omega arith) h ∙ sym (filled_in f m old i b h))
        (λ b. (filled_past f (min m (length old)) old).same i (omega arith) ∙ sym ((filled_past f m old).same i b))

-- ---- all of it
pub told : (g : Geometry) (img : List ℕ) (n l p w m r : ℕ) (old t u : List ℕ) → w ≡ words_of g n → m ≡ min w (length old)
    → t ≡ filled nowhere m old
    → Walked (mark_all m) g img (l + 1) p 8388608 r t u
    → u ≡ filled (live (take 8388608 (places_of (chip_with g img l p)))) (words_of g n) old
told g img n l p w m r old t u ew em et x =
    let xs = take 8388608 (places_of (chip_with g img l p)) in
    walked_root (mark_all m) g img l p 8388608 r t u x ∙ ap (mark_all m xs) et ∙ marked_live m xs old
    ∙ ap (λ (k : ℕ). filled (live xs) k old) em ∙ filled_within (live xs) w old
    ∙ ap (λ (k : ℕ). filled (live xs) k old) ew

-- the same of the slice of the first m lent words: z these cleared, u these once all pages are marked
pub told_front : (g : Geometry) (img : List ℕ) (n l p w m r : ℕ) (old z u : List ℕ) → w ≡ words_of g n
    → m ≡ min w (length old) → z ≡ replicate (length (take m old)) 0
    → Walked (mark_all (length z)) g img (l + 1) p 8388608 r z u
    → u ++ drop m old ≡ filled (live (take 8388608 (places_of (chip_with g img l p)))) (words_of g n) old
told_front g img n l p w m r old z u ew em ez x =
    let f = live (take 8388608 (places_of (chip_with g img l p))) in
    let front = take m old in
    let long : length front ≡ m = length-take-le m old (omega arith) in
    let some : m ≡ min w (length front) = omega arith in
    let clear : z ≡ filled nowhere m front =
    ez ∙ all_clear front ∙ ap (λ (q : ℕ). filled nowhere q front) long in
    let many : length z ≡ m = ap (λ (y : List ℕ). length y) ez ∙ length-replicate {A = ℕ} (length front) 0 ∙ long in
    let marked : u ≡ filled f m front =
    told g img n l p w m r front z u ew some clear (rw many at x)
    ∙ ap (λ (q : ℕ). filled f q front) (sym ew) ∙ sym (filled_within f w front)
    ∙ ap (λ (q : ℕ). filled f q front) (sym some) in
    ap (λ (y : List ℕ). y ++ drop m old) marked
    ∙ filled_front f m front (drop m old) (omega arith)
    ∙ ap (filled f m) (take-append-drop m old)
    ∙ ap (λ (q : ℕ). filled f q old) em ∙ filled_within f w old
    ∙ ap (λ (q : ℕ). filled f q old) ew

pub ruleset telling_laws = (going_start, level_two, count_laws, one_bit, bit_set, mark_far, mark_in, marked_none, marked_out, marked_leaf, marked_leaves, marked_end, marked_turn, leaves_begin, leaves_turn, leaves_end, leaves_same, mark_same, marked_same, told_front)
