-- A number read byte by byte, as the code does it. Assumes nothing.
use Rattle.std.specs.Prelude.{ℕ, ◌+◌, ◌-◌, ◌*◌, ◌<◌, ◌≤◌, Bool, true, false, ◌≡◌, List, [], ◌∷◌, leb, length, get_or, drop, None, Option, Some}
use Rattle.std.proofs.Math.Path.{refl, sym}
use Rattle.std.proofs.Common.{◌∙◌, add-one, arith, drop_of_length-le, drop-cons}
use borrow.Author.Tests.{lt-ltb, le-ltb, le-leb, lt-leb, leb-true, leb-false}
use Rattle.geometry.specs.Tests.{pick, ◌&◌, and_false, and_none, and_both}
use Rattle.text_decimals.specs.Decimals.{digit, all_digits, value, proper, largest, number_of}

-- the digits that are left, after others of value v
unfoldable pub number_from : ℕ → List ℕ → Option ℕ
number_from v [] = Some v
number_from v (b ∷ bs) = pick (digit b) (pick (leb (10 * v + (b - 48)) largest) (number_from (10 * v + (b - 48)) bs) None) None

digit_in : (b : ℕ) → 48 ≤ b → b ≤ 57 → digit b ≡ true
unfolding digit
digit_in b l h = and_both _ _ (le-leb 48 b l) (le-leb b 57 h)

digit_low : (b : ℕ) → b < 48 → digit b ≡ false
unfolding digit
digit_low b h = rw (lt-leb 48 b h) (and_false (leb b 57))

digit_high : (b : ℕ) → 57 < b → digit b ≡ false
unfolding digit
digit_high b h = rw (lt-leb b 57 h) (and_none (leb 48 b))

pub digits_start : (s : List ℕ) → number_from 0 s ≡ number_from 0 (drop 0 s)
digits_start s = refl

-- a turn of the loop
module _ (s : List ℕ) (v i : ℕ) (inv : number_from 0 s ≡ number_from v (drop i s)) where
  turn : i < length s → number_from 0 s
      ≡ pick (digit (get_or s i 0)) (pick (leb (10 * v + (get_or s i 0 - 48)) largest)
      (number_from (10 * v + (get_or s i 0 - 48)) (drop (i + 1) s)) None) None
  unfolding number_from
  turn h = inv ∙ rw (drop-cons s i 0 h, add-one) refl

  pub digits_low : (b : ℕ) → b ≡ get_or s i 0 → i < length s → b < 48 → None ≡ number_from 0 s
  digits_low b e h g = sym (turn h ∙ rw (← e, digit_low b g) refl)

  pub digits_high : (b : ℕ) → b ≡ get_or s i 0 → i < length s → 57 < b → None ≡ number_from 0 s
  digits_high b e h g = sym (turn h ∙ rw (← e, digit_high b g) refl)

  pub digits_large : (b : ℕ) → b ≡ get_or s i 0 → i < length s → 48 ≤ b → b ≤ 57 → largest < 10 * v + (b - 48)
      → None ≡ number_from 0 s
  digits_large b e h l m g = sym (turn h ∙ rw (← e, digit_in b l m, lt-leb (10 * v + (b - 48)) largest g) refl)

  pub digits_go : (b : ℕ) → b ≡ get_or s i 0 → i < length s → 48 ≤ b → b ≤ 57 → 10 * v + (b - 48) ≤ largest
      → number_from 0 s ≡ number_from (10 * v + (b - 48)) (drop (i + 1) s)
  digits_go b e h l m g = turn h ∙ rw (← e, digit_in b l m, le-leb (10 * v + (b - 48)) largest g) refl

  pub digits_end : length s ≤ i → Some v ≡ number_from 0 s
  unfolding number_from
  digits_end h = sym (inv ∙ rw (drop_of_length-le s h) refl)

-- ---- the whole number
value_more : (v : ℕ) (bs : List ℕ) → v ≤ value v bs
unfolding value
value_more v [] = omega arith
value_more v (b ∷ bs) = let h = value_more (10 * v + (b - 48)) bs in omega (arith, h)

from_is : (v : ℕ) (bs : List ℕ) → v ≤ largest → number_from v bs ≡ pick (all_digits bs & leb (value v bs) largest)
    (Some (value v bs)) None
unfolding number_from all_digits value ◌&◌
from_is v [] h = rw (le-leb v largest h) refl
from_is v (b ∷ bs) h = go (digit b) (leb (10 * v + (b - 48)) largest) refl (λ q. from_is (10 * v + (b - 48)) bs q)
  where
    go : (t u : Bool) → leb (10 * v + (b - 48)) largest ≡ u
        → (10 * v + (b - 48) ≤ largest → number_from (10 * v + (b - 48)) bs
        ≡ pick (all_digits bs & leb (value (10 * v + (b - 48)) bs) largest)
        (Some (value (10 * v + (b - 48)) bs)) None)
        → pick t (pick u (number_from (10 * v + (b - 48)) bs) None) None
        ≡ pick ((t & all_digits bs) & leb (value (10 * v + (b - 48)) bs) largest)
        (Some (value (10 * v + (b - 48)) bs)) None
    go true true e i = i (leb-true (10 * v + (b - 48)) largest e)
    go true false e i = rw (
      lt-leb (value (10 * v + (b - 48)) bs) largest
          (let w = value_more (10 * v + (b - 48)) bs in let z = leb-false (10 * v + (b - 48)) largest e in
          omega (arith, w, z)),
      and_none (all_digits bs),
    ) refl
    go false u e i = refl

whole : (s : List ℕ) (r : Option ℕ) → proper s ≡ true → r ≡ number_from 0 s → r ≡ number_of s
unfolding number_of ◌&◌
whole s r p e = e ∙ from_is 0 s (omega arith) ∙ rw p (go (all_digits s))
  where
    go : (t : Bool) → pick (t & leb (value 0 s) largest) (Some (value 0 s)) None
        ≡ pick (t & true & leb (value 0 s) largest) (Some (value 0 s)) None
    go true = refl
    go false = refl

improper : (s : List ℕ) → proper s ≡ false → None ≡ number_of s
unfolding number_of ◌&◌
improper s p = rw p (go (all_digits s))
  where
    go : (t : Bool) → None ≡ pick (t & false & leb (value 0 s) largest) (Some (value 0 s)) None
    go true = refl
    go false = refl

pub number_none : (s : List ℕ) → length s ≡ 0 → None ≡ number_of s
unfolding proper
number_none [] h = improper [] refl
number_none (b ∷ s) h = absurd (omega arith)

pub number_one : (s : List ℕ) (r : Option ℕ) → length s ≡ 1 → r ≡ number_from 0 s → r ≡ number_of s
unfolding proper
number_one [] r h e = absurd (omega arith)
number_one (b ∷ []) r h e = whole (b ∷ []) r refl e
number_one (b ∷ c ∷ s) r h e = absurd (omega arith)

pub number_zero : (s : List ℕ) (b : ℕ) → b ≡ get_or s 0 0 → (length s ≡ 0 → ⊥) → (length s ≡ 1 → ⊥) → b ≤ 48
    → None ≡ number_of s
unfolding proper
number_zero [] b e n h z = absurd (n refl)
number_zero (c ∷ []) b e n h z = absurd (h refl)
number_zero (c ∷ d ∷ s) b e n h z = improper (c ∷ d ∷ s) (le-ltb 48 c (omega (arith, e, z)))

pub number_more : (s : List ℕ) (r : Option ℕ) (b : ℕ) → b ≡ get_or s 0 0 → (length s ≡ 0 → ⊥) → (length s ≡ 1 → ⊥) → 48 < b
    → r ≡ number_from 0 s
    → r ≡ number_of s
unfolding proper
number_more [] r b e n m g i = absurd (n refl)
number_more (c ∷ []) r b e n m g i = absurd (m refl)
number_more (c ∷ d ∷ s) r b e n m g i = whole (c ∷ d ∷ s) r (lt-ltb 48 c (omega (arith, e, g))) i

pub ruleset reading_laws = (digits_start, digits_low, digits_high, digits_large, digits_go, digits_end, number_none, number_zero, number_one, number_more)
