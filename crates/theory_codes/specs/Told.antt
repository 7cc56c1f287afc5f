-- What the patrol tells of each difference that one or two flipped bits leave. Assumes nothing.
use Rattle.std.specs.Prelude.{◌≡◌, refl, Bool, true, false, ℕ, zero, suc, ◌+◌, ◌-◌, ◌*◌, ◌/◌, ◌%◌, ◌^◌, ◌<◌, ◌≤◌, T, eqb, replicate}
use Rattle.std.proofs.Common.{sym, ap, ◌∙◌, pow-suc, suc-add, mod-eq_of_lt, mod-lt, arith, lit<, eqb→eq, pow_pos, eq-eqb, ne_eqb}
use Rattle.std.proofs.Math.Nat.{div-eq_of_lt}
use Rattle.std.proofs.Math.Decide.{ℕ_discrete}
use Rattle.std.proofs.Math.Arith.{lt-one}
use Rattle.std.proofs.Math.Pow as powers
use Rattle.std.specs.Int.Bits.{differ}
use Rattle.std.specs.Int.Count.{ones_in, count_trailing_zeros, under, ones, ones_step}
use Rattle.std.proofs.lemmas.Nat.{ones_cat}
use Rattle.geometry.specs.Tests.{◌&◌, and_true, and_false, and_none}
use Rattle.geometry.specs.Table.{at}
use Rattle.model.specs.Codes.{◌⊕◌, one_of_each, in_pairs, diagnosis}
use Rattle.theory_codes.specs.Xor.{none_left_lem, halved}
use Rattle.geometry.specs.declared.Patrol.{Patrol}
use Rattle.geometry.specs.declared.Patrol.TheVariants.{Clean, DataMended, CodeMended, Beyond}

pub told_clean : diagnosis 0 ≡ Clean
unfolding diagnosis
told_clean = refl

each_more : (k n p : ℕ) → n < p * 2 → one_of_each k (n / 2) ((p - 1) - n / 2) ≡ true → one_of_each (suc k) n
    ((p * 2 - 1) - n) ≡ true
unfolding one_of_each
each_more k n p l rest =
    let one : n % 2 + ((p * 2 - 1) - n) % 2 ≡ 1 = omega arith in
    let half : ((p * 2 - 1) - n) / 2 ≡ (p - 1) - n / 2 = omega arith in
    rw (eq-eqb (n % 2 + ((p * 2 - 1) - n) % 2) 1 one, half, rest) (and_true true)

-- a number and the number inverted differ in every bit
pub each : (k n : ℕ) → n < 2 ^ k → one_of_each k n ((2 ^ k - 1) - n) ≡ true
unfolding one_of_each
each zero n h = refl
each (suc k) n h =
    let l : n < 2 ^ k * 2 = rw pow-suc at h in
    rw pow-suc (each_more k n (2 ^ k) l (each k (n / 2) (omega arith)))

pub told_data : (n : ℕ) → n < 2048 → diagnosis ((2047 - n) * 2048 + n) ≡ DataMended n
unfolding diagnosis in_pairs
told_data n h =
    let some : eqb ((2047 - n) * 2048 + n) 0 ≡ false = ne_eqb ((2047 - n) * 2048 + n) 0 (λ e. omega arith) in
    let low : ((2047 - n) * 2048 + n) % 2048 ≡ n = powers.low (2047 - n) 11 h in
    let high : ((2047 - n) * 2048 + n) / 2048 ≡ 2047 - n = powers.high (2047 - n) 11 h in
    let whole : (2047 - n) % 2048 ≡ 2047 - n = mod-eq_of_lt (omega arith) in
    let top : ((2047 - n) * 2048 + n) / 4194304 ≡ 0 = div-eq_of_lt (omega arith) in
    rw (some, low, high, whole, top, each 11 n h, and_true)

-- two equal numbers differ in no bit
pub none_each : (k x : ℕ) → one_of_each (suc k) x x ≡ false
unfolding one_of_each
none_each k x =
    let two : eqb (x % 2 + x % 2) 1 ≡ false = ne_eqb (x % 2 + x % 2) 1 (λ e. omega arith) in
    rw two (and_false _)

no_ones : ones 0 ≡ 0
unfolding ones ones_in
no_ones = refl

pub count_ones : (k n : ℕ) → n < 2 ^ k → ones_in k n ≡ ones n
unfolding ones_in
count_ones zero n h = sym (ap ones (lt-one h) ∙ no_ones)
count_ones (suc k) n h =
    let l : n < 2 ^ k * 2 = rw pow-suc at h in
    ap (λ (x : ℕ). n % 2 + x) (count_ones k (n / 2) (omega arith)) ∙ sym (ones_step n)

twice_not_one : (m : ℕ) → eqb (m + m) 1 ≡ false
twice_not_one m = ne_eqb (m + m) 1 (λ e. omega arith)

pub told_two : (x : ℕ) → (x ≡ 0 → ⊥) → x < 2048 → diagnosis (x * 2048 + x) ≡ Beyond
unfolding diagnosis in_pairs
told_two x o h =
    let some : eqb (x * 2048 + x) 0 ≡ false = ne_eqb (x * 2048 + x) 0 (λ e. o (omega arith)) in
    let low : (x * 2048 + x) % 2048 ≡ x = powers.low x 11 h in
    let high : (x * 2048 + x) / 2048 ≡ x = powers.high x 11 h in
    let whole : x % 2048 ≡ x = mod-eq_of_lt h in
    let counted : ones_in 24 (x * 2048 + x) ≡ ones x + ones x = count_ones 24 (x * 2048 + x) (omega arith)
    ∙ ones_cat 11 x x h in
    let many : eqb (ones x + ones x) 1 ≡ false = twice_not_one (ones x) in
    rw (some, low, high, whole, none_each 10 x, and_false, counted, many)

is_code : ℕ → Patrol → Bool
is_code j Clean = false
is_code j (DataMended n) = false
is_code j (CodeMended i) = eqb i j
is_code j Beyond = false

is_code_lem : (j : ℕ) (p : Patrol) → T (is_code j p) → p ≡ CodeMended j
unfolding is_code
is_code_lem j Clean t = absurd t
is_code_lem j (DataMended n) t = absurd t
is_code_lem j (CodeMended i) t = ap CodeMended (eqb→eq i j t)
is_code_lem j Beyond t = absurd t

-- each of the 24 bits, computed
pub told_code : (j : ℕ) → j < 24 → diagnosis (2 ^ j) ≡ CodeMended j
unfolding diagnosis in_pairs is_code one_of_each ◌&◌ ones_in count_trailing_zeros
told_code j h = is_code_lem j _ (at (λ (m x : ℕ). is_code m (diagnosis (2 ^ m))) (replicate 24 0) tt j h)

under_same : (r a b : ℕ) → (r ≡ 0 → a ≡ b) → under r a ≡ under r b
under_same zero a b e = ap suc (e refl)
under_same (suc r) a b e = refl

-- the lowest set bit of a number of k bits, in a wider number
pub trailing_more : (k m n : ℕ) → (n ≡ 0 → ⊥) → n < 2 ^ k → count_trailing_zeros (k + m) n ≡ count_trailing_zeros k n
unfolding count_trailing_zeros
trailing_more zero m n o h = absurd (o (lt-one h))
trailing_more (suc k) m n o h =
    let l : n < 2 ^ k * 2 = rw pow-suc at h in
    rw suc-add (under_same (n % 2) (count_trailing_zeros (k + m) (n / 2)) (count_trailing_zeros k (n / 2)) (λ e. trailing_more k m
    (n / 2) (λ z. o (omega arith)) (omega arith)))

-- ---- the pairs, by exclusive or

top_bit : (q p : ℕ) → 0 < p → eqb q (p - 1) ≡ eqb (q * 2 + 1) (p * 2 - 1)
top_bit q p h = elim (ℕ_discrete q (p - 1)) [
  | yes e ↦ eq-eqb q (p - 1) e ∙ sym (eq-eqb (q * 2 + 1) (p * 2 - 1) (omega arith))
  | no e ↦ ne_eqb q (p - 1) e ∙ sym (ne_eqb (q * 2 + 1) (p * 2 - 1) (λ f. e (omega arith)))
]

on : (a : Bool) → (a & true) ≡ a
unfolding ◌&◌
on true = refl
on false = refl

digits_each : (x y q p : ℕ) → x < 2 → y < 2 → 0 < p → (eqb (x + y) 1 & eqb q (p - 1)) ≡ eqb (q * 2 + differ x y)
    (p * 2 - 1)
digits_each zero zero q p h k l = and_false (eqb q (p - 1)) ∙ sym (ne_eqb (q * 2 + 0) (p * 2 - 1) (λ e. omega arith))
digits_each zero (suc zero) q p h k l = and_true (eqb q (p - 1)) ∙ top_bit q p l
digits_each zero (suc (suc y)) q p h k l = absurd (omega arith)
digits_each (suc zero) zero q p h k l = and_true (eqb q (p - 1)) ∙ top_bit q p l
digits_each (suc zero) (suc zero) q p h k l =
    and_false (eqb q (p - 1)) ∙ sym (ne_eqb (q * 2 + 0) (p * 2 - 1) (λ e. omega arith))
digits_each (suc zero) (suc (suc y)) q p h k l = absurd (omega arith)
digits_each (suc (suc x)) y q p h k l = absurd (omega arith)

pub each_is : (k a b : ℕ) → a < 2 ^ k → b < 2 ^ k → one_of_each k a b ≡ eqb (a ⊕ b) (2 ^ k - 1)
unfolding one_of_each
each_is zero a b h l = rw (lt-one h, lt-one l, none_left_lem)
each_is (suc k) a b h l =
    let i : a < 2 ^ k * 2 = rw pow-suc at h in
    let j : b < 2 ^ k * 2 = rw pow-suc at l in
    rw (each_is k (a / 2) (b / 2) (omega arith) (omega arith), pow-suc, halved a b)
    (digits_each (a % 2) (b % 2) ((a / 2) ⊕ (b / 2)) (2 ^ k) (mod-lt a (lit< tt)) (mod-lt b (lit< tt)) (pow_pos k))

pub pairs_off : (d : ℕ) → 4194304 ≤ d → false ≡ in_pairs d
unfolding in_pairs
pairs_off d h =
    let top : eqb (d / 4194304) 0 ≡ false = ne_eqb (d / 4194304) 0 (λ e. omega arith) in
    rw top (sym (and_none (one_of_each 11 (d % 2048) (d / 2048 % 2048))))

pub pairs_on : (d : ℕ) → d < 4194304 → eqb ((d % 2048) ⊕ (d / 2048 % 2048)) 2047 ≡ in_pairs d
unfolding in_pairs
pairs_on d h =
    let top : eqb (d / 4194304) 0 ≡ true = eq-eqb (d / 4194304) 0 (div-eq_of_lt h) in
    rw (top, each_is 11 (d % 2048) (d / 2048 % 2048) (mod-lt d (lit< tt)) (mod-lt (d / 2048) (lit< tt))) (sym (on (eqb ((d % 2048) ⊕ (d / 2048 % 2048)) 2047)))
