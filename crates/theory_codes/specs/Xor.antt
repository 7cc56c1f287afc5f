-- The algebra of exclusive or. Assumes nothing.
use Rattle.std.specs.Prelude.{◌≡◌, refl, Bool, true, false, not, ℕ, zero, suc, ◌+◌, ◌-◌, ◌*◌, ◌/◌, ◌%◌, ◌^◌, ◌<◌, eqb}
use Rattle.std.proofs.Common.{sym, ap, ap₂, ◌∙◌, mod-lt, mod-eq_of_lt, arith, lit<}
use Rattle.std.proofs.Math.Arith.{bin_ind}
use Rattle.model.specs.Codes.{◌⊕◌, odd}
use Rattle.std.specs.Int.Bits.{bit_xor, bit_and, differ, xor_step, xor_self, xor_zero_r, xor_add_and, xor_shifted}
use Rattle.std.proofs.lemmas.Nat.{xor_shr, xor_comm, xor_lt, xor_block, and_mask}

-- exactly one of two
abbrev pub differs : Bool → Bool → Bool
differs true b = not b
differs false b = b

pub xor_is : (a b : ℕ) → bit_xor a b ≡ a ⊕ b
unfolding ◌⊕◌
xor_is a b = refl

pub comm : (a b : ℕ) → a ⊕ b ≡ b ⊕ a
unfolding ◌⊕◌
comm a b = xor_comm a b

pub self : (a : ℕ) → a ⊕ a ≡ 0
unfolding ◌⊕◌
self a = xor_self a

pub none_left_lem : (a : ℕ) → 0 ⊕ a ≡ a
unfolding ◌⊕◌
none_left_lem a = refl

pub none_right : (a : ℕ) → a ⊕ 0 ≡ a
unfolding ◌⊕◌
none_right a = xor_zero_r a

pub below : (k a b : ℕ) → a < 2 ^ k → b < 2 ^ k → a ⊕ b < 2 ^ k
unfolding ◌⊕◌
below k a b = xor_lt k a b

pub block : (k a b r s : ℕ) → r < 2 ^ k → s < 2 ^ k → (a * 2 ^ k + r) ⊕ (b * 2 ^ k + s) ≡ (a ⊕ b) * 2 ^ k + (r ⊕ s)
unfolding ◌⊕◌
block k a b r s = xor_block k a b r s

pub shifted : (a k b : ℕ) → b < 2 ^ k → (a * 2 ^ k) ⊕ b ≡ a * 2 ^ k + b
unfolding ◌⊕◌
shifted a k b = xor_shifted a k b

pub cut : (a b k : ℕ) → (a ⊕ b) / 2 ^ k ≡ (a / 2 ^ k) ⊕ (b / 2 ^ k)
unfolding ◌⊕◌
cut a b k = xor_shr a b k

pub halved : (a b : ℕ) → a ⊕ b ≡ ((a / 2) ⊕ (b / 2)) * 2 + differ (a % 2) (b % 2)
unfolding ◌⊕◌
halved a b = xor_step a b

digit_lt : (x y : ℕ) → x < 2 → y < 2 → differ x y < 2
digit_lt zero y h k = k
digit_lt (suc zero) zero h k = lit< tt
digit_lt (suc zero) (suc zero) h k = lit< tt
digit_lt (suc zero) (suc (suc y)) h k = absurd (omega arith)
digit_lt (suc (suc x)) y h k = absurd (omega arith)

digit_assoc : (x y z : ℕ) → x < 2 → y < 2 → z < 2 → differ (differ x y) z ≡ differ x (differ y z)
digit_assoc zero y z h k l = refl
digit_assoc (suc zero) zero z h k l = refl
digit_assoc (suc zero) (suc zero) zero h k l = refl
digit_assoc (suc zero) (suc zero) (suc zero) h k l = refl
digit_assoc (suc zero) (suc zero) (suc (suc z)) h k l = absurd (omega arith)
digit_assoc (suc zero) (suc (suc y)) z h k l = absurd (omega arith)
digit_assoc (suc (suc x)) y z h k l = absurd (omega arith)

low_bit : (a b : ℕ) → (a ⊕ b) % 2 ≡ differ (a % 2) (b % 2)
low_bit a b =
    let h : differ (a % 2) (b % 2) < 2 = digit_lt (a % 2) (b % 2) (mod-lt a (lit< tt)) (mod-lt b (lit< tt)) in
    rw halved (omega arith)

pub assoc : (a b c : ℕ) → (a ⊕ b) ⊕ c ≡ a ⊕ (b ⊕ c)
assoc a = bin_ind (λ (n : ℕ). (b c : ℕ) → (n ⊕ b) ⊕ c ≡ n ⊕ (b ⊕ c))
    (λ b c. rw (none_left_lem b, none_left_lem (b ⊕ c)))
    (λ n ih b c.
    halved (n ⊕ b) c
    ∙ ap₂ (λ (x y : ℕ). (x ⊕ (c / 2)) * 2 + differ y (c % 2)) (cut n b 1) (low_bit n b)
    ∙ ap₂ (λ (x y : ℕ). x * 2 + y) (ih (b / 2) (c / 2)) (digit_assoc (n % 2) (b % 2) (c % 2) (mod-lt n (lit< tt)) (mod-lt b (lit< tt)) (mod-lt c (lit< tt)))
    ∙ sym (halved n (b ⊕ c) ∙ ap₂ (λ (x y : ℕ). ((n / 2) ⊕ x) * 2 + differ (n % 2) y) (cut b c 1) (low_bit b c)))
    a

-- twice is never
pub cancel : (a b : ℕ) → a ⊕ (a ⊕ b) ≡ b
cancel a b = sym (assoc a a b) ∙ rw (self a, none_left_lem b)

-- the middle two of four, or the last two of three, change places
pub swap : (a b c : ℕ) → (a ⊕ b) ⊕ c ≡ (a ⊕ c) ⊕ b
swap a b c = assoc a b c ∙ rw (comm b c) (sym (assoc a c b))

pub four : (a b c d : ℕ) → (a ⊕ b) ⊕ (c ⊕ d) ≡ (a ⊕ c) ⊕ (b ⊕ d)
four a b c d = sym (assoc (a ⊕ b) c d) ∙ ap (λ (x : ℕ). x ⊕ d) (swap a b c) ∙ assoc (a ⊕ c) b d

-- all k bits inverted
pub inverted : (k a : ℕ) → a < 2 ^ k → (2 ^ k - 1) - a ≡ a ⊕ (2 ^ k - 1)
unfolding ◌⊕◌
inverted k a h =
    let e : bit_xor a (2 ^ k - 1) + bit_and a (2 ^ k - 1) * 2 ≡ a + (2 ^ k - 1) = xor_add_and a (2 ^ k - 1) in
    let f : bit_and a (2 ^ k - 1) ≡ a = and_mask a k ∙ mod-eq_of_lt h in
    omega arith

odd_digits : (x y : ℕ) → x < 2 → y < 2 → eqb (differ x y) 1 ≡ differs (eqb x 1) (eqb y 1)
odd_digits zero y h k = refl
odd_digits (suc zero) zero h k = refl
odd_digits (suc zero) (suc zero) h k = refl
odd_digits (suc zero) (suc (suc y)) h k = absurd (omega arith)
odd_digits (suc (suc x)) y h k = absurd (omega arith)

pub odd_xor : (a b : ℕ) → odd (a ⊕ b) ≡ differs (odd a) (odd b)
odd_xor a b = ap (λ (x : ℕ). eqb x 1) (low_bit a b)
    ∙ odd_digits (a % 2) (b % 2) (mod-lt a (lit< tt)) (mod-lt b (lit< tt))
