-- The numbers of set bits, row by row: a row of 2 ^ p bits is one number. Assumes nothing.
use Rattle.std.specs.Prelude.{◌≡◌, refl, Bool, true, false, ℕ, zero, suc, ◌+◌, ◌*◌, ◌/◌, ◌%◌, ◌^◌, ◌<◌, eqb}
use Rattle.std.proofs.Common.{sym, ◌∙◌, add-zero, mul-zero, mul_comm, mod-lt, arith, lit<, pow_pos}
use Rattle.std.proofs.Math.Path.{ap, ap₂}
use Rattle.std.proofs.Math.Nat.{mod-one, zero-div}
use Rattle.std.proofs.lemmas.Nat.{mod-pow-add, ones_cat}
use Rattle.std.specs.Int.Count.{ones, ones_in}
use Rattle.geometry.specs.Tests.{pick}
use Rattle.model.specs.Codes.{◌⊕◌, odd, xor_below}
use Rattle.theory_codes.specs.Xor.{differs, self, none_left_lem, none_right, block, shifted, cut, odd_xor}
use Rattle.theory_codes.specs.Below.{xor_same, xor_both, xor_rows}

-- bit j of w
abbrev pub bit_of : ℕ → ℕ → Bool
bit_of w j = odd (w / 2 ^ j)

-- an odd number of the tests below k pass
unfoldable pub odd_below : (ℕ → Bool) → ℕ → Bool
odd_below s zero = false
odd_below s (suc k) = differs (s k) (odd_below s k)

-- the exclusive or of f j over the set bits j of w, of k bits
unfoldable pub over_bits : (ℕ → ℕ) → ℕ → ℕ → ℕ
over_bits f k w = xor_below (λ j. pick (bit_of w j) (f j) 0) k

pub pick_differs : (a b : Bool) (x : ℕ) → pick (differs a b) x 0 ≡ pick a x 0 ⊕ pick b x 0
pick_differs true true x = sym (self x)
pick_differs true false x = sym (none_right x)
pick_differs false true x = sym (none_left_lem x)
pick_differs false false x = sym (none_left_lem 0)

-- one number for all
pub xor_const : (s : ℕ → Bool) (x k : ℕ) → xor_below (λ n. pick (s n) x 0) k ≡ pick (odd_below s k) x 0
unfolding xor_below odd_below
xor_const s x zero = refl
xor_const s x (suc k) = rw (xor_const s x k) (sym (pick_differs (s k) (odd_below s k) x))

-- the bits of w turn over where those of v are set
pub over_xor : (f : ℕ → ℕ) (k v w : ℕ) → over_bits f k (v ⊕ w) ≡ over_bits f k v ⊕ over_bits f k w
unfolding over_bits
over_xor f k v w =
    xor_same (λ j. pick (bit_of (v ⊕ w) j) (f j) 0) (λ j. pick (bit_of v j) (f j) 0 ⊕ pick (bit_of w j) (f j) 0) k
    (λ j h. ap (λ (b : Bool). pick b (f j) 0) (ap odd (cut v w j) ∙ odd_xor (v / 2 ^ j) (w / 2 ^ j))
    ∙ pick_differs (bit_of v j) (bit_of w j) (f j))
    ∙ xor_both (λ j. pick (bit_of v j) (f j) 0) (λ j. pick (bit_of w j) (f j) 0) k

zero_bit : (j : ℕ) → bit_of 0 j ≡ false
zero_bit j = ap odd (zero-div (2 ^ j))

pub xor_zeros : (k : ℕ) → xor_below (λ j. 0) k ≡ 0
unfolding xor_below
xor_zeros zero = refl
xor_zeros (suc k) = rw (xor_zeros k) (none_left_lem 0)

pub over_none : (f : ℕ → ℕ) (k : ℕ) → over_bits f k 0 ≡ 0
unfolding over_bits
over_none f k =
    xor_same (λ j. pick (bit_of 0 j) (f j) 0) (λ j. pick false (f j) 0) k (λ j h. ap (λ (b : Bool). pick b (f j) 0) (zero_bit j))
    ∙ xor_zeros k

-- all rows in one
pub columns : (f : ℕ → ℕ) (w : ℕ) (row : ℕ → ℕ) (k : ℕ) → xor_below (λ i. over_bits f w (row i)) k ≡ over_bits f w
    (xor_below row k)
unfolding xor_below
columns f w row zero = sym (over_none f w)
columns f w row (suc k) = rw (columns f w row k) (sym (over_xor f w (row k) (xor_below row k)))

-- 2 ^ p times
pick_times : (b : Bool) (x y : ℕ) → pick b (x * y) 0 ≡ x * pick b y 0
pick_times true x y = refl
pick_times false x y = sym (mul-zero x)

times_xor : (p a b : ℕ) → 2 ^ p * a ⊕ 2 ^ p * b ≡ 2 ^ p * (a ⊕ b)
times_xor p a b =
    let e : (a * 2 ^ p + 0) ⊕ (b * 2 ^ p + 0) ≡ (a ⊕ b) * 2 ^ p + (0 ⊕ 0) = block p a b 0 0 (pow_pos p) (pow_pos p) in
    ap₂ ◌⊕◌ (mul_comm (2 ^ p) a ∙ sym (add-zero (a * 2 ^ p))) (mul_comm (2 ^ p) b ∙ sym (add-zero (b * 2 ^ p)))
    ∙ e ∙ rw (none_left_lem 0, add-zero) (mul_comm (a ⊕ b) (2 ^ p))

pub xor_times : (p : ℕ) (s : ℕ → Bool) (k : ℕ) → xor_below (λ i. pick (s i) (2 ^ p * i) 0) k
    ≡ 2 ^ p * xor_below (λ i. pick (s i) i 0) k
unfolding xor_below
xor_times p s zero = sym (mul-zero (2 ^ p))
xor_times p s (suc k) =
    rw (xor_times p s k, pick_times (s k) (2 ^ p) k) (times_xor p (pick (s k) k 0) (xor_below (λ i. pick (s i) i 0) k))

pub pick_split : (b : Bool) (p i j : ℕ) → j < 2 ^ p → pick b (2 ^ p * i + j) 0 ≡ pick b (2 ^ p * i) 0 ⊕ pick b j 0
pick_split true p i j h = rw (mul_comm (2 ^ p) i) (sym (shifted i p j h))
pick_split false p i j h = sym (none_left_lem 0)

-- k rows of 2 ^ p bits
module _ (p : ℕ) (s : ℕ → Bool) (row : ℕ → ℕ) (k : ℕ) (rows : (i j : ℕ) → i < k → j < 2 ^ p
    → s (2 ^ p * i + j) ≡ bit_of (row i) j) where
  -- the numbers of all set bits
  pub row_numbers : xor_below (λ n. pick (s n) n 0) (2 ^ p * k)
      ≡ 2 ^ p * xor_below (λ i. pick (odd_below (bit_of (row i)) (2 ^ p)) i 0) k ⊕ over_bits (λ j. j) (2 ^ p)
      (xor_below row k)
  unfolding over_bits
  row_numbers =
      xor_rows (2 ^ p) (λ n. pick (s n) n 0) k
      ∙ xor_same (λ i. xor_below (λ j. pick (s (2 ^ p * i + j)) (2 ^ p * i + j) 0) (2 ^ p))
      (λ i. pick (odd_below (bit_of (row i)) (2 ^ p)) (2 ^ p * i) 0 ⊕ over_bits (λ j. j) (2 ^ p) (row i)) k
      (λ i h.
      xor_same (λ j. pick (s (2 ^ p * i + j)) (2 ^ p * i + j) 0) (λ j. pick (bit_of (row i) j) (2 ^ p * i) 0 ⊕ pick (bit_of (row i) j) j 0) (2 ^ p)
      (λ j l. ap (λ (b : Bool). pick b (2 ^ p * i + j) 0) (rows i j h l) ∙ pick_split (bit_of (row i) j) p i j l)
      ∙ xor_both (λ j. pick (bit_of (row i) j) (2 ^ p * i) 0) (λ j. pick (bit_of (row i) j) j 0) (2 ^ p)
      ∙ ap (λ (x : ℕ). x ⊕ over_bits (λ j. j) (2 ^ p) (row i)) (xor_const (bit_of (row i)) (2 ^ p * i) (2 ^ p)))
      ∙ xor_both (λ i. pick (odd_below (bit_of (row i)) (2 ^ p)) (2 ^ p * i) 0) (λ i. over_bits (λ j. j) (2 ^ p) (row i)) k
      ∙ ap₂ ◌⊕◌ (xor_times p (λ i. odd_below (bit_of (row i)) (2 ^ p)) k) (columns (λ j. j) (2 ^ p) row k)

  -- one number for all
  pub row_const : (x : ℕ) → xor_below (λ n. pick (s n) x 0) (2 ^ p * k) ≡ pick (odd_below (bit_of (xor_below row k))
      (2 ^ p)) x 0
  unfolding over_bits
  row_const x =
      xor_rows (2 ^ p) (λ n. pick (s n) x 0) k
      ∙ xor_same (λ i. xor_below (λ j. pick (s (2 ^ p * i + j)) x 0) (2 ^ p)) (λ i. over_bits (λ j. x) (2 ^ p) (row i)) k
      (λ i h. xor_same (λ j. pick (s (2 ^ p * i + j)) x 0) (λ j. pick (bit_of (row i) j) x 0) (2 ^ p)
      (λ j l. ap (λ (b : Bool). pick b x 0) (rows i j h l)))
      ∙ columns (λ j. x) (2 ^ p) row k
      ∙ xor_const (bit_of (xor_below row k)) x (2 ^ p)

-- ---- the count of ones tells whether they are odd

digit_sum : (x y : ℕ) → x < 2 → y < 2 → eqb ((x + y) % 2) 1 ≡ differs (eqb x 1) (eqb y 1)
digit_sum zero zero h k = refl
digit_sum zero (suc zero) h k = refl
digit_sum zero (suc (suc y)) h k = absurd (omega arith)
digit_sum (suc zero) zero h k = refl
digit_sum (suc zero) (suc zero) h k = refl
digit_sum (suc zero) (suc (suc y)) h k = absurd (omega arith)
digit_sum (suc (suc x)) y h k = absurd (omega arith)

odd_sum : (a b : ℕ) → odd (a + b) ≡ differs (odd a) (odd b)
odd_sum a b =
    let e : (a + b) % 2 ≡ (a % 2 + b % 2) % 2 = omega arith in
    ap (λ (x : ℕ). eqb x 1) e ∙ digit_sum (a % 2) (b % 2) (mod-lt a (lit< tt)) (mod-lt b (lit< tt))

digit_ones : (d : ℕ) → d < 2 → ones d ≡ d
unfolding ones ones_in
digit_ones zero h = refl
digit_ones (suc zero) h = refl
digit_ones (suc (suc d)) h = absurd (omega arith)

no_ones : (w : ℕ) → false ≡ odd (ones (w % 1))
unfolding ones ones_in
no_ones w = rw mod-one

one_more : (w k : ℕ) → ones (w % 2 ^ suc k) ≡ w / 2 ^ k % 2 + ones (w % 2 ^ k)
one_more w k =
    let e : suc k ≡ 1 + k = omega arith in
    ap (λ (x : ℕ). ones (w % 2 ^ x)) e ∙ ap ones (mod-pow-add w 1 k)
    ∙ ones_cat k (w / 2 ^ k % 2) (w % 2 ^ k) (mod-lt w (pow_pos k))
    ∙ ap (λ (x : ℕ). x + ones (w % 2 ^ k)) (digit_ones (w / 2 ^ k % 2) (mod-lt (w / 2 ^ k) (lit< tt)))

odd_odd : (a : ℕ) → odd (a % 2) ≡ odd a
odd_odd a =
    let e : a % 2 % 2 ≡ a % 2 = omega arith in
    ap (λ (x : ℕ). eqb x 1) e

pub odd_ones_lem : (w k : ℕ) → odd_below (bit_of w) k ≡ odd (ones (w % 2 ^ k))
unfolding odd_below
odd_ones_lem w zero = no_ones w
odd_ones_lem w (suc k) =
    ap₂ differs (sym (odd_odd (w / 2 ^ k))) (odd_ones_lem w k)
    ∙ sym (ap odd (one_more w k) ∙ odd_sum (w / 2 ^ k % 2) (ones (w % 2 ^ k)))
