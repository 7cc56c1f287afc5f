-- The exclusive or over all numbers below a bound. Assumes nothing.
use Rattle.std.specs.Prelude.{◌≡◌, refl, Bool, true, false, not, ℕ, zero, suc, ◌+◌, ◌-◌, ◌*◌, ◌^◌, ◌<◌}
use Rattle.std.proofs.Common.{sym, ap, ap₂, ◌∙◌, ⊎_elim, eq-or-lt_of_le, add-zero, add-suc, mul-zero, mul-suc, arith, pow_pos}
use Rattle.geometry.specs.Tests.{pick}
use Rattle.model.specs.Codes.{◌⊕◌, xor_below}
use Rattle.theory_codes.specs.Xor.{self, assoc, swap, four, none_left_lem, below}

-- the same numbers give the same
pub xor_same : (g h : ℕ → ℕ) (k : ℕ) → ((m : ℕ) → m < k → g m ≡ h m) → xor_below g k ≡ xor_below h k
unfolding xor_below
xor_same g h zero e = refl
xor_same g h (suc k) e = ap₂ ◌⊕◌ (e k (omega arith)) (xor_same g h k (λ m l. e m (omega arith)))

pub xor_below_lem : (p : ℕ) (g : ℕ → ℕ) (k : ℕ) → ((m : ℕ) → m < k → g m < 2 ^ p) → xor_below g k < 2 ^ p
unfolding xor_below
xor_below_lem p g zero e = pow_pos p
xor_below_lem p g (suc k) e = below p (g k) (xor_below g k) (e k (omega arith)) (xor_below_lem p g k (λ m l. e m (omega arith)))

-- two sums in one
pub xor_both : (g h : ℕ → ℕ) (k : ℕ) → xor_below (λ m. g m ⊕ h m) k ≡ xor_below g k ⊕ xor_below h k
unfolding xor_below
xor_both g h zero = sym (none_left_lem 0)
xor_both g h (suc k) = ap (λ (x : ℕ). (g k ⊕ h k) ⊕ x) (xor_both g h k) ∙ four (g k) (h k) (xor_below g k) (xor_below h k)

-- one number turned over
pick_not : (s t : Bool) (x : ℕ) → t ≡ not s → pick t x 0 ≡ pick s x 0 ⊕ x
pick_not true t x e = rw e (sym (self x))
pick_not false t x e = rw e (sym (none_left_lem x))

pub xor_turned : (s t : ℕ → Bool) (f : ℕ → ℕ) (n k : ℕ) → n < k → t n ≡ not (s n) → ((m : ℕ) → (m ≡ n → ⊥) → t m ≡ s m)
    → xor_below (λ m. pick (t m) (f m) 0) k ≡ xor_below (λ m. pick (s m) (f m) 0) k ⊕ f n
unfolding xor_below
xor_turned s t f n zero h e o = absurd (omega arith)
xor_turned s t f n (suc k) h e o = ⊎_elim
    (λ (same : n ≡ k).
    let last : pick (t k) (f k) 0 ≡ pick (s k) (f k) 0 ⊕ f k = pick_not (s k) (t k) (f k) (rw same at e) in
    let rest : xor_below (λ m. pick (t m) (f m) 0) k ≡ xor_below (λ m. pick (s m) (f m) 0) k
    = xor_same (λ m. pick (t m) (f m) 0) (λ m. pick (s m) (f m) 0) k (λ m l. ap (λ (b : Bool). pick b (f m) 0) (o m (omega arith))) in
    rw (same, last, rest) (swap (pick (s k) (f k) 0) (f k) (xor_below (λ m. pick (s m) (f m) 0) k)))
    (λ (less : n < k).
    let last : t k ≡ s k = o k (omega arith) in
    rw (last, xor_turned s t f n k less e o) (sym (assoc (pick (s k) (f k) 0) (xor_below (λ m. pick (s m) (f m) 0) k) (f n))))
    (eq-or-lt_of_le {n = n} {m = k} (omega arith))

-- first a numbers, then b more
pub xor_more : (g : ℕ → ℕ) (a b : ℕ) → xor_below g (a + b) ≡ xor_below (λ j. g (a + j)) b ⊕ xor_below g a
unfolding xor_below
xor_more g a zero = rw (add-zero, none_left_lem)
xor_more g a (suc b) = rw (add-suc, xor_more g a b) (sym (assoc (g (a + b)) (xor_below (λ j. g (a + j)) b) (xor_below g a)))

-- rows of w
pub xor_rows : (w : ℕ) (g : ℕ → ℕ) (k : ℕ) → xor_below g (w * k) ≡ xor_below (λ i. xor_below (λ j. g (w * i + j)) w) k
unfolding xor_below
xor_rows w g zero = rw mul-zero
xor_rows w g (suc k) = rw (mul-suc, xor_more g (w * k) w, xor_rows w g k)
