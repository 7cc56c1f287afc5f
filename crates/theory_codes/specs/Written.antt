-- A code that was written fits, and a code that fits goes on fitting while its bytes stay. Assumes nothing.
use Rattle.std.specs.Prelude.{◌≡◌, refl, ◌⊎◌, true, List, ℕ, ◌+◌, ◌-◌, ◌*◌, ◌/◌, ◌%◌, ◌<◌, ◌≤◌, length, set}
use Rattle.std.proofs.Common.{sym, ◌∙◌, inl, inr, arith, div-add-mod', shr-shr, length-set, get_or-set_same, get_or-set_other, eq-eqb}
use Rattle.model.specs.Bytes.{byte_at}
use Rattle.model.specs.Codes.{fresh_code, code_at, put_code, fits}
use Rattle.theory_codes.specs.Repairs.{fresh_same}

pub fresh_below : (img : List ℕ) (at : ℕ) → fresh_code img at < 16777216
unfolding fresh_code
fresh_below img at = omega arith

-- the same 256 bytes and the same three, in another list or at another place
pub fits_same : (img other : List ℕ) (at to c d : ℕ) → ((i : ℕ) → i < 256 → byte_at other (to + i) ≡ byte_at img (at + i))
    → byte_at other d ≡ byte_at img c → byte_at other (d + 1) ≡ byte_at img (c + 1) → byte_at other (d + 2) ≡ byte_at img
    (c + 2)
    → fits other to d ≡ fits img at c
unfolding fits code_at
fits_same img other at to c d e e₀ e₁ e₂ = rw (e₀, e₁, e₂, fresh_same img other at to e)

-- every byte after a code was written
pub put_other : (img : List ℕ) (c v i : ℕ) → (i < c) ⊎ (c + 3 ≤ i) → byte_at (put_code img c v) i ≡ byte_at img i
unfolding put_code
put_other img c v i w =
    get_or-set_other (set (set img c (v % 256)) (c + 1) (v / 256 % 256)) (c + 2) i (v / 65536 % 256) 0 (away 2 (omega arith) w)
    ∙ get_or-set_other (set img c (v % 256)) (c + 1) i (v / 256 % 256) 0 (away 1 (omega arith) w)
    ∙ get_or-set_other img c i (v % 256) 0 (here w)
  where
    away : (k : ℕ) → k < 3 → (i < c) ⊎ (c + 3 ≤ i) → i ≡ c + k → ⊥
    away k h (inl l) e = omega arith
    away k h (inr l) e = omega arith

    here : (i < c) ⊎ (c + 3 ≤ i) → i ≡ c → ⊥
    here (inl l) e = omega arith
    here (inr l) e = omega arith

digits : (v a b p q r : ℕ) → a * 256 + p ≡ v → b * 256 + q ≡ a → b % 256 ≡ r → v < 16777216 → p < 256 → q < 256
    → p + 256 * q + 65536 * r ≡ v
digits v a b p q r x y z h i j = omega arith

pub put_read : (img : List ℕ) (c v : ℕ) → c + 3 ≤ length img → v < 16777216 → code_at (put_code img c v) c ≡ v
unfolding code_at put_code
put_read img c v h k =
    let b₀ : byte_at (set (set (set img c (v % 256)) (c + 1) (v / 256 % 256)) (c + 2) (v / 65536 % 256)) c ≡ v % 256
    = get_or-set_other (set (set img c (v % 256)) (c + 1) (v / 256 % 256)) (c + 2) c (v / 65536 % 256) 0 (λ e. omega arith)
    ∙ get_or-set_other (set img c (v % 256)) (c + 1) c (v / 256 % 256) 0 (λ e. omega arith)
    ∙ get_or-set_same img c (v % 256) 0 (omega arith) in
    let b₁ : byte_at (set (set (set img c (v % 256)) (c + 1) (v / 256 % 256)) (c + 2) (v / 65536 % 256)) (c + 1) ≡ v / 256 % 256
    = get_or-set_other (set (set img c (v % 256)) (c + 1) (v / 256 % 256)) (c + 2) (c + 1) (v / 65536 % 256) 0 (λ e. omega arith)
    ∙ get_or-set_same (set img c (v % 256)) (c + 1) (v / 256 % 256) 0 (simp length-set (omega arith)) in
    let b₂ : byte_at (set (set (set img c (v % 256)) (c + 1) (v / 256 % 256)) (c + 2) (v / 65536 % 256)) (c + 2) ≡ v / 65536 % 256
    = get_or-set_same (set (set img c (v % 256)) (c + 1) (v / 256 % 256)) (c + 2) (v / 65536 % 256) 0 (simp length-set (omega arith)) in
    rw (b₀, b₁, b₂) (joined v k)
  where
    joined : (v : ℕ) → v < 16777216 → v % 256 + 256 * (v / 256 % 256) + 65536 * (v / 65536 % 256) ≡ v
    joined v k = digits v (v / 256) (v / 65536) (v % 256) (v / 256 % 256) (v / 65536 % 256) (div-add-mod' v 256)
        (rw (shr-shr v 8 8) at (div-add-mod' (v / 256) 256)) refl k (omega arith) (omega arith)

-- "R1 now asks for fitting codes": what a page is programmed with fits
pub put_fits : (img : List ℕ) (at c : ℕ) → c + 3 ≤ length img → (c + 3 ≤ at) ⊎ (at + 256 ≤ c)
    → fits (put_code img c (fresh_code img at)) at c ≡ true
unfolding fits
put_fits img at c h apart =
    eq-eqb (code_at (put_code img c (fresh_code img at)) c) (fresh_code (put_code img c (fresh_code img at)) at)
    (put_read img c (fresh_code img at) h (fresh_below img at)
    ∙ sym (fresh_same img (put_code img c (fresh_code img at)) at at (λ i l. put_other img c (fresh_code img at) (at + i) (off i l apart))))
  where
    off : (i : ℕ) → i < 256 → (c + 3 ≤ at) ⊎ (at + 256 ≤ c) → (at + i < c) ⊎ (c + 3 ≤ at + i)
    off i l (inl a) = inr (omega arith)
    off i l (inr a) = inl (omega arith)
