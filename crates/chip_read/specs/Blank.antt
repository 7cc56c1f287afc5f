-- Runs of 255, from the last byte down, eight bytes at once. Assumes nothing.
use Rattle.std.specs.Prelude.{ℕ, zero, suc, ◌+◌, ◌-◌, ◌*◌, ◌/◌, ◌%◌, ◌<◌, ◌≤◌, Bool, true, false, not, ◌≡◌, refl, List, eqb}
use Rattle.std.proofs.Math.Path.{sym}
use Rattle.std.proofs.Common.{ap, ◌∙◌, eq-eqb, ne_eqb, eqb-true, sub-one, mul-suc, Fits}
use Rattle.std.specs.Int.{w8}
use Rattle.std.specs.Int.Bits.{bit_and, and_self}
use Rattle.std.proofs.lemmas.Nat.{and_le_l, and_le_r}
use native.Mathlib.Omega.{arith}
use Rattle.std.proofs.lemmas.Bool.{eqb-false, not-true, not-false}
use Rattle.geometry.specs.Tests.{◌&◌, and_true, and_false, and_none}
use Rattle.geometry.specs.Bounds.{four_bytes}
use Rattle.model.specs.Bytes.{byte_at, u32_at, blank}

and_last : (a : Bool) → (a & true) ≡ a
unfolding ◌&◌
and_last true = refl
and_last false = refl

and_swap : (a b c : Bool) → (a & (b & c)) ≡ (b & (a & c))
unfolding ◌&◌
and_swap true b c = refl
and_swap false true c = refl
and_swap false false c = refl

-- a run in two parts, the last one first
blank_parts : (img : List ℕ) (k m at : ℕ) → blank img at (k + m) ≡ (blank img (at + k) m & blank img at k)
unfolding blank
blank_parts img zero m at =
    let e : at + 0 ≡ at = omega arith in
    let f : 0 + m ≡ m = omega arith in
    rw (e, f) (sym (and_last (blank img at m)))
blank_parts img (suc k) m at =
    let e : at + suc k ≡ at + 1 + k = omega arith in
    let f : suc k + m ≡ suc (k + m) = omega arith in
    rw (e, f, blank_parts img k m (at + 1)) (and_swap _ _ _)

-- the last m bytes of k
blank_down : (img : List ℕ) (at k m : ℕ) → m ≤ k → blank img at k ≡ (blank img (at + (k - m)) m & blank img at (k - m))
blank_down img at k m h =
    let e : k ≡ k - m + m = omega arith in
    ap (λ (n : ℕ). blank img at n) e ∙ blank_parts img (k - m) m at

-- the last of k pieces of m bytes
last_piece : (img : List ℕ) (at m k : ℕ) → 0 < k
    → blank img at (m * k) ≡ (blank img (at + m * (k - 1)) m & blank img at (m * (k - 1)))
last_piece img at m zero h = absurd (omega arith)
last_piece img at m (suc k) h = rw (sub-one, mul-suc) (blank_parts img (m * k) m at)

-- the loop over pieces, from the last down
module _ (img : List ℕ) (at m n k : ℕ) (e : blank img at (m * n) ≡ blank img at (m * k)) (h : 0 < k) (r : Bool)
    (f : r ≡ blank img (at + m * (k - 1)) m) where
  pub piece_stop : not r ≡ true → false ≡ blank img at (m * n)
  piece_stop q = sym (e ∙ last_piece img at m k h ∙ simp (← f, not-true r q, and_false))

  pub piece_go : not r ≡ false → blank img at (m * n) ≡ blank img at (m * (k - 1))
  piece_go q = e ∙ last_piece img at m k h ∙ simp (← f, not-false r q, and_true)

-- the loop over single bytes
module _ (img : List ℕ) (at n k : ℕ) (e : blank img at n ≡ blank img at k) where
  module _ (b : ℕ) (f : b ≡ byte_at img (at + (k - 1))) (h : 0 < k) where
    one : eqb b 255 ≡ blank img (at + (k - 1)) 1
    unfolding blank
    one = rw f (sym (and_last _))

    pub blank_stop : (b ≡ 255 → ⊥) → false ≡ blank img at n
    blank_stop g = sym (e ∙ blank_down img at k 1 h ∙ rw (← one) (simp (ne_eqb _ _ g, and_false)))

    pub blank_go : b ≡ 255 → blank img at n ≡ blank img at (k - 1)
    blank_go g = e ∙ blank_down img at k 1 h ∙ rw (← one) (simp (eq-eqb _ _ g, and_true))

  pub blank_end : k ≤ 0 → true ≡ blank img at n
  unfolding blank
  blank_end h =
      let f : k ≡ 0 = omega arith in
      sym (e ∙ rw f)

-- n bytes as whole lines of 64, whole eights after them and single bytes at the end
blank_in_three : (img : List ℕ) (at n : ℕ) → blank img at n
    ≡ (blank img (at + 8 * (n / 8)) (n % 8)
    & (blank img (at + 64 * (n / 64)) (8 * (n / 8 % 8)) & blank img at (64 * (n / 64))))
blank_in_three img at n =
    let e : n ≡ 8 * (n / 8) + n % 8 = omega arith in
    let f : 8 * (n / 8) ≡ 64 * (n / 64) + 8 * (n / 8 % 8) = omega arith in
    ap (blank img at) e ∙ blank_parts img (8 * (n / 8)) (n % 8) at
    ∙ ap (λ (t : Bool). blank img (at + 8 * (n / 8)) (n % 8) & t)
    (ap (blank img at) f ∙ blank_parts img (64 * (n / 64)) (8 * (n / 8 % 8)) at)

-- the three looked at one after another, a, b and c
module _ (img : List ℕ) (at n : ℕ) (a b : Bool) (ea : a ≡ blank img (at + 8 * (n / 8)) (n % 8)) where
  pub singles_stop : a ≡ false → false ≡ blank img at n
  singles_stop q = sym (blank_in_three img at n ∙ rw (← ea, q) (and_false _))

  module _ (eb : b ≡ blank img (at + 64 * (n / 64)) (8 * (n / 8 % 8))) where
    pub eights_stop : b ≡ false → false ≡ blank img at n
    eights_stop q = sym (blank_in_three img at n ∙ rw (← ea, ← eb, q) (simp (and_false, and_none)))

    pub lines_left : a ≡ true → b ≡ true → (c : Bool) → c ≡ blank img at (64 * (n / 64)) → c ≡ blank img at n
    lines_left q t c ec = sym (blank_in_three img at n ∙ rw (← ea, ← eb, ← ec, q, t) (simp and_true))

and_turn : (a b : Bool) → (a & b) ≡ (b & a)
unfolding ◌&◌
and_turn true true = refl
and_turn true false = refl
and_turn false true = refl
and_turn false false = refl

-- a number is the largest of its width where its parts are
both_tests : (x y a b c d : ℕ) → (x ≡ y → (a ≡ b) × (c ≡ d)) → (a ≡ b → c ≡ d → x ≡ y) → eqb x y ≡ (eqb a b & eqb c d)
both_tests x y a b c d split join = tests (eqb a b) (eqb c d) refl refl
  where
    tests : (s t : Bool) → eqb a b ≡ s → eqb c d ≡ t → eqb x y ≡ (s & t)
    tests true true e f = simp (eq-eqb x y (join (eqb-true a b e) (eqb-true c d f)), and_true)
    tests true false e f = simp (ne_eqb x y (λ g. eqb-false c d f (split g).1), and_true)
    tests false t e f = simp (ne_eqb x y (λ g. eqb-false a b e (split g).0), and_false)

four_full : (a b c d : ℕ) → a < 256 → b < 256 → c < 256 → d < 256
    → eqb (a + 256 * b + 65536 * c + 16777216 * d) 4294967295 ≡ (eqb a 255 & (eqb b 255 & (eqb c 255 & eqb d 255)))
four_full a b c d ha hb hc hd =
    both_tests (a + 256 * b + 65536 * c + 16777216 * d) 4294967295 a 255 (b + 256 * c + 65536 * d) 16777215
    (λ e. (omega arith, omega arith)) (λ e f. omega arith)
    ∙ ap (λ (t : Bool). eqb a 255 & t) (both_tests (b + 256 * c + 65536 * d) 16777215 b 255 (c + 256 * d) 65535
    (λ e. (omega arith, omega arith)) (λ e f. omega arith))
    ∙ ap (λ (t : Bool). eqb a 255 & (eqb b 255 & t)) (both_tests (c + 256 * d) 65535 c 255 d 255 (λ e. (omega arith, omega arith)) (λ e f. omega arith))

pub u32_full : (img : List ℕ) (at r : ℕ) → ((k : ℕ) → Fits w8 (byte_at img k)) → r ≡ u32_at img at
    → eqb r 4294967295 ≡ blank img at 4
unfolding u32_at blank
u32_full img at r bytes e =
    let p : at + 1 + 1 ≡ at + 2 = omega arith in
    let q : at + 2 + 1 ≡ at + 3 = omega arith in
    rw (e, p, q, and_last (eqb (byte_at img (at + 3)) 255))
    (four_full (byte_at img at) (byte_at img (at + 1)) (byte_at img (at + 2)) (byte_at img (at + 3))
    (bytes at).fits (bytes (at + 1)).fits (bytes (at + 2)).fits (bytes (at + 3)).fits)

pub eight_full : (img : List ℕ) (at a b x y : ℕ) → eqb a 4294967295 ≡ blank img at 4 → eqb b 4294967295 ≡ blank img
    (at + 4) 4 → x ≡ a → y ≡ b
    → x < four_bytes → y < four_bytes → eqb (x + four_bytes * y) 18446744073709551615 ≡ blank img at 8
eight_full img at a b x y ea eb ex ey hx hy =
    both_tests (x + four_bytes * y) 18446744073709551615 b 4294967295 a 4294967295
    (λ e. (omega arith, omega arith)) (λ e f. omega arith)
    ∙ rw (ea, eb) (sym (blank_parts img 4 4 at))

-- the bits that two numbers share
both_full : (a b : ℕ) → a < 18446744073709551616 → b < 18446744073709551616
    → eqb (bit_and a b) 18446744073709551615 ≡ (eqb a 18446744073709551615 & eqb b 18446744073709551615)
both_full a b ha hb =
    both_tests (bit_and a b) 18446744073709551615 a 18446744073709551615 b 18446744073709551615
    (λ e. (omega (arith, and_le_l a b), omega (arith, and_le_r a b))) (λ e f. rw (e, f) (and_self 18446744073709551615))

-- i words of eight bytes and the next one
pub line_more : (img : List ℕ) (at i all w : ℕ) → eqb all 18446744073709551615 ≡ blank img at (8 * i)
    → eqb w 18446744073709551615 ≡ blank img (at + 8 * i) 8 → all < 18446744073709551616 → w < 18446744073709551616
    → eqb (bit_and all w) 18446744073709551615 ≡ blank img at (8 * (i + 1))
line_more img at i all w e f h k =
    let g : 8 * (i + 1) ≡ 8 * i + 8 = omega arith in
    both_full all w h k ∙ and_turn _ _ ∙ rw (e, f, g) (sym (blank_parts img (8 * i) 8 at))

pub ruleset blank_laws = (piece_stop, piece_go, blank_stop, blank_go, blank_end, singles_stop, eights_stop, lines_left, u32_full, eight_full, line_more)
