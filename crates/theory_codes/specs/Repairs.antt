-- "Proved: any one flipped bit in the 256 bytes or the 3 code bytes is put right; any two flipped data bits under an
-- intact code are told as beyond repair." Assumes nothing.
use Rattle.std.specs.Prelude.{◌≡◌, refl, ◌⊎◌, Bool, true, false, List, ℕ, ◌+◌, ◌-◌, ◌*◌, ◌/◌, ◌%◌, ◌^◌, ◌<◌, ◌≤◌, eqb, set, replicate}
use Rattle.std.proofs.Math.Path.{sym, ap, ap₂}
use Rattle.std.proofs.Common.{◌∙◌, ⊎_elim, mod-lt, add-zero, lit<, eqb→eq, length-set, get_or-set_same, get_or-set_other, ext_get_or}
use Rattle.std.proofs.Math.Logic.{inl, inr}
use Rattle.std.proofs.Math.Decide.{ℕ_discrete, dec_lt}
use native.Mathlib.Omega.{arith}
use Rattle.std.proofs.Math.Pow.{pow-lt}
use Rattle.std.proofs.Math.ListN.{length}
use borrow.Author.Tests.{eq-eqb, ne_eqb, eqb-true}
use Rattle.geometry.specs.Tests.{pick}
use Rattle.geometry.specs.Table.{at}
use Rattle.model.specs.Bytes.{byte_at}
use Rattle.model.specs.Codes.{◌⊕◌, odd, is_set, number_e, number_g, fresh_code, code_at, put_code, fits, flip_bit, found, mended, diagnosis}
use Rattle.theory_codes.specs.Xor.{self, assoc, cancel, swap, four, none_left_lem, none_right, below, block, inverted}
use Rattle.theory_codes.specs.Below.{xor_same, xor_below_lem}
use Rattle.theory_codes.specs.Flips.{flip_apart, flip_length, flip_twice, flip_e, flip_g}
use Rattle.theory_codes.specs.Told.{told_clean, told_data, told_two, told_code}
use Rattle.geometry.specs.declared.Patrol.TheVariants.{Clean, DataMended, CodeMended, Beyond}

-- ---- E and G are 11 bits each and hang on the 256 bytes alone

pick_below : (b : Bool) (n k : ℕ) → n < k → pick b n 0 < k
pick_below true n k h = h
pick_below false n k h = omega arith

pub E-below : (img : List ℕ) (at : ℕ) → number_e img at < 2048
unfolding number_e
E-below img at = xor_below_lem 11 (λ n. pick (is_set img at n) n 0) 2048 (λ n h. pick_below (is_set img at n) n 2048 h)

pub G-below : (img : List ℕ) (at : ℕ) → number_g img at < 2048
unfolding number_g
G-below img at = xor_below_lem 11 (λ n. pick (is_set img at n) (2047 - n) 0) 2048 (λ n h. pick_below (is_set img at n) (2047 - n) 2048 (omega arith))

-- the same 256 bytes at another place, or in another list
pub fresh_same : (img other : List ℕ) (at to : ℕ) → ((i : ℕ) → i < 256 → byte_at other (to + i) ≡ byte_at img (at + i))
    → fresh_code other to ≡ fresh_code img at
unfolding fresh_code number_e number_g is_set
fresh_same img other at to e =
    ap₂ (λ (x y : ℕ). 16777215 - (x + 2048 * y))
    (xor_same (λ n. pick (is_set other to n) n 0) (λ n. pick (is_set img at n) n 0) 2048
    (λ n h. ap (λ (b : ℕ). pick (odd (b / 2 ^ (n % 8))) n 0) (e (n / 8) (omega arith))))
    (xor_same (λ n. pick (is_set other to n) (2047 - n) 0) (λ n. pick (is_set img at n) (2047 - n) 0) 2048
    (λ n h. ap (λ (b : ℕ). pick (odd (b / 2 ^ (n % 8))) (2047 - n) 0) (e (n / 8) (omega arith))))

-- ---- two fresh codes differ where E and G do

inverted_code : (img : List ℕ) (at : ℕ) → fresh_code img at ≡ (number_g img at * 2048 + number_e img at) ⊕ 16777215
unfolding fresh_code
inverted_code img at =
    let e = E-below img at in
    let g = G-below img at in
    let turn : number_e img at + 2048 * number_g img at ≡ number_g img at * 2048 + number_e img at = omega arith in
    rw turn (inverted 24 (number_g img at * 2048 + number_e img at) (omega arith))

fresh_differ : (img other : List ℕ) (at : ℕ) → fresh_code img at ⊕ fresh_code other at
    ≡ (number_g img at ⊕ number_g other at) * 2048 + (number_e img at ⊕ number_e other at)
fresh_differ img other at =
    ap₂ ◌⊕◌ (inverted_code img at) (inverted_code other at)
    ∙ four (number_g img at * 2048 + number_e img at) 16777215 (number_g other at * 2048 + number_e other at) 16777215
    ∙ ap (λ (x : ℕ). ((number_g img at * 2048 + number_e img at) ⊕ (number_g other at * 2048 + number_e other at)) ⊕ x) (self 16777215)
    ∙ none_right ((number_g img at * 2048 + number_e img at) ⊕ (number_g other at * 2048 + number_e other at))
    ∙ block 11 (number_g img at) (number_g other at) (number_e img at) (number_e other at) (E-below img at) (E-below other at)

-- two numbers and the two inverted
both_inverted : (n m : ℕ) → n < 2048 → m < 2048 → (2047 - n) ⊕ (2047 - m) ≡ n ⊕ m
both_inverted n m h k =
    ap₂ ◌⊕◌ (inverted 11 n h) (inverted 11 m k) ∙ four n 2047 m 2047 ∙ ap (λ (x : ℕ). (n ⊕ m) ⊕ x) (self 2047)
    ∙ none_right (n ⊕ m)

two_differ : (n m : ℕ) → (n ≡ m → ⊥) → n ⊕ m ≡ 0 → ⊥
two_differ n m o e = o (sym (none_right n) ∙ ap (λ (x : ℕ). n ⊕ x) (sym e) ∙ cancel n m)

cancel_two : (a n m : ℕ) → a ⊕ ((a ⊕ n) ⊕ m) ≡ n ⊕ m
cancel_two a n m = ap (λ (x : ℕ). a ⊕ x) (assoc a n m) ∙ cancel a (n ⊕ m)

-- ---- three bytes

-- byte i of 2 ^ j
abbrev part : ℕ → ℕ → ℕ
part j i = pick (eqb (j / 8) i) (2 ^ (j % 8)) 0

word : ℕ → ℕ → ℕ → ℕ
word b₀ b₁ b₂ = (b₂ * 256 + b₁) * 256 + b₀

word_xor : (a₀ a₁ a₂ b₀ b₁ b₂ : ℕ) → a₀ < 256 → a₁ < 256 → b₀ < 256 → b₁ < 256 → word a₀ a₁ a₂ ⊕ word b₀ b₁ b₂
    ≡ word (a₀ ⊕ b₀) (a₁ ⊕ b₁) (a₂ ⊕ b₂)
unfolding word
word_xor a₀ a₁ a₂ b₀ b₁ b₂ h₀ h₁ k₀ k₁ =
    block 8 (a₂ * 256 + a₁) (b₂ * 256 + b₁) a₀ b₀ h₀ k₀
    ∙ ap (λ (x : ℕ). x * 256 + (a₀ ⊕ b₀)) (block 8 a₂ b₂ a₁ b₁ h₁ k₁)

-- each of the 24 bits, computed
part_words : (j : ℕ) → j < 24 → 2 ^ j ≡ word (part j 0) (part j 1) (part j 2)
unfolding word
part_words j h = eqb→eq _ _ (at (λ (m x : ℕ). eqb (2 ^ m) (word (part m 0) (part m 1) (part m 2))) (replicate 24 0) tt j h)

bit_below : (b : Bool) (j : ℕ) → pick b (2 ^ (j % 8)) 0 < 256
bit_below true j = pow-lt {j = 8} (mod-lt j (lit< tt))
bit_below false j = lit< tt

code_word : (img : List ℕ) (c : ℕ) → code_at img c ≡ word (byte_at img c) (byte_at img (c + 1)) (byte_at img (c + 2))
unfolding code_at word
code_word img c = omega arith

flip_part : (img : List ℕ) (c j i : ℕ) → c + j / 8 < length img → byte_at (flip_bit img c j) (c + i) ≡ byte_at img
    (c + i) ⊕ part j i
unfolding flip_bit
flip_part img c j i h = elim (ℕ_discrete (j / 8) i) [
  | yes e ↦ rw (← e, eq-eqb (j / 8) (j / 8) refl) (get_or-set_same img (c + j / 8) (byte_at img (c + j / 8) ⊕ 2 ^ (j % 8)) 0 h)
  | no e ↦ rw (ne_eqb (j / 8) i e, none_right) (flip_apart img c j (c + i) (λ f. e (omega arith)))
]

flip_code : (img : List ℕ) (c j : ℕ) → j < 24 → c + 3 ≤ length img → ((i : ℕ) → byte_at img i < 256)
    → code_at (flip_bit img c j) c ≡ code_at img c ⊕ 2 ^ j
flip_code img c j h in_List bytes =
    let b₀ : byte_at (flip_bit img c j) c ≡ byte_at img c ⊕ part j 0 =
    rw add-zero at (flip_part img c j 0 (omega arith)) in
    code_word (flip_bit img c j) c
    ∙ rw (b₀, flip_part img c j 1 (omega arith), flip_part img c j 2 (omega arith))
    (sym (word_xor (byte_at img c) (byte_at img (c + 1)) (byte_at img (c + 2)) (part j 0) (part j 1) (part j 2)
    (bytes c) (bytes (c + 1)) (bit_below (eqb (j / 8) 0) j) (bit_below (eqb (j / 8) 1) j)))
    ∙ sym (ap₂ ◌⊕◌ (code_word img c) (part_words j h))

-- the three bytes of a code
pub low_byte : (a b c : ℕ) → a < 256 → b < 256 → c < 256 → (a + 256 * b + 65536 * c) % 256 ≡ a
low_byte a b c h k l = omega arith

pub mid_byte : (a b c : ℕ) → a < 256 → b < 256 → c < 256 → (a + 256 * b + 65536 * c) / 256 % 256 ≡ b
mid_byte a b c h k l =
    let q : (a + 256 * b + 65536 * c) / 256 ≡ b + 256 * c = omega arith in
    rw q (omega arith)

pub high_byte : (a b c : ℕ) → a < 256 → b < 256 → c < 256 → (a + 256 * b + 65536 * c) / 65536 % 256 ≡ c
high_byte a b c h k l =
    let q : (a + 256 * b + 65536 * c) / 65536 ≡ c = omega arith in
    rw q (omega arith)

-- three bytes written where they stood before
three_back : (img other : List ℕ) (c : ℕ) → c + 3 ≤ length img → length other ≡ length img
    → ((i : ℕ) → (i < c) ⊎ (c + 3 ≤ i) → byte_at other i ≡ byte_at img i)
    → set (set (set other c (byte_at img c)) (c + 1) (byte_at img (c + 1))) (c + 2) (byte_at img (c + 2)) ≡ img
three_back img other c in_List len e =
    ext_get_or 0 (set (set (set other c (byte_at img c)) (c + 1) (byte_at img (c + 1))) (c + 2) (byte_at img (c + 2))) img (simp length-set len) (λ i h. place i)
  where
    rest : (i : ℕ) → (i ≡ c → ⊥) → (i ≡ c + 1 → ⊥) → (i ≡ c + 2 → ⊥) → byte_at other i ≡ byte_at img i
    rest i a b d = elim (dec_lt i c) [ yes h ↦ e i (inl h) | no h ↦ e i (inr (omega arith)) ]

    place : (i : ℕ) → byte_at (set (set (set other c (byte_at img c)) (c + 1) (byte_at img (c + 1))) (c + 2) (byte_at img
        (c + 2))) i ≡ byte_at img i
    place i = elim (ℕ_discrete i (c + 2)) [
      | yes q ↦ rw q (get_or-set_same (set (set other c (byte_at img c)) (c + 1) (byte_at img (c + 1))) (c + 2) (byte_at img
          (c + 2)) 0 (simp length-set (omega arith)))
      | no d ↦ get_or-set_other (set (set other c (byte_at img c)) (c + 1) (byte_at img (c + 1))) (c + 2) i (byte_at img (c + 2)) 0 d
          ∙ elim (ℕ_discrete i (c + 1)) [
            | yes q ↦ rw q (get_or-set_same (set other c (byte_at img c)) (c + 1) (byte_at img (c + 1)) 0 (simp length-set (omega arith)))
            | no b ↦ get_or-set_other (set other c (byte_at img c)) (c + 1) i (byte_at img (c + 1)) 0 b
                ∙ elim (ℕ_discrete i c) [
                  | yes q ↦ rw q (get_or-set_same other c (byte_at img c) 0 (omega arith))
                  | no a ↦ get_or-set_other other c i (byte_at img c) 0 a ∙ rest i a b d
                ]
          ]
    ]

-- a code written where it stood before
put_back : (img other : List ℕ) (c : ℕ) → c + 3 ≤ length img → length other ≡ length img
    → ((i : ℕ) → byte_at img i < 256)
    → ((i : ℕ) → (i < c) ⊎ (c + 3 ≤ i) → byte_at other i ≡ byte_at img i) → put_code other c (code_at img c) ≡ img
unfolding put_code code_at
put_back img other c in_List len bytes e =
    rw (
      low_byte (byte_at img c) (byte_at img (c + 1)) (byte_at img (c + 2)) (bytes c) (bytes (c + 1)) (bytes (c + 2)),
      mid_byte (byte_at img c) (byte_at img (c + 1)) (byte_at img (c + 2)) (bytes c) (bytes (c + 1)) (bytes (c + 2)),
      high_byte (byte_at img c) (byte_at img (c + 1)) (byte_at img (c + 2)) (bytes c) (bytes (c + 1)) (bytes (c + 2)),
    )
    (three_back img other c in_List len e)

-- ---- the theorems

-- the bytes after the patrol
abbrev pub after : List ℕ → ℕ → ℕ → List ℕ
after img at c = mended img at c (found img at c)

module _ (img : List ℕ) (at c : ℕ) (ok : fits img at c ≡ true) where
  stored : code_at img c ≡ fresh_code img at
  unfolding fits
  stored = eqb-true (code_at img c) (fresh_code img at) ok

  -- a fitting code is clean
  pub clean : (found img at c ≡ Clean) × (after img at c ≡ img)
  unfolding found mended
  clean =
      let e : found img at c ≡ Clean = ap (λ (x : ℕ). diagnosis (x ⊕ fresh_code img at)) stored
      ∙ ap diagnosis (self (fresh_code img at)) ∙ told_clean in
      (e, rw e)

  module _ (in_List : at + 256 ≤ length img) (apart : (c + 3 ≤ at) ⊎ (at + 256 ≤ c)) where
    code_kept : (other : List ℕ) → ((i : ℕ) → (i < at) ⊎ (at + 256 ≤ i) → byte_at other i ≡ byte_at img i)
        → code_at other c ≡ code_at img c
    unfolding code_at
    code_kept other e = rw (
      e c (⊎_elim (λ (h : c + 3 ≤ at). inl (omega arith)) (λ (h : at + 256 ≤ c). inr (omega arith)) apart),
      e (c + 1) (⊎_elim (λ (h : c + 3 ≤ at). inl (omega arith)) (λ (h : at + 256 ≤ c). inr (omega arith)) apart),
      e (c + 2) (⊎_elim (λ (h : c + 3 ≤ at). inl (omega arith)) (λ (h : at + 256 ≤ c). inr (omega arith)) apart),
    )

    outside : (n i : ℕ) → n < 2048 → (i < at) ⊎ (at + 256 ≤ i) → i ≡ at + n / 8 → ⊥
    outside n i h (inl l) e = omega arith
    outside n i h (inr l) e = omega arith

    -- one flipped data bit
    pub data_bit : (n : ℕ) → n < 2048 → (found (flip_bit img at n) at c ≡ DataMended n) ×
        (after (flip_bit img at n) at c ≡ img)
    unfolding found mended
    data_bit n h =
        let e : number_e img at ⊕ number_e (flip_bit img at n) at ≡ n = ap (λ (x : ℕ). number_e img at ⊕ x)
        (flip_e img at n in_List h) ∙ cancel (number_e img at) n in
        let g : number_g img at ⊕ number_g (flip_bit img at n) at ≡ 2047 - n = ap (λ (x : ℕ). number_g img at ⊕ x)
        (flip_g img at n in_List h) ∙ cancel (number_g img at) (2047 - n) in
        let kept : code_at (flip_bit img at n) c ≡ fresh_code img at =
        code_kept (flip_bit img at n) (λ i o. flip_apart img at n i (outside n i h o)) ∙ stored in
        let d : code_at (flip_bit img at n) c ⊕ fresh_code (flip_bit img at n) at ≡ (2047 - n) * 2048 + n
        = ap (λ (x : ℕ). x ⊕ fresh_code (flip_bit img at n) at) kept ∙ fresh_differ img (flip_bit img at n) at
        ∙ ap₂ (λ (x y : ℕ). x * 2048 + y) g e in
        let t : found (flip_bit img at n) at c ≡ DataMended n = ap diagnosis d ∙ told_data n h in
        (t, rw t (flip_twice img at n (omega arith)))

    -- two flipped data bits
    pub two_data_bits : (n m : ℕ) → n < 2048 → m < 2048 → (n ≡ m → ⊥)
        → (found (flip_bit (flip_bit img at n) at m) at c ≡ Beyond) ×
        (after (flip_bit (flip_bit img at n) at m) at c ≡ flip_bit (flip_bit img at n) at m)
    unfolding found mended
    two_data_bits n m h k o =
        let len : at + 256 ≤ length (flip_bit img at n) = rw (flip_length img at n) in_List in
        let e : number_e img at ⊕ number_e (flip_bit (flip_bit img at n) at m) at ≡ n ⊕ m
        = ap (λ (x : ℕ). number_e img at ⊕ x) (flip_e (flip_bit img at n) at m len k ∙ ap (λ (x : ℕ). x ⊕ m)
        (flip_e img at n in_List h)) ∙ cancel_two (number_e img at) n m in
        let g : number_g img at ⊕ number_g (flip_bit (flip_bit img at n) at m) at ≡ n ⊕ m
        = ap (λ (x : ℕ). number_g img at ⊕ x) (flip_g (flip_bit img at n) at m len k
        ∙ ap (λ (x : ℕ). x ⊕ (2047 - m)) (flip_g img at n in_List h))
        ∙ cancel_two (number_g img at) (2047 - n) (2047 - m) ∙ both_inverted n m h k in
        let kept : code_at (flip_bit (flip_bit img at n) at m) c ≡ fresh_code img at
        = code_kept (flip_bit (flip_bit img at n) at m)
        (λ i w. flip_apart (flip_bit img at n) at m i (outside m i k w) ∙ flip_apart img at n i (outside n i h w))
        ∙ stored in
        let d : code_at (flip_bit (flip_bit img at n) at m) c ⊕ fresh_code (flip_bit (flip_bit img at n) at m) at ≡ (n ⊕ m) * 2048 + (n ⊕ m)
        = ap (λ (x : ℕ). x ⊕ fresh_code (flip_bit (flip_bit img at n) at m) at) kept ∙ fresh_differ img
        (flip_bit (flip_bit img at n) at m) at ∙ ap₂ (λ (x y : ℕ). x * 2048 + y) g e in
        let t : found (flip_bit (flip_bit img at n) at m) at c ≡ Beyond =
        ap diagnosis d ∙ told_two (n ⊕ m) (two_differ n m o) (below 11 n m h k) in
        (t, rw t)

  -- one flipped bit of the code
  pub code_bit : c + 3 ≤ length img → (c + 3 ≤ at) ⊎ (at + 256 ≤ c) → ((i : ℕ) → byte_at img i < 256) → (j : ℕ) → j < 24
      → (found (flip_bit img c j) at c ≡ CodeMended j) × (after (flip_bit img c j) at c ≡ img)
  unfolding found mended
  code_bit in_List apart bytes j h =
      let kept : fresh_code (flip_bit img c j) at ≡ fresh_code img at
      = fresh_same img (flip_bit img c j) at at (λ i l. flip_apart img c j (at + i) (off i l apart)) in
      let d : code_at (flip_bit img c j) c ⊕ fresh_code (flip_bit img c j) at ≡ 2 ^ j
      = ap₂ ◌⊕◌ (flip_code img c j h in_List bytes) (kept ∙ sym stored) ∙ swap (code_at img c) (2 ^ j) (code_at img c)
      ∙ ap (λ (x : ℕ). x ⊕ 2 ^ j) (self (code_at img c)) ∙ none_left_lem (2 ^ j) in
      let t : found (flip_bit img c j) at c ≡ CodeMended j = ap diagnosis d ∙ told_code j h in
      (t, rw (t, kept, ← stored) (put_back img (flip_bit img c j) c in_List (flip_length img c j) bytes (λ i w. flip_apart img c j i (off_code i w))))
    where
      off : (i : ℕ) → i < 256 → (c + 3 ≤ at) ⊎ (at + 256 ≤ c) → at + i ≡ c + j / 8 → ⊥
      off i l (inl a) e = omega arith
      off i l (inr a) e = omega arith

      off_code : (i : ℕ) → (i < c) ⊎ (c + 3 ≤ i) → i ≡ c + j / 8 → ⊥
      off_code i (inl a) e = omega arith
      off_code i (inr a) e = omega arith
