-- A turned bit: what it does to the bits, to E and G, and that turning it again puts it right. Assumes nothing.
use Rattle.std.specs.Prelude.{◌≡◌, refl, Bool, true, false, not, List, [], ◌∷◌, ℕ, ◌+◌, ◌-◌, ◌/◌, ◌%◌, ◌^◌, ◌<◌, ◌≤◌, T, eqb, length}
use Rattle.std.proofs.Common.{sym, ◌∙◌, mod-lt, arith, lit<, get_or-set_same}
use Rattle.std.proofs.Math.Path.{ap}
use Rattle.std.proofs.Math.Decide.{ℕ_discrete}
use borrow.Author.Tests.{eq-eqb, ne_eqb}
use Rattle.std.proofs.Math.ListN.{set, length-set}
use Rattle.std.proofs.Math.Seq.{get_or-set_other, set-set, set-get_or}
use Rattle.geometry.specs.Table.{every, at}
use Rattle.model.specs.Bytes.{byte_at}
use Rattle.model.specs.Codes.{◌⊕◌, odd, is_set, number_e, number_g, flip_bit}
use Rattle.theory_codes.specs.Xor.{differs, assoc, self, none_right, cut, odd_xor}
use Rattle.theory_codes.specs.Below.{xor_turned}

-- two tests that agree
same : Bool → Bool → Bool
same true b = b
same false b = not b

agree : (a b : Bool) → T (same a b) → a ≡ b
unfolding same
agree true true t = refl
agree true false t = absurd t
agree false true t = absurd t
agree false false t = refl

eight : List ℕ
eight = 0 ∷ 0 ∷ 0 ∷ 0 ∷ 0 ∷ 0 ∷ 0 ∷ 0 ∷ []

power_test : ℕ → ℕ → ℕ → ℕ → Bool
unfolding same
power_test j x i y = same (odd (2 ^ j / 2 ^ i)) (eqb j i)

-- of the eight bits of 2 ^ j, bit j is set
power : (j i : ℕ) → j < 8 → i < 8 → odd (2 ^ j / 2 ^ i) ≡ eqb j i
unfolding power_test same eight
power j i h k = agree _ _ (at (power_test j 0) eight (at (λ (m x : ℕ). every (power_test m 0) 0 eight) eight tt j h) i k)

-- one bit of a byte with bit j turned
turned_bit : (b j i : ℕ) → odd ((b ⊕ 2 ^ j) / 2 ^ i) ≡ differs (odd (b / 2 ^ i)) (odd (2 ^ j / 2 ^ i))
turned_bit b j i = ap odd (cut b (2 ^ j) i) ∙ odd_xor (b / 2 ^ i) (2 ^ j / 2 ^ i)

differs_true : (b : Bool) → differs b true ≡ not b
differs_true true = refl
differs_true false = refl

differs_false : (b : Bool) → differs b false ≡ b
differs_false true = refl
differs_false false = refl

module _ (img : List ℕ) (at n : ℕ) where
  -- the bit itself
  pub flip_here : at + n / 8 < length img → is_set (flip_bit img at n) at n ≡ not (is_set img at n)
  unfolding is_set flip_bit
  flip_here h =
      ap (λ (b : ℕ). odd (b / 2 ^ (n % 8))) (get_or-set_same img (at + n / 8) (byte_at img (at + n / 8) ⊕ 2 ^ (n % 8)) 0 h)
      ∙ turned_bit (byte_at img (at + n / 8)) (n % 8) (n % 8)
      ∙ ap (differs (is_set img at n)) (power (n % 8) (n % 8) (mod-lt n (lit< tt)) (mod-lt n (lit< tt))
      ∙ eq-eqb (n % 8) (n % 8) refl)
      ∙ differs_true (is_set img at n)

  -- a byte elsewhere
  pub flip_apart : (i : ℕ) → (i ≡ at + n / 8 → ⊥) → byte_at (flip_bit img at n) i ≡ byte_at img i
  unfolding flip_bit
  flip_apart i h = get_or-set_other img (at + n / 8) i (byte_at img (at + n / 8) ⊕ 2 ^ (n % 8)) 0 h

  -- another bit
  pub flip_there : at + n / 8 < length img → (m : ℕ) → (m ≡ n → ⊥) → is_set (flip_bit img at n) at m ≡ is_set img at m
  unfolding is_set flip_bit
  flip_there h m o = elim (ℕ_discrete (m / 8) (n / 8)) [
    | yes e ↦
        ap (λ (k : ℕ). odd (byte_at (flip_bit img at n) (at + k) / 2 ^ (m % 8))) e
        ∙ ap (λ (b : ℕ). odd (b / 2 ^ (m % 8))) (get_or-set_same img (at + n / 8) (byte_at img (at + n / 8) ⊕ 2 ^ (n % 8)) 0 h)
        ∙ turned_bit (byte_at img (at + n / 8)) (n % 8) (m % 8)
        ∙ ap (differs (odd (byte_at img (at + n / 8) / 2 ^ (m % 8))))
        (power (n % 8) (m % 8) (mod-lt n (lit< tt)) (mod-lt m (lit< tt))
        ∙ ne_eqb (n % 8) (m % 8) (λ f. o (omega arith)))
        ∙ differs_false (odd (byte_at img (at + n / 8) / 2 ^ (m % 8)))
        ∙ ap (λ (k : ℕ). odd (byte_at img (at + k) / 2 ^ (m % 8))) (sym e)
    | no e ↦ ap (λ (b : ℕ). odd (b / 2 ^ (m % 8))) (flip_apart (at + m / 8) (λ f. e (omega arith)))
  ]

  pub flip_length : length (flip_bit img at n) ≡ length img
  unfolding flip_bit
  flip_length = simp length-set

  -- turned twice
  pub flip_twice : at + n / 8 < length img → flip_bit (flip_bit img at n) at n ≡ img
  unfolding flip_bit
  flip_twice h =
      set-set img (at + n / 8) (byte_at img (at + n / 8) ⊕ 2 ^ (n % 8)) (byte_at (flip_bit img at n) (at + n / 8) ⊕ 2 ^ (n % 8))
      ∙ ap (λ (b : ℕ). set img (at + n / 8) (b ⊕ 2 ^ (n % 8))) (get_or-set_same img (at + n / 8) (byte_at img (at + n / 8) ⊕ 2 ^ (n % 8)) 0 h)
      ∙ ap (set img (at + n / 8))
      (assoc (byte_at img (at + n / 8)) (2 ^ (n % 8)) (2 ^ (n % 8)) ∙ ap (λ (x : ℕ). byte_at img (at + n / 8) ⊕ x)
      (self (2 ^ (n % 8))) ∙ none_right (byte_at img (at + n / 8)))
      ∙ set-get_or img (at + n / 8) 0

  -- E and G
  pub flip_e : at + 256 ≤ length img → n < 2048 → number_e (flip_bit img at n) at ≡ number_e img at ⊕ n
  unfolding number_e
  flip_e h k = xor_turned (is_set img at) (is_set (flip_bit img at n) at) (λ m. m) n 2048 k (flip_here (omega arith)) (flip_there (omega arith))

  pub flip_g : at + 256 ≤ length img → n < 2048 → number_g (flip_bit img at n) at ≡ number_g img at ⊕ (2047 - n)
  unfolding number_g
  flip_g h k = xor_turned (is_set img at) (is_set (flip_bit img at n) at) (λ m. 2047 - m) n 2048 k (flip_here (omega arith)) (flip_there (omega arith))
