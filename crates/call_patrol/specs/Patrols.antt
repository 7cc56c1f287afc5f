-- The patrol of one half, in the form in which the code has the premises. Assumes nothing.
use Rattle.std.specs.Prelude.{◌≡◌, Bool, true, false, List, ℕ, ◌+◌, ◌-◌, ◌*◌, ◌/◌, ◌%◌, ◌^◌, ◌<◌, eqb, set}
use Rattle.std.proofs.Common.{sym, ◌∙◌, one-mul, arith, lit<, shl_exact, eq-eqb, ne_eqb}
use Rattle.std.proofs.Math.Path.{ap, ap₂}
use Rattle.std.specs.Int.Bits.{bit_xor}
use Rattle.std.proofs.lemmas.Nat.{xor_lt}
use Rattle.std.specs.Int.Count.{ones, count_trailing_zeros}
use Rattle.model.specs.Bytes.{byte_at}
use Rattle.model.specs.Codes.{◌⊕◌, code_at, fresh_code, put_code, flip_bit, in_pairs, diagnosis, found, mended}
use Rattle.theory_codes.specs.Xor.{xor_is}
use Rattle.theory_codes.specs.Told.{count_ones, trailing_more, pairs_off, pairs_on}
use Rattle.geometry.specs.declared.Patrol.{Patrol}
use Rattle.geometry.specs.declared.Patrol.TheVariants.{Clean, DataMended, CodeMended, Beyond}

pub flip_is : (img : List ℕ) (at n i b : ℕ) → b ≡ 2 ^ (n % 8) → i ≡ n / 8
    → set img (at + i) (bit_xor (byte_at img (at + i)) b) ≡ flip_bit img at n
unfolding flip_bit
flip_is img at n i b e f = rw (f, e) (ap (set img (at + n / 8)) (xor_is (byte_at img (at + n / 8)) (2 ^ (n % 8))))

pub shift_is : (j : ℕ) → j < 8 → 1 * 2 ^ j % 256 ≡ 2 ^ j
shift_is j h = shl_exact {a = 1} 1 j 8 (lit< tt) (omega arith) ∙ one-mul (2 ^ j)

pub pairs_are : (d : ℕ) → d < 4194304 → eqb (bit_xor (d % 2048) (d / 2048 % 2048)) 2047 ≡ in_pairs d
pairs_are d h = ap (λ (x : ℕ). eqb x 2047) (xor_is (d % 2048) (d / 2048 % 2048)) ∙ pairs_on d h

pub differ_below : (x f : ℕ) → (x < 16777216) × (f < 16777216) → bit_xor x f < 16777216
differ_below x f h = xor_lt 24 x f h.0 h.1

-- what is told of d
told_clean : (d : ℕ) → d ≡ 0 → Clean ≡ diagnosis d
unfolding diagnosis
told_clean d e = rw (eq-eqb d 0 e)

told_data : (d : ℕ) → (d ≡ 0 → ⊥) → true ≡ in_pairs d → DataMended (d % 2048) ≡ diagnosis d
unfolding diagnosis
told_data d o e = rw (ne_eqb d 0 o, ← e)

told_code : (d : ℕ) → (d ≡ 0 → ⊥) → false ≡ in_pairs d → d < 16777216 → ones d ≡ 1 → CodeMended (count_trailing_zeros 32 d)
    ≡ diagnosis d
unfolding diagnosis
told_code d o e h k = rw (ne_eqb d 0 o, ← e, count_ones 24 d h, eq-eqb (ones d) 1 k, trailing_more 24 8 d o h)

told_beyond : (d : ℕ) → (d ≡ 0 → ⊥) → false ≡ in_pairs d → d < 16777216 → (ones d ≡ 1 → ⊥) → Beyond ≡ diagnosis d
unfolding diagnosis
told_beyond d o e h k = rw (ne_eqb d 0 o, ← e, count_ones 24 d h, ne_eqb (ones d) 1 k)

-- d is the difference of the stored code and a fresh one
module _ (img : List ℕ) (at c d x f : ℕ) (ed : d ≡ x ⊕ f) (ex : x ≡ code_at img c) (ef : f ≡ fresh_code img at) where
  told_is : diagnosis d ≡ found img at c
  unfolding found
  told_is = ap diagnosis (ed ∙ ap₂ ◌⊕◌ ex ef)

  after_is : (p : Patrol) → p ≡ diagnosis d → mended img at c p ≡ mended img at c (found img at c)
  after_is p e = ap (mended img at c) (e ∙ told_is)

  pub found_clean : d ≡ 0 → Clean ≡ found img at c
  found_clean e = told_clean d e ∙ told_is

  pub after_clean : d ≡ 0 → img ≡ mended img at c (found img at c)
  unfolding mended
  after_clean e = after_is Clean (told_clean d e)

  pub found_data : (r : Bool) → r ≡ in_pairs d → r ≡ true → (d ≡ 0 → ⊥) → DataMended (d % 2048) ≡ found img at c
  found_data r er et o = told_data d o (sym et ∙ er) ∙ told_is

  pub after_data : (r : Bool) (out : List ℕ) → r ≡ in_pairs d → r ≡ true → (d ≡ 0 → ⊥) → out ≡ flip_bit img at (d % 2048)
      → out ≡ mended img at c (found img at c)
  unfolding mended
  after_data r out er et o eo = eo ∙ after_is (DataMended (d % 2048)) (told_data d o (sym et ∙ er))

  pub found_code : (r : Bool) → r ≡ in_pairs d → r ≡ false → (d ≡ 0 → ⊥) → d < 16777216 → ones d ≡ 1
      → CodeMended (count_trailing_zeros 32 d) ≡ found img at c
  found_code r er et o h k = told_code d o (sym et ∙ er) h k ∙ told_is

  pub after_code : (r : Bool) (out : List ℕ) → r ≡ in_pairs d → r ≡ false → (d ≡ 0 → ⊥) → d < 16777216 → ones d ≡ 1
      → out ≡ put_code img c f → out ≡ mended img at c (found img at c)
  unfolding mended
  after_code r out er et o h k eo = eo ∙ ap (put_code img c) ef
      ∙ after_is (CodeMended (count_trailing_zeros 32 d)) (told_code d o (sym et ∙ er) h k)

  pub found_beyond : (r : Bool) → r ≡ in_pairs d → r ≡ false → (d ≡ 0 → ⊥) → d < 16777216 → (ones d ≡ 1 → ⊥)
      → Beyond ≡ found img at c
  found_beyond r er et o h k = told_beyond d o (sym et ∙ er) h k ∙ told_is

  pub after_beyond : (r : Bool) → r ≡ in_pairs d → r ≡ false → (d ≡ 0 → ⊥) → d < 16777216 → (ones d ≡ 1 → ⊥)
      → img ≡ mended img at c (found img at c)
  unfolding mended
  after_beyond r er et o h k = after_is Beyond (told_beyond d o (sym et ∙ er) h k)

pub ruleset patrol_laws = (
  shift_is,
  pairs_off,
  pairs_are,
  xor_is,
  differ_below,
  found_clean,
  after_clean,
  found_data,
  after_data,
  found_code,
  after_code,
  found_beyond,
  after_beyond,
)
