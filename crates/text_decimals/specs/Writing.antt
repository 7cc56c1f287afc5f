-- A number written digit by digit, as the code does it. Assumes nothing.
use Rattle.std.specs.Prelude.{ℕ, ◌+◌, ◌/◌, ◌%◌, ◌<◌, ◌≤◌, ◌≡◌, refl, List, [], ◌∷◌, length, set}
use Rattle.std.proofs.Common.{◌∙◌, arith, length-append}
use Rattle.std.proofs.lemmas.List.Edits.{sets}
use Rattle.text_lines.specs.Pieces.{sets_snoc}
use Rattle.text_decimals.specs.Decimals.{decimal}
use Rattle.text_decimals.specs.Back.{decimal_one, decimal_more, decimal_short}

-- a number of 64 bits has at most twenty digits
pub decimal_long : (n : ℕ) → n < 18446744073709551616 → length (decimal n) ≤ 20
decimal_long n h = decimal_short 19 n (omega arith)

module _ (buf : List ℕ) (at n : ℕ) where
  pub length_one : n < 10 → at + 1 ≡ at + length (decimal n)
  length_one h = rw (decimal_one n h) refl

  pub bytes_one : (out : List ℕ) (b : ℕ) → n < 10 → b ≡ 48 + n % 10 → out ≡ set buf at b → out ≡ sets buf at (decimal n)
  bytes_one out b h e f = let q : 48 + n % 10 ≡ 48 + n = omega arith in f ∙ rw (e, q, decimal_one n h) refl

  pub length_more : (next : ℕ) → 10 ≤ n → next ≡ at + length (decimal (n / 10)) → next + 1 ≡ at + length (decimal n)
  length_more next h e = rw (decimal_more n h) (let q = length-append (decimal (n / 10)) ((48 + n % 10) ∷ []) in
      omega (arith, q, e))

  pub bytes_more : (mid out : List ℕ) (next b : ℕ) → 10 ≤ n → next ≡ at + length (decimal (n / 10)) → b ≡ 48 + n % 10
      → mid ≡ sets buf at (decimal (n / 10)) → out ≡ set mid next b → out ≡ sets buf at (decimal n)
  bytes_more mid out next b h e f g k = k ∙ rw (g, e, f, decimal_more n h) (sets_snoc buf at (decimal (n / 10)) (48 + n % 10))

pub ruleset writing_laws = (length_one, bytes_one, length_more, bytes_more)
