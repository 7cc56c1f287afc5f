-- Request 4, "Flipped bits": the code of 256 bytes, the codes of a page, and the patrol of one half. Definitions alone;
-- assumes nothing.
use Rattle.std.specs.Prelude.{ℕ, zero, suc, ◌+◌, ◌-◌, ◌*◌, ◌/◌, ◌%◌, ◌^◌, Bool, true, List, eqb, set}
use Rattle.std.specs.Int.Bits.{bit_xor}
use Rattle.std.specs.Int.Count.{ones_in, count_trailing_zeros}
use Rattle.geometry.specs.declared.Geometry.{Geometry}
use Rattle.geometry.specs.declared.Patrol.{Patrol}
use Rattle.geometry.specs.declared.Patrol.TheVariants.{Clean, DataMended, CodeMended, Beyond}
use Rattle.geometry.specs.Geometry.{code_place}
use Rattle.geometry.specs.Tests.{pick, ◌&◌}
use Rattle.model.specs.Bytes.{byte_at}

infixl 55 ◌⊕◌
-- exclusive or
unfoldable pub ◌⊕◌ : ℕ → ℕ → ℕ
a ⊕ b = bit_xor a b

-- the lowest bit is set
abbrev pub odd : ℕ → Bool
odd a = eqb (a % 2) 1

-- "Number the 2,048 bits from 0, least bit of a byte first": whether bit n of the bytes from `at` is set
unfoldable pub is_set : List ℕ → ℕ → ℕ → Bool
is_set img at n = odd (byte_at img (at + n / 8) / 2 ^ (n % 8))

-- the exclusive or of g 0, g 1, .. g (k - 1)
unfoldable pub xor_below : (ℕ → ℕ) → ℕ → ℕ
xor_below g zero = 0
xor_below g (suc k) = g k ⊕ xor_below g k

-- "E is the exclusive or of the numbers of all set bits"
unfoldable pub number_e : List ℕ → ℕ → ℕ
number_e img at = xor_below (λ n. pick (is_set img at n) n 0) 2048

-- "G that of 2,047 minus those numbers"
unfoldable pub number_g : List ℕ → ℕ → ℕ
number_g img at = xor_below (λ n. pick (is_set img at n) (2047 - n) 0) 2048

-- "Stored inverted: E in bits 0 to 10, G in bits 11 to 21, bits 22 and 23 set"
unfoldable pub fresh_code : List ℕ → ℕ → ℕ
fresh_code img at = 16777215 - (number_e img at + 2048 * number_g img at)

-- the stored code, "least byte first"
unfoldable pub code_at : List ℕ → ℕ → ℕ
code_at img c = byte_at img c + 256 * byte_at img (c + 1) + 65536 * byte_at img (c + 2)

unfoldable pub put_code : List ℕ → ℕ → ℕ → List ℕ
put_code img c v = set (set (set img c (v % 256)) (c + 1) (v / 256 % 256)) (c + 2) (v / 65536 % 256)

-- the code at c fits the 256 bytes from `at`
unfoldable pub fits : List ℕ → ℕ → ℕ → Bool
fits img at c = eqb (code_at img c) (fresh_code img at)

-- the codes of the first k halves of the page that begins at byte b fit
unfoldable pub codes_fit : Geometry → List ℕ → ℕ → ℕ → Bool
codes_fit g img b zero = true
codes_fit g img b (suc k) = codes_fit g img b k & fits img (b + 256 * k) (b + code_place g k)

-- bit n of the bytes from `at` turned over
unfoldable pub flip_bit : List ℕ → ℕ → ℕ → List ℕ
flip_bit img at n = set img (at + n / 8) (byte_at img (at + n / 8) ⊕ 2 ^ (n % 8))

-- "exactly one bit differs in each of the k pairs" of a and b
unfoldable pub one_of_each : ℕ → ℕ → ℕ → Bool
one_of_each zero a b = true
one_of_each (suc k) a b = eqb (a % 2 + b % 2) 1 & one_of_each k (a / 2) (b / 2)

-- "exactly one bit differs in each of the 11 pairs of E and G and none elsewhere"
unfoldable pub in_pairs : ℕ → Bool
in_pairs d = one_of_each 11 (d % 2048) (d / 2048 % 2048) & eqb (d / 4194304) 0

-- what the 24 bits that differ tell: "clean if no bit differs; a data bit mended (the one that E's difference numbers)
-- if exactly one bit differs in each of the 11 pairs; code mended if one of the 24 bits differs; else beyond repair".
-- The one of the 24 bits that differs is the lowest
unfoldable pub diagnosis : ℕ → Patrol
diagnosis d =
    pick (eqb d 0) Clean (
    pick (in_pairs d) (DataMended (d % 2048)) (
    pick (eqb (ones_in 24 d) 1) (CodeMended (count_trailing_zeros 24 d))
    Beyond))

-- "It compares the stored code with a fresh one"
unfoldable pub found : List ℕ → ℕ → ℕ → Patrol
found img at c = diagnosis (code_at img c ⊕ fresh_code img at)

-- the bytes after a patrol that found this: "beyond repair, nothing changed"
unfoldable pub mended : List ℕ → ℕ → ℕ → Patrol → List ℕ
mended img at c Clean = img
mended img at c (DataMended n) = flip_bit img at n
mended img at c (CodeMended j) = put_code img c (fresh_code img at)
mended img at c Beyond = img
