-- "Numbers are decimal up to 4,294,967,295, without leading zeros". Definitions alone; assumes nothing.
use Rattle.std.specs.Prelude.{ℕ, zero, suc, ◌+◌, ◌-◌, ◌*◌, ◌/◌, ◌%◌, Bool, true, false, List, [], ◌∷◌, ◌++◌, leb, ltb, None, Option, Some}
use Rattle.geometry.specs.Tests.{pick, ◌&◌}

-- the bytes 48 to 57 are the digits 0 to 9
unfoldable pub digit : ℕ → Bool
digit b = leb 48 b & leb b 57

unfoldable pub all_digits : List ℕ → Bool
all_digits [] = true
all_digits (b ∷ bs) = digit b & all_digits bs

-- the value of digits that stand after others of value v
unfoldable pub value : ℕ → List ℕ → ℕ
value v [] = v
value v (b ∷ bs) = value (10 * v + (b - 48)) bs

-- "without leading zeros": there is a digit, and the first of several is not 0
unfoldable pub proper : List ℕ → Bool
proper [] = false
proper (b ∷ []) = true
proper (b ∷ c ∷ bs) = ltb 48 b

abbrev pub largest : ℕ
largest = 4294967295

-- the number that bytes are
unfoldable pub number_of : List ℕ → Option ℕ
number_of bs = pick (all_digits bs & proper bs & leb (value 0 bs) largest) (Some (value 0 bs)) None

-- the bytes of a number: its last digit stands after those of its tenth. `most` is above n
unfoldable pub digits_of : ℕ → ℕ → List ℕ
digits_of zero n = []
digits_of (suc most) n = pick (ltb n 10) ((48 + n) ∷ []) (digits_of most (n / 10) ++ ((48 + n % 10) ∷ []))

unfoldable pub decimal : ℕ → List ℕ
decimal n = digits_of (suc n) n
