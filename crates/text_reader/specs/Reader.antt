-- A text read turn by turn, as the reader does it. Definitions alone; assumes nothing.
use Rattle.std.specs.Prelude.{ℕ, zero, suc, ◌+◌, List, [], ◌∷◌, eqb, leb, ltb, length, take, drop, None, Option, Some}
use Rattle.geometry.specs.declared.Entry.{Entry}
use Rattle.geometry.specs.Tests.{pick, ◌&◌}
use Rattle.text_lines.specs.Lines.{fields, reach}
use Rattle.text_carrying.specs.Carrying.{record_of}
use Rattle.text_reader.specs.declared.Spot.{Spot}
use Rattle.text_reader.specs.declared.Turn.{Turn}

abbrev pub no_pair : Entry
no_pair = record { key = 0; addr = 0 }

-- where the reader begins
abbrev pub start : Spot
start = record { at = 0; count = 0; low = 0; bad = 0 }

-- nothing is read
abbrev pub idle : Spot → Turn
idle s = record { entry = no_pair; spot = s }

-- the next line is refused
abbrev pub refusal : Spot → Turn
refusal s = record { entry = no_pair; spot = record { at = s.at; count = s.count; low = s.low; bad = s.count + 1 } }

-- a record with a key that is not below the least
unfoldable pub taken : Spot → ℕ → Entry → Turn
taken s next e = pick (leb s.low e.key)
    (record { entry = e; spot = record { at = next; count = s.count + 1; low = e.key + 1; bad = 0 } }) (refusal s)

unfoldable pub record_turn : Spot → ℕ → Option Entry → Turn
record_turn s next None = refusal s
record_turn s next (Some e) = taken s next e

-- the bytes before the next byte 10
abbrev pub line_of : List ℕ → ℕ → List ℕ
line_of text at = take (reach 10 (drop at text)) (drop at text)

unfoldable pub line_turn : List ℕ → Spot → Turn
line_turn text s = pick (ltb (s.at + reach 10 (drop s.at text)) (length text))
    (record_turn s (s.at + reach 10 (drop s.at text) + 1) (record_of (fields (line_of text s.at)))) (refusal s)

unfoldable pub turn_of : List ℕ → Spot → Turn
turn_of text s = pick (eqb s.bad 0 & ltb s.count 4096 & ltb s.at (length text)) (line_turn text s) (idle s)

-- n turns: how far the reader has come, and the pairs
unfoldable pub spot_after : List ℕ → ℕ → Spot → Spot
spot_after text zero s = s
spot_after text (suc n) s = spot_after text n (turn_of text s).spot

unfoldable pub pairs_of : List ℕ → ℕ → Spot → List Entry
pairs_of text zero s = []
pairs_of text (suc n) s = (turn_of text s).entry ∷ pairs_of text n (turn_of text s).spot

-- pairs in the place of the first of a slice
abbrev pub overlay : List Entry → List Entry → List Entry
overlay [] xs = xs
overlay (e ∷ es) [] = []
overlay (e ∷ es) (x ∷ xs) = e ∷ overlay es xs

-- what n turns leave
abbrev pub filled : List ℕ → ℕ → Spot → List Entry → Spot × List Entry
filled text n s pairs = (spot_after text n s, overlay (pairs_of text n s) pairs)
