-- Bounds that contracts and laws name. Definitions alone; assumes nothing.
use Rattle.std.specs.Prelude.{ℕ}

-- a number of four bytes is below it: keys, addresses, numbers of pages, sequence numbers, counts
abbrev pub four_bytes : ℕ
four_bytes = 4294967296

-- bytes of the longest page, that of the large chip: a buffer for a page has as many
abbrev pub longest_page : ℕ
longest_page = 2112
