-- R5 of a leaf's keys. Definitions alone; assumes nothing.
use Rattle.std.specs.Prelude.{ℕ, ◌+◌, ◌-◌, ◌*◌, Bool, true, List, [], ◌∷◌, leb}
use Rattle.geometry.specs.declared.Entry.{Entry}
use Rattle.geometry.specs.Tests.{◌&◌}
use Rattle.model.specs.Bytes.{entries_at}

-- a leaf's entries name anything
abbrev pub any_page : ℕ → Bool
any_page a = true

-- the keys rise, the first of them above k
unfoldable pub climbs : List Entry → ℕ → Bool
climbs [] k = true
climbs (e ∷ es) k = leb (k + 1) e.key & climbs es e.key

-- of the n entries from byte `at`, those from the i-th on
unfoldable pub after : List ℕ → ℕ → ℕ → ℕ → ℕ → Bool
after img at n i k = climbs (entries_at img (at + 8 * i) (n - i)) k
