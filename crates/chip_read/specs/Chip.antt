-- Names of what the readers answer, beside those of the model. Definitions alone; assumes nothing.
use Rattle.std.specs.Prelude.{ℕ, ◌+◌, List}
use Rattle.geometry.specs.declared.Geometry.{Geometry}
use Rattle.geometry.specs.declared.Entry.{Entry}
use Rattle.geometry.specs.Tests.{pick}
use Rattle.model.specs.Bytes.{u32_at, erased, node_at}
use Rattle.model.specs.Image.{Chip, blocks_of, good_length, seq_of}

-- the slot at an index
unfoldable pub entry_at : List ℕ → ℕ → Entry
entry_at img at = record { key = u32_at img at; addr = u32_at img (at + 4) }

-- an entry that names page p
abbrev pub naming : ℕ → Entry
naming p = record { key = 0; addr = p }

-- the blocks of an image of good length, else 0
unfoldable pub good_blocks : Geometry → List ℕ → ℕ
good_blocks g img = pick (good_length g img) (blocks_of g img) 0

-- what the rules see of an image whose root stands at this page, with so many levels below it
abbrev pub chip_with : Geometry → List ℕ → ℕ → ℕ → Chip
chip_with g img level root = record { er = erased g img; seq = seq_of g img; nodes = node_at g img; level = level; root = root }
