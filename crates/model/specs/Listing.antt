-- Request 1 of document 02, "Frames between two keys": the part of a map, the walk that finds it, and the call on every
-- image. Definitions alone; assumes nothing.
use Rattle.std.specs.Prelude.{ℕ, zero, suc, ◌*◌, ◌/◌, min, List, [], ◌∷◌, ◌++◌, leb, length, take, drop}
use Rattle.geometry.specs.declared.Geometry.{Geometry}
use Rattle.geometry.specs.declared.Entry.{Entry}
use Rattle.geometry.specs.Geometry.{chosen_of}
use Rattle.geometry.specs.Tests.{pick, ◌&◌}
use Rattle.model.specs.Image.{Nodes, Chip, chip_of, blocks_of, the_root}
use Rattle.model.specs.Tree.{gather, place}
use Rattle.model.specs.Calls.{Outcome, judged, chosen_call}

-- "from a low and a high key, both taken in": the part of a map between the keys
unfoldable pub between : ℕ → ℕ → List Entry → List Entry
between low high [] = []
between low high (e ∷ es) = pick (leb low e.key & leb e.key high) (e ∷ between low high es) (between low high es)

-- ---- the walk, from the root down
-- the entries before the first whose key is above
unfoldable pub up_to : ℕ → List Entry → List Entry
up_to high [] = []
up_to high (e ∷ es) = pick (leb e.key high) (e ∷ up_to high es) []

-- the entries of a node that the walk goes down: from the one that descent with the low key takes, up to the high key
abbrev pub reached : ℕ → ℕ → List Entry → List Entry
reached low high es = up_to high (drop (place low es) es)

-- the pairs that the walk finds under an entry at level l; it looks at no other node
unfoldable pub ranged : Nodes → ℕ → ℕ → ℕ → Entry → List Entry
ranged r low high zero e = pick (leb low e.key) (e ∷ []) []
ranged r low high (suc l) e = gather (ranged r low high l) (reached low high (r e.addr (suc l)))

abbrev pub ranged_of : Chip → ℕ → ℕ → List Entry
ranged_of c low high = ranged c.nodes low high (suc c.level) (the_root c)

-- ---- the lent buffer
-- "key then address"
unfoldable pub as_numbers : List Entry → List ℕ
as_numbers [] = []
as_numbers (e ∷ es) = e.key ∷ e.addr ∷ as_numbers es

-- "how many were written, which is the smaller of that and half the buffer's length, rounded down"
abbrev pub written_of : List Entry → List ℕ → ℕ
written_of es buffer = min (length es) (length buffer / 2)

-- "numbers beyond those stay as they were"
unfoldable pub filled : List Entry → List ℕ → List ℕ
filled es buffer = as_numbers (take (written_of es buffer) es) ++ drop (2 * written_of es buffer) buffer

-- ---- the call: its answer, how many pairs exist and how many were written, rule and page, and the buffer afterwards
pub record Listed : Type 0 where
  pub answer : ℕ
  pub exist : ℕ
  pub written : ℕ
  pub rule : ℕ
  pub page : ℕ
  pub buffer : List ℕ

abbrev pub lists : List Entry → List ℕ → Listed
lists es buffer =
    record { answer = 0; exist = length es; written = written_of es buffer; rule = 0; page = 0; buffer = filled es buffer }

-- "with both counts 0, and leave the buffer untouched"
abbrev pub lists_none : ℕ → ℕ → ℕ → List ℕ → Listed
lists_none answer rule page buffer = record { answer = answer; exist = 0; written = 0; rule = rule; page = page; buffer = buffer }

-- "LENGTH and DAMAGED come first"
unfoldable pub listing : Geometry → List ℕ → ℕ → ℕ → List ℕ → Listed
listing g img low high buffer =
    judged g img (lists_none 1 0 0 buffer) (λ rule page. lists_none 2 rule page buffer) (lists (ranged_of (chip_of g (blocks_of g img) img) low high) buffer)

unfoldable pub list_of : ℕ → List ℕ → ℕ → ℕ → List ℕ → Listed
list_of kind img low high buffer = chosen_call (chosen_of kind) (λ g. listing g img low high buffer) (lists_none 1 0 0 buffer)

-- a listing in the numbers of the other calls: pairs that exist, pairs written, 0. The lent buffer stands where they
-- have the image
abbrev pub as_outcome : Listed → Outcome
as_outcome l = record {
  answer = l.answer;
  address = l.exist;
  programmed = l.written;
  erased = 0;
  rule = l.rule;
  page = l.page;
  image = l.buffer;
}
