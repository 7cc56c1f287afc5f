-- Request 8: the record of an image, when it is STALE, and opening, lookup and listing with it. Definitions alone;
-- assumes nothing.
use Rattle.std.specs.Prelude.{ℕ, ◌-◌, min, Bool, not, List, eqb, ltb, take}
use Rattle.geometry.specs.declared.Geometry.{Geometry}
use Rattle.geometry.specs.Geometry.{chosen_of}
use Rattle.geometry.specs.Tests.{pick, ◌&◌}
use Rattle.model.specs.Bytes.{erased, seq_at, height_at}
use Rattle.model.specs.Image.{Chip, chip_of, pages_of, blocks_of, good_length, seq_of, height_of, max_seq, root_of}
use Rattle.model.specs.Tree.{sought, erased_pages}
use Rattle.model.specs.Next.{ahead, next_page}
use Rattle.model.specs.Calls.{Outcome, gives, refused, judged, judged_call, answered, chosen_call}
use Rattle.model.specs.Listing.{Listed, ranged_of, lists, lists_none}
use Rattle.chip_read.specs.Chip.{chip_with}
use Rattle.open_record.specs.declared.Opened.{Opened}

-- "root page, its sequence number, the largest one on the image, height, next page (T if none), erased pages", of n
-- blocks
unfoldable pub opened_in : Geometry → ℕ → List ℕ → Opened
opened_in g n img = record {
  root = root_of g n img;
  number = seq_of g img (root_of g n img);
  most = max_seq g n img;
  height = height_of g img (root_of g n img);
  next = min (pages_of g n) (next_page g.pages n (ahead g n (chip_of g n img)));
  erased = erased_pages (pages_of g n) (chip_of g n img);
}

-- "A refused opening gives zeros"
abbrev pub no_record : Opened
no_record = record { root = 0; number = 0; most = 0; height = 0; next = 0; erased = 0 }

-- "an opening call that judges it and hands back a small record by value"
unfoldable pub opened : Geometry → List ℕ → Opened
opened g img = judged g img no_record (λ rule page. no_record) (opened_in g (blocks_of g img) img)

-- its answer: DONE, LENGTH or DAMAGED; it writes nothing
unfoldable pub opening : Geometry → List ℕ → Outcome
opening g img = judged_call g img (gives 0 0 0 0 img)

-- "the named page [is] programmed with that sequence number and height"; a page outside the image is not
unfoldable pub standing : Geometry → ℕ → List ℕ → Opened → Bool
standing g n img o = ltb o.root (pages_of g n) & not (erased g img o.root) & eqb (seq_at g img o.root) o.number
    & eqb (height_at g img o.root) o.height

-- "the answer is 8 STALE, right after LENGTH", in a call of any kind
unfoldable pub opened_call : {A : Type 0} → Geometry → List ℕ → Opened → A → A → A → A
opened_call g img o short stale rest = pick (good_length g img) (pick (standing g (blocks_of g img) img o) rest stale) short

-- the levels below the record's root, no more than below the highest root: a record that no opening gave may name any
-- height
abbrev pub level_by : Geometry → Opened → ℕ
level_by g o = min (o.height - 1) (g.top - 1)

-- what the rules see of an image whose root is the record's
abbrev pub chip_by : Geometry → List ℕ → Opened → Chip
chip_by g img o = chip_with g img (level_by g o) o.root

unfoldable pub lookup_with : Geometry → List ℕ → Opened → ℕ → Outcome
lookup_with g img o k = opened_call g img o (refused 1 img) (refused 8 img) (answered (sought (chip_by g img o) k) img)

-- the pairs of the largest tree, 4 * 4 * 8 * 16 * 32 * 64 * 128: a listing stops there, so that it ends soon on a
-- damaged image too
abbrev pub pairs_most : ℕ
pairs_most = 536870912

unfoldable pub list_with : Geometry → List ℕ → Opened → ℕ → ℕ → List ℕ → Listed
list_with g img o low high buffer = opened_call g img o (lists_none 1 0 0 buffer) (lists_none 8 0 0 buffer)
    (lists (take pairs_most (ranged_of (chip_by g img o) low high)) buffer)

-- by the geometry's number; another gives LENGTH
unfoldable pub opened_of : ℕ → List ℕ → Opened
opened_of kind img = chosen_call (chosen_of kind) (λ g. opened g img) no_record

unfoldable pub opening_of : ℕ → List ℕ → Outcome
opening_of kind img = chosen_call (chosen_of kind) (λ g. opening g img) (refused 1 img)

unfoldable pub lookup_with_of : ℕ → List ℕ → Opened → ℕ → Outcome
lookup_with_of kind img o k = chosen_call (chosen_of kind) (λ g. lookup_with g img o k) (refused 1 img)

unfoldable pub list_with_of : ℕ → List ℕ → Opened → ℕ → ℕ → List ℕ → Listed
list_with_of kind img o low high buffer = chosen_call (chosen_of kind) (λ g. list_with g img o low high buffer) (lists_none 1 0 0 buffer)
