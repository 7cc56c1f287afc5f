-- The record after an erase and after own pages, from the numbers that the code has. Definitions alone; assumes
-- nothing.
use Rattle.std.specs.Prelude.{ℕ, ◌-◌, ◌+◌, ◌%◌, min, List, []}
use Rattle.geometry.specs.declared.Geometry.{Geometry}
use Rattle.geometry.specs.Bounds.{four_bytes}
use Rattle.model.specs.Bytes.{erased}
use Rattle.model.specs.Image.{pages_of}
use Rattle.open_record.specs.declared.Opened.{Opened}
use Rattle.live_beside.specs.Table.{table_in}
use Rattle.live_beside.specs.Beside.{Beside}
use Rattle.live_beside.specs.Collect.{next_erased, record_erased}
use Rattle.live_beside.specs.Update.{Crest, record_made}

-- root, largest number and next page as a sweep leaves them; the record asks for no more
abbrev pub swept_at : ℕ → ℕ → ℕ → Beside
swept_at root most next = record { root = root; most = most; level = 0; next = next; table = table_in [] [] }

unfoldable pub record_swept : Geometry → ℕ → Opened → ℕ → ℕ → ℕ → List ℕ → Opened
record_swept g n o root most next then = record_erased g n o (swept_at root most next) then

-- where the root has the largest number
unfoldable pub onward_swept : Geometry → ℕ → Opened → ℕ → ℕ → ℕ → List ℕ → Opened
onward_swept g n o root most next then = record {
  root = root;
  number = most % four_bytes;
  most = most % four_bytes;
  height = o.height;
  next = min (pages_of g n) (next_erased g.pages n (erased g then) root next);
  erased = o.erased - (most - o.most) + g.pages;
}

-- where the root stands
abbrev pub crest_at : ℕ → ℕ → Crest
crest_at page level = record { page = page; level = level }

unfoldable pub record_at : Geometry → ℕ → Opened → ℕ → ℕ → ℕ → List ℕ → Opened
record_at g n o m page level then = record_made g n o m (crest_at page level) then
