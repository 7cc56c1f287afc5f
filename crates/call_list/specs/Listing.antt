-- A buffer as the walk fills it, and what the walk has still to find. Definitions alone; assumes nothing.
use Rattle.std.specs.Prelude.{ℕ, ◌+◌, ◌-◌, ◌*◌, ◌≡◌, List, [], ◌∷◌, leb, ltb, length, set, take}
use Rattle.geometry.specs.declared.Geometry.{Geometry}
use Rattle.geometry.specs.declared.Entry.{Entry}
use Rattle.geometry.specs.Tests.{pick}
use Rattle.model.specs.Bytes.{entries_at, node_at}
use Rattle.model.specs.Image.{chip_of}
use Rattle.model.specs.Tree.{gather}
use Rattle.model.specs.Rules.{verdict}
use Rattle.model.specs.Calls.{by_verdict}
use Rattle.model.specs.Listing.{up_to, ranged, ranged_of, Listed, lists, lists_none}
use Rattle.open_record.specs.Opened.{pairs_most}

-- pair i, if the buffer has room for both numbers
unfoldable pub put_pair : List ℕ → ℕ → Entry → List ℕ
put_pair buffer i e = pick (ltb (2 * i + 1) (length buffer)) (set (set buffer (2 * i) e.key) (2 * i + 1) e.addr) buffer

-- pairs one after the other, the first of them pair i
unfoldable pub put_pairs : List ℕ → ℕ → List Entry → List ℕ
put_pairs buffer i [] = buffer
put_pairs buffer i (e ∷ es) = put_pairs (put_pair buffer i e) (i + 1) es

-- what the walk finds at level 0: the pair itself, unless its key is below
unfoldable pub not_below : ℕ → Entry → List Entry
not_below low e = pick (leb low e.key) (e ∷ []) []

-- what the walk finds in a node's entries after i of the n from byte `at`, the nodes below at level l - 1
unfoldable pub rest : Geometry → List ℕ → ℕ → ℕ → ℕ → ℕ → ℕ → ℕ → List Entry
rest g img low high l at n i = gather (ranged (node_at g img) low high (l - 1)) (up_to high (entries_at img (at + 8 * i) (n - i)))

-- what is listed of so many pairs after c others: no more than `pairs_most` in all
unfoldable pub within : ℕ → List Entry → List Entry
within c es = take (pairs_most - c) es

-- the pairs under an entry at level l after x others: b the buffer before, d after, r pairs then
pub record Lists (g : Geometry) (img : List ℕ) (low high l : ℕ) (e : Entry) (x r : ℕ) (b d : List ℕ) : Type 0 where
  pub count : r ≡ x + length (within x (ranged (node_at g img) low high l e))
  pub buffer : d ≡ put_pairs b x (within x (ranged (node_at g img) low high l e))

-- the loop over a node's n entries from byte `at`: x pairs and the buffer b at entry s, c pairs and the buffer d at
-- entry i
pub record Goes (g : Geometry) (img : List ℕ) (low high l at n s x : ℕ) (b : List ℕ) (i c : ℕ) (d : List ℕ) : Type 0
  where
    pub count : x + length (within x (rest g img low high l at n s)) ≡ c + length (within c
        (rest g img low high l at n i))
    pub buffer : put_pairs b x (within x (rest g img low high l at n s)) ≡ put_pairs d c
        (within c (rest g img low high l at n i))

-- a listing on an image of n blocks
unfoldable pub listed_in : Geometry → ℕ → List ℕ → ℕ → ℕ → List ℕ → Listed
listed_in g n img low high buffer =
    by_verdict (verdict g n img) (λ rule page. lists_none 2 rule page buffer) (lists (ranged_of (chip_of g n img) low high) buffer)
