-- The tree from the root down: its map, its live pages, descent. Level 0 is the pair itself. Definitions alone; assumes
-- nothing.
use Rattle.std.specs.Prelude.{ℕ, zero, suc, ◌+◌, ◌-◌, ◌/◌, min, Bool, true, false, List, [], ◌∷◌, ◌++◌, eqb, ltb, length, get_or, None, Option, Some}
use Rattle.geometry.specs.declared.Entry.{Entry}
use Rattle.geometry.specs.Tests.{pick}
use Rattle.model.specs.Count.{count}
use Rattle.model.specs.Image.{Nodes, Chip, the_root}

unfoldable pub gather : {A : Type 0} → (Entry → List A) → List Entry → List A
gather f [] = []
gather f (e ∷ es) = f e ++ gather f es

-- the pairs under an entry at level l, in rising order
unfoldable pub under : Nodes → ℕ → Entry → List Entry
under r zero e = e ∷ []
under r (suc l) e = gather (under r l) (r e.addr (suc l))

-- the map of an index: key in, address out
abbrev pub map_of : Chip → List Entry
map_of c = under c.nodes (suc c.level) (the_root c)

-- R6: "The root and each node it reaches are live, and so are their pages"
pub record Place : Type 0 where
  pub page : ℕ
  pub level : ℕ

unfoldable pub places : Nodes → ℕ → Entry → List Place
places r zero e = []
places r (suc l) e = record { page = e.addr; level = suc l } ∷ gather (places r l) (r e.addr (suc l))

abbrev pub places_of : Chip → List Place
places_of c = places c.nodes (suc c.level) (the_root c)

unfoldable pub live : List Place → ℕ → Bool
live [] p = false
live (x ∷ xs) p = pick (eqb x.page p) true (live xs p)

-- the lowest level of a live node on page p; 0 if there is none
unfoldable pub low_level : List Place → ℕ → ℕ
low_level [] p = 0
low_level (x ∷ xs) p = pick (eqb x.page p) (pick (live xs p) (min x.level (low_level xs p)) x.level) (low_level xs p)

-- L
abbrev pub live_pages : ℕ → Chip → ℕ
live_pages t c = count t (live (places_of c))

-- F
abbrev pub erased_pages : ℕ → Chip → ℕ
erased_pages t c = count t c.er

-- the key that follows: the next entry's, or the bound
abbrev pub following : List Entry → ℕ → ℕ
following [] hi = hi
following (e ∷ es) hi = e.key

-- ---- search in a node, by halving
-- entry i of a node; past the end the pair of zeros
abbrev pub entry_of : List Entry → ℕ → Entry
entry_of es i = get_or es i (record { key = 0; addr = 0 })

-- the entry halfway from lo to hi
abbrev pub middle : ℕ → ℕ → ℕ
middle lo hi = lo + (hi - lo) / 2

-- s halvings of the entries from lo to hi, hi left out: the half before the middle where its key is above K, else the
-- half that starts with it. Of one entry or none lo stays
unfoldable pub halve : ℕ → ℕ → List Entry → ℕ → ℕ → ℕ
halve zero k es lo hi = lo
halve (suc s) k es lo hi =
    let m = middle lo hi in
    let above = ltb k (entry_of es m).key in
    halve s k es (pick above lo m) (pick above m hi)

-- where descent with K goes on
unfoldable pub place : ℕ → List Entry → ℕ
place k es = halve (length es) k es 0 (length es)

-- "Descent takes the last entry whose key is not above K, or the first entry if there is none"
unfoldable pub chosen : ℕ → List Entry → Entry
chosen k es = entry_of es (place k es)

-- the leaf where descent from the entry e ends, l levels below it
unfoldable pub leaf : Nodes → ℕ → ℕ → Entry → List Entry
leaf r k zero e = r e.addr 1
leaf r k (suc l) e = leaf r k l (chosen k (r e.addr (suc (suc l))))

-- what a sorted list has under K
unfoldable pub find : ℕ → List Entry → Option ℕ
find k [] = None
find k (e ∷ es) = pick (eqb e.key k) (Some e.addr) (find k es)

-- what a leaf has under K: the entry that descent takes, if its key is K
unfoldable pub find_in : ℕ → List Entry → Option ℕ
find_in k [] = None
find_in k (e ∷ es) = find k (chosen k (e ∷ es) ∷ [])

-- what lookup finds of K
abbrev pub sought : Chip → ℕ → Option ℕ
sought c k = find_in k (leaf c.nodes k c.level (the_root c))
