-- Insert, delete and move on nodes. All three are one recursion: down the path the chosen entry gives way to a list of
-- entries (insert 1 or 2, delete 0 or 1, move 1). Definitions alone; assumes nothing.
use Rattle.std.specs.Prelude.{ℕ, zero, suc, ◌+◌, ◌*◌, min, Bool, List, [], ◌∷◌, ◌++◌, eqb, leb, ltb, length, take, drop}
use Rattle.geometry.specs.declared.Entry.{Entry}
use Rattle.geometry.specs.Tests.{pick, bit, ◌&◌}
use Rattle.model.specs.Image.{Nodes}
use Rattle.model.specs.Tree.{following, place, chosen}

-- entry i gives way to the list f makes of it
abbrev pub swap : (Entry → List Entry) → ℕ → List Entry → List Entry
swap f i [] = []
swap f zero (e ∷ es) = f e ++ es
swap f (suc i) (e ∷ es) = e ∷ swap f i es

-- the entry that descent with K takes gives way to the list f makes of it
unfoldable pub splice : (Entry → List Entry) → ℕ → List Entry → List Entry
splice f k es = swap f (place k es) es

-- the edited node at level suc l that e names: a leaf by `leaf`; above, the chosen entry x gives way to what `name`
-- says of x and of the edited node below
unfoldable pub edited : Nodes → ℕ → (List Entry → List Entry) → (ℕ → Entry → List Entry → List Entry) → ℕ → Entry
    → List Entry
edited r k leaf name zero e = leaf (r e.addr 1)
edited r k leaf name (suc l) e = splice (λ x. name (suc l) x (edited r k leaf name l x)) k (r e.addr (suc (suc l)))

-- the edited node of the path at level j, from the node at level suc l that e names
unfoldable pub on_path : Nodes → ℕ → (List Entry → List Entry) → (ℕ → Entry → List Entry → List Entry) → ℕ → Entry → ℕ
    → List Entry
on_path r k leaf name zero e j = pick (eqb j 1) (edited r k leaf name zero e) []
on_path r k leaf name (suc l) e j =
    pick (eqb j (suc (suc l))) (edited r k leaf name (suc l) e) (on_path r k leaf name l (chosen k (r e.addr (suc (suc l)))) j)

-- ---- insert
-- a sorted list with K: "If K is present its address is replaced. If absent, .. K enters the leaf"
abbrev pub put : ℕ → ℕ → List Entry → List Entry
put k a [] = record { key = k; addr = a } ∷ []
put k a (e ∷ es) = pick (ltb e.key k) (e ∷ put k a es) (record { key = k; addr = a } ∷ pick (eqb e.key k) es (e ∷ es))

-- a leaf with K: put at the entry that descent takes
unfoldable pub put_in : ℕ → ℕ → List Entry → List Entry
put_in k a [] = put k a []
put_in k a (e ∷ es) = splice (λ x. put k a (x ∷ [])) k (e ∷ es)

-- "of the c+1 entries in order the left half takes c/2 and the right the rest"; m is where the cut falls.
-- "The path half is, in a leaf, the half that holds K, and above, the half that names page N": the right one exactly
-- when its first key is not above K
abbrev pub turn : ℕ → ℕ → List Entry → Bool
turn k m c = leb (following (drop m c) 0) k

abbrev pub path_half : ℕ → ℕ → List Entry → List Entry
path_half k m c = pick (turn k m c) (drop m c) (take m c)

abbrev pub side_half : ℕ → ℕ → List Entry → List Entry
side_half k m c = pick (turn k m c) (take m c) (drop m c)

-- "The entry above keeps its key and names the left half's page; a new entry after it has the right half's first key":
-- z is the key kept, n the page of the path half, o that of the other
abbrev pub two : ℕ → ℕ → ℕ → ℕ → ℕ → List Entry → List Entry
two k n o m z c =
    record { key = z; addr = pick (turn k m c) o n } ∷ record { key = following (drop m c) 0; addr = pick (turn k m c) n o } ∷ []

-- what stands above an edited node c at level l: one entry that names N, its key lowered to K where it is above K, or
-- two where c exceeds the level's slots, 2 * half
abbrev pub named : ℕ → ℕ → (ℕ → ℕ) → (ℕ → ℕ) → ℕ → Entry → List Entry → List Entry
named k n side half l e c =
    pick (leb (length c) (2 * half l)) (record { key = min e.key k; addr = n } ∷ []) (two k n (side l) (half l) (min e.key k) c)

-- "it holds the path half at each split level, the changed node at the others"
abbrev pub path_part : ℕ → (ℕ → ℕ) → ℕ → List Entry → List Entry
path_part k half l c = pick (leb (length c) (2 * half l)) c (path_half k (half l) c)

-- an entry at level suc l gives way to two: K is absent, and the node it names and the path's nodes below are full
unfoldable pub gains : Nodes → ℕ → (ℕ → ℕ) → Bool → ℕ → Entry → Bool
gains r k half absent zero e = absent
gains r k half absent (suc l) e =
    eqb (length (r e.addr (suc l))) (2 * half (suc l)) & gains r k half absent l (chosen k (r e.addr (suc l)))

-- how many nodes of the path split, from the one that e names down
unfoldable pub splits : Nodes → ℕ → (ℕ → ℕ) → Bool → ℕ → Entry → ℕ
splits r k half absent zero e = 0
splits r k half absent (suc l) e = bit (gains r k half absent (suc l) e) + splits r k half absent l (chosen k (r e.addr (suc l)))

-- ---- delete
-- a sorted list without K: "The entry leaves its leaf"
abbrev pub remove : ℕ → List Entry → List Entry
remove k [] = []
remove k (e ∷ es) = pick (eqb e.key k) es (e ∷ remove k es)

-- a leaf without K: taken out at the entry that descent takes
unfoldable pub remove_in : ℕ → List Entry → List Entry
remove_in k es = splice (λ x. remove k (x ∷ [])) k es

-- "An emptied node .. vanishes with its entry above"; else the entry names N
abbrev pub kept : ℕ → ℕ → Entry → List Entry → List Entry
kept n l e [] = []
kept n l e (x ∷ c) = record { key = e.key; addr = n } ∷ []

-- "While a root above level 1 has one entry, the node it names becomes the root": the levels below it, and its entries
pub record Top : Type 0 where
  pub level : ℕ
  pub list : List Entry

unfoldable pub collapse : Nodes → ℕ → List Entry → Top
collapse r zero c = record { level = 0; list = c }
collapse r (suc l) [] = record { level = suc l; list = [] }
collapse r (suc l) (x ∷ []) = collapse r l (r x.addr (suc l))
collapse r (suc l) (x ∷ y ∷ c) = record { level = suc l; list = x ∷ y ∷ c }

-- ---- move
-- "entries between them renamed to the new page, nothing else changed": a is the lowest level that moves
abbrev pub renamed : ℕ → ℕ → ℕ → Entry → List Entry → List Entry
renamed a n l e c = pick (leb a l) (record { key = e.key; addr = n } ∷ []) (e ∷ [])

-- a leaf that stays as it is
abbrev pub same : List Entry → List Entry
same es = es
