-- The words that the demands are stated in. Definitions alone; assumes nothing.
use Rattle.std.specs.Prelude.{◌≡◌, refl, List, [], ◌∷◌, ◌++◌, true, ◌⊎◌, ℕ, suc, ◌+◌, ◌-◌, ◌*◌, ◌<◌, ◌≤◌, length, take}
use Rattle.geometry.specs.declared.Geometry.{Geometry}
use Rattle.geometry.specs.declared.Entry.{Entry}
use Rattle.geometry.specs.Findings.{Sound}
use Rattle.geometry.specs.Geometry.{small, large}
use Rattle.model.specs.Bytes.{byte_at}
use Rattle.model.specs.Image.{blocks_of, pages_of, good_length, chip_of}
use Rattle.model.specs.Tree.{following, map_of, erased_pages}
use Rattle.model.specs.Rules.{verdict}
use Rattle.model.specs.Stores.{Store, apply_store, apply_all, programs, erases}
use Rattle.model.specs.Collect.{collect_stores}
use Rattle.model.specs.Calls.{Outcome}
use Rattle.model.specs.Legal.{Legal}

-- a sound image: its length is good, no rule R1 to R8 is broken, and its bytes are below 256
pub record Ready (g : Geometry) (img : List ℕ) : Type 0 where
  pub length_good : good_length g img ≡ true
  pub is_sound_lem : verdict g (blocks_of g img) img ≡ Sound
  pub bytes : (i : ℕ) → byte_at img i < 256

-- the map of an image: its pairs of key and address, from the root down
abbrev pub map_at : Geometry → List ℕ → List Entry
map_at g img = map_of (chip_of g (blocks_of g img) img)

-- keys rise strictly and stay below hi
abbrev pub Rising : ℕ → List Entry → Type 0
Rising hi [] = Unit {0}
Rising hi (e ∷ es) = (e.key < following es hi) × Rising hi es

-- a sound image that holds this map
pub record Holds (g : Geometry) (map : List Entry) (img : List ℕ) : Type 0 where
  pub ready : Ready g img
  pub map_is : map_at g img ≡ map

-- every store of the list is legal on the image as it then stands
unfoldable pub Lawful : Geometry → ℕ → List ℕ → List Store → Type 0
Lawful g n img [] = Unit {0}
Lawful g n img (s ∷ ss) = Legal g n img s × Lawful g n (apply_store g s img) ss

-- the three numbers of demand 3: own pages, pages programmed and blocks erased with collection
abbrev pub own_most : Geometry → ℕ
own_most g = g.top

abbrev pub programmed_most : Geometry → ℕ
programmed_most g = (g.top + 1) * (g.pages - 1) + g.top

abbrev pub erased_most : Geometry → ℕ
erased_most g = g.top + 1

-- "exactly .. (at most 5) .. at most 191 pages and 6 erases"; "5 becomes 7, 191 becomes 511 and 6 becomes 8"
pub small_most : (own_most small ≡ 5) × (programmed_most small ≡ 191) × (erased_most small ≡ 6)
small_most = (refl, refl, refl)

pub large_most : (own_most large ≡ 7) × (programmed_most large ≡ 511) × (erased_most large ≡ 8)
large_most = (refl, refl, refl)

-- demand 3 of a list of stores that leads from the map old to the map new
pub record Kept (g : Geometry) (old new : List Entry) (img : List ℕ) (ss : List Store) : Type 0 where
  pub lawful : Lawful g (blocks_of g img) img ss
  -- after each beginning of the list, the whole list left out: sound, and the old map
  pub before : (j : ℕ) → j < length ss → Holds g old (apply_all g (take j ss) img)
  -- after the whole list: sound, and the new map
  pub end : Holds g new (apply_all g ss img)
  pub programmed : programs ss ≤ programmed_most g
  pub wiped : erases ss ≤ erased_most g

-- the answer of an update that has begun
abbrev pub Began : Outcome → Type 0
Began o = (o.answer ≡ 0) ⊎ (o.answer ≡ 7)

-- one of a list of numbers
abbrev pub OneOf : ℕ → List ℕ → Type 0
OneOf x [] = ⊥
OneOf x (y ∷ ys) = (x ≡ y) ⊎ OneOf x ys

-- own pages: the list is the collection's stores, then stores with m programs and no erase, m at most `own_most`. The
-- collection ends because it is done: a block's pages and m more are then erased
pub record Own (g : Geometry) (n : ℕ) (img : List ℕ) (m : ℕ) (ss : List Store) : Type 0 where
  pub own : List Store
  pub list_is : ss ≡ collect_stores g n m (suc m) img ++ own
  pub programs_are : programs own ≡ m
  pub no_erase : erases own ≡ 0
  pub atmost : m ≤ own_most g
  pub collected : g.pages + m ≤ erased_pages (pages_of g n)
      (chip_of g n (apply_all g (collect_stores g n m (suc m) img) img))
