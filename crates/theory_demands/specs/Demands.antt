-- The demands, about the definitions `lookup`, `insert` and `delete` of crate model, whose outcome has an answer
-- number, an address, two counts and the image afterwards. g is any geometry with `Shape g`, so the small and the large
-- chip; k, the key, and a, the address, are below 2^32 = 4294967296; al is the store allowance. `Words` has the words:
-- Ready, map_at, Rising, Holds, Kept, Began, OneOf, Own. Every proof here is one citation; assumes nothing.
use Rattle.std.specs.Prelude.{◌≡◌, List, [], ◌∷◌, ℕ, ◌<◌, ◌≤◌, None, Some}
use Rattle.geometry.specs.declared.Geometry.{Geometry}
use Rattle.geometry.specs.Shape.{Shape}
use Rattle.geometry.specs.Bounds.{four_bytes}
use Rattle.model.specs.Image.{blocks_of, chip_of}
use Rattle.model.specs.Tree.{find}
use Rattle.model.specs.Edit.{put, remove}
use Rattle.model.specs.Update.{needs, insert_stores}
use Rattle.model.specs.Calls.{made, answered, lookup, insert}
use Rattle.theory_demands.specs.Words.{Ready, map_at, Rising, Began, OneOf, Own}
use Rattle.theory_demands.specs.Maps.{rising, find_put, find_put_other, find_remove, find_remove_other}
use Rattle.theory_demands.specs.Bridges.{ready_rises}
use Rattle.theory_demands.specs.Calls.{insert_untouched, insert_passed}
use Rattle.theory_demands.specs.Proofs.{lookup_image, insert_one, room_needs, height_absent, insert_pages_lem, lookup_is}

-- ---- Demand 1: answers 1 to 6 leave the image as it was, for every image and geometry; a lookup always does
pub insert_refused : (g : Geometry) (img : List ℕ) (k a al : ℕ)
    → 1 ≤ (insert g img k a al).answer → (insert g img k a al).answer ≤ 6 → (insert g img k a al).image ≡ img
insert_refused g img k a al = insert_untouched g img k a al

pub lookup_reads : (g : Geometry) (img : List ℕ) (k : ℕ) → (lookup g img k).image ≡ img
lookup_reads g img k = lookup_image g img k

module _ (g : Geometry) (shape : Shape g) (img : List ℕ) (ready : Ready g img) (k : ℕ) (k_low : k < four_bytes) where
  -- ---- Demand 2: on a sound image the calls answer as the sorted map says
  -- the map's keys rise strictly and stay below 2^32
  pub map_sorted : Rising four_bytes (map_at g img)
  map_sorted = rising four_bytes (map_at g img) (ready_rises g shape img ready)

  -- lookup: answer 0 and the address that the map has for K, or answer 4 where it has none
  pub lookup_answers : lookup g img k ≡ answered (find k (map_at g img)) img
  lookup_answers = lookup_is g shape img ready k k_low

  -- insert answers 0, 3, 5, 6 or 7, and 5 for an absent key only
  pub insert_answers : (a al : ℕ) → OneOf (insert g img k a al).answer (0 ∷ 3 ∷ 5 ∷ 6 ∷ 7 ∷ [])
  insert_answers a al = insert_one g shape img ready k a al

  pub insert_height : (a al : ℕ) → (insert g img k a al).answer ≡ 5 → find k (map_at g img) ≡ None
  insert_height a al h = height_absent g shape img ready k k_low a al h

  -- and 6 only where it needs two pages or more: R8 leaves room for one
  pub insert_room : (a al : ℕ) → (insert g img k a al).answer ≡ 6 → 2 ≤ needs g (chip_of g (blocks_of g img) img) k
  insert_room a al h = room_needs g shape img ready k a al h

  -- what `put` and `remove` do to a map: K is found with A, or no more; every other key is found as before
  pub put_finds : (a : ℕ) → find k (put k a (map_at g img)) ≡ Some a
  put_finds a = find_put k a (map_at g img)

  pub put_others : (a j : ℕ) → (j ≡ k → ⊥) → find j (put k a (map_at g img)) ≡ find j (map_at g img)
  put_others a j d = find_put_other k a j (map_at g img) d

  pub remove_finds : find k (remove k (map_at g img)) ≡ None
  remove_finds = find_remove k four_bytes (map_at g img) (ready_rises g shape img ready)

  pub remove_others : (j : ℕ) → (j ≡ k → ⊥) → find j (remove k (map_at g img)) ≡ find j (map_at g img)
  remove_others j d = find_remove_other k j (map_at g img) d

  -- ---- Demand 3: the stores of an update that begins (answers 0 or 7), by `Kept`: each is legal; after each of them

  -- the call's image and counts are those of the list, cut at the allowance
  pub insert_made_lem : (a al : ℕ) → Began (insert g img k a al) → insert g img k a al ≡ made g
      (insert_stores g (blocks_of g img) img k a) al img
  insert_made_lem a al b = (insert_passed g img k a al ready b).1

  -- own pages: 1 + splits + 1 if the tree grows, of a delete 1; the rest of the list is collection, which ends because
  -- it is done
  pub insert_own : (a al : ℕ) → a < four_bytes → Began (insert g img k a al)
      → Own g (blocks_of g img) img (needs g (chip_of g (blocks_of g img) img) k) (insert_stores g (blocks_of g img) img k a)
  insert_own a al a-low b = insert_pages_lem g shape img ready k k_low a al a-low b
