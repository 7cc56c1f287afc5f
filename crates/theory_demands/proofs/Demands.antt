-- The demands, about the definitions `lookup`, `insert` and `delete` of crate model, whose outcome has an answer
-- number, an address, two counts and the image afterwards. g is any geometry with `Shape g`, so the small and the large
-- chip; k, the key, and a, the address, are below 2^32 = 4294967296; al is the store allowance. `Words` has the words:
-- Ready, map_at, Rising, Holds, Kept, Began, OneOf, Own. Every proof here is one citation; assumes nothing.
use Rattle.std.specs.Prelude.{◌≡◌, List, [], ◌∷◌, ◌⊎◌, ℕ, ◌<◌, ◌≤◌, None}
use Rattle.geometry.specs.declared.Geometry.{Geometry}
use Rattle.geometry.specs.Shape.{Shape}
use Rattle.geometry.specs.Bounds.{four_bytes}
use Rattle.model.specs.Image.{blocks_of, chip_of}
use Rattle.model.specs.Tree.{find}
use Rattle.model.specs.Edit.{put, remove}
use Rattle.model.specs.Stores.{programs, erases}
use Rattle.model.specs.Update.{needs, insert_stores, delete_stores}
use Rattle.model.specs.Calls.{made, insert, delete}
use Rattle.theory_demands.specs.Words.{Ready, map_at, Holds, own_most, programmed_most, erased_most, Kept, Began, OneOf, Own}
use Rattle.theory_demands.proofs.Calls.{delete_untouched, delete_passed}
use Rattle.theory_demands.proofs.Proofs.{delete_one, absent_answer, answer_absent, insert_kept, delete_pages, delete_kept, insert_ends, delete_ends, insert_stops, delete_stops}
use Rattle.theory_demands.specs.Demands.{insert_own}

pub delete_refused : (g : Geometry) (img : List ℕ) (k al : ℕ)
    → 1 ≤ (delete g img k al).answer → (delete g img k al).answer ≤ 6 → (delete g img k al).image ≡ img
delete_refused g img k al = delete_untouched g img k 0 al

module _ (g : Geometry) (shape : Shape g) (img : List ℕ) (ready : Ready g img) (k : ℕ) (k_low : k < four_bytes) where
  -- delete answers 0, 3, 4 or 7, and 4 exactly for an absent key, unless the chip is worn
  pub delete_answers : (al : ℕ) → OneOf (delete g img k al).answer (0 ∷ 3 ∷ 4 ∷ 7 ∷ [])
  delete_answers al = delete_one g shape img ready k al

  pub delete_absent : (al : ℕ) → (delete g img k al).answer ≡ 4 → find k (map_at g img) ≡ None
  delete_absent al h = absent_answer g shape img ready k k_low al h

  pub absent_delete : (al : ℕ) → find k (map_at g img) ≡ None → ((delete g img k al).answer ≡ 3) ⊎
      ((delete g img k al).answer ≡ 4)
  absent_delete al h = answer_absent g shape img ready k k_low al h

  -- an update that answers 0 leaves a sound image, its map with K put in or taken out
  pub insert_done : (a al : ℕ) → a < four_bytes → (insert g img k a al).answer ≡ 0 → Holds g (put k a (map_at g img))
      (insert g img k a al).image
  insert_done a al a-low h = insert_ends g shape img ready k k_low a al a-low h

  pub delete_done : (al : ℕ) → (delete g img k al).answer ≡ 0 → Holds g (remove k (map_at g img))
      (delete g img k al).image
  delete_done al h = delete_ends g shape img ready k k_low al h

  -- stands a sound image that holds the old map, or the new one once the last store is made; programs and erases are
  -- bounded
  pub insert_stores_lem : (a al : ℕ) → a < four_bytes → Began (insert g img k a al)
      → Kept g (map_at g img) (put k a (map_at g img)) img (insert_stores g (blocks_of g img) img k a)
  insert_stores_lem a al a-low b = insert_kept g shape img ready k k_low a al a-low b

  pub delete_stores_lem : (al : ℕ) → Began (delete g img k al)
      → Kept g (map_at g img) (remove k (map_at g img)) img (delete_stores g (blocks_of g img) img k)
  delete_stores_lem al b = delete_kept g shape img ready k k_low al b

  pub delete_made_lem : (al : ℕ) → Began (delete g img k al) → delete g img k al ≡ made g
      (delete_stores g (blocks_of g img) img k) al img
  delete_made_lem al b = (delete_passed g img k 0 al ready b).1

  -- so a stopped update leaves a sound image with the old map
  pub insert_stopped : (a al : ℕ) → a < four_bytes → (insert g img k a al).answer ≡ 7 → Holds g (map_at g img)
      (insert g img k a al).image
  insert_stopped a al a-low h = insert_stops g shape img ready k k_low a al a-low h

  pub delete_stopped : (al : ℕ) → (delete g img k al).answer ≡ 7 → Holds g (map_at g img) (delete g img k al).image
  delete_stopped al h = delete_stops g shape img ready k k_low al h

  pub delete_own : (al : ℕ) → Began (delete g img k al) → Own g (blocks_of g img) img 1
      (delete_stores g (blocks_of g img) img k)
  delete_own al b = delete_pages g shape img ready k k_low al b

  -- so at most 5 own pages, 191 programmed and 6 erased on the small chip, 7, 511 and 8 on the large one: `small_most`,
  -- `large_most`
  pub insert_bounds : (a al : ℕ) → a < four_bytes → Began (insert g img k a al)
      → (needs g (chip_of g (blocks_of g img) img) k ≤ own_most g) ×
      (programs (insert_stores g (blocks_of g img) img k a) ≤ programmed_most g) ×
      (erases (insert_stores g (blocks_of g img) img k a) ≤ erased_most g)
  insert_bounds a al a-low b =
      let h = insert_stores_lem a al a-low b in
      ((insert_own g shape img ready k k_low a al a-low b).atmost, h.programmed, h.wiped)

  pub delete_bounds : (al : ℕ) → Began (delete g img k al)
      → (programs (delete_stores g (blocks_of g img) img k) ≤ programmed_most g) ×
      (erases (delete_stores g (blocks_of g img) img k) ≤ erased_most g)
  delete_bounds al b = let h = delete_stores_lem al b in (h.programmed, h.wiped)
