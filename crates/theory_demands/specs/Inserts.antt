-- The words of request 10: inserts of absent keys, one after the other, accepted and finished, with nothing else
-- between; X, the pages programmed beyond one for each, the collector's moves left out; the splits and growths.
-- Definitions alone; assumes nothing.
use Rattle.std.specs.Prelude.{◌≡◌, List, [], ◌∷◌, ℕ, suc, ◌+◌, ◌-◌, ◌<◌, length, None, is_none}
use Rattle.geometry.specs.declared.Geometry.{Geometry}
use Rattle.geometry.specs.Tests.{bit}
use Rattle.geometry.specs.Geometry.{half}
use Rattle.geometry.specs.Bounds.{four_bytes}
use Rattle.model.specs.Image.{blocks_of, Chip, chip_of}
use Rattle.model.specs.Tree.{chosen, find, sought}
use Rattle.model.specs.Edit.{splits}
use Rattle.model.specs.Stores.{programs}
use Rattle.model.specs.Collect.{collect_stores}
use Rattle.model.specs.Update.{root_node, root_gains, fills, needs, insert_stores}
use Rattle.model.specs.Calls.{Outcome, insert}
use Rattle.theory_demands.specs.Words.{map_at}

-- an insertion's arguments
pub record Item : Type 0 where
  pub key : ℕ
  pub addr : ℕ
  pub allowance : ℕ

abbrev pub done : Geometry → List ℕ → Item → Outcome
done g img x = insert g img x.key x.addr x.allowance

-- what the rules see of an image
abbrev pub chip_at : Geometry → List ℕ → Chip
chip_at g img = chip_of g (blocks_of g img) img

-- the pages that the collector moves before the insertion's own
abbrev pub moves : Geometry → List ℕ → ℕ → ℕ
moves g img k = programs (collect_stores g (blocks_of g img) (needs g (chip_at g img) k) (suc (needs g (chip_at g img) k)) img)

-- the pages an insertion programs, the collector's moves left out
abbrev pub own_pages : Geometry → List ℕ → Item → ℕ
own_pages g img x = programs (insert_stores g (blocks_of g img) img x.key x.addr) - moves g img x.key

-- the nodes that an insertion splits, and 1 if the root grows
abbrev pub splits_at : Geometry → Chip → ℕ → ℕ
splits_at g c k = splits c.nodes k (half g) (is_none (sought c k)) c.level (chosen k (root_node c))

abbrev pub grows_at : Geometry → Chip → ℕ → ℕ
grows_at g c k = bit (fills g (suc c.level) (length (root_node c) + bit (root_gains g c k)))

-- each key is absent when its turn comes, and each insertion is accepted and finished
unfoldable pub Finished : Geometry → List Item → List ℕ → Type 0
Finished g [] img = Unit {0}
Finished g (x ∷ xs) img = (x.key < four_bytes) × (x.addr < four_bytes) × (find x.key (map_at g img) ≡ None) × ((done g img x).answer ≡ 0) ×
    Finished g xs (done g img x).image

-- the image after them
unfoldable pub filled_by : Geometry → List Item → List ℕ → List ℕ
filled_by g [] img = img
filled_by g (x ∷ xs) img = filled_by g xs (done g img x).image

-- X: pages programmed beyond one for each insertion, the collector's moves left out
unfoldable pub beyond : Geometry → List Item → List ℕ → ℕ
beyond g [] img = 0
beyond g (x ∷ xs) img = own_pages g img x - 1 + beyond g xs (done g img x).image

-- the splits and growths together
unfoldable pub splits_and_growths : Geometry → List Item → List ℕ → ℕ
splits_and_growths g [] img = 0
splits_and_growths g (x ∷ xs) img = splits_at g (chip_at g img) x.key + grows_at g (chip_at g img) x.key + splits_and_growths g xs (done g img x).image
