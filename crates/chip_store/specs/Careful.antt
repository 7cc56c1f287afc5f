-- "program erased pages only": the stores of a list up to the first program of a page that is not erased. Definitions
-- alone; assumes nothing.
use Rattle.std.specs.Prelude.{◌≡◌, true, List, [], ◌∷◌, ℕ, take}
use Rattle.geometry.specs.declared.Geometry.{Geometry}
use Rattle.geometry.specs.Tests.{pick}
use Rattle.model.specs.Bytes.{erased}
use Rattle.model.specs.Stores.{Store, program, erase, apply_store}

unfoldable pub careful : Geometry → List Store → List ℕ → List Store
careful g [] img = []
careful g (program p bs ∷ ss) img = pick (erased g img p) (program p bs ∷ careful g ss (apply_store g (program p bs) img)) []
careful g (erase b ∷ ss) img = erase b ∷ careful g ss (apply_store g (erase b) img)

-- the stores that are made of a list under an allowance
abbrev pub made_of : Geometry → List Store → ℕ → List ℕ → List Store
made_of g ss allowance img = take allowance (careful g ss img)

-- each program of the list is of a page that is then erased
unfoldable pub Cautious : Geometry → List Store → List ℕ → Type 0
Cautious g [] img = Unit {0}
Cautious g (program p bs ∷ ss) img = (erased g img p ≡ true) × Cautious g ss (apply_store g (program p bs) img)
Cautious g (erase b ∷ ss) img = Cautious g ss (apply_store g (erase b) img)
