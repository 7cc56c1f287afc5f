-- The place where a key stands or enters, beside the model's `place`. Definitions alone; assumes nothing.
use Rattle.std.specs.Prelude.{ℕ, suc, List, [], ◌∷◌, Bool, false, eqb, ltb}
use Rattle.geometry.specs.declared.Entry.{Entry}
use Rattle.geometry.specs.Tests.{pick}
use Rattle.model.specs.Tree.{place, chosen}

-- after the entry that descent takes where its key is below k, else there
unfoldable pub ahead : ℕ → List Entry → ℕ
ahead k [] = 0
ahead k (e ∷ es) = pick (ltb (chosen k (e ∷ es)).key k) (suc (place k (e ∷ es))) (place k (e ∷ es))

-- whether the entry that descent takes has key k
unfoldable pub holds : ℕ → List Entry → Bool
holds k [] = false
holds k (e ∷ es) = eqb (chosen k (e ∷ es)).key k
