-- The two stores, a list of them made in order, and a list cut at the allowance. Definitions alone; assumes nothing.
use Rattle.std.specs.Prelude.{ℕ, zero, suc, ◌+◌, ◌*◌, List, [], ◌∷◌, set}
use Rattle.geometry.specs.declared.Geometry.{Geometry}
use Rattle.geometry.specs.Geometry.{page_bytes, page_base}
use Rattle.model.specs.Bytes.{byte_at}

-- "program one page, whole; erase one block, which sets all its bytes to 255"
pub data Store : Type 0 where
  program : ℕ → List ℕ → Store
  erase : ℕ → Store

-- l with f 0 to f (n - 1) written from index `at` on; nothing outside l
unfoldable pub written : {A : Type 0} → List A → ℕ → (ℕ → A) → ℕ → List A
written l at f zero = l
written l at f (suc n) = set (written l at f n) (at + n) (f n)

unfoldable pub apply_store : Geometry → Store → List ℕ → List ℕ
apply_store g (program p bs) img = written img (page_base g p) (byte_at bs) (page_bytes g)
apply_store g (erase b) img = written img (page_base g (g.pages * b)) (λ k. 255) (page_base g g.pages)

unfoldable pub apply_all : Geometry → List Store → List ℕ → List ℕ
apply_all g [] img = img
apply_all g (s ∷ ss) img = apply_all g ss (apply_store g s img)

-- pages programmed
unfoldable pub programs : List Store → ℕ
programs [] = 0
programs (program p bs ∷ ss) = 1 + programs ss
programs (erase b ∷ ss) = programs ss

-- blocks erased
unfoldable pub erases : List Store → ℕ
erases [] = 0
erases (program p bs ∷ ss) = erases ss
erases (erase b ∷ ss) = 1 + erases ss
