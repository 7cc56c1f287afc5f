-- The plain tree of request 12, one node to a page: where the new nodes stand.
-- Definitions alone; assumes nothing.
use Rattle.std.specs.Prelude.{◌≡◌, List, [], ◌∷◌, ℕ, ◌*◌, ◌<◌, ◌≤◌, length}
use Rattle.geometry.specs.declared.Entry.{Entry}
use Rattle.model.specs.Image.{Nodes}
use Rattle.model.specs.Edit.{put, remove}
use Rattle.model.specs.Plain.{renewed, kept_on}
use Rattle.theory_trees.specs.Edit.{edit, Made}
use Rattle.theory_trees.specs.Above.{Both}

-- ---- insert
abbrev pub renews : Nodes → ℕ → ℕ → (ℕ → ℕ) → (ℕ → ℕ) → (ℕ → ℕ) → ℕ → Entry → List Entry
renews r k a left right half l e = edit r k (λ e. put k a (e ∷ [])) (renewed k left right half) l e

-- a changed node stands on its page, or its halves on theirs; N l q: q is a new page of level l
abbrev pub RenewHeld : (ℕ → ℕ) → (ℕ → ℕ) → (ℕ → ℕ) → Nodes → (ℕ → ℕ → Type 0) → (ℕ → ℕ → Type 0) → ℕ → Entry
    → List Entry → Type 0
RenewHeld left right half s fit N l e c = (length c ≤ 2 * half l → (s (left l) l ≡ c) × fit l (left l) × N l (left l)) ×
    (2 * half l < length c → Both s fit l (half l) c (left l) (right l) × N l (left l) × N l (right l))

abbrev pub RenewMade : Nodes → Nodes → ℕ → ℕ → (ℕ → ℕ) → (ℕ → ℕ) → (ℕ → ℕ) → (ℕ → ℕ → Type 0) → (ℕ → ℕ → Type 0) → ℕ
    → Entry → Type 0
RenewMade r s k a left right half fit N l e =
    Made r k (λ e. put k a (e ∷ [])) (renewed k left right half) (RenewHeld left right half s fit N) l e

-- ---- delete
-- a changed node that is left stands on its page, n l
abbrev pub KeptHeld : (ℕ → ℕ) → Nodes → (ℕ → ℕ → Type 0) → (ℕ → ℕ → Type 0) → ℕ → Entry → List Entry → Type 0
KeptHeld n s fit N l e c = 1 ≤ length c → (s (n l) l ≡ c) × fit l (n l) × N l (n l)

abbrev pub KeptMade : Nodes → Nodes → ℕ → (ℕ → ℕ) → (ℕ → ℕ → Type 0) → (ℕ → ℕ → Type 0) → ℕ → Entry → Type 0
KeptMade r s k n fit N l e = Made r k (λ e. remove k (e ∷ [])) (kept_on n) (KeptHeld n s fit N) l e
