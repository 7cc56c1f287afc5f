-- What the plain tree's geometry has beside `Core`: one node to a page, from slot 0 on, within the slots that a root
-- has too. Assumes nothing.
use Rattle.std.specs.Prelude.{◌≡◌, List, [], ◌∷◌, ℕ, zero, suc, ◌*◌, ◌<◌, ◌≤◌, length}
use Rattle.std.proofs.Common.{arith, lit≤}
use Rattle.geometry.specs.declared.Geometry.{Geometry}
use Rattle.geometry.specs.declared.Entry.{Entry}
use Rattle.geometry.specs.Geometry.{plain, first_slot, root_slots, half, root_most}
use Rattle.geometry.specs.Shape.{Core, plain_core, plain_most}
use Rattle.model.specs.Image.{pages_of}
use Rattle.model.specs.Page.{only}
use Rattle.model.specs.Plain.{Plan}
use Rattle.theory_lists.specs.All.{All}
use Rattle.theory_chips.specs.Next.{block_in}
use Rattle.theory_chips.specs.Whole.{some_page}
use Rattle.theory_chips.specs.PlainPlans.{plan_at}
use Rattle.theory_images.specs.Bytes.{Fits}
use Rattle.theory_images.specs.Built.{Parts, parts_only}

pub record Single (g : Geometry) : Type 0 where
  pub narrow : (l : ℕ) → 1 ≤ l → l ≤ g.top → root_most g l ≡ 2 * half g l
  pub two : (l : ℕ) → 2 ≤ root_most g l
  pub flat : (l m : ℕ) → first_slot g l ≤ first_slot g m

pub plain_single : Single plain
unfolding first_slot root_slots root_most
plain_single = record { narrow = plain_most; two = λ l. lit≤ tt; flat = λ l m. lit≤ tt }

pub plain_pages : (n : ℕ) → 1 ≤ n → 1 ≤ pages_of plain n
plain_pages n h = let w = block_in plain.pages 0 n h in let z = some_page plain plain_core in omega (arith, w, z)

-- a plan can be built
abbrev pub Buildable : Geometry → Plan → Type 0
Buildable g p = (1 ≤ p.level) × (p.level ≤ g.top) × Parts g (only p.level p.list)

-- a list within the level's slots
pub buildable : (g : Geometry) → Core g → Single g → (l : ℕ) (es : List Entry) → 1 ≤ l → l ≤ g.top → All Fits es
    → length es ≤ root_most g l
    → Buildable g (record { level = l; list = es })
buildable g core single l es a b fit most = (a, b, parts_only g core l es a b fit most (λ j _. single.flat j l))

pub all_at : (P : Plan → Type 0) (ps : List Plan) → All P ps → (j : ℕ) → j < length ps → P (plan_at ps j)
all_at P [] h j b = absurd (omega (arith, b))
all_at P (p ∷ ps) h zero b = h.0
all_at P (p ∷ ps) h (suc j) b = all_at P ps h.1 j (omega (arith, b))
