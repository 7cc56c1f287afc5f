-- A deletion from the plain tree on bytes (request 12): each page but the last leaves the map, after the last one it is
-- without K. Assumes nothing.
use Rattle.std.specs.Prelude.{◌≡◌, Bool, is_none}
use Rattle.std.proofs.Common.{◌∙◌}
use mathlib.Core.List.{List}
use Rattle.std.proofs.Math.Bool.{true, false}
use Prim.Native.Nat.{ℕ, suc, ◌+◌, ◌-◌, ◌<◌, ◌≤◌}
use native.Mathlib.Omega.{arith}
use Rattle.std.proofs.Math.ListN.{length}
use Rattle.geometry.specs.declared.Geometry.{Geometry}
use Rattle.geometry.specs.Tests.{pick}
use Rattle.geometry.specs.Geometry.{plain}
use Rattle.geometry.specs.Shape.{Core, plain_core}
use Rattle.geometry.specs.Bounds.{four_bytes}
use Rattle.model.specs.Image.{Chip, chip_of, pages_of, max_seq}
use Rattle.model.specs.Tree.{sought}
use Rattle.model.specs.Stores.{programs, erases}
use Rattle.model.specs.Plain.{Plan, emptied, plain_shrinks, plain_leaves}
use Rattle.model.specs.Plain.{delete_plans, plain_delete_stores}
use Rattle.theory_chips.specs.Whole.{Whole}
use Rattle.theory_chips.specs.PlainDeletion.{plans_count}
use Rattle.theory_chips.specs.PlainPresent.{laid_programs}
use Rattle.theory_images.specs.Held.{Held, height_most}
use Rattle.theory_images.specs.Lengths.{few_pages}
use Rattle.plain_updates.specs.Single.{Single, plain_single, plain_pages}
use Rattle.plain_updates.specs.Laid.{laid_length, laid_erases}

module _ (g : Geometry) (core : Core g) (single : Single g)
    (n : ℕ) (few : pages_of g n + g.pages < four_bytes) (some_pages : 1 ≤ pages_of g n) (img : List ℕ)
    (held : Held g n img) (k : ℕ) (k_low : k < four_bytes) (present : is_none (sought (chip_of g n img) k) ≡ false) where
  abbrev c : Chip
  c = chip_of g n img

  abbrev whole : Whole g n c
  whole = held.whole

  abbrev plans : List Plan
  plans = delete_plans g n c k

  pub high : suc c.level ≤ g.top
  high = height_most g core n img some_pages held

  -- ---- as many pages as it leaves
  pub count_is : length plans ≡ plain_leaves c k
  count_is = plans_count g core n k k_low c whole present

  pub leaves_low : (1 ≤ plain_leaves c k) × (plain_leaves c k ≤ g.top)
  unfolding plain_leaves
  leaves_low = go (plain_shrinks c k)
    where
      go : (t : Bool) → (1 ≤ suc (pick t 0 (c.level - emptied c k))) ×
          (suc (pick t 0 (c.level - emptied c k)) ≤ g.top)
      go true = (omega arith, omega (arith, high))
      go false = (omega arith, omega (arith, high))

  pub delete_length : length (plain_delete_stores g n img k) ≡ plain_leaves c k
  unfolding plain_delete_stores
  delete_length = laid_length g n c (max_seq g n img) 0 plans ∙ count_is

-- ---- the plain tree
module _ (n : ℕ) (some : 1 ≤ n) (few : n ≤ 1024) (img : List ℕ) (held : Held plain n img)
    (k : ℕ) (k_low : k < four_bytes)
    (present : is_none (sought (chip_of plain n img) k) ≡ false) where
  -- as many stores as pages that it leaves
  pub plain_delete_length : length (plain_delete_stores plain n img k) ≡ plain_leaves (chip_of plain n img) k
  plain_delete_length = delete_length plain plain_core plain_single n (few_pages plain plain_core n few) (plain_pages n some) img held k k_low present

  pub plain_delete_programs : programs (plain_delete_stores plain n img k) ≡ plain_leaves (chip_of plain n img) k
  unfolding plain_delete_stores
  plain_delete_programs = laid_programs plain n (chip_of plain n img) (max_seq plain n img) 0 (delete_plans plain n (chip_of plain n img) k)
      ∙ count_is plain plain_core plain_single n (few_pages plain plain_core n few) (plain_pages n some) img held k k_low present

  pub plain_delete_erases : erases (plain_delete_stores plain n img k) ≡ 0
  unfolding plain_delete_stores
  plain_delete_erases = laid_erases plain n (chip_of plain n img) (max_seq plain n img) 0 (delete_plans plain n (chip_of plain n img) k)

  pub plain_delete_most : plain_leaves (chip_of plain n img) k ≤ 5
  plain_delete_most = (leaves_low plain plain_core plain_single n (few_pages plain plain_core n few) (plain_pages n some) img held k k_low present).1
