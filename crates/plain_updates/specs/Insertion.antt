-- An insertion into the plain tree on bytes (request 12): each page but the last leaves the map, after the last one it
-- has K. Assumes nothing.
use Rattle.std.specs.Prelude.{◌≡◌, true, false, is_none}
use Rattle.std.proofs.Math.Path.{ap}
use Rattle.std.proofs.Common.{◌∙◌, eq-eqb}
use mathlib.Core.List.{List}
use Prim.Native.Nat.{ℕ, suc, ◌+◌, ◌-◌, ◌*◌, ◌<◌, ◌≤◌}
use native.Mathlib.Omega.{arith}
use Rattle.std.proofs.Math.ListN.{length}
use Rattle.geometry.specs.declared.Geometry.{Geometry}
use Rattle.geometry.specs.Tests.{bit, and_both}
use Rattle.geometry.specs.Geometry.{half, root_most, plain}
use Rattle.geometry.specs.Shape.{Core, plain_core}
use Rattle.geometry.specs.Bounds.{four_bytes}
use Rattle.model.specs.Image.{Chip, chip_of, pages_of, max_seq}
use Rattle.model.specs.Tree.{chosen, sought}
use Rattle.model.specs.Stores.{programs, erases}
use Rattle.model.specs.Edit.{splits}
use Rattle.model.specs.Update.{root_node}
use Rattle.model.specs.Plain.{Plan, plain_grows, plain_cuts, plain_high, plain_needs}
use Rattle.model.specs.Plain.{insert_plans, plain_insert_stores}
use Rattle.theory_counts.specs.Cases.{by_eq, by_test, true_false}
use Rattle.theory_trees.specs.Cuts.{splits_le}
use Rattle.theory_chips.specs.Whole.{Whole}
use Rattle.theory_chips.specs.PlainInsertion.{plans_count}
use Rattle.theory_chips.specs.PlainPresent.{present_pages, laid_programs}
use Rattle.theory_images.specs.Held.{Held, height_most}
use Rattle.theory_images.specs.Lengths.{few_pages}
use Rattle.plain_updates.specs.Single.{Single, plain_single, plain_pages}
use Rattle.plain_updates.specs.Laid.{laid_length, laid_erases}

-- ---- numbers of 32 bits

module _ (g : Geometry) (core : Core g) (single : Single g)
    (n : ℕ) (few : pages_of g n + g.pages < four_bytes) (some_pages : 1 ≤ pages_of g n) (img : List ℕ)
    (held : Held g n img) (k a : ℕ) (k_low : k < four_bytes) (a-low : a < four_bytes) where
  abbrev c : Chip
  c = chip_of g n img

  abbrev whole : Whole g n c
  whole = held.whole

  abbrev plans : List Plan
  plans = insert_plans g n c k a

  pub high : suc c.level ≤ g.top
  high = height_most g core n img some_pages held

  pub narrow : root_most g (suc c.level) ≡ 2 * half g (suc c.level)
  narrow = single.narrow (suc c.level) (omega arith) high

  pub some_half : (l : ℕ) → 1 ≤ l → l ≤ g.top → 1 ≤ half g l
  some_half l b d = let x = single.narrow l b d in let y = single.two l in omega (arith, x, y)

  -- ---- each plan can be built

  module _ (not-high : plain_high g c k ≡ false) where
    -- a root that splits is not at the top
    pub grown_in : plain_grows g c k ≡ true → suc (suc c.level) ≤ g.top
    unfolding plain_high
    grown_in t = by_eq (suc c.level) g.top (λ e. absurd (true_false _ (and_both _ _ (eq-eqb (suc c.level) g.top e) t) not-high))
        (λ e. omega (arith, e, high))

  -- ---- as many pages as it needs
  pub count_is : length plans ≡ plain_needs g c k
  unfolding plain_needs
  count_is = plans_count g core n k a k_low c whole narrow (some_half (suc c.level) (omega arith) high) (single.two (suc (suc c.level)))

  -- a root that splits is below the top, and only then all levels split
  pub needs_low : plain_high g c k ≡ false → plain_needs g c k ≤ 2 * g.top - 1
  unfolding plain_needs plain_cuts splits plain_grows
  needs_low not-high =
      let w = splits_le k (half g) c.nodes (is_none (sought c k)) c.level (chosen k (root_node c)) in
      by_test (plain_grows g c k) (λ t. let z = grown_in not-high t in let b = ap bit t in omega (arith, w, z, b))
      (λ t. let b = ap bit t in omega (arith, w, b, high))

  pub insert_length : length (plain_insert_stores g n img k a) ≡ plain_needs g c k
  unfolding plain_insert_stores
  insert_length = laid_length g n c (max_seq g n img) 0 plans ∙ count_is

-- ---- the plain tree
module _ (n : ℕ) (some : 1 ≤ n) (few : n ≤ 1024) (img : List ℕ) (held : Held plain n img)
    (k a : ℕ) (k_low : k < four_bytes) (a-low : a < four_bytes) where
  -- as many stores as pages that it needs
  pub plain_insert_length : length (plain_insert_stores plain n img k a) ≡ plain_needs plain (chip_of plain n img) k
  plain_insert_length = insert_length plain plain_core plain_single n (few_pages plain plain_core n few) (plain_pages n some) img held k a k_low a-low

  pub plain_insert_programs : programs (plain_insert_stores plain n img k a) ≡ plain_needs plain (chip_of plain n img) k
  unfolding plain_insert_stores
  plain_insert_programs = laid_programs plain n (chip_of plain n img) (max_seq plain n img) 0 (insert_plans plain n (chip_of plain n img) k a)
      ∙ count_is plain plain_core plain_single n (few_pages plain plain_core n few) (plain_pages n some) img held k a k_low a-low

  pub plain_insert_erases : erases (plain_insert_stores plain n img k a) ≡ 0
  unfolding plain_insert_stores
  plain_insert_erases = laid_erases plain n (chip_of plain n img) (max_seq plain n img) 0 (insert_plans plain n (chip_of plain n img) k a)

  pub plain_insert_most : plain_high plain (chip_of plain n img) k ≡ false → plain_needs plain (chip_of plain n img) k ≤ 9
  plain_insert_most = needs_low plain plain_core plain_single n (few_pages plain plain_core n few) (plain_pages n some) img held k a k_low a-low

  -- a present key: a page a level
  pub plain_present_programs : is_none (sought (chip_of plain n img) k) ≡ false
      → programs (plain_insert_stores plain n img k a) ≡ suc (chip_of plain n img).level
  unfolding plain_needs
  plain_present_programs present = plain_insert_programs ∙ present_pages plain (chip_of plain n img) k present
