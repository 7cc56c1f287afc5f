-- The length of an image. Assumes nothing.
use Rattle.std.specs.Prelude.{ℕ, ◌/◌, ◌%◌, ◌<◌, ◌≤◌, Bool, not, ◌≡◌, refl, List, eqb, leb, length}
use Rattle.std.proofs.Math.Bool.{true, false}
use Rattle.std.proofs.Common.{sym, ◌∙◌, arith, eq-eqb, ne_eqb, le-leb, leb-true}
use Rattle.std.proofs.Math.Nat.{div-zero}
use Rattle.std.proofs.lemmas.Bool.{not-true, not-false, lt-leb}
use Rattle.geometry.specs.declared.Geometry.{Geometry}
use Rattle.geometry.specs.Geometry.{page_base}
use Rattle.geometry.specs.Tests.{◌&◌, and_true, and_false, and_left, and_right}
use Rattle.model.specs.Image.{block_bytes, blocks_of, good_length}
use Rattle.chip_read.specs.Chip.{good_blocks}

pub block_is : (g : Geometry) (w b : ℕ) → w ≡ g.pages → b ≡ page_base g w → b ≡ block_bytes g
block_is g w b e f = f ∙ rw e

pub blocks_none : (g : Geometry) (img : List ℕ) (b : ℕ) → b ≡ block_bytes g → b ≡ 0 → 0 ≡ blocks_of g img
unfolding blocks_of
blocks_none g img b e z = sym (rw (← e, z) (div-zero (length img)))

pub blocks_are : (g : Geometry) (img : List ℕ) (b : ℕ) → b ≡ block_bytes g → length img / b ≡ blocks_of g img
unfolding blocks_of
blocks_are g img b e = rw e

few : (g : Geometry) (img : List ℕ) → blocks_of g img < 3 → false ≡ good_length g img
unfolding good_length
few g img h = fails (eqb (length img % block_bytes g) 0)
  where
    fails : (t : Bool) → false ≡ (t & leb 3 (blocks_of g img) & leb (blocks_of g img) 1024)
    fails true = simp (lt-leb 3 (blocks_of g img) h, and_true, and_false)
    fails false = simp and_false

pub length_none : (g : Geometry) (img : List ℕ) (b : ℕ) → b ≡ block_bytes g → b ≡ 0 → false ≡ good_length g img
length_none g img b e z = few g img (rw (← (blocks_none g img b e z)) (omega arith))

pub length_odd : (g : Geometry) (img : List ℕ) (b : ℕ) → b ≡ block_bytes g → (length img % b ≡ 0 → ⊥)
    → false ≡ good_length g img
unfolding good_length
length_odd g img b e h = simp (← e, ne_eqb _ _ h, and_false)

pub length_few : (g : Geometry) (img : List ℕ) (n : ℕ) → n ≡ blocks_of g img → n < 3 → false ≡ good_length g img
length_few g img n e h = few g img (rw (← e) h)

pub length_even : (g : Geometry) (img : List ℕ) (b n : ℕ) → b ≡ block_bytes g → n ≡ blocks_of g img → length img % b ≡ 0
    → 3 ≤ n
    → leb n 1024 ≡ good_length g img
unfolding good_length
length_even g img b n e f h k = simp (← e, ← f, eq-eqb _ _ h, le-leb _ _ k, and_true)

-- a good length, and what it says of the blocks
pub good_most : (g : Geometry) (img : List ℕ) → good_length g img ≡ true → blocks_of g img ≤ 1024
unfolding good_length
good_most g img e = leb-true _ _ (and_right _ _ e)

pub good_least : (g : Geometry) (img : List ℕ) → good_length g img ≡ true → 3 ≤ blocks_of g img
unfolding good_length
good_least g img e = leb-true _ _ (and_right _ _ (and_left _ _ e))

pub blocks_bad : (g : Geometry) (img : List ℕ) (b : Bool) → b ≡ good_length g img → not b ≡ true → 0 ≡ good_blocks g img
unfolding good_blocks
blocks_bad g img b e q = simp (← e, not-true b q)

pub blocks_over : (g : Geometry) (img : List ℕ) (b : Bool) (n : ℕ) → b ≡ good_length g img → not b ≡ false
    → n ≡ blocks_of g img → 1024 < n
    → 0 ≡ good_blocks g img
blocks_over g img b n e q f h = absurd (omega (arith, good_most g img (sym e ∙ not-false b q)))

pub blocks_good : (g : Geometry) (img : List ℕ) (b : Bool) (n : ℕ) → b ≡ good_length g img → not b ≡ false
    → n ≡ blocks_of g img → n ≡ good_blocks g img
unfolding good_blocks
blocks_good g img b n e q f = simp (← e, not-false b q, ← f)

-- what the blocks say: none of a bad length, else all of them
module _ (g : Geometry) (img : List ℕ) (n : ℕ) (e : n ≡ good_blocks g img) where
  by_length : (t : Bool) → good_length g img ≡ t → (n ≡ 0 → good_length g img ≡ false) ×
      ((n ≡ 0 → ⊥) → (good_length g img ≡ true) × (n ≡ blocks_of g img))
  unfolding good_blocks
  by_length true q =
      let f : n ≡ blocks_of g img = e ∙ simp q in
      ((λ z. absurd (omega (arith, good_least g img q, f, z))), (λ h. (q, f)))
  by_length false q =
      let f : n ≡ 0 = e ∙ simp q in
      ((λ z. q), (λ h. absurd (h f)))

  pub none_good : n ≡ 0 → good_length g img ≡ false
  none_good z = (by_length (good_length g img) refl).0 z

  pub some_good : (n ≡ 0 → ⊥) → good_length g img ≡ true
  some_good h = ((by_length (good_length g img) refl).1 h).0

  pub some_blocks : (n ≡ 0 → ⊥) → n ≡ blocks_of g img
  some_blocks h = ((by_length (good_length g img) refl).1 h).1

pub ruleset block_laws = (block_is, blocks_none, blocks_are, length_none, length_odd, length_few, length_even, blocks_bad, blocks_over, blocks_good)

pub ruleset good_laws = (none_good, some_good, some_blocks)
