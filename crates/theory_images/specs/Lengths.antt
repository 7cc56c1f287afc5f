-- An image of a good length is n whole blocks. Assumes nothing.
use Rattle.std.specs.Prelude.{◌≡◌, refl, List, [], ◌∷◌, true, ℕ, zero, suc, ◌+◌, ◌*◌, ◌/◌, ◌%◌, ◌<◌, ◌≤◌, length, eqb, leb}
use Rattle.std.proofs.Common.{ap, sym, ◌∙◌, arith, mul-suc, suc-mul, mul-zero, zero-mul, mul-le-mul_left, div-add-mod', leb-true, eqb-true}
use Rattle.geometry.specs.declared.Geometry.{Geometry}
use Rattle.geometry.specs.Tests.{◌&◌, and_left, and_right}
use Rattle.geometry.specs.Geometry.{page_bytes, page_base}
use Rattle.geometry.specs.Shape.{Core}
use Rattle.geometry.specs.Bounds.{four_bytes}
use Rattle.model.specs.Image.{block_bytes, blocks_of, good_length, pages_of}
use Rattle.model.specs.Stores.{Store, apply_store, apply_all}
use Rattle.theory_images.specs.Stores.{Image, length_store, base_add}

base_zero : (g : Geometry) → page_base g 0 ≡ 0
unfolding page_base
base_zero g = zero-mul (page_bytes g)

pub base_blocks : (g : Geometry) (n : ℕ) → page_base g (g.pages * n) ≡ n * page_base g g.pages
base_blocks g zero = ap (page_base g) (mul-zero g.pages) ∙ base_zero g ∙ sym (zero-mul (page_base g g.pages))
base_blocks g (suc n) = ap (page_base g) (mul-suc g.pages n) ∙ base_add g (g.pages * n) g.pages
    ∙ ap (λ m. m + page_base g g.pages)
    (base_blocks g n) ∙ sym (suc-mul n (page_base g g.pages))

pub record Blocks (g : Geometry) (img : List ℕ) : Type 0 where
  pub image : Image g (blocks_of g img) img
  pub least : 3 ≤ blocks_of g img
  pub most : blocks_of g img ≤ 1024

pub good_blocks_lem : (g : Geometry) (img : List ℕ) → good_length g img ≡ true → Blocks g img
unfolding good_length blocks_of
good_blocks_lem g img h =
    let a = and_left _ _ h in
    let z = eqb-true (length img % block_bytes g) 0 (and_left _ _ a) in
    record {
      image = sym (base_blocks g (length img / block_bytes g)
          ∙ (let w : length img / block_bytes g * block_bytes g ≡ length img / block_bytes g *
          block_bytes g + length img % block_bytes g = omega (arith, z) in w) ∙ div-add-mod' (length img) (block_bytes g));
      least = leb-true 3 _ (and_right _ _ a);
      most = leb-true _ 1024 (and_right _ _ h);
    }

-- the length decides the blocks
pub blocks_same : (g : Geometry) (img img' : List ℕ) → length img' ≡ length img → blocks_of g img' ≡ blocks_of g img
unfolding blocks_of
blocks_same g img img' e = ap (λ l. l / block_bytes g) e

pub length_same : (g : Geometry) (img img' : List ℕ) → length img' ≡ length img → good_length g img' ≡ good_length g img
unfolding good_length blocks_of
length_same g img img' e = ap (λ l. eqb (l % block_bytes g) 0 & leb 3 (l / block_bytes g) & leb (l / block_bytes g) 1024) e

pub length_all : (g : Geometry) (ss : List Store) (img : List ℕ) → length (apply_all g ss img) ≡ length img
unfolding apply_all
length_all g [] img = refl
length_all g (s ∷ ss) img = length_all g ss (apply_store g s img) ∙ length_store g s img

-- the pages of 1,024 blocks have numbers of 32 bits
pub few_pages : (g : Geometry) → Core g → (n : ℕ) → n ≤ 1024 → pages_of g n + g.pages < four_bytes
few_pages g core n h = let a = mul-le-mul_left g.pages h in let p = core.pages_high in omega (arith, a, p)
