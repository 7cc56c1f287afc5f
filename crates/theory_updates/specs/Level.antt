-- The record that opening gives of a held image names no more levels than a tree may have: cut or not, they are the
-- image's. Assumes nothing.
use Rattle.std.specs.Prelude.{◌≡◌, List, ℕ}
use Rattle.std.proofs.Common.{arith}
use Rattle.geometry.specs.declared.Geometry.{Geometry}
use Rattle.geometry.specs.Shape.{Core}
use Rattle.model.specs.Image.{root_of, chip_of}
use Rattle.theory_images.specs.Held.{Held, height_most}
use Rattle.chip_read.specs.Chip.{chip_with}
use Rattle.open_record.specs.Opened.{opened_in, level_by, chip_by}

module _ (g : Geometry) (core : Core g) (n : ℕ) (img : List ℕ) (held : Held g n img) where
  pub level_right : level_by g (opened_in g n img) ≡ (chip_of g n img).level
  unfolding opened_in
  level_right =
      let root_in = held.whole.sound.rooted.fits.0 in
      let high = height_most g core n img (omega (arith, root_in)) held in
      omega (arith, high)

  -- what is seen by the record is what the rules see
  pub chip_right : chip_by g img (opened_in g n img) ≡ chip_of g n img
  unfolding opened_in
  chip_right = λ i. chip_with g img (level_right i) (root_of g n img)
