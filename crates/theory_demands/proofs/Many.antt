-- Request 10: from a formatted image of the small geometry let n inserts of absent keys be accepted and finished, with
-- nothing else between, and let X be the pages programmed beyond n, moves of the collector left out. Then 1,024 X ≤ 75
-- n, and X is the splits and growths together. `Inserts` has the words. Assumes nothing.
use Rattle.std.specs.Prelude.{◌≡◌, List, true, ℕ, ◌+◌, ◌*◌, ◌<◌, ◌≤◌, length}
use Rattle.std.proofs.Common.{arith}
use Rattle.geometry.specs.Geometry.{small}
use Rattle.geometry.proofs.Shape.{small_shape}
use Rattle.model.specs.Bytes.{byte_at}
use Rattle.model.specs.Image.{good_length}
use Rattle.model.specs.Calls.{format}
use Rattle.theory_demands.specs.Inserts.{Item, chip_at, Finished, filled_by, beyond, splits_and_growths}
use Rattle.theory_demands.specs.Filling.{Stands, format_stands, small_most}
use Rattle.theory_demands.proofs.Filling.{beyond_is, stands_after}

module _ (img : List ℕ) (length_good : good_length small img ≡ true) (bytes : (i : ℕ)
    → byte_at img i < 256) (xs : List Item)
    (finished : Finished small xs (format small img).image) where
  abbrev new : List ℕ
  new = (format small img).image

  formatted : Stands small small_shape new 0 0
  formatted = format_stands small small_shape (omega arith) img length_good bytes

  -- more than is asked: so with the height less 1 (`level`) added to X
  pub many_inserts_high : 1024 * (beyond small xs new + (chip_at small (filled_by small xs new)).level) ≤ 75 * length xs
  many_inserts_high =
      let z = small_most (filled_by small xs new) (0 + length xs) (0 + beyond small xs new) (stands_after small small_shape xs new 0 0 formatted finished) in
      omega (arith, z)

  pub many_inserts : 1024 * beyond small xs new ≤ 75 * length xs
  many_inserts = let z = many_inserts_high in omega (arith, z)

  pub many_inserts_are : beyond small xs new ≡ splits_and_growths small xs new
  many_inserts_are = beyond_is small small_shape xs new formatted.ready finished
