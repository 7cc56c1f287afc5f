use Rattle.std.proofs.Common.{refl}
use Rattle.chip_codes.specs.Words.{odd_ones}
use Rattle.chip_codes.proofs.odd.Goals as goal

pub returns : goal.returns
unfolding odd_ones
returns c = refl
