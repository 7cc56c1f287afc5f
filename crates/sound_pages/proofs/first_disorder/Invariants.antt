use Rattle.std.proofs.Common.{◌≡◌}
use Rattle.model.specs.Count.{least}
use Rattle.model.specs.Bytes.{erased}
use Rattle.sound_pages.specs.Blocks.{disorder}
use Rattle.sound_pages.proofs.first_disorder.Given as goal

abbrev pub invariant-loop-block : goal.invariant-loop-block
invariant-loop-block l = least l.block (disorder l.g.pages (erased l.g l.img)) ≡ l.block
