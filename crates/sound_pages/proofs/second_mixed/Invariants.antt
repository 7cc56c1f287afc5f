use Rattle.std.proofs.Common.{◌≡◌}
use Rattle.model.specs.Count.{least}
use Rattle.model.specs.Bytes.{erased}
use Rattle.sound_pages.specs.Blocks.{other}
use Rattle.sound_pages.proofs.second_mixed.Given as goal

abbrev pub invariant-loop-block : goal.invariant-loop-block
invariant-loop-block l = least l.block (other l.g.pages (erased l.g l.img) l.first) ≡ l.block
