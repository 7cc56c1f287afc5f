use Rattle.std.proofs.Common.{◌≡◌}
use Rattle.model.specs.Count.{least}
use Rattle.model.specs.Bytes.{erased}
use Rattle.sound_pages.specs.Blocks.{late}
use Rattle.sound_pages.proofs.in_order.Given as goal

abbrev pub invariant-loop-j : goal.invariant-loop-j
invariant-loop-j l = least l.j (late l.g.pages (erased l.g l.img) l.block l.first) ≡ l.j
