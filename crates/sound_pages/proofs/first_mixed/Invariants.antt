use Rattle.std.proofs.Common.{◌≡◌}
use Rattle.model.specs.Count.{least}
use Rattle.model.specs.Bytes.{erased}
use Rattle.model.specs.Next.{mixed}
use Rattle.sound_pages.proofs.first_mixed.Given as goal

abbrev pub invariant-loop-block : goal.invariant-loop-block
invariant-loop-block l = least l.block (mixed l.g.pages (erased l.g l.img)) ≡ l.block
