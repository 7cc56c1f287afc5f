use Rattle.std.proofs.Common.{◌≡◌}
use Rattle.model.specs.Count.{least}
use Rattle.model.specs.Bytes.{erased}
use Rattle.theory_counts.specs.Blocks.{within}
use Rattle.sound_pages.proofs.first_in.Given as goal

abbrev pub invariant-loop-j : goal.invariant-loop-j
invariant-loop-j l = least l.j (within l.g.pages (erased l.g l.img) l.block) ≡ l.j
