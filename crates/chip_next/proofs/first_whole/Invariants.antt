use Rattle.std.proofs.Common.{◌≡◌, length}
use Rattle.model.specs.Bytes.{erased}
use Rattle.model.specs.Count.{least}
use Rattle.chip_next.specs.Coming.{free, whole}
use Rattle.chip_next.proofs.first_whole.Given as goal

abbrev pub invariant-loop-block : goal.invariant-loop-block
invariant-loop-block l = least l.block (whole l.g.pages (free (erased l.g l.img) l.taken (length l.taken)) l.from) ≡ l.block
