use Rattle.std.proofs.Common.{◌≡◌}
use Rattle.model.specs.Bytes.{erased}
use Rattle.model.specs.Count.{least}
use Rattle.sound_verdict.specs.Verdict.{clearable}
use Rattle.sound_verdict.proofs.some_clearable.Given as goal

abbrev pub invariant-loop-block : goal.invariant-loop-block
invariant-loop-block l = least l.block (clearable l.g.pages (erased l.g l.img) l.table l.free) ≡ l.block
