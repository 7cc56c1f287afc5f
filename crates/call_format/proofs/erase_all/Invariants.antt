use Rattle.std.proofs.Common.{◌≡◌}
use Rattle.model.specs.Stores.{apply_all}
use Rattle.model.specs.Update.{erasures}
use Rattle.call_format.proofs.erase_all.Given as goal

abbrev pub invariant-loop-b : goal.invariant-loop-b
invariant-loop-b l = l.img ≡ apply_all l.g (erasures l.b) l.fn.img
