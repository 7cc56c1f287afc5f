use Rattle.std.proofs.Common.{◌≡◌}
use Rattle.model.specs.Page.{coded}
use Rattle.chip_page.proofs.put_codes.Given as goal

abbrev pub invariant-loop-k : goal.invariant-loop-k
invariant-loop-k l = l.buf ≡ coded l.g l.k l.initial.buf
