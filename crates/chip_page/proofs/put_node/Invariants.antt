use Rattle.std.proofs.Common.{◌≡◌, take}
use Rattle.model.specs.Page.{put_entries}
use Rattle.chip_page.proofs.put_node.Given as goal

abbrev pub invariant-loop-k : goal.invariant-loop-k
invariant-loop-k l = l.buf ≡ put_entries l.initial.buf l.at (take l.k l.n.e)
