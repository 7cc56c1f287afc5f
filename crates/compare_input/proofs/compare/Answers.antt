use Rattle.std.proofs.Common.{arith, refl}
use Rattle.std.proofs.lemmas.Result.{on_ok_weaker}
use Rattle.compare_input.proofs.Taking.{compare_end}
use Rattle.compare_input.proofs.compare.Goals as goal

pub returns : goal.returns
returns g c =
    on_ok_weaker _ (compare_end _ _ _ _ _ _ _ _ _ _ _ _ _ _ _ c.start.ensures refl refl c.in_ok-run.ensures.takes
    c.in_ok-run.ensures.ended c.finish-n.ensures.place c.finish-n.ensures.bytes (omega (arith, c.finish-n.ensures.most)))
    c.write_all.ensures.bytes
