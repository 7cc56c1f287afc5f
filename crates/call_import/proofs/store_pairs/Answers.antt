use Rattle.std.proofs.Common.{◌∙◌}
use Rattle.call_import.proofs.Next.{store_next, store_end}
use Rattle.call_import.proofs.store_pairs.Goals as goal

pub loop-e-preserved : goal.loop-e-preserved
loop-e-preserved c = store_next c.args.g _ c.loop-e.e-index _ _ c.loop-e-test.true c.store_one-t.ensures ∙ c.loop-e.invariant

pub returns : goal.returns
returns c = store_end c.args.g _ c.loop-e.e-index _ c.loop-e-test.false ∙ c.loop-e.invariant
