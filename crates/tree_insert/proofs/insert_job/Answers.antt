use Rattle.std.proofs.Common.{rules, arith, ◌<◌}
use Rattle.geometry.specs.Bounds.{four_bytes}
use Rattle.tree_insert.specs.OwnStores.{insertion_laws}
use Rattle.tree_insert.proofs.insert_job.Goals as goal

pub returns : goal.returns
returns c = let small : c.from-seq.result < four_bytes = omega arith in search (rules, insertion_laws)
