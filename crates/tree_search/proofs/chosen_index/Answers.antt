use Rattle.std.proofs.Common.{arith, rules}
use Rattle.tree_search.specs.Loops.{place_left, place_right}
use Rattle.tree_search.proofs.chosen_index.Goals as goal

pub loop-low-preserved-then-key-read_u32 : goal.loop-low-preserved-then-key-read_u32
loop-low-preserved-then-key-read_u32 c = (omega arith, omega arith, search (rules, place_left))

pub loop-low-preserved : goal.loop-low-preserved
loop-low-preserved c = (omega arith, omega arith, search (rules, place_right))
