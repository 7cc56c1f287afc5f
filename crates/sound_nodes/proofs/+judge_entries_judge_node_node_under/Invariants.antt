use Rattle.std.proofs.Common.{◌≡◌, ◌+◌, ◌*◌}
use Rattle.model.specs.Bytes.{erased, entries_at, node_at}
use Rattle.model.specs.Rules.{judge_entries, judge_node}
use Rattle.live_walk.specs.Table.{note_all}
use Rattle.sound_nodes.specs.Noted.{left, judged_from}
use Rattle.sound_nodes.proofs.+judge_entries_judge_node_node_under.Given as goal

abbrev pub decreases-judge_entries : goal.decreases-judge_entries
decreases-judge_entries l = 3 * l.below + 2

abbrev pub decreases-judge_node : goal.decreases-judge_node
decreases-judge_node l = 3 * l.level

abbrev pub decreases-node_under : goal.decreases-node_under
decreases-node_under l = 3 * l.below + 1

abbrev pub invariant-judge_entries-loop-i : goal.invariant-judge_entries-loop-i
invariant-judge_entries-loop-i l = record {
  value : judge_entries (judge_node l.g (erased l.g l.img) (node_at l.g l.img) l.pages l.below) (entries_at l.img l.at l.n) l.hi
      ≡ judged_from (judge_node l.g (erased l.g l.img) (node_at l.g l.img) l.pages l.below) l.img l.at l.n l.hi l.i;
  noted : note_all (left l.g l.img l.below l.at l.n 0) l.initial.table ≡ note_all (left l.g l.img l.below l.at l.n l.i) l.table;
}
