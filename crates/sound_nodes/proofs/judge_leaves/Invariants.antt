use Rattle.std.proofs.Common.{◌≡◌}
use Rattle.model.specs.Bytes.{erased, entries_at, node_at}
use Rattle.model.specs.Rules.{judge_entries, judge_node}
use Rattle.live_walk.specs.Table.{note_all}
use Rattle.sound_nodes.specs.Noted.{left, judged_from}
use Rattle.sound_nodes.proofs.judge_leaves.Given as goal

abbrev pub invariant-loop-i : goal.invariant-loop-i
invariant-loop-i l = record {
  value : judge_entries (judge_node l.g (erased l.g l.img) (node_at l.g l.img) l.pages 1) (entries_at l.img l.at l.n) l.hi
      ≡ judged_from (judge_node l.g (erased l.g l.img) (node_at l.g l.img) l.pages 1) l.img l.at l.n l.hi l.i;
  noted : note_all (left l.g l.img 1 l.at l.n 0) l.initial.table ≡ note_all (left l.g l.img 1 l.at l.n l.i) l.table;
}
