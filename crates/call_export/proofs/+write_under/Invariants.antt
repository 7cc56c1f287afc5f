use Rattle.std.proofs.Common.{◌≡◌, ◌+◌, ◌*◌, ◌<◌, ◌≤◌, length}
use Rattle.std.proofs.lemmas.List.Edits.{sets}
use Rattle.geometry.specs.Bounds.{four_bytes}
use Rattle.text_carrying.specs.Carrying.{text_of}
use Rattle.call_export.specs.Exporter.{after, rest}
use Rattle.call_export.proofs.+write_under.Given as goal

abbrev pub decreases-write_under : goal.decreases-write_under
decreases-write_under l = l.level

-- the entries from i on leave what all leave from the start
abbrev pub invariant-loop-i : goal.invariant-loop-i
invariant-loop-i l = record {
  few : l.fn.w.records + length (rest l.g l.img l.level l.at l.n 0) < four_bytes;
  short : l.so_far.at ≤ 22 * l.so_far.records;
  count : after l.fn.w (rest l.g l.img l.level l.at l.n 0) ≡ after l.so_far (rest l.g l.img l.level l.at l.n l.i);
  bytes : sets l.fn.text l.fn.w.at (text_of (rest l.g l.img l.level l.at l.n 0))
      ≡ sets l.text l.so_far.at (text_of (rest l.g l.img l.level l.at l.n l.i));
}
