use Rattle.std.proofs.Common.{◌≡◌, ◌+◌, ◌*◌}
use Rattle.model.specs.Bytes.{erased, seq_at}
use Rattle.chip_survey.specs.Survey.{seen_to}
use Rattle.sound_numbers.specs.Ranges.{range_to}
use Rattle.sound_sight.specs.Sight.{Front}
use Rattle.sound_sight.proofs.front.Given as goal

abbrev pub invariant-loop-j : goal.invariant-loop-j
invariant-loop-j l = record {
  front : Front l.g l.img l.block l.j;
  seen : l.seen ≡ seen_to l.g l.img (l.g.pages * l.block + l.j);
  range : l.range ≡ range_to (erased l.g l.img) (seq_at l.g l.img) (l.g.pages * l.block) l.j;
}
