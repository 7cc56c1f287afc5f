use Rattle.std.proofs.Common.{◌≡◌, ◌*◌, drop}
use Rattle.camera.specs.Camera.{put_numbers}
use Rattle.camera.proofs.put_numbers.Given as goal

abbrev pub invariant-loop-i : goal.invariant-loop-i
invariant-loop-i l = put_numbers l.fn.buf 0 l.v-items ≡ put_numbers l.buf (4 * l.i) (drop l.i l.v-items)
