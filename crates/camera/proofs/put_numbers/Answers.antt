use Rattle.std.proofs.Common.{rules}
use Rattle.camera.specs.Results.{camera_laws}
use Rattle.camera.proofs.put_numbers.Goals as goal

pub loop-i-preserved : goal.loop-i-preserved
loop-i-preserved c = search (rules, camera_laws)

pub returns : goal.returns
returns c = search (rules, camera_laws)
