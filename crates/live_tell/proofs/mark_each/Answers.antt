use Rattle.std.proofs.Common.{rules}
use Rattle.live_tell.specs.SettingBits.{telling_laws}
use Rattle.live_tell.proofs.mark_each.Goals as goal

pub loop-i-preserved : goal.loop-i-preserved
loop-i-preserved g c = search (rules, telling_laws)
