use Rattle.std.proofs.Common.{rules}
use Rattle.live_tell.specs.SettingBits.{telling_laws}
use Rattle.live_tell.proofs.mark_leaves.Goals as goal

pub returns : goal.returns
returns c = search (rules, telling_laws)
