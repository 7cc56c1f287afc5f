use Rattle.std.proofs.Common.{rules}
use Rattle.live_tell.specs.SettingBits.{telling_laws}
use Rattle.live_tell.proofs.tell_words.Goals as goal

pub returns : goal.returns
returns c = search (rules, telling_laws)
