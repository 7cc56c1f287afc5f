use Rattle.std.proofs.Common.{rules}
use Rattle.live_fill.specs.LentWords.{words_laws}
use Rattle.live_fill.proofs.ones_from.Goals as goal

pub returns : goal.returns
returns c = search (rules, words_laws)

pub loop-i-preserved : goal.loop-i-preserved
loop-i-preserved c = search (rules, words_laws)
