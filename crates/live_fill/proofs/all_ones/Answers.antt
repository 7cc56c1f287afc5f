use Rattle.std.proofs.Common.{rules}
use Rattle.live_fill.specs.LentWords.{words_laws}
use Rattle.live_fill.proofs.all_ones.Goals as goal

pub returns : goal.returns
returns c = search (rules, words_laws)
