use Rattle.std.proofs.Common.{rules, arith}
use Rattle.sound_pages.specs.RulesOneAndTwo.{page_laws}
use Rattle.sound_pages.proofs.first_in.Goals as goal

pub returns-then-page_erased : goal.returns-then-page_erased
returns-then-page_erased c = (search (rules, page_laws), omega arith)
