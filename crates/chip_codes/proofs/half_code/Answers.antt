use Rattle.std.proofs.Common.{rules}
use Rattle.chip_codes.specs.Folds.{fold_laws}
use Rattle.chip_codes.proofs.half_code.Goals as goal

pub loop-k-init : goal.loop-k-init
loop-k-init c = search (rules, fold_laws)

pub fold-requires : goal.fold-requires
fold-requires c = search (rules, fold_laws)

pub loop-k-preserved : goal.loop-k-preserved
loop-k-preserved c = search (rules, fold_laws)

pub returns : goal.returns
returns c = search (rules, fold_laws)
