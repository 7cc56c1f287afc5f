use Rattle.std.proofs.Common.{rules}
use Rattle.chip_codes.specs.Folds.{fold_laws}
use Rattle.chip_codes.proofs.in_64.Goals as goal

pub overflow_shr-upper : goal.overflow_shr-upper
overflow_shr-upper c = search (rules, fold_laws)

pub power-requires : goal.power-requires
power-requires c = search (rules, fold_laws)

pub power-half-requires : goal.power-half-requires
power-half-requires c = search (rules, fold_laws)

pub loop-p-init : goal.loop-p-init
loop-p-init c = search (rules, fold_laws)

pub loop-p-preserved : goal.loop-p-preserved
loop-p-preserved c = search (rules, fold_laws)

pub returns : goal.returns
returns c = search (rules, fold_laws)

pub nonzero_rem-upper : goal.nonzero_rem-upper
nonzero_rem-upper c = search (rules, fold_laws)
