use Rattle.std.proofs.Common.{rules}
use Rattle.log_replies.specs.Written.{numbers_laws}
use Rattle.log_replies.proofs.put_numbers.Goals as goal

ruleset all = (rules, numbers_laws)

pub put_fields-end-requires : goal.put_fields-end-requires
put_fields-end-requires c = (search all, search rules)

pub overflow_add-result : goal.overflow_add-result
overflow_add-result c = search all

pub returns-clause-place : goal.returns-clause-place
returns-clause-place c = search all

pub returns-clause-most : goal.returns-clause-most
returns-clause-most c = search all
