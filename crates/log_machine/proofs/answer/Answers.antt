use Rattle.log_machine.proofs.Steps.{answer_run, answer_image, answer_out}
use Rattle.log_machine.proofs.answer.Goals as goal

pub returns-clause-run : goal.returns-clause-run
returns-clause-run c =
    answer_run c.args.t c.args.img.now c.obey.new.img c.args.order c.obey.result c.row_of-row.result c.obey.ensures
    c.row_of-row.ensures c.letter_of.result c.letter_of.ensures c.args.wrote _ _ c.after_line-counted.ensures
    (rw (c.from.ensures, c.from-2.ensures, c.from-3.ensures, c.from-4.ensures) at c.put_line-next.ensures.place)

pub returns-clause-image : goal.returns-clause-image
returns-clause-image c =
    answer_image c.args.t c.args.img.now c.obey.new.img c.args.order c.obey.result c.row_of-row.result c.obey.ensures
    c.row_of-row.ensures

pub returns-clause-out : goal.returns-clause-out
returns-clause-out c =
    answer_out c.args.t c.args.img.now c.obey.new.img c.args.order c.obey.result c.row_of-row.result c.obey.ensures
    c.row_of-row.ensures c.letter_of.result c.letter_of.ensures _ _ c.args.wrote
    (rw (c.from.ensures, c.from-2.ensures, c.from-3.ensures, c.from-4.ensures) at c.put_line-next.ensures.bytes)
