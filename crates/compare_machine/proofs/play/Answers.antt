use Rattle.std.proofs.Common.{ap, sym, ◌∙◌}
use Rattle.compare_machine.specs.Machine.{State}
use Rattle.compare_machine.specs.Run.{run_of}
use Rattle.compare_machine.proofs.Steps.{close_both}
use Rattle.compare_machine.proofs.play.Goals as goal

pub returns-clause-run : goal.returns-clause-run
returns-clause-run c =
    c.settle.ensures.run ∙ sym (ap run_of
    (close_both c.args.s c.args.order c.row_of-first.result c.row_of-second.result c.args.mu.now c.args.plain.now
    c.obey.new.img c.obey_plain.new.img c.obey.result c.obey_plain.result c.obey.ensures c.obey_plain.ensures
    c.row_of-first.ensures c.row_of-second.ensures))

pub returns-clause-mu : goal.returns-clause-mu
returns-clause-mu c =
    sym (ap (λ (z : State). z.mu)
    (close_both c.args.s c.args.order c.row_of-first.result c.row_of-second.result c.args.mu.now c.args.plain.now
    c.obey.new.img c.obey_plain.new.img c.obey.result c.obey_plain.result c.obey.ensures c.obey_plain.ensures
    c.row_of-first.ensures c.row_of-second.ensures))

pub returns-clause-plain : goal.returns-clause-plain
returns-clause-plain c =
    sym (ap (λ (z : State). z.plain)
    (close_both c.args.s c.args.order c.row_of-first.result c.row_of-second.result c.args.mu.now c.args.plain.now
    c.obey.new.img c.obey_plain.new.img c.obey.result c.obey_plain.result c.obey.ensures c.obey_plain.ensures
    c.row_of-first.ensures c.row_of-second.ensures))
