use Rattle.std.proofs.Common.{refl, add-zero}
use Rattle.log_machine.proofs.Steps.{finish_over, finish_last, finish_error}
use Rattle.log_machine.proofs.finish.Goals as goal

pub returns-then-run-clause-place : goal.returns-then-run-clause-place
returns-then-run-clause-place c = rw (finish_over c.args.run c.args.line.now c.if-run.true, add-zero) refl

pub returns-then-run-clause-bytes : goal.returns-then-run-clause-bytes
returns-then-run-clause-bytes c = rw (finish_over c.args.run c.args.line.now c.if-run.true) refl

pub returns-then-run-eq0-clause-place : goal.returns-then-run-eq0-clause-place
returns-then-run-eq0-clause-place c =
    rw (finish_last c.args.run c.args.line.now c.if-run.false c.if-run-eq0.true) c.put_line.ensures.place

pub returns-then-run-eq0-clause-bytes : goal.returns-then-run-eq0-clause-bytes
returns-then-run-eq0-clause-bytes c =
    rw (finish_last c.args.run c.args.line.now c.if-run.false c.if-run-eq0.true) c.put_line.ensures.bytes

pub returns-clause-place : goal.returns-clause-place
returns-clause-place c =
    rw (finish_error c.args.run c.args.line.now c.requires.0 c.if-run.false c.if-run-eq0.false) c.put_line-2.ensures.place

pub returns-clause-bytes : goal.returns-clause-bytes
returns-clause-bytes c =
    rw (finish_error c.args.run c.args.line.now c.requires.0 c.if-run.false c.if-run-eq0.false) c.put_line-2.ensures.bytes
