use Rattle.std.proofs.Common.{take}
use Rattle.compare_machine.proofs.Steps.{finish_stopped, finish_refused, finish_last, finish_begun}
use Rattle.compare_machine.proofs.finish.Goals as goal

pub returns-then-run-eq0-clause-place : goal.returns-then-run-eq0-clause-place
returns-then-run-eq0-clause-place c =
    rw (finish_last c.args.run.course c.args.run.score c.args.line.now c.args.run.filled c.in-Going.is c.if-run-eq0.true)
    c.put_report.ensures.place

pub returns-then-run-eq0-clause-bytes : goal.returns-then-run-eq0-clause-bytes
returns-then-run-eq0-clause-bytes c =
    rw (finish_last c.args.run.course c.args.run.score c.args.line.now c.args.run.filled c.in-Going.is c.if-run-eq0.true)
    c.put_report.ensures.bytes

pub returns-else-run-eq0-clause-place : goal.returns-else-run-eq0-clause-place
returns-else-run-eq0-clause-place c =
    rw (finish_begun c.args.run.course c.args.run.score c.args.line.now c.args.run.filled c.requires.room c.in-Going.is
    c.if-run-eq0.false) c.put_error.ensures.place

pub returns-else-run-eq0-clause-bytes : goal.returns-else-run-eq0-clause-bytes
returns-else-run-eq0-clause-bytes c =
    rw (finish_begun c.args.run.course c.args.run.score c.args.line.now c.args.run.filled c.requires.room c.in-Going.is
    c.if-run-eq0.false) c.put_error.ensures.bytes

pub returns-in-Stopped-clause-place : goal.returns-in-Stopped-clause-place
returns-in-Stopped-clause-place c =
    rw (finish_stopped c.args.run.course c.args.run.score (take c.args.run.filled c.args.line.now) c.in-Stopped.is)
    c.put_report-in-Stopped.ensures.place

pub returns-in-Stopped-clause-bytes : goal.returns-in-Stopped-clause-bytes
returns-in-Stopped-clause-bytes c =
    rw (finish_stopped c.args.run.course c.args.run.score (take c.args.run.filled c.args.line.now) c.in-Stopped.is)
    c.put_report-in-Stopped.ensures.bytes

pub returns-in-Refused-clause-place : goal.returns-in-Refused-clause-place
returns-in-Refused-clause-place c =
    rw (finish_refused c.args.run.course c.args.run.score (take c.args.run.filled c.args.line.now) c.in-Refused.is)
    c.put_error-in-Refused.ensures.place

pub returns-in-Refused-clause-bytes : goal.returns-in-Refused-clause-bytes
returns-in-Refused-clause-bytes c =
    rw (finish_refused c.args.run.course c.args.run.score (take c.args.run.filled c.args.line.now) c.in-Refused.is)
    c.put_error-in-Refused.ensures.bytes
