use Rattle.log_machine.proofs.Steps.{over_run, over_line, over_image, over_out, end_run, end_line, end_image, end_out, end_steady, more_run, more_line, more_image, more_out}
use Rattle.log_machine.proofs.feed.Goals as goal

-- after E
pub returns-then-run-clause-run : goal.returns-then-run-clause-run
returns-then-run-clause-run c =
    over_run c.args.run c.args.run c.args.line.now c.args.img.now c.args.b c.requires.0 c.if-run.true

pub returns-then-run-clause-line : goal.returns-then-run-clause-line
returns-then-run-clause-line c =
    over_line c.args.run c.args.run c.args.line.now c.args.img.now c.args.b c.requires.0 c.if-run.true

pub returns-then-run-clause-image : goal.returns-then-run-clause-image
returns-then-run-clause-image c =
    over_image c.args.run c.args.run c.args.line.now c.args.img.now c.args.b c.requires.0 c.if-run.true

pub returns-then-run-clause-out : goal.returns-then-run-clause-out
returns-then-run-clause-out c =
    over_out c.args.run c.args.run c.args.line.now c.args.img.now c.args.b c.requires.0 c.if-run.true c.args.out.now

-- a line's end
pub returns-then-b-eq10-clause-run : goal.returns-then-b-eq10-clause-run
returns-then-b-eq10-clause-run c =
    end_run c.args.run c.close_line.result c.args.line.now c.args.img.now c.args.b c.requires.0 c.if-run.false
    c.if-b-eq10.true c.close_line.ensures.run

pub returns-then-b-eq10-clause-line : goal.returns-then-b-eq10-clause-line
returns-then-b-eq10-clause-line c =
    end_line c.args.run c.close_line.result c.args.line.now c.args.img.now c.args.b c.requires.0 c.if-run.false
    c.if-b-eq10.true c.close_line.ensures.run

pub returns-then-b-eq10-clause-image : goal.returns-then-b-eq10-clause-image
returns-then-b-eq10-clause-image c =
    end_image c.args.run c.close_line.result c.args.line.now c.args.img.now c.args.b c.requires.0 c.if-run.false
    c.if-b-eq10.true _ c.close_line.ensures.image

pub returns-then-b-eq10-clause-out : goal.returns-then-b-eq10-clause-out
returns-then-b-eq10-clause-out c =
    end_out c.args.run c.close_line.result c.args.line.now c.args.img.now c.args.b c.requires.0 c.if-run.false
    c.if-b-eq10.true _ _ c.close_line.ensures.out

pub returns-then-b-eq10-clause-steady : goal.returns-then-b-eq10-clause-steady
returns-then-b-eq10-clause-steady c =
    end_steady c.args.run c.close_line.result c.args.line.now c.args.img.now c.args.b c.requires.0 c.if-run.false
    c.if-b-eq10.true c.close_line.ensures.run c.close_line.ensures.within

-- another byte
pub returns-clause-run : goal.returns-clause-run
returns-clause-run c =
    more_run c.args.run c.lengthen.result c.args.line.now c.args.img.now c.args.b c.requires.0 c.if-run.false
    c.if-b-eq10.false c.lengthen.ensures.run

pub returns-clause-line : goal.returns-clause-line
returns-clause-line c =
    more_line c.args.run c.lengthen.result c.args.line.now c.args.img.now c.args.b c.requires.0 c.if-run.false
    c.if-b-eq10.false _ c.lengthen.ensures.line

pub returns-clause-image : goal.returns-clause-image
returns-clause-image c =
    more_image c.args.run c.lengthen.result c.args.line.now c.args.img.now c.args.b c.requires.0 c.if-run.false
    c.if-b-eq10.false

pub returns-clause-out : goal.returns-clause-out
returns-clause-out c =
    more_out c.args.run c.lengthen.result c.args.line.now c.args.img.now c.args.b c.requires.0 c.if-run.false
    c.if-b-eq10.false _ _ c.lengthen.ensures.out
