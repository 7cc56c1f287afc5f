use Rattle.std.proofs.Common.{sym, ◌∙◌}
use Rattle.compare_machine.proofs.Steps.{over_run, over_line, over_mu, over_plain, end_run, end_line, end_mu, end_plain, end_steady, more_run, more_line, more_mu, more_plain}
use Rattle.compare_machine.proofs.feed.Goals as goal

-- a run that is over

pub returns-then-not-is_going-clause-run : goal.returns-then-not-is_going-clause-run
returns-then-not-is_going-clause-run c =
    over_run c.args.run c.args.run c.args.line.now c.args.mu.now c.args.plain.now c.args.b c.requires
    (sym c.is_going.ensures ∙ c.if-not-is_going.true)

pub returns-then-not-is_going-clause-line : goal.returns-then-not-is_going-clause-line
returns-then-not-is_going-clause-line c =
    over_line c.args.run c.args.run c.args.line.now c.args.mu.now c.args.plain.now c.args.b c.requires
    (sym c.is_going.ensures ∙ c.if-not-is_going.true)

pub returns-then-not-is_going-clause-mu : goal.returns-then-not-is_going-clause-mu
returns-then-not-is_going-clause-mu c =
    over_mu c.args.run c.args.run c.args.line.now c.args.mu.now c.args.plain.now c.args.b c.requires
    (sym c.is_going.ensures ∙ c.if-not-is_going.true)

pub returns-then-not-is_going-clause-plain : goal.returns-then-not-is_going-clause-plain
returns-then-not-is_going-clause-plain c =
    over_plain c.args.run c.args.run c.args.line.now c.args.mu.now c.args.plain.now c.args.b c.requires
    (sym c.is_going.ensures ∙ c.if-not-is_going.true)

-- a line's end

pub returns-then-b-eq10-clause-run : goal.returns-then-b-eq10-clause-run
returns-then-b-eq10-clause-run c =
    end_run c.args.run c.close_line.result c.args.line.now c.args.mu.now c.args.plain.now c.args.b c.requires
    (sym c.is_going.ensures ∙ c.if-not-is_going.false) c.if-b-eq10.true c.close_line.ensures.run

pub returns-then-b-eq10-clause-line : goal.returns-then-b-eq10-clause-line
returns-then-b-eq10-clause-line c =
    end_line c.args.run c.close_line.result c.args.line.now c.args.mu.now c.args.plain.now c.args.b c.requires
    (sym c.is_going.ensures ∙ c.if-not-is_going.false) c.if-b-eq10.true c.close_line.ensures.run

pub returns-then-b-eq10-clause-mu : goal.returns-then-b-eq10-clause-mu
returns-then-b-eq10-clause-mu c =
    end_mu c.args.run c.close_line.result c.args.line.now c.args.mu.now c.args.plain.now c.args.b c.requires
    (sym c.is_going.ensures ∙ c.if-not-is_going.false) c.if-b-eq10.true _ c.close_line.ensures.mu

pub returns-then-b-eq10-clause-plain : goal.returns-then-b-eq10-clause-plain
returns-then-b-eq10-clause-plain c =
    end_plain c.args.run c.close_line.result c.args.line.now c.args.mu.now c.args.plain.now c.args.b c.requires
    (sym c.is_going.ensures ∙ c.if-not-is_going.false) c.if-b-eq10.true _ c.close_line.ensures.plain

pub returns-then-b-eq10-clause-steady : goal.returns-then-b-eq10-clause-steady
returns-then-b-eq10-clause-steady c =
    end_steady c.args.run c.close_line.result c.args.line.now c.args.mu.now c.args.plain.now c.args.b c.requires
    (sym c.is_going.ensures ∙ c.if-not-is_going.false) c.if-b-eq10.true c.close_line.ensures.run c.close_line.ensures.within

-- another byte

pub returns-clause-run : goal.returns-clause-run
returns-clause-run c =
    more_run c.args.run c.lengthen.result c.args.line.now c.args.mu.now c.args.plain.now c.args.b c.requires
    (sym c.is_going.ensures ∙ c.if-not-is_going.false) c.if-b-eq10.false c.lengthen.ensures.run

pub returns-clause-line : goal.returns-clause-line
returns-clause-line c =
    more_line c.args.run c.lengthen.result c.args.line.now c.args.mu.now c.args.plain.now c.args.b c.requires
    (sym c.is_going.ensures ∙ c.if-not-is_going.false) c.if-b-eq10.false _ c.lengthen.ensures.line

pub returns-clause-mu : goal.returns-clause-mu
returns-clause-mu c =
    more_mu c.args.run c.lengthen.result c.args.line.now c.args.mu.now c.args.plain.now c.args.b c.requires
    (sym c.is_going.ensures ∙ c.if-not-is_going.false) c.if-b-eq10.false

pub returns-clause-plain : goal.returns-clause-plain
returns-clause-plain c =
    more_plain c.args.run c.lengthen.result c.args.line.now c.args.mu.now c.args.plain.now c.args.b c.requires
    (sym c.is_going.ensures ∙ c.if-not-is_going.false) c.if-b-eq10.false
