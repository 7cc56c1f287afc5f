use Rattle.std.proofs.Common.{refl, ◌∙◌, arith}
use Rattle.compare_input.specs.Left.{run_left}
use Rattle.compare_input.specs.Inputs.{ran_goes}
use Rattle.compare_input.proofs.play_part.Goals as goal

pub loop-at-preserved : goal.loop-at-preserved
loop-at-preserved c =
    let before = c.loop-at in
    let fed = c.feed-state in
    let lower = run_left before.state fed.result before.line before.mu before.plain _ before.invariant.steady fed.ensures.run in
    record {
      within = omega arith;
      steady = fed.ensures.steady;
      fewer = omega arith;
      same = λ rest. before.invariant.same rest ∙ ran_goes before.state fed.result before.line before.mu before.plain
          fed.new.line fed.new.mu fed.new.plain _ fed.ensures.run fed.ensures.line fed.ensures.mu fed.ensures.plain
          c.args.part.now rest before.at c.loop-at-test.true refl;
    }
