use Rattle.std.proofs.Common.{arith}
use Rattle.log_day.proofs.Answering.{answers_part}
use Rattle.log_day.specs.Emptied.{drained_emptied, left_emptied}
use Rattle.log_day.proofs.play_read.Goals as goal

pub loop-at-preserved : goal.loop-at-preserved
loop-at-preserved g c =
    let before = c.loop-at in
    let played = c.play_part-played in
    let wrote = c.in_ok-state in
    let goes = played.ensures.goes c.loop-at-test.true (omega (arith, before.invariant.drained.none)) in
    let same = left_emptied played.result.run wrote.state played.new.line wrote.ensures.run in record {
      within = played.ensures.within;
      drained = drained_emptied played.result.run wrote.state played.new.line wrote.ensures.run played.ensures.steady;
      fewer = omega arith;
      answers = answers_part _ _ _ _ before.state played.result.run wrote.state before.line before.img before.out played.new.line
          played.new.img played.new.out _ _ _ before.invariant.answers before.invariant.drained.none wrote.ensures.run wrote.ensures.bytes
          played.ensures.ran;
    }
