use Rattle.std.proofs.Common.{◌≡◌, length, arith, rules, refl}
use Rattle.std.proofs.lemmas.Result.{on_ok_weaker}
use Rattle.log_day.proofs.Answering.{replay_end}
use Rattle.log_day.proofs.replay.Goals as goal

pub returns : goal.returns
returns g c =
    let room : length c.play_input.new.out ≡ 65536 = search rules in
    on_ok_weaker _ (replay_end _ _ _ _ _ _ _ _ _ _ _ _ _ _ c.start.ensures refl c.in_ok-run.ensures.passes c.in_ok-run.ensures.ended
    c.in_ok-run.ensures.ready.none c.finish-n.ensures.place c.finish-n.ensures.bytes
    (omega (arith, c.finish-n.ensures.most, c.in_ok-run.ensures.ready.none))) c.write_all.ensures.bytes
