use Rattle.std.proofs.Common.{refl}
use Rattle.sound_sight.specs.Sight.{Spoilt}
use Rattle.sound_sight.specs.Pages.{told_yes, told_no}
use Rattle.sound_sight.specs.Whole.{scan_flaw, strips_go}
use Rattle.sound_sight.proofs.scan_all.Goals as goal

pub returns-in_default-clause-told : goal.returns-in_default-clause-told
returns-in_default-clause-told c =
    let S = Spoilt c.args.g c.args.img.now c.loop-block.block in
    scan_flaw _ _ _ _ S _ _ (told_no S S c.in_default.ensures) refl c.loop-block-test.true

pub loop-block-preserved : goal.loop-block-preserved
loop-block-preserved c =
    let S = Spoilt c.args.g c.args.img.now c.loop-block.block in
    strips_go _ _ _ _ _ _ _ _ _ _ _ _ _ _ _ _ _ _ _ c.loop-block.invariant (told_yes _ S c.in-Some.ensures) refl
    c.from-at.ensures c.both-rising.ensures c.loop-block-test.true c.requires.0 c.requires.1 c.requires.2
    c.loop-block.auto.programmed c.loop-block.auto.lows c.loop-block.auto.highs
