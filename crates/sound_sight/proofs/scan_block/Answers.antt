use Rattle.std.proofs.Common.{refl, not, ap}
use Rattle.sound_sight.specs.Sight.{Spoilt}
use Rattle.sound_sight.specs.Pages.{told_yes}
use Rattle.sound_sight.specs.Blocks.{seen_bound, strip_late, strip_good}
use Rattle.sound_sight.proofs.scan_block.Goals as goal

pub returns-then-not-rest_blank : goal.returns-then-not-rest_blank
returns-then-not-rest_blank c =
    let S = Spoilt c.args.g c.args.img.now c.args.block in
    (strip_late _ _ _ _ _ _ _ _ (told_yes _ S c.in_ok-f.ensures) refl S _ c.if-g-f.false c.rest_blank.ensures
    (ap not c.if-not-rest_blank.true)).no refl

pub see_blank-seen-requires : goal.see_blank-seen-requires
see_blank-seen-requires c =
    let S = Spoilt c.args.g c.args.img.now c.args.block in
    (c.in_ok-f.ensures.most, seen_bound _ _ _ _ _ _ _ _ (told_yes _ S c.in_ok-f.ensures) refl)

pub returns : goal.returns
returns c =
    let S = Spoilt c.args.g c.args.img.now c.args.block in
    (strip_good _ _ _ _ _ _ _ _ (told_yes _ S c.in_ok-f.ensures) refl S _ _ c.if-g-f.false c.rest_blank.ensures
    (ap not c.if-not-rest_blank.false) c.see_blank-seen.ensures).yes refl
