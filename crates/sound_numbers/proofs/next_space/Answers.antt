use Rattle.std.proofs.Common.{refl}
use Rattle.sound_numbers.specs.RuleThree.{space_empty}
use Rattle.sound_numbers.proofs.next_space.Goals as goal

pub returns-then-high-eq0 : goal.returns-then-high-eq0
returns-then-high-eq0 c = (space_empty _ _ _ _ _ c.requires.2 c.if-high-eq0.true).holds refl
