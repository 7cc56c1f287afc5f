-- What stands at every line that the comparing program's run comes to: both trees hold the same map, and a line raises the
-- largest number by at most 191. A definition alone.
use Rattle.std.specs.Prelude.{◌*◌, ◌≤◌, Option}
use mathlib.Core.List.{List}
use Rattle.geometry.specs.declared.Entry.{Entry}
use Rattle.geometry.specs.Geometry.{small, plain}
use Rattle.compare_scores.specs.declared.Score.{Score}
use Rattle.theory_same_map.specs.Words.{Images, Same}
use Rattle.theory_same_map.specs.Numbers.{largest_on}

pub record Stands (s : Score) (x : Images) (m : Option (List Entry)) : Type 0 where
  pub same : Same m x
  pub mu_numbers : largest_on small x.mu_tree ≤ 191 * s.lines
  pub plain_numbers : largest_on plain x.plain_tree ≤ 191 * s.lines
