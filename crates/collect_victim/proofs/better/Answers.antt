use Rattle.std.proofs.Common.{rules}
use Rattle.collect_victim.specs.Fewest.{victim_laws}
use Rattle.collect_victim.proofs.better.Goals as goal

pub returns-then-not-best : goal.returns-then-not-best
returns-then-not-best c = search (rules, victim_laws)

pub returns-then-best-lives : goal.returns-then-best-lives
returns-then-best-lives c = search (rules, victim_laws)

pub returns : goal.returns
returns c = search (rules, victim_laws)
