use Rattle.std.proofs.Common.{rules}
use Rattle.call_export.specs.Exports.{exporter_laws}
use Rattle.call_export.proofs.+write_under.Goals as goal

ruleset all = (rules, exporter_laws)

pub returns-then-level-eq0-clause-count : goal.returns-then-level-eq0-clause-count
returns-then-level-eq0-clause-count t c = (search all, search all)

pub loop-i-init : goal.loop-i-init
loop-i-init t c = record { few = search all; short = search all; count = search all; bytes = search all }

pub write_under-so_far-requires : goal.write_under-so_far-requires
write_under-so_far-requires t c = (search all, (search all, search all))

pub loop-i-preserved : goal.loop-i-preserved
loop-i-preserved t c = record { few = search all; short = search all; count = search all; bytes = search all }

pub returns-clause-count : goal.returns-clause-count
returns-clause-count t c = (search all, search all)
