use Rattle.std.proofs.Common.{rules}
use Rattle.chip_read.specs.Blank.{blank_laws}
use Rattle.chip_read.proofs.all_blank.Goals as goal
use Rattle.chip_read.proofs.all_blank.Goals.{then-bytes_blank, else-bytes_blank}

pub returns-then-words_blank : goal.returns-then-words_blank
returns-then-words_blank c =
    elim c.if-bytes_blank.branch [ then-bytes_blank w ↦ search (rules, blank_laws) | else-bytes_blank w ↦ search (rules, blank_laws) ]

pub returns-else-words_blank : goal.returns-else-words_blank
returns-else-words_blank c =
    elim c.if-bytes_blank.branch [ then-bytes_blank w ↦ search (rules, blank_laws) | else-bytes_blank w ↦ search (rules, blank_laws) ]
