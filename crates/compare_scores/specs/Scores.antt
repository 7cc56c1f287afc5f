-- Request 12: an order on both images, and what is counted of it.
--     obeyed       on the μ-Tree's image (request 3), the small chip's
--     plain_obeyed  on the plain tree's
-- Definitions alone; assumes nothing.
use Rattle.std.specs.Prelude.{ℕ, ◌+◌, Bool, true, false, List, eqb, leb}
use Rattle.geometry.specs.Geometry.{plain}
use Rattle.geometry.specs.Tests.{pick, ◌&◌}
use Rattle.model.specs.Calls.{Outcome, format, lookup}
use Rattle.model.specs.Plain.{plain_insert, plain_delete}
use Rattle.log_lines.specs.declared.Order.{Order}
use Rattle.log_lines.specs.declared.Order.TheVariants.{Format, Insert, Delete, Lookup, Limited}
use Rattle.log_lines.specs.Replay.{largest_allowance}
use Rattle.compare_scores.specs.declared.Score.{Score}

unfoldable pub plain_obeyed : Order → List ℕ → Outcome
plain_obeyed Format img = format plain img
plain_obeyed (Insert k a) img = plain_insert plain img k a largest_allowance
plain_obeyed (Delete k) img = plain_delete plain img k largest_allowance
plain_obeyed (Lookup k) img = lookup plain img k
plain_obeyed (Limited k a allowance) img = plain_insert plain img k a allowance

-- "stops at the first 5, 6 or 7": HEIGHT, ROOM or STOPPED, of either tree
abbrev pub stops : Outcome → Bool
stops o = leb 5 o.answer & leb o.answer 7

-- inserts and deletes are updates; F and L are not
abbrev pub is_update : Order → Bool
is_update Format = false
is_update (Insert k a) = true
is_update (Delete k) = true
is_update (Lookup k) = false
is_update (Limited k a allowance) = true

abbrev pub none_yet : Score
none_yet = record { lines = 0; updates = 0; mu = 0; plain = 0 }

-- an update that both answer by 0
abbrev pub counts : Order → Outcome → Outcome → Bool
counts order a b = is_update order & eqb a.answer 0 & eqb b.answer 0

-- one line more; "updates answered 0, pages these programmed in each"
unfoldable pub scored : Score → Order → Outcome → Outcome → Score
scored s order a b = pick (counts order a b)
    (record {
      lines = s.lines + 1;
      updates = s.updates + 1;
      mu = s.mu + a.programmed;
      plain = s.plain + b.programmed;
    })
    (record { lines = s.lines + 1; updates = s.updates; mu = s.mu; plain = s.plain })
