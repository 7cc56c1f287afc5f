use Rattle.std.proofs.Common.{◌+◌, ◌*◌, ◌≤◌, ◌≡◌, length, take}
use Rattle.std.proofs.lemmas.List.Edits.{sets}
use Rattle.log_lines.specs.Replay.{tabbed}
use Rattle.log_replies.proofs.put_fields.Given as goal

-- the numbers so far are put
abbrev pub invariant-loop-x : goal.invariant-loop-x
invariant-loop-x l = record {
  most : l.end ≤ l.at + 21 * l.x-index;
  place : l.end ≡ l.at + length (tabbed (take l.x-index l.x-items));
  bytes : l.out ≡ sets l.fn.out l.at (tabbed (take l.x-index l.x-items));
}
