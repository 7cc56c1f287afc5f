use Rattle.std.proofs.Common.{◌-◌, ◌≡◌}
use Rattle.text_reader.specs.Reader.{spot_after, pairs_of, filled}
use Rattle.text_reader.proofs.Lists.{put_from}
use Rattle.text_reader.proofs.read_pairs.Given as goal

-- the turns that are left, from here on, leave what all leave from the start
abbrev pub invariant-loop-i : goal.invariant-loop-i
invariant-loop-i l = (spot_after l.text (l.n - l.i) l.t, put_from l.i (pairs_of l.text (l.n - l.i) l.t) l.pairs)
    ≡ filled l.text l.n l.fn.s l.fn.pairs
