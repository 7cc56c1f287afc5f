use Rattle.std.proofs.Common.{◌≡◌, take, drop}
use Rattle.call_answers.specs.Answers.{told_by}
use Rattle.text_carrying.specs.Carrying.{store_all}
use Rattle.call_import.proofs.store_pairs.Given as goal

-- the pairs that are left leave what all leave from the start
abbrev pub invariant-loop-e : goal.invariant-loop-e
invariant-loop-e l = store_all l.g (told_by l.t l.img) (drop l.e-index l.e-items)
    ≡ store_all l.g (told_by l.fn.s l.fn.img) (take l.n l.pairs)
