use Rattle.std.proofs.Common.{◌≡◌, true}
use Rattle.model.specs.Codes.{codes_fit}
use Rattle.sound_pages.proofs.codes_fit.Given as goal

abbrev pub invariant-loop-k : goal.invariant-loop-k
invariant-loop-k l = codes_fit l.g l.img l.b l.k ≡ true
