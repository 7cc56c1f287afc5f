use Rattle.collect_victim.specs.Victim.{Bests, full_in, ones_by}
use Rattle.collect_victim.proofs.find_victim.Given as goal

abbrev pub invariant-loop-block : goal.invariant-loop-block
invariant-loop-block l = Bests (full_in l.g l.img) (ones_by l.g l.words) l.block l.best
