use Rattle.tree_load.proofs.+collapse.Given as goal

abbrev pub decreases-collapse : goal.decreases-collapse
decreases-collapse l = l.level
