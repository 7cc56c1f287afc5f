use Rattle.tree_path.proofs.+change.Given as goal

abbrev pub decreases-change : goal.decreases-change
decreases-change l = l.below
