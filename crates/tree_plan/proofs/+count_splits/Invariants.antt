use Rattle.tree_plan.proofs.+count_splits.Given as goal

abbrev pub decreases-count_splits : goal.decreases-count_splits
decreases-count_splits l = l.below
