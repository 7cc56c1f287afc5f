use Rattle.plain_calls.proofs.+count_loss.Given as goal

abbrev pub decreases-count_loss : goal.decreases-count_loss
decreases-count_loss l = l.below
