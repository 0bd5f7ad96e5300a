use Rattle.fx_region.proofs.following.+find.Given as goal

abbrev pub decreases-find : goal.decreases-find
decreases-find g l = l.node
