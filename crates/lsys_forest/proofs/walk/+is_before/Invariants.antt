use Rattle.lsys_forest.proofs.walk.+is_before.Given as goal

abbrev pub decreases-is_before : goal.decreases-is_before
decreases-is_before g l = l.depth
