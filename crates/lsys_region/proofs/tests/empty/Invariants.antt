use Rattle.lsys_region.proofs.tests.empty.Given as goal

abbrev pub decreases-all : goal.decreases-all
decreases-all l = l.shelf
