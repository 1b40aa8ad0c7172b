use Rattle.lsys_tests_levels.proofs.walks.read_left.Given as goal

abbrev pub ghosts-left : goal.ghosts-left
ghosts-left g a = record { name = a.visited.name; parts = a.visited.parts }
