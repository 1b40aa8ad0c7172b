use Rattle.lsys_tests_levels.proofs.walks.read_right.Given as goal

abbrev pub ghosts-right : goal.ghosts-right
ghosts-right g a = record { name = a.visited.name; parts = a.visited.parts }
