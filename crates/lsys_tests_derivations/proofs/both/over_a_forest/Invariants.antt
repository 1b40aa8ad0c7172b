use Rattle.lsys_tests_derivations.proofs.both.over_a_forest.Given as goal

abbrev pub ghosts-written_over_a_forest-L-Ledger : goal.ghosts-written_over_a_forest-L-Ledger
ghosts-written_over_a_forest-L-Ledger a = record { name = a.asked.name; parts = a.asked.parts }

abbrev pub ghosts-written_over_a_forest-V-Ledger : goal.ghosts-written_over_a_forest-V-Ledger
ghosts-written_over_a_forest-V-Ledger a = record { name = a.visited.name; parts = a.visited.parts }
