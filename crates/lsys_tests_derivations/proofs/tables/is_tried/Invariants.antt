use Rattle.lsys_tests_derivations.proofs.tables.is_tried.Given as goal

abbrev pub ghosts-comes_out_over_a_forest-L-Ledger : goal.ghosts-comes_out_over_a_forest-L-Ledger
ghosts-comes_out_over_a_forest-L-Ledger g a = record { name = a.asked.name; parts = a.asked.parts }

abbrev pub ghosts-comes_out_over_a_forest-V-Ledger : goal.ghosts-comes_out_over_a_forest-V-Ledger
ghosts-comes_out_over_a_forest-V-Ledger g a = record { name = a.visited.name; parts = a.visited.parts }
