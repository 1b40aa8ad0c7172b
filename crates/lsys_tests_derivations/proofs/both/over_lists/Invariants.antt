use Rattle.lsys_tests_derivations.proofs.both.over_lists.Given as goal

abbrev pub ghosts-written_over_lists-L-Ledger : goal.ghosts-written_over_lists-L-Ledger
ghosts-written_over_lists-L-Ledger a = record { name = a.asked.name; parts = a.asked.parts }

abbrev pub ghosts-written_over_lists-V-Ledger : goal.ghosts-written_over_lists-V-Ledger
ghosts-written_over_lists-V-Ledger a = record { name = a.visited.name; parts = a.visited.parts }
