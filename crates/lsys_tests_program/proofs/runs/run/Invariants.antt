use Rattle.lsys_tests_program.proofs.runs.run.Given as goal

abbrev pub ghosts-counted-L-Ledger : goal.ghosts-counted-L-Ledger
ghosts-counted-L-Ledger g a = record { name = a.asked.name; parts = a.asked.parts }

abbrev pub ghosts-counted-V-Ledger : goal.ghosts-counted-V-Ledger
ghosts-counted-V-Ledger g a = record { name = a.visited.name; parts = a.visited.parts }
