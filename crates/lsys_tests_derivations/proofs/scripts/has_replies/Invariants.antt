use Rattle.lsys_tests_derivations.proofs.scripts.has_replies.Given as goal

abbrev pub ghosts-is_played-L-Ledger : goal.ghosts-is_played-L-Ledger
ghosts-is_played-L-Ledger g a = record { name = a.asked.name; parts = a.asked.parts }

abbrev pub ghosts-is_played-V-Ledger : goal.ghosts-is_played-V-Ledger
ghosts-is_played-V-Ledger g a = record { name = a.visited.name; parts = a.visited.parts }
