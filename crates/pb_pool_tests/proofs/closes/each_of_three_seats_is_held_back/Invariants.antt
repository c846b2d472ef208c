use Rattle.pb_pool_tests.proofs.closes.each_of_three_seats_is_held_back.Given as goal

-- the ledgers of the blanks
abbrev pub ghosts-closed_of_three-C-Ledger : goal.ghosts-closed_of_three-C-Ledger
ghosts-closed_of_three-C-Ledger g a = record { name = a.calls.name; parts = a.calls.parts }

abbrev pub ghosts-closed_of_three-G-Ledger : goal.ghosts-closed_of_three-G-Ledger
ghosts-closed_of_three-G-Ledger g a = record { name = a.gives.name; parts = a.gives.parts }
