use Rattle.pb_pool_tests.proofs.closes.one_of_two_seats_is_missing.Given as goal

-- the ledgers of the blanks
abbrev pub ghosts-closed_of_two-C-Ledger : goal.ghosts-closed_of_two-C-Ledger
ghosts-closed_of_two-C-Ledger g a = record { name = a.calls.name; parts = a.calls.parts }

abbrev pub ghosts-closed_of_two-G-Ledger : goal.ghosts-closed_of_two-G-Ledger
ghosts-closed_of_two-G-Ledger g a = record { name = a.gives.name; parts = a.gives.parts }
