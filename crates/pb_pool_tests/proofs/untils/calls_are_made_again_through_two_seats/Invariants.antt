use Rattle.pb_pool_tests.proofs.untils.calls_are_made_again_through_two_seats.Given as goal

-- the ledgers of the blanks
abbrev pub ghosts-asked_by_two-C-Ledger : goal.ghosts-asked_by_two-C-Ledger
ghosts-asked_by_two-C-Ledger g a = record { name = a.calls.name; parts = a.calls.parts }

abbrev pub ghosts-asked_by_two-G-Ledger : goal.ghosts-asked_by_two-G-Ledger
ghosts-asked_by_two-G-Ledger g a = record { name = a.gives.name; parts = a.gives.parts }
