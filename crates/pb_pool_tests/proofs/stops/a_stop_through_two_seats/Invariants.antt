use Rattle.pb_pool_tests.proofs.stops.a_stop_through_two_seats.Given as goal

-- the ledgers of the blanks
abbrev pub ghosts-stopped_by_hand-C-Ledger : goal.ghosts-stopped_by_hand-C-Ledger
ghosts-stopped_by_hand-C-Ledger g a = record { name = a.calls.name; parts = a.calls.parts }

abbrev pub ghosts-stopped_by_hand-G-Ledger : goal.ghosts-stopped_by_hand-G-Ledger
ghosts-stopped_by_hand-G-Ledger g a = record { name = a.gives.name; parts = a.gives.parts }
