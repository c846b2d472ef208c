use Rattle.pb_pool_tests.proofs.refusals.a_board_whose_calls_are_made_again.Given as goal

-- the ledgers of the blanks
abbrev pub ghosts-found_of_blanks-C-Ledger : goal.ghosts-found_of_blanks-C-Ledger
ghosts-found_of_blanks-C-Ledger g a = record { name = a.calls.name; parts = a.calls.parts }

abbrev pub ghosts-found_of_blanks-G-Ledger : goal.ghosts-found_of_blanks-G-Ledger
ghosts-found_of_blanks-G-Ledger g a = record { name = a.gives.name; parts = a.gives.parts }

abbrev pub ghosts-found_of_blanks-D-Ledger : goal.ghosts-found_of_blanks-D-Ledger
ghosts-found_of_blanks-D-Ledger g a = record {
  name = a.other_calls.name;
  parts = a.other_calls.parts;
}

abbrev pub ghosts-found_of_blanks-H-Ledger : goal.ghosts-found_of_blanks-H-Ledger
ghosts-found_of_blanks-H-Ledger g a = record {
  name = a.other_gives.name;
  parts = a.other_gives.parts;
}
