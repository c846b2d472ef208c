-- Cases of row, computed from the bytes of their files.
use Rattle.std.specs.Prelude.{◌≡◌, refl, Some, None, codes}
use Rattle.pb_language.specs.Verdict.{accepted, refused}
use Rattle.pb_byte_rows.specs.Found.{wrong_book, verdict, found}
use Rattle.pb_byte_rows.proofs.Computing.{reading}

-- a book of no play does nothing
row_empty_book : found (codes "{\"all\":{\"hosts\":[\"h1\"]}}") (codes "[]") ≡ verdict (accepted 0)
unfolding reading
row_empty_book = refl

-- a field of a registered command is shown
row_command_register_debug : found (codes "{\"all\":{\"hosts\":[\"h1\"]}}") (codes "[{\"hosts\":\"all\",\"tasks\":[{\"command\":\"x\",\"register\":\"out\"},{\"debug\":{\"msg\":\"{{ out.stdout }}\"}}]}]") ≡ verdict (accepted 1)
unfolding reading
row_command_register_debug = refl

-- a field that a skipped command does not have
row_skipped_register_read : found (codes "{\"all\":{\"hosts\":[\"h1\"]}}") (codes "[{\"hosts\":\"all\",\"tasks\":[{\"command\":\"x\",\"register\":\"out\",\"when\":\"'web' in group_names\"},{\"debug\":{\"msg\":\"{{ out.stdout }}\"}}]}]") ≡ verdict (refused (record { code = 3; line = 3; host = Some (codes "h1") }))
unfolding reading
row_skipped_register_read = refl

-- a field that a skipped command does not have
row_skipped_register_read_run : found (codes "{\"all\":{\"hosts\":[\"h1\"]}}") (codes "[{\"hosts\":\"all\",\"tasks\":[{\"command\":\"x\",\"register\":\"out\",\"when\":\"'web' in group_names\"},{\"debug\":{\"msg\":\"{{ out.stdout }}\"}}]}]") ≡ verdict (refused (record { code = 3; line = 3; host = Some (codes "h1") }))
unfolding reading
row_skipped_register_read_run = refl

-- a name that nothing defines
row_unknown_name : found (codes "{\"all\":{\"hosts\":[\"h1\"]}}") (codes "[{\"hosts\":\"all\",\"tasks\":[{\"debug\":{\"msg\":\"{{ zz }}\"}}]}]") ≡ verdict (refused (record { code = 1; line = 2; host = Some (codes "h1") }))
unfolding reading
row_unknown_name = refl

-- a number is no condition
row_number_as_condition : found (codes "{\"all\":{\"hosts\":[\"h1\"]}}") (codes "[{\"hosts\":\"all\",\"tasks\":[{\"set_fact\":{\"y\":1}},{\"ping\":null,\"when\":\"y\"}]}]") ≡ verdict (refused (record { code = 4; line = 3; host = Some (codes "h1") }))
unfolding reading
row_number_as_condition = refl

-- a required parameter is missing
row_command_without_cmd : found (codes "{\"all\":{\"hosts\":[\"h1\"]}}") (codes "[{\"hosts\":\"all\",\"tasks\":[{\"command\":{}}]}]") ≡ verdict (refused (record { code = 7; line = 2; host = None }))
unfolding reading
row_command_without_cmd = refl

-- a reserved name may not be registered
row_register_reserved_name : found (codes "{\"all\":{\"hosts\":[\"h1\"]}}") (codes "[{\"hosts\":\"all\",\"tasks\":[{\"ping\":null,\"register\":\"groups\"}]}]") ≡ verdict (refused (record { code = 8; line = 2; host = None }))
unfolding reading
row_register_reserved_name = refl

-- a missing answer is a breach
row_no_answer : found (codes "{\"all\":{\"hosts\":[\"h1\"]}}") (codes "[{\"hosts\":\"all\",\"tasks\":[{\"command\":\"x\"}]}]") ≡ verdict (accepted 1)
unfolding reading
row_no_answer = refl

-- a book that ends too early
row_cut_book : found (codes "{\"all\":{\"hosts\":[\"h1\"]}}") (codes "[{\"hosts\":") ≡ wrong_book (record { line = 0; code = 1 })
unfolding reading
row_cut_book = refl
