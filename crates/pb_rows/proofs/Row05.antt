-- Cases of row, computed.
use Rattle.std.specs.Prelude.{◌≡◌, refl, pos, [], ◌∷◌, ◌++◌, true, false, Some, None, codes}
use Rattle.std.specs.Fmt.{digits}
use Rattle.pb_semantics.specs.Data.{boolean, int, text, rec, opaque, no_fields, field}
use Rattle.pb_semantics.specs.Kind.{booleans, texts, recs, no_slots, slot}
use Rattle.pb_language.specs.Expression.{literal, path, negation, defined, concatenation, variable, no_expressions, expression, no_parts, part}
use Rattle.pb_language.specs.Book.{module_work, debug_work, no_steps, task_step, Book, Registry}
use Rattle.pb_language.specs.Builtins.{builtins}
use Rattle.pb_language.specs.Give.{object}
use Rattle.pb_language.specs.Judged.{judged}
use Rattle.pb_language.specs.Program.{Inventory}
use Rattle.pb_language.specs.Verdict.{accepted, refused}
use Rattle.pb_rows.specs.Recaps.{recaps_of}

-- row_guarded_name_run: a guarded name
abbrev row_guarded_name_run_book : Book
row_guarded_name_run_book = (record { line = 1; pattern = ((codes "all") ∷ []); gathering = None; vars = (no_parts); is_linear = true; serial = ([]); pre_tasks = (no_steps); tasks = (task_step (record { line = 2; work = (debug_work (part (codes "msg") (path (variable (codes "zz")) ([])) (no_parts))); condition = (expression (defined (variable (codes "zz")) ([])) (no_expressions)); loop = None; register = None; vars = (no_parts); notify = ([]); changed_when = None; failed_when = None; attempts = None; ignore_errors = None }) (no_steps)); post_tasks = (no_steps); handlers = ([]); forces = false } ∷ [])

abbrev row_guarded_name_run_inventory : Inventory
row_guarded_name_run_inventory = record { hosts = (record { name = (codes "h1"); variables = (no_fields) } ∷ []); groups = (record { name = (codes "all"); hosts = ((codes "h1") ∷ []) } ∷ record { name = (codes "ungrouped"); hosts = ((codes "h1") ∷ []) } ∷ []) }

abbrev row_guarded_name_run_registry : Registry
row_guarded_name_run_registry = (builtins ++ ([]))

row_guarded_name_run : recaps_of row_guarded_name_run_registry row_guarded_name_run_inventory row_guarded_name_run_book 5 (([]) ∷ []) ≡ (record { ok = 0; changed = 0; unreachable = 0; failed = 0; skipped = 1; rescued = 0; ignored = 0 } ∷ [])
unfolding digits
row_guarded_name_run = refl

-- row_first_part: the first part that isn't fit
abbrev row_first_part_book : Book
row_first_part_book = (record { line = 1; pattern = ((codes "all") ∷ []); gathering = None; vars = (no_parts); is_linear = true; serial = ([]); pre_tasks = (no_steps); tasks = (task_step (record { line = 2; work = (debug_work (part (codes "msg") (concatenation (expression (negation (literal (int (pos 1)))) (expression (literal (text (codes " "))) (expression (path (variable (codes "zz")) ([])) (no_expressions))))) (no_parts))); condition = (no_expressions); loop = None; register = None; vars = (no_parts); notify = ([]); changed_when = None; failed_when = None; attempts = None; ignore_errors = None }) (no_steps)); post_tasks = (no_steps); handlers = ([]); forces = false } ∷ [])

abbrev row_first_part_inventory : Inventory
row_first_part_inventory = record { hosts = (record { name = (codes "h1"); variables = (no_fields) } ∷ []); groups = (record { name = (codes "all"); hosts = ((codes "h1") ∷ []) } ∷ record { name = (codes "ungrouped"); hosts = ((codes "h1") ∷ []) } ∷ []) }

abbrev row_first_part_registry : Registry
row_first_part_registry = (builtins ++ ([]))

row_first_part : judged row_first_part_registry row_first_part_inventory row_first_part_book ≡ refused (record { code = 4; line = 2; host = (Some (codes "h1")) })
row_first_part = refl

-- row_first_part_turned: and the other way round
abbrev row_first_part_turned_book : Book
row_first_part_turned_book = (record { line = 1; pattern = ((codes "all") ∷ []); gathering = None; vars = (no_parts); is_linear = true; serial = ([]); pre_tasks = (no_steps); tasks = (task_step (record { line = 2; work = (debug_work (part (codes "msg") (concatenation (expression (path (variable (codes "zz")) ([])) (expression (literal (text (codes " "))) (expression (negation (literal (int (pos 1)))) (no_expressions))))) (no_parts))); condition = (no_expressions); loop = None; register = None; vars = (no_parts); notify = ([]); changed_when = None; failed_when = None; attempts = None; ignore_errors = None }) (no_steps)); post_tasks = (no_steps); handlers = ([]); forces = false } ∷ [])

abbrev row_first_part_turned_inventory : Inventory
row_first_part_turned_inventory = record { hosts = (record { name = (codes "h1"); variables = (no_fields) } ∷ []); groups = (record { name = (codes "all"); hosts = ((codes "h1") ∷ []) } ∷ record { name = (codes "ungrouped"); hosts = ((codes "h1") ∷ []) } ∷ []) }

abbrev row_first_part_turned_registry : Registry
row_first_part_turned_registry = (builtins ++ ([]))

row_first_part_turned : judged row_first_part_turned_registry row_first_part_turned_inventory row_first_part_turned_book ≡ refused (record { code = 1; line = 2; host = (Some (codes "h1")) })
row_first_part_turned = refl

-- row_declared: a module of a signature file
abbrev row_declared_book : Book
row_declared_book = (record { line = 1; pattern = ((codes "all") ∷ []); gathering = None; vars = (no_parts); is_linear = true; serial = ([]); pre_tasks = (no_steps); tasks = (task_step (record { line = 2; work = (module_work (codes "probe") (no_parts)); condition = (no_expressions); loop = None; register = (Some (codes "p")); vars = (no_parts); notify = ([]); changed_when = None; failed_when = None; attempts = None; ignore_errors = None }) (task_step (record { line = 3; work = (debug_work (part (codes "msg") (path (variable (codes "p")) ((codes "changed") ∷ [])) (no_parts))); condition = (no_expressions); loop = None; register = None; vars = (no_parts); notify = ([]); changed_when = None; failed_when = None; attempts = None; ignore_errors = None }) (no_steps))); post_tasks = (no_steps); handlers = ([]); forces = false } ∷ [])

abbrev row_declared_inventory : Inventory
row_declared_inventory = record { hosts = (record { name = (codes "h1"); variables = (no_fields) } ∷ []); groups = (record { name = (codes "all"); hosts = ((codes "h1") ∷ []) } ∷ record { name = (codes "ungrouped"); hosts = ((codes "h1") ∷ []) } ∷ []) }

abbrev row_declared_registry : Registry
row_declared_registry = (builtins ++ (record { name = (codes "probe"); params = ([]); ok = recs (slot (codes "changed") true booleans (no_slots)); failure = recs (slot (codes "changed") true booleans (slot (codes "msg") true texts (no_slots))); free = None } ∷ []))

row_declared : judged row_declared_registry row_declared_inventory row_declared_book ≡ accepted 1
row_declared = refl

-- row_declared_run: a field that isn't declared is dropped
abbrev row_declared_run_book : Book
row_declared_run_book = (record { line = 1; pattern = ((codes "all") ∷ []); gathering = None; vars = (no_parts); is_linear = true; serial = ([]); pre_tasks = (no_steps); tasks = (task_step (record { line = 2; work = (module_work (codes "probe") (no_parts)); condition = (no_expressions); loop = None; register = (Some (codes "p")); vars = (no_parts); notify = ([]); changed_when = None; failed_when = None; attempts = None; ignore_errors = None }) (task_step (record { line = 3; work = (debug_work (part (codes "msg") (path (variable (codes "p")) ((codes "changed") ∷ [])) (no_parts))); condition = (no_expressions); loop = None; register = None; vars = (no_parts); notify = ([]); changed_when = None; failed_when = None; attempts = None; ignore_errors = None }) (no_steps))); post_tasks = (no_steps); handlers = ([]); forces = false } ∷ [])

abbrev row_declared_run_inventory : Inventory
row_declared_run_inventory = record { hosts = (record { name = (codes "h1"); variables = (no_fields) } ∷ []); groups = (record { name = (codes "all"); hosts = ((codes "h1") ∷ []) } ∷ record { name = (codes "ungrouped"); hosts = ((codes "h1") ∷ []) } ∷ []) }

abbrev row_declared_run_registry : Registry
row_declared_run_registry = (builtins ++ (record { name = (codes "probe"); params = ([]); ok = recs (slot (codes "changed") true booleans (no_slots)); failure = recs (slot (codes "changed") true booleans (slot (codes "msg") true texts (no_slots))); free = None } ∷ []))

row_declared_run : recaps_of row_declared_run_registry row_declared_run_inventory row_declared_run_book 5 ((object (rec (field (codes "changed") (boolean true) (field (codes "x") (int (pos 1)) (no_fields)))) ∷ []) ∷ []) ≡ (record { ok = 2; changed = 1; unreachable = 0; failed = 0; skipped = 0; rescued = 0; ignored = 0 } ∷ [])
unfolding digits
row_declared_run = refl

-- row_declared_empty_run: changed that isn't there is false
abbrev row_declared_empty_run_book : Book
row_declared_empty_run_book = (record { line = 1; pattern = ((codes "all") ∷ []); gathering = None; vars = (no_parts); is_linear = true; serial = ([]); pre_tasks = (no_steps); tasks = (task_step (record { line = 2; work = (module_work (codes "probe") (no_parts)); condition = (no_expressions); loop = None; register = (Some (codes "p")); vars = (no_parts); notify = ([]); changed_when = None; failed_when = None; attempts = None; ignore_errors = None }) (task_step (record { line = 3; work = (debug_work (part (codes "msg") (path (variable (codes "p")) ((codes "changed") ∷ [])) (no_parts))); condition = (no_expressions); loop = None; register = None; vars = (no_parts); notify = ([]); changed_when = None; failed_when = None; attempts = None; ignore_errors = None }) (no_steps))); post_tasks = (no_steps); handlers = ([]); forces = false } ∷ [])

abbrev row_declared_empty_run_inventory : Inventory
row_declared_empty_run_inventory = record { hosts = (record { name = (codes "h1"); variables = (no_fields) } ∷ []); groups = (record { name = (codes "all"); hosts = ((codes "h1") ∷ []) } ∷ record { name = (codes "ungrouped"); hosts = ((codes "h1") ∷ []) } ∷ []) }

abbrev row_declared_empty_run_registry : Registry
row_declared_empty_run_registry = (builtins ++ (record { name = (codes "probe"); params = ([]); ok = recs (slot (codes "changed") true booleans (no_slots)); failure = recs (slot (codes "changed") true booleans (slot (codes "msg") true texts (no_slots))); free = None } ∷ []))

row_declared_empty_run : recaps_of row_declared_empty_run_registry row_declared_empty_run_inventory row_declared_empty_run_book 5 ((object (rec (no_fields)) ∷ []) ∷ []) ≡ (record { ok = 2; changed = 0; unreachable = 0; failed = 0; skipped = 0; rescued = 0; ignored = 0 } ∷ [])
unfolding digits
row_declared_empty_run = refl

-- row_declared_number_run: a number as changed
abbrev row_declared_number_run_book : Book
row_declared_number_run_book = (record { line = 1; pattern = ((codes "all") ∷ []); gathering = None; vars = (no_parts); is_linear = true; serial = ([]); pre_tasks = (no_steps); tasks = (task_step (record { line = 2; work = (module_work (codes "probe") (no_parts)); condition = (no_expressions); loop = None; register = (Some (codes "p")); vars = (no_parts); notify = ([]); changed_when = None; failed_when = None; attempts = None; ignore_errors = None }) (task_step (record { line = 3; work = (debug_work (part (codes "msg") (path (variable (codes "p")) ((codes "changed") ∷ [])) (no_parts))); condition = (no_expressions); loop = None; register = None; vars = (no_parts); notify = ([]); changed_when = None; failed_when = None; attempts = None; ignore_errors = None }) (no_steps))); post_tasks = (no_steps); handlers = ([]); forces = false } ∷ [])

abbrev row_declared_number_run_inventory : Inventory
row_declared_number_run_inventory = record { hosts = (record { name = (codes "h1"); variables = (no_fields) } ∷ []); groups = (record { name = (codes "all"); hosts = ((codes "h1") ∷ []) } ∷ record { name = (codes "ungrouped"); hosts = ((codes "h1") ∷ []) } ∷ []) }

abbrev row_declared_number_run_registry : Registry
row_declared_number_run_registry = (builtins ++ (record { name = (codes "probe"); params = ([]); ok = recs (slot (codes "changed") true booleans (no_slots)); failure = recs (slot (codes "changed") true booleans (slot (codes "msg") true texts (no_slots))); free = None } ∷ []))

row_declared_number_run : recaps_of row_declared_number_run_registry row_declared_number_run_inventory row_declared_number_run_book 5 ((object (rec (field (codes "changed") (int (pos 1)) (no_fields))) ∷ []) ∷ []) ≡ (record { ok = 0; changed = 0; unreachable = 0; failed = 1; skipped = 0; rescued = 0; ignored = 0 } ∷ [])
unfolding digits
row_declared_number_run = refl

-- row_declared_decimal_run: a decimal as changed
abbrev row_declared_decimal_run_book : Book
row_declared_decimal_run_book = (record { line = 1; pattern = ((codes "all") ∷ []); gathering = None; vars = (no_parts); is_linear = true; serial = ([]); pre_tasks = (no_steps); tasks = (task_step (record { line = 2; work = (module_work (codes "probe") (no_parts)); condition = (no_expressions); loop = None; register = (Some (codes "p")); vars = (no_parts); notify = ([]); changed_when = None; failed_when = None; attempts = None; ignore_errors = None }) (task_step (record { line = 3; work = (debug_work (part (codes "msg") (path (variable (codes "p")) ((codes "changed") ∷ [])) (no_parts))); condition = (no_expressions); loop = None; register = None; vars = (no_parts); notify = ([]); changed_when = None; failed_when = None; attempts = None; ignore_errors = None }) (no_steps))); post_tasks = (no_steps); handlers = ([]); forces = false } ∷ [])

abbrev row_declared_decimal_run_inventory : Inventory
row_declared_decimal_run_inventory = record { hosts = (record { name = (codes "h1"); variables = (no_fields) } ∷ []); groups = (record { name = (codes "all"); hosts = ((codes "h1") ∷ []) } ∷ record { name = (codes "ungrouped"); hosts = ((codes "h1") ∷ []) } ∷ []) }

abbrev row_declared_decimal_run_registry : Registry
row_declared_decimal_run_registry = (builtins ++ (record { name = (codes "probe"); params = ([]); ok = recs (slot (codes "changed") true booleans (no_slots)); failure = recs (slot (codes "changed") true booleans (slot (codes "msg") true texts (no_slots))); free = None } ∷ []))

row_declared_decimal_run : recaps_of row_declared_decimal_run_registry row_declared_decimal_run_inventory row_declared_decimal_run_book 5 ((object (rec (field (codes "changed") opaque (no_fields))) ∷ []) ∷ []) ≡ (record { ok = 0; changed = 0; unreachable = 0; failed = 1; skipped = 0; rescued = 0; ignored = 0 } ∷ [])
unfolding digits
row_declared_decimal_run = refl

-- row_gathered: a fact that is always there
abbrev row_gathered_book : Book
row_gathered_book = (record { line = 1; pattern = ((codes "all") ∷ []); gathering = (Some 2); vars = (no_parts); is_linear = true; serial = ([]); pre_tasks = (no_steps); tasks = (task_step (record { line = 3; work = (debug_work (part (codes "msg") (path (variable (codes "ansible_hostname")) ([])) (no_parts))); condition = (no_expressions); loop = None; register = None; vars = (no_parts); notify = ([]); changed_when = None; failed_when = None; attempts = None; ignore_errors = None }) (no_steps)); post_tasks = (no_steps); handlers = ([]); forces = false } ∷ [])

abbrev row_gathered_inventory : Inventory
row_gathered_inventory = record { hosts = (record { name = (codes "h1"); variables = (no_fields) } ∷ []); groups = (record { name = (codes "all"); hosts = ((codes "h1") ∷ []) } ∷ record { name = (codes "ungrouped"); hosts = ((codes "h1") ∷ []) } ∷ []) }

abbrev row_gathered_registry : Registry
row_gathered_registry = (builtins ++ ([]))

row_gathered : judged row_gathered_registry row_gathered_inventory row_gathered_book ≡ accepted 1
row_gathered = refl

-- row_gathered_run: a fact that is always there
abbrev row_gathered_run_book : Book
row_gathered_run_book = (record { line = 1; pattern = ((codes "all") ∷ []); gathering = (Some 2); vars = (no_parts); is_linear = true; serial = ([]); pre_tasks = (no_steps); tasks = (task_step (record { line = 3; work = (debug_work (part (codes "msg") (path (variable (codes "ansible_hostname")) ([])) (no_parts))); condition = (no_expressions); loop = None; register = None; vars = (no_parts); notify = ([]); changed_when = None; failed_when = None; attempts = None; ignore_errors = None }) (no_steps)); post_tasks = (no_steps); handlers = ([]); forces = false } ∷ [])

abbrev row_gathered_run_inventory : Inventory
row_gathered_run_inventory = record { hosts = (record { name = (codes "h1"); variables = (no_fields) } ∷ []); groups = (record { name = (codes "all"); hosts = ((codes "h1") ∷ []) } ∷ record { name = (codes "ungrouped"); hosts = ((codes "h1") ∷ []) } ∷ []) }

abbrev row_gathered_run_registry : Registry
row_gathered_run_registry = (builtins ++ ([]))

row_gathered_run : recaps_of row_gathered_run_registry row_gathered_run_inventory row_gathered_run_book 5 ((object (rec (field (codes "ansible_facts") (rec (field (codes "ansible_hostname") (text (codes "n")) (field (codes "ansible_system") (text (codes "Linux")) (no_fields)))) (no_fields))) ∷ []) ∷ []) ≡ (record { ok = 2; changed = 0; unreachable = 0; failed = 0; skipped = 0; rescued = 0; ignored = 0 } ∷ [])
unfolding digits
row_gathered_run = refl

-- row_gathered_maybe: a fact that may be missing
abbrev row_gathered_maybe_book : Book
row_gathered_maybe_book = (record { line = 1; pattern = ((codes "all") ∷ []); gathering = (Some 2); vars = (no_parts); is_linear = true; serial = ([]); pre_tasks = (no_steps); tasks = (task_step (record { line = 3; work = (debug_work (part (codes "msg") (path (variable (codes "ansible_os_family")) ([])) (no_parts))); condition = (no_expressions); loop = None; register = None; vars = (no_parts); notify = ([]); changed_when = None; failed_when = None; attempts = None; ignore_errors = None }) (no_steps)); post_tasks = (no_steps); handlers = ([]); forces = false } ∷ [])

abbrev row_gathered_maybe_inventory : Inventory
row_gathered_maybe_inventory = record { hosts = (record { name = (codes "h1"); variables = (no_fields) } ∷ []); groups = (record { name = (codes "all"); hosts = ((codes "h1") ∷ []) } ∷ record { name = (codes "ungrouped"); hosts = ((codes "h1") ∷ []) } ∷ []) }

abbrev row_gathered_maybe_registry : Registry
row_gathered_maybe_registry = (builtins ++ ([]))

row_gathered_maybe : judged row_gathered_maybe_registry row_gathered_maybe_inventory row_gathered_maybe_book ≡ refused (record { code = 1; line = 3; host = (Some (codes "h1")) })
row_gathered_maybe = refl

-- row_gathered_record: the record of facts
abbrev row_gathered_record_book : Book
row_gathered_record_book = (record { line = 1; pattern = ((codes "all") ∷ []); gathering = (Some 2); vars = (no_parts); is_linear = true; serial = ([]); pre_tasks = (no_steps); tasks = (task_step (record { line = 3; work = (debug_work (part (codes "msg") (path (variable (codes "ansible_facts")) ((codes "hostname") ∷ [])) (no_parts))); condition = (no_expressions); loop = None; register = None; vars = (no_parts); notify = ([]); changed_when = None; failed_when = None; attempts = None; ignore_errors = None }) (no_steps)); post_tasks = (no_steps); handlers = ([]); forces = false } ∷ [])

abbrev row_gathered_record_inventory : Inventory
row_gathered_record_inventory = record { hosts = (record { name = (codes "h1"); variables = (no_fields) } ∷ []); groups = (record { name = (codes "all"); hosts = ((codes "h1") ∷ []) } ∷ record { name = (codes "ungrouped"); hosts = ((codes "h1") ∷ []) } ∷ []) }

abbrev row_gathered_record_registry : Registry
row_gathered_record_registry = (builtins ++ ([]))

row_gathered_record : judged row_gathered_record_registry row_gathered_record_inventory row_gathered_record_book ≡ accepted 1
row_gathered_record = refl
