-- Cases of row, computed.
use Rattle.std.specs.Prelude.{◌≡◌, refl, pos, [], ◌∷◌, ◌++◌, true, false, Some, None, codes}
use Rattle.std.specs.Fmt.{digits}
use Rattle.pb_semantics.specs.Data.{boolean, int, text, list, rec, opaque, no_items, item, no_fields, field}
use Rattle.pb_language.specs.Expression.{equal, literal, path, comparison, defined, list_of, variable, no_expressions, expression, no_parts, part}
use Rattle.pb_language.specs.Book.{conditions_are, module_work, debug_work, set_fact_work, assert_work, no_steps, task_step, Book, Registry}
use Rattle.pb_language.specs.Builtins.{builtins}
use Rattle.pb_language.specs.Give.{object, unreachable}
use Rattle.pb_language.specs.Judged.{judged}
use Rattle.pb_language.specs.Program.{Inventory}
use Rattle.pb_language.specs.Verdict.{accepted, refused}
use Rattle.pb_rows.specs.Recaps.{recaps_of}

-- row_inherited: variables of groups and of the host
abbrev row_inherited_book : Book
row_inherited_book = (record { line = 1; pattern = ((codes "all") ∷ []); gathering = None; vars = (no_parts); is_linear = true; serial = ([]); pre_tasks = (no_steps); tasks = (task_step (record { line = 2; work = (assert_work (conditions_are (expression (comparison equal (path (variable (codes "p")) ([])) (literal (int (pos 2)))) (expression (comparison equal (path (variable (codes "q")) ([])) (literal (int (pos 5)))) (expression (comparison equal (path (variable (codes "group_names")) ([])) (list_of (expression (literal (text (codes "w2"))) (expression (literal (text (codes "web"))) (no_expressions))))) (no_expressions))))) (no_parts)); condition = (no_expressions); loop = None; register = None; vars = (no_parts); notify = ([]); changed_when = None; failed_when = None; attempts = None; ignore_errors = None }) (no_steps)); post_tasks = (no_steps); handlers = ([]); forces = false } ∷ [])

abbrev row_inherited_inventory : Inventory
row_inherited_inventory = record { hosts = (record { name = (codes "h1"); variables = (field (codes "p") (int (pos 2)) (field (codes "q") (int (pos 5)) (field (codes "r") opaque (no_fields)))) } ∷ []); groups = (record { name = (codes "all"); hosts = ((codes "h1") ∷ []) } ∷ record { name = (codes "ungrouped"); hosts = ([]) } ∷ record { name = (codes "w2"); hosts = ((codes "h1") ∷ []) } ∷ record { name = (codes "web"); hosts = ((codes "h1") ∷ []) } ∷ []) }

abbrev row_inherited_registry : Registry
row_inherited_registry = (builtins ++ ([]))

row_inherited : recaps_of row_inherited_registry row_inherited_inventory row_inherited_book 5 (([]) ∷ []) ≡ (record { ok = 1; changed = 0; unreachable = 0; failed = 0; skipped = 0; rescued = 0; ignored = 0 } ∷ [])
unfolding digits
row_inherited = refl

-- row_undefined: a name that isn't there
abbrev row_undefined_book : Book
row_undefined_book = (record { line = 1; pattern = ((codes "all") ∷ []); gathering = None; vars = (no_parts); is_linear = true; serial = ([]); pre_tasks = (no_steps); tasks = (task_step (record { line = 2; work = (debug_work (part (codes "msg") (path (variable (codes "zz")) ([])) (no_parts))); condition = (no_expressions); loop = None; register = None; vars = (no_parts); notify = ([]); changed_when = None; failed_when = None; attempts = None; ignore_errors = None }) (no_steps)); post_tasks = (no_steps); handlers = ([]); forces = false } ∷ [])

abbrev row_undefined_inventory : Inventory
row_undefined_inventory = record { hosts = (record { name = (codes "h1"); variables = (no_fields) } ∷ []); groups = (record { name = (codes "all"); hosts = ((codes "h1") ∷ []) } ∷ record { name = (codes "ungrouped"); hosts = ((codes "h1") ∷ []) } ∷ []) }

abbrev row_undefined_registry : Registry
row_undefined_registry = (builtins ++ ([]))

row_undefined : judged row_undefined_registry row_undefined_inventory row_undefined_book ≡ refused (record { code = 1; line = 2; host = (Some (codes "h1")) })
row_undefined = refl

-- row_number_when: a number as a condition
abbrev row_number_when_book : Book
row_number_when_book = (record { line = 1; pattern = ((codes "all") ∷ []); gathering = None; vars = (no_parts); is_linear = true; serial = ([]); pre_tasks = (no_steps); tasks = (task_step (record { line = 2; work = (set_fact_work (part (codes "y") (literal (int (pos 1))) (no_parts))); condition = (no_expressions); loop = None; register = None; vars = (no_parts); notify = ([]); changed_when = None; failed_when = None; attempts = None; ignore_errors = None }) (task_step (record { line = 3; work = (module_work (codes "ping") (no_parts)); condition = (expression (path (variable (codes "y")) ([])) (no_expressions)); loop = None; register = None; vars = (no_parts); notify = ([]); changed_when = None; failed_when = None; attempts = None; ignore_errors = None }) (no_steps))); post_tasks = (no_steps); handlers = ([]); forces = false } ∷ [])

abbrev row_number_when_inventory : Inventory
row_number_when_inventory = record { hosts = (record { name = (codes "h1"); variables = (no_fields) } ∷ []); groups = (record { name = (codes "all"); hosts = ((codes "h1") ∷ []) } ∷ record { name = (codes "ungrouped"); hosts = ((codes "h1") ∷ []) } ∷ []) }

abbrev row_number_when_registry : Registry
row_number_when_registry = (builtins ++ ([]))

row_number_when : judged row_number_when_registry row_number_when_inventory row_number_when_book ≡ refused (record { code = 4; line = 3; host = (Some (codes "h1")) })
row_number_when = refl

-- row_no_command: a parameter that is missing
abbrev row_no_command_book : Book
row_no_command_book = (record { line = 1; pattern = ((codes "all") ∷ []); gathering = None; vars = (no_parts); is_linear = true; serial = ([]); pre_tasks = (no_steps); tasks = (task_step (record { line = 2; work = (module_work (codes "command") (no_parts)); condition = (no_expressions); loop = None; register = None; vars = (no_parts); notify = ([]); changed_when = None; failed_when = None; attempts = None; ignore_errors = None }) (no_steps)); post_tasks = (no_steps); handlers = ([]); forces = false } ∷ [])

abbrev row_no_command_inventory : Inventory
row_no_command_inventory = record { hosts = (record { name = (codes "h1"); variables = (no_fields) } ∷ []); groups = (record { name = (codes "all"); hosts = ((codes "h1") ∷ []) } ∷ record { name = (codes "ungrouped"); hosts = ((codes "h1") ∷ []) } ∷ []) }

abbrev row_no_command_registry : Registry
row_no_command_registry = (builtins ++ ([]))

row_no_command : judged row_no_command_registry row_no_command_inventory row_no_command_book ≡ refused (record { code = 7; line = 2; host = None })
row_no_command = refl

-- row_reserved: a reserved name
abbrev row_reserved_book : Book
row_reserved_book = (record { line = 1; pattern = ((codes "all") ∷ []); gathering = None; vars = (no_parts); is_linear = true; serial = ([]); pre_tasks = (no_steps); tasks = (task_step (record { line = 2; work = (module_work (codes "ping") (no_parts)); condition = (no_expressions); loop = None; register = (Some (codes "groups")); vars = (no_parts); notify = ([]); changed_when = None; failed_when = None; attempts = None; ignore_errors = None }) (no_steps)); post_tasks = (no_steps); handlers = ([]); forces = false } ∷ [])

abbrev row_reserved_inventory : Inventory
row_reserved_inventory = record { hosts = (record { name = (codes "h1"); variables = (no_fields) } ∷ []); groups = (record { name = (codes "all"); hosts = ((codes "h1") ∷ []) } ∷ record { name = (codes "ungrouped"); hosts = ((codes "h1") ∷ []) } ∷ []) }

abbrev row_reserved_registry : Registry
row_reserved_registry = (builtins ++ ([]))

row_reserved : judged row_reserved_registry row_reserved_inventory row_reserved_book ≡ refused (record { code = 8; line = 2; host = None })
row_reserved = refl

-- row_no_answer_run: no answer is a breach
abbrev row_no_answer_run_book : Book
row_no_answer_run_book = (record { line = 1; pattern = ((codes "all") ∷ []); gathering = None; vars = (no_parts); is_linear = true; serial = ([]); pre_tasks = (no_steps); tasks = (task_step (record { line = 2; work = (module_work (codes "command") (part (codes "cmd") (literal (text (codes "x"))) (no_parts))); condition = (no_expressions); loop = None; register = None; vars = (no_parts); notify = ([]); changed_when = None; failed_when = None; attempts = None; ignore_errors = None }) (no_steps)); post_tasks = (no_steps); handlers = ([]); forces = false } ∷ [])

abbrev row_no_answer_run_inventory : Inventory
row_no_answer_run_inventory = record { hosts = (record { name = (codes "h1"); variables = (no_fields) } ∷ []); groups = (record { name = (codes "all"); hosts = ((codes "h1") ∷ []) } ∷ record { name = (codes "ungrouped"); hosts = ((codes "h1") ∷ []) } ∷ []) }

abbrev row_no_answer_run_registry : Registry
row_no_answer_run_registry = (builtins ++ ([]))

row_no_answer_run : recaps_of row_no_answer_run_registry row_no_answer_run_inventory row_no_answer_run_book 5 (([]) ∷ []) ≡ (record { ok = 0; changed = 0; unreachable = 0; failed = 1; skipped = 0; rescued = 0; ignored = 0 } ∷ [])
unfolding digits
row_no_answer_run = refl

-- row_unreachable_run: a host that can't be reached
abbrev row_unreachable_run_book : Book
row_unreachable_run_book = (record { line = 1; pattern = ((codes "all") ∷ []); gathering = None; vars = (no_parts); is_linear = true; serial = ([]); pre_tasks = (no_steps); tasks = (task_step (record { line = 2; work = (module_work (codes "command") (part (codes "cmd") (literal (text (codes "x"))) (no_parts))); condition = (no_expressions); loop = None; register = None; vars = (no_parts); notify = ([]); changed_when = None; failed_when = None; attempts = None; ignore_errors = None }) (no_steps)); post_tasks = (no_steps); handlers = ([]); forces = false } ∷ [])

abbrev row_unreachable_run_inventory : Inventory
row_unreachable_run_inventory = record { hosts = (record { name = (codes "h1"); variables = (no_fields) } ∷ []); groups = (record { name = (codes "all"); hosts = ((codes "h1") ∷ []) } ∷ record { name = (codes "ungrouped"); hosts = ((codes "h1") ∷ []) } ∷ []) }

abbrev row_unreachable_run_registry : Registry
row_unreachable_run_registry = (builtins ++ ([]))

row_unreachable_run : recaps_of row_unreachable_run_registry row_unreachable_run_inventory row_unreachable_run_book 5 ((unreachable ∷ []) ∷ []) ≡ (record { ok = 0; changed = 0; unreachable = 1; failed = 0; skipped = 0; rescued = 0; ignored = 0 } ∷ [])
unfolding digits
row_unreachable_run = refl

-- row_failed_when: failed_when decides
abbrev row_failed_when_book : Book
row_failed_when_book = (record { line = 1; pattern = ((codes "all") ∷ []); gathering = None; vars = (no_parts); is_linear = true; serial = ([]); pre_tasks = (no_steps); tasks = (task_step (record { line = 2; work = (module_work (codes "command") (part (codes "cmd") (literal (text (codes "x"))) (no_parts))); condition = (no_expressions); loop = None; register = (Some (codes "out")); vars = (no_parts); notify = ([]); changed_when = None; failed_when = (Some (expression (comparison equal (path (variable (codes "out")) ((codes "rc") ∷ [])) (literal (int (pos 9)))) (no_expressions))); attempts = None; ignore_errors = None }) (task_step (record { line = 3; work = (debug_work (part (codes "msg") (path (variable (codes "out")) ((codes "stdout") ∷ [])) (no_parts))); condition = (no_expressions); loop = None; register = None; vars = (no_parts); notify = ([]); changed_when = None; failed_when = None; attempts = None; ignore_errors = None }) (no_steps))); post_tasks = (no_steps); handlers = ([]); forces = false } ∷ [])

abbrev row_failed_when_inventory : Inventory
row_failed_when_inventory = record { hosts = (record { name = (codes "h1"); variables = (no_fields) } ∷ []); groups = (record { name = (codes "all"); hosts = ((codes "h1") ∷ []) } ∷ record { name = (codes "ungrouped"); hosts = ((codes "h1") ∷ []) } ∷ []) }

abbrev row_failed_when_registry : Registry
row_failed_when_registry = (builtins ++ ([]))

row_failed_when : judged row_failed_when_registry row_failed_when_inventory row_failed_when_book ≡ accepted 1
row_failed_when = refl

-- row_failed_when_run: failed_when decides
abbrev row_failed_when_run_book : Book
row_failed_when_run_book = (record { line = 1; pattern = ((codes "all") ∷ []); gathering = None; vars = (no_parts); is_linear = true; serial = ([]); pre_tasks = (no_steps); tasks = (task_step (record { line = 2; work = (module_work (codes "command") (part (codes "cmd") (literal (text (codes "x"))) (no_parts))); condition = (no_expressions); loop = None; register = (Some (codes "out")); vars = (no_parts); notify = ([]); changed_when = None; failed_when = (Some (expression (comparison equal (path (variable (codes "out")) ((codes "rc") ∷ [])) (literal (int (pos 9)))) (no_expressions))); attempts = None; ignore_errors = None }) (task_step (record { line = 3; work = (debug_work (part (codes "msg") (path (variable (codes "out")) ((codes "stdout") ∷ [])) (no_parts))); condition = (no_expressions); loop = None; register = None; vars = (no_parts); notify = ([]); changed_when = None; failed_when = None; attempts = None; ignore_errors = None }) (no_steps))); post_tasks = (no_steps); handlers = ([]); forces = false } ∷ [])

abbrev row_failed_when_run_inventory : Inventory
row_failed_when_run_inventory = record { hosts = (record { name = (codes "h1"); variables = (no_fields) } ∷ []); groups = (record { name = (codes "all"); hosts = ((codes "h1") ∷ []) } ∷ record { name = (codes "ungrouped"); hosts = ((codes "h1") ∷ []) } ∷ []) }

abbrev row_failed_when_run_registry : Registry
row_failed_when_run_registry = (builtins ++ ([]))

row_failed_when_run : recaps_of row_failed_when_run_registry row_failed_when_run_inventory row_failed_when_run_book 5 ((object (rec (field (codes "changed") (boolean false) (field (codes "failed") (boolean true) (field (codes "msg") (text (codes "no")) (field (codes "rc") (int (pos 1)) (field (codes "stderr") (text ([])) (field (codes "stderr_lines") (list (no_items)) (field (codes "stdout") (text ([])) (field (codes "stdout_lines") (list (no_items)) (no_fields)))))))))) ∷ []) ∷ []) ≡ (record { ok = 2; changed = 0; unreachable = 0; failed = 0; skipped = 0; rescued = 0; ignored = 0 } ∷ [])
unfolding digits
row_failed_when_run = refl

-- row_failed_when_msg: an ok shape has no msg
abbrev row_failed_when_msg_book : Book
row_failed_when_msg_book = (record { line = 1; pattern = ((codes "all") ∷ []); gathering = None; vars = (no_parts); is_linear = true; serial = ([]); pre_tasks = (no_steps); tasks = (task_step (record { line = 2; work = (module_work (codes "command") (part (codes "cmd") (literal (text (codes "x"))) (no_parts))); condition = (no_expressions); loop = None; register = (Some (codes "out")); vars = (no_parts); notify = ([]); changed_when = None; failed_when = (Some (expression (comparison equal (path (variable (codes "out")) ((codes "rc") ∷ [])) (literal (int (pos 9)))) (no_expressions))); attempts = None; ignore_errors = None }) (task_step (record { line = 3; work = (debug_work (part (codes "msg") (path (variable (codes "out")) ((codes "msg") ∷ [])) (no_parts))); condition = (no_expressions); loop = None; register = None; vars = (no_parts); notify = ([]); changed_when = None; failed_when = None; attempts = None; ignore_errors = None }) (no_steps))); post_tasks = (no_steps); handlers = ([]); forces = false } ∷ [])

abbrev row_failed_when_msg_inventory : Inventory
row_failed_when_msg_inventory = record { hosts = (record { name = (codes "h1"); variables = (no_fields) } ∷ []); groups = (record { name = (codes "all"); hosts = ((codes "h1") ∷ []) } ∷ record { name = (codes "ungrouped"); hosts = ((codes "h1") ∷ []) } ∷ []) }

abbrev row_failed_when_msg_registry : Registry
row_failed_when_msg_registry = (builtins ++ ([]))

row_failed_when_msg : judged row_failed_when_msg_registry row_failed_when_msg_inventory row_failed_when_msg_book ≡ refused (record { code = 3; line = 3; host = (Some (codes "h1")) })
row_failed_when_msg = refl

-- row_changed_when_run: changed_when decides
abbrev row_changed_when_run_book : Book
row_changed_when_run_book = (record { line = 1; pattern = ((codes "all") ∷ []); gathering = None; vars = (no_parts); is_linear = true; serial = ([]); pre_tasks = (no_steps); tasks = (task_step (record { line = 2; work = (module_work (codes "command") (part (codes "cmd") (literal (text (codes "x"))) (no_parts))); condition = (no_expressions); loop = None; register = (Some (codes "out")); vars = (no_parts); notify = ([]); changed_when = (Some (expression (literal (boolean false)) (no_expressions))); failed_when = None; attempts = None; ignore_errors = None }) (no_steps)); post_tasks = (no_steps); handlers = ([]); forces = false } ∷ [])

abbrev row_changed_when_run_inventory : Inventory
row_changed_when_run_inventory = record { hosts = (record { name = (codes "h1"); variables = (no_fields) } ∷ []); groups = (record { name = (codes "all"); hosts = ((codes "h1") ∷ []) } ∷ record { name = (codes "ungrouped"); hosts = ((codes "h1") ∷ []) } ∷ []) }

abbrev row_changed_when_run_registry : Registry
row_changed_when_run_registry = (builtins ++ ([]))

row_changed_when_run : recaps_of row_changed_when_run_registry row_changed_when_run_inventory row_changed_when_run_book 5 ((object (rec (field (codes "changed") (boolean true) (field (codes "rc") (int (pos 0)) (field (codes "stderr") (text ([])) (field (codes "stderr_lines") (list (no_items)) (field (codes "stdout") (text (codes "a")) (field (codes "stdout_lines") (list (item (text (codes "a")) (no_items))) (no_fields)))))))) ∷ []) ∷ []) ≡ (record { ok = 1; changed = 0; unreachable = 0; failed = 0; skipped = 0; rescued = 0; ignored = 0 } ∷ [])
unfolding digits
row_changed_when_run = refl

-- row_guarded_name: a guarded name
abbrev row_guarded_name_book : Book
row_guarded_name_book = (record { line = 1; pattern = ((codes "all") ∷ []); gathering = None; vars = (no_parts); is_linear = true; serial = ([]); pre_tasks = (no_steps); tasks = (task_step (record { line = 2; work = (debug_work (part (codes "msg") (path (variable (codes "zz")) ([])) (no_parts))); condition = (expression (defined (variable (codes "zz")) ([])) (no_expressions)); loop = None; register = None; vars = (no_parts); notify = ([]); changed_when = None; failed_when = None; attempts = None; ignore_errors = None }) (no_steps)); post_tasks = (no_steps); handlers = ([]); forces = false } ∷ [])

abbrev row_guarded_name_inventory : Inventory
row_guarded_name_inventory = record { hosts = (record { name = (codes "h1"); variables = (no_fields) } ∷ []); groups = (record { name = (codes "all"); hosts = ((codes "h1") ∷ []) } ∷ record { name = (codes "ungrouped"); hosts = ((codes "h1") ∷ []) } ∷ []) }

abbrev row_guarded_name_registry : Registry
row_guarded_name_registry = (builtins ++ ([]))

row_guarded_name : judged row_guarded_name_registry row_guarded_name_inventory row_guarded_name_book ≡ accepted 0
row_guarded_name = refl
