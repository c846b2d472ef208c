-- Cases of run, computed.
use Rattle.std.specs.Prelude.{◌≡◌, refl, pos, [], ◌∷◌, ◌++◌, true, false, Some, None, codes}
use Rattle.std.specs.Fmt.{digits}
use Rattle.pb_semantics.specs.Data.{boolean, int, text, list, rec, no_items, item, no_fields, field}
use Rattle.pb_language.specs.Expression.{equal, is_failed, is_changed, is_skipped, literal, path, negation, comparison, defined, path_status, length_of, list_of, variable, no_expressions, expression, no_parts, part}
use Rattle.pb_language.specs.Book.{conditions_are, module_work, set_fact_work, assert_work, no_steps, task_step, block_step, Book, Registry}
use Rattle.pb_language.specs.Builtins.{builtins}
use Rattle.pb_language.specs.Give.{object}
use Rattle.pb_language.specs.Program.{Inventory}
use Rattle.pb_rows.specs.Recaps.{recaps_of}

-- run_029: changed and failed: no changed
abbrev run_029_book : Book
run_029_book = (record { line = 1; pattern = ((codes "all") ∷ []); gathering = None; vars = (no_parts); is_linear = true; serial = ([]); pre_tasks = (no_steps); tasks = (task_step (record { line = 2; work = (module_work (codes "command") (part (codes "cmd") (literal (text (codes "x"))) (no_parts))); condition = (no_expressions); loop = None; register = None; vars = (no_parts); notify = ([]); changed_when = None; failed_when = None; attempts = None; ignore_errors = None }) (no_steps)); post_tasks = (no_steps); handlers = ([]); forces = false } ∷ [])

abbrev run_029_inventory : Inventory
run_029_inventory = record { hosts = (record { name = (codes "h1"); variables = (no_fields) } ∷ []); groups = (record { name = (codes "all"); hosts = ((codes "h1") ∷ []) } ∷ record { name = (codes "ungrouped"); hosts = ((codes "h1") ∷ []) } ∷ []) }

abbrev run_029_registry : Registry
run_029_registry = (builtins ++ ([]))

run_029 : recaps_of run_029_registry run_029_inventory run_029_book 5 ((object (rec (field (codes "changed") (boolean true) (field (codes "failed") (boolean true) (field (codes "msg") (text (codes "no")) (field (codes "rc") (int (pos 1)) (field (codes "stderr") (text ([])) (field (codes "stderr_lines") (list (no_items)) (field (codes "stdout") (text ([])) (field (codes "stdout_lines") (list (no_items)) (no_fields)))))))))) ∷ []) ∷ []) ≡ (record { ok = 0; changed = 0; unreachable = 0; failed = 1; skipped = 0; rescued = 0; ignored = 0 } ∷ [])
unfolding digits
run_029 = refl

-- run_030: changed and rescued: no changed
abbrev run_030_book : Book
run_030_book = (record { line = 1; pattern = ((codes "all") ∷ []); gathering = None; vars = (no_parts); is_linear = true; serial = ([]); pre_tasks = (no_steps); tasks = (block_step (record { line = 2; condition = (no_expressions); vars = (no_parts); ignore_errors = None }) (task_step (record { line = 3; work = (module_work (codes "command") (part (codes "cmd") (literal (text (codes "x"))) (no_parts))); condition = (no_expressions); loop = None; register = None; vars = (no_parts); notify = ([]); changed_when = None; failed_when = None; attempts = None; ignore_errors = None }) (no_steps)) (block_step (record { line = 4; condition = (no_expressions); vars = (no_parts); ignore_errors = None }) (no_steps) (no_steps) (no_steps) (no_steps)) (no_steps) (no_steps)); post_tasks = (no_steps); handlers = ([]); forces = false } ∷ [])

abbrev run_030_inventory : Inventory
run_030_inventory = record { hosts = (record { name = (codes "h1"); variables = (no_fields) } ∷ []); groups = (record { name = (codes "all"); hosts = ((codes "h1") ∷ []) } ∷ record { name = (codes "ungrouped"); hosts = ((codes "h1") ∷ []) } ∷ []) }

abbrev run_030_registry : Registry
run_030_registry = (builtins ++ ([]))

run_030 : recaps_of run_030_registry run_030_inventory run_030_book 5 ((object (rec (field (codes "changed") (boolean true) (field (codes "failed") (boolean true) (field (codes "msg") (text (codes "no")) (field (codes "rc") (int (pos 1)) (field (codes "stderr") (text ([])) (field (codes "stderr_lines") (list (no_items)) (field (codes "stdout") (text ([])) (field (codes "stdout_lines") (list (no_items)) (no_fields)))))))))) ∷ []) ∷ []) ≡ (record { ok = 0; changed = 0; unreachable = 0; failed = 0; skipped = 0; rescued = 1; ignored = 0 } ∷ [])
unfolding digits
run_030 = refl

-- run_033: changed_when false is in the result
abbrev run_033_book : Book
run_033_book = (record { line = 1; pattern = ((codes "all") ∷ []); gathering = None; vars = (no_parts); is_linear = true; serial = ([]); pre_tasks = (no_steps); tasks = (task_step (record { line = 2; work = (module_work (codes "command") (part (codes "cmd") (literal (text (codes "x"))) (no_parts))); condition = (no_expressions); loop = None; register = (Some (codes "out")); vars = (no_parts); notify = ([]); changed_when = (Some (expression (literal (boolean false)) (no_expressions))); failed_when = None; attempts = None; ignore_errors = None }) (task_step (record { line = 3; work = (assert_work (conditions_are (expression (negation (path_status is_changed (variable (codes "out")) ([]))) (expression (negation (path (variable (codes "out")) ((codes "changed") ∷ []))) (no_expressions)))) (no_parts)); condition = (no_expressions); loop = None; register = None; vars = (no_parts); notify = ([]); changed_when = None; failed_when = None; attempts = None; ignore_errors = None }) (no_steps))); post_tasks = (no_steps); handlers = ([]); forces = false } ∷ [])

abbrev run_033_inventory : Inventory
run_033_inventory = record { hosts = (record { name = (codes "h1"); variables = (no_fields) } ∷ []); groups = (record { name = (codes "all"); hosts = ((codes "h1") ∷ []) } ∷ record { name = (codes "ungrouped"); hosts = ((codes "h1") ∷ []) } ∷ []) }

abbrev run_033_registry : Registry
run_033_registry = (builtins ++ ([]))

run_033 : recaps_of run_033_registry run_033_inventory run_033_book 5 ((object (rec (field (codes "changed") (boolean true) (field (codes "rc") (int (pos 0)) (field (codes "stderr") (text ([])) (field (codes "stderr_lines") (list (no_items)) (field (codes "stdout") (text (codes "a")) (field (codes "stdout_lines") (list (item (text (codes "a")) (no_items))) (no_fields)))))))) ∷ []) ∷ []) ≡ (record { ok = 2; changed = 0; unreachable = 0; failed = 0; skipped = 0; rescued = 0; ignored = 0 } ∷ [])
unfolding digits
run_033 = refl

-- run_034: failed_when is in the result
abbrev run_034_book : Book
run_034_book = (record { line = 1; pattern = ((codes "all") ∷ []); gathering = None; vars = (no_parts); is_linear = true; serial = ([]); pre_tasks = (no_steps); tasks = (task_step (record { line = 2; work = (module_work (codes "command") (part (codes "cmd") (literal (text (codes "x"))) (no_parts))); condition = (no_expressions); loop = None; register = (Some (codes "out")); vars = (no_parts); notify = ([]); changed_when = (Some (expression (literal (boolean false)) (no_expressions))); failed_when = (Some (expression (comparison equal (path (variable (codes "out")) ((codes "rc") ∷ [])) (literal (int (pos 0)))) (no_expressions))); attempts = None; ignore_errors = (Some true) }) (task_step (record { line = 3; work = (assert_work (conditions_are (expression (path_status is_failed (variable (codes "out")) ([])) (expression (path (variable (codes "out")) ((codes "failed") ∷ [])) (no_expressions)))) (no_parts)); condition = (no_expressions); loop = None; register = None; vars = (no_parts); notify = ([]); changed_when = None; failed_when = None; attempts = None; ignore_errors = None }) (no_steps))); post_tasks = (no_steps); handlers = ([]); forces = false } ∷ [])

abbrev run_034_inventory : Inventory
run_034_inventory = record { hosts = (record { name = (codes "h1"); variables = (no_fields) } ∷ []); groups = (record { name = (codes "all"); hosts = ((codes "h1") ∷ []) } ∷ record { name = (codes "ungrouped"); hosts = ((codes "h1") ∷ []) } ∷ []) }

abbrev run_034_registry : Registry
run_034_registry = (builtins ++ ([]))

run_034 : recaps_of run_034_registry run_034_inventory run_034_book 5 ((object (rec (field (codes "changed") (boolean true) (field (codes "rc") (int (pos 0)) (field (codes "stderr") (text ([])) (field (codes "stderr_lines") (list (no_items)) (field (codes "stdout") (text (codes "a")) (field (codes "stdout_lines") (list (item (text (codes "a")) (no_items))) (no_fields)))))))) ∷ []) ∷ []) ≡ (record { ok = 2; changed = 0; unreachable = 0; failed = 0; skipped = 0; rescued = 0; ignored = 1 } ∷ [])
unfolding digits
run_034 = refl

-- run_035: a registered result
abbrev run_035_book : Book
run_035_book = (record { line = 1; pattern = ((codes "all") ∷ []); gathering = None; vars = (no_parts); is_linear = true; serial = ([]); pre_tasks = (no_steps); tasks = (task_step (record { line = 2; work = (module_work (codes "command") (part (codes "cmd") (literal (text (codes "x"))) (no_parts))); condition = (no_expressions); loop = None; register = (Some (codes "out")); vars = (no_parts); notify = ([]); changed_when = None; failed_when = None; attempts = None; ignore_errors = None }) (task_step (record { line = 3; work = (assert_work (conditions_are (expression (comparison equal (length_of (path (variable (codes "out")) ([]))) (literal (int (pos 7)))) (no_expressions))) (no_parts)); condition = (no_expressions); loop = None; register = None; vars = (no_parts); notify = ([]); changed_when = None; failed_when = None; attempts = None; ignore_errors = None }) (task_step (record { line = 4; work = (assert_work (conditions_are (expression (comparison equal (path (variable (codes "out")) ((codes "stdout_lines") ∷ [])) (list_of (expression (literal (text (codes "a"))) (no_expressions)))) (no_expressions))) (no_parts)); condition = (no_expressions); loop = None; register = None; vars = (no_parts); notify = ([]); changed_when = None; failed_when = None; attempts = None; ignore_errors = None }) (no_steps)))); post_tasks = (no_steps); handlers = ([]); forces = false } ∷ [])

abbrev run_035_inventory : Inventory
run_035_inventory = record { hosts = (record { name = (codes "h1"); variables = (no_fields) } ∷ []); groups = (record { name = (codes "all"); hosts = ((codes "h1") ∷ []) } ∷ record { name = (codes "ungrouped"); hosts = ((codes "h1") ∷ []) } ∷ []) }

abbrev run_035_registry : Registry
run_035_registry = (builtins ++ ([]))

run_035 : recaps_of run_035_registry run_035_inventory run_035_book 5 ((object (rec (field (codes "changed") (boolean true) (field (codes "rc") (int (pos 0)) (field (codes "stderr") (text ([])) (field (codes "stderr_lines") (list (no_items)) (field (codes "stdout") (text (codes "a")) (field (codes "stdout_lines") (list (item (text (codes "a")) (no_items))) (no_fields)))))))) ∷ []) ∷ []) ≡ (record { ok = 3; changed = 1; unreachable = 0; failed = 0; skipped = 0; rescued = 0; ignored = 0 } ∷ [])
unfolding digits
run_035 = refl

-- run_040: a loop over nothing
abbrev run_040_book : Book
run_040_book = (record { line = 1; pattern = ((codes "all") ∷ []); gathering = None; vars = (no_parts); is_linear = true; serial = ([]); pre_tasks = (no_steps); tasks = (task_step (record { line = 2; work = (module_work (codes "command") (part (codes "cmd") (literal (text (codes "x"))) (no_parts))); condition = (no_expressions); loop = (Some (list_of (no_expressions))); register = (Some (codes "out")); vars = (no_parts); notify = ([]); changed_when = None; failed_when = None; attempts = None; ignore_errors = None }) (task_step (record { line = 3; work = (assert_work (conditions_are (expression (path (variable (codes "out")) ((codes "skipped") ∷ [])) (expression (comparison equal (path (variable (codes "out")) ((codes "results") ∷ [])) (list_of (no_expressions))) (expression (path_status is_skipped (variable (codes "out")) ([])) (no_expressions))))) (no_parts)); condition = (no_expressions); loop = None; register = None; vars = (no_parts); notify = ([]); changed_when = None; failed_when = None; attempts = None; ignore_errors = None }) (no_steps))); post_tasks = (no_steps); handlers = ([]); forces = false } ∷ [])

abbrev run_040_inventory : Inventory
run_040_inventory = record { hosts = (record { name = (codes "h1"); variables = (no_fields) } ∷ []); groups = (record { name = (codes "all"); hosts = ((codes "h1") ∷ []) } ∷ record { name = (codes "ungrouped"); hosts = ((codes "h1") ∷ []) } ∷ []) }

abbrev run_040_registry : Registry
run_040_registry = (builtins ++ ([]))

run_040 : recaps_of run_040_registry run_040_inventory run_040_book 5 (([]) ∷ []) ≡ (record { ok = 1; changed = 0; unreachable = 0; failed = 0; skipped = 1; rescued = 0; ignored = 0 } ∷ [])
unfolding digits
run_040 = refl

-- run_041: a looped task is failed if any item is
abbrev run_041_book : Book
run_041_book = (record { line = 1; pattern = ((codes "all") ∷ []); gathering = None; vars = (no_parts); is_linear = true; serial = ([]); pre_tasks = (no_steps); tasks = (task_step (record { line = 2; work = (module_work (codes "command") (part (codes "cmd") (literal (text (codes "x"))) (no_parts))); condition = (no_expressions); loop = (Some (list_of (expression (literal (int (pos 1))) (expression (literal (int (pos 2))) (no_expressions))))); register = (Some (codes "out")); vars = (no_parts); notify = ([]); changed_when = None; failed_when = None; attempts = None; ignore_errors = (Some true) }) (task_step (record { line = 3; work = (assert_work (conditions_are (expression (path_status is_failed (variable (codes "out")) ([])) (expression (comparison equal (length_of (path (variable (codes "out")) ((codes "results") ∷ []))) (literal (int (pos 2)))) (no_expressions)))) (no_parts)); condition = (no_expressions); loop = None; register = None; vars = (no_parts); notify = ([]); changed_when = None; failed_when = None; attempts = None; ignore_errors = None }) (no_steps))); post_tasks = (no_steps); handlers = ([]); forces = false } ∷ [])

abbrev run_041_inventory : Inventory
run_041_inventory = record { hosts = (record { name = (codes "h1"); variables = (no_fields) } ∷ []); groups = (record { name = (codes "all"); hosts = ((codes "h1") ∷ []) } ∷ record { name = (codes "ungrouped"); hosts = ((codes "h1") ∷ []) } ∷ []) }

abbrev run_041_registry : Registry
run_041_registry = (builtins ++ ([]))

run_041 : recaps_of run_041_registry run_041_inventory run_041_book 5 ((object (rec (field (codes "changed") (boolean false) (field (codes "failed") (boolean true) (field (codes "msg") (text (codes "no")) (field (codes "rc") (int (pos 1)) (field (codes "stderr") (text ([])) (field (codes "stderr_lines") (list (no_items)) (field (codes "stdout") (text ([])) (field (codes "stdout_lines") (list (no_items)) (no_fields)))))))))) ∷ object (rec (field (codes "changed") (boolean false) (field (codes "rc") (int (pos 0)) (field (codes "stderr") (text ([])) (field (codes "stderr_lines") (list (no_items)) (field (codes "stdout") (text (codes "a")) (field (codes "stdout_lines") (list (item (text (codes "a")) (no_items))) (no_fields)))))))) ∷ []) ∷ []) ≡ (record { ok = 2; changed = 0; unreachable = 0; failed = 0; skipped = 0; rescued = 0; ignored = 1 } ∷ [])
unfolding digits
run_041 = refl

-- run_042: set_fact in a loop: the last item
abbrev run_042_book : Book
run_042_book = (record { line = 1; pattern = ((codes "all") ∷ []); gathering = None; vars = (no_parts); is_linear = true; serial = ([]); pre_tasks = (no_steps); tasks = (task_step (record { line = 2; work = (set_fact_work (part (codes "a") (literal (int (pos 0))) (no_parts))); condition = (no_expressions); loop = None; register = None; vars = (no_parts); notify = ([]); changed_when = None; failed_when = None; attempts = None; ignore_errors = None }) (task_step (record { line = 3; work = (set_fact_work (part (codes "a") (path (variable (codes "item")) ([])) (no_parts))); condition = (expression (negation (comparison equal (path (variable (codes "item")) ([])) (literal (int (pos 3))))) (no_expressions)); loop = (Some (list_of (expression (literal (int (pos 1))) (expression (literal (int (pos 2))) (expression (literal (int (pos 3))) (no_expressions)))))); register = None; vars = (no_parts); notify = ([]); changed_when = None; failed_when = None; attempts = None; ignore_errors = None }) (task_step (record { line = 4; work = (assert_work (conditions_are (expression (comparison equal (path (variable (codes "a")) ([])) (literal (int (pos 2)))) (no_expressions))) (no_parts)); condition = (no_expressions); loop = None; register = None; vars = (no_parts); notify = ([]); changed_when = None; failed_when = None; attempts = None; ignore_errors = None }) (no_steps)))); post_tasks = (no_steps); handlers = ([]); forces = false } ∷ [])

abbrev run_042_inventory : Inventory
run_042_inventory = record { hosts = (record { name = (codes "h1"); variables = (no_fields) } ∷ []); groups = (record { name = (codes "all"); hosts = ((codes "h1") ∷ []) } ∷ record { name = (codes "ungrouped"); hosts = ((codes "h1") ∷ []) } ∷ []) }

abbrev run_042_registry : Registry
run_042_registry = (builtins ++ ([]))

run_042 : recaps_of run_042_registry run_042_inventory run_042_book 5 (([]) ∷ []) ≡ (record { ok = 3; changed = 0; unreachable = 0; failed = 0; skipped = 0; rescued = 0; ignored = 0 } ∷ [])
unfolding digits
run_042 = refl

-- run_043: set_fact that failed sets nothing
abbrev run_043_book : Book
run_043_book = (record { line = 1; pattern = ((codes "all") ∷ []); gathering = None; vars = (no_parts); is_linear = true; serial = ([]); pre_tasks = (no_steps); tasks = (task_step (record { line = 2; work = (set_fact_work (part (codes "a") (literal (int (pos 0))) (no_parts))); condition = (no_expressions); loop = None; register = None; vars = (no_parts); notify = ([]); changed_when = None; failed_when = None; attempts = None; ignore_errors = None }) (block_step (record { line = 3; condition = (no_expressions); vars = (no_parts); ignore_errors = None }) (task_step (record { line = 4; work = (set_fact_work (part (codes "a") (literal (int (pos 1))) (no_parts))); condition = (no_expressions); loop = None; register = None; vars = (no_parts); notify = ([]); changed_when = None; failed_when = (Some (expression (literal (boolean true)) (no_expressions))); attempts = None; ignore_errors = None }) (no_steps)) (task_step (record { line = 5; work = (assert_work (conditions_are (expression (literal (boolean true)) (no_expressions))) (no_parts)); condition = (no_expressions); loop = None; register = None; vars = (no_parts); notify = ([]); changed_when = None; failed_when = None; attempts = None; ignore_errors = None }) (no_steps)) (no_steps) (task_step (record { line = 6; work = (assert_work (conditions_are (expression (comparison equal (path (variable (codes "a")) ([])) (literal (int (pos 0)))) (no_expressions))) (no_parts)); condition = (no_expressions); loop = None; register = None; vars = (no_parts); notify = ([]); changed_when = None; failed_when = None; attempts = None; ignore_errors = None }) (task_step (record { line = 7; work = (assert_work (conditions_are (expression (literal (boolean true)) (no_expressions))) (no_parts)); condition = (no_expressions); loop = None; register = None; vars = (no_parts); notify = ([]); changed_when = None; failed_when = None; attempts = None; ignore_errors = None }) (no_steps))))); post_tasks = (no_steps); handlers = ([]); forces = false } ∷ [])

abbrev run_043_inventory : Inventory
run_043_inventory = record { hosts = (record { name = (codes "h1"); variables = (no_fields) } ∷ []); groups = (record { name = (codes "all"); hosts = ((codes "h1") ∷ []) } ∷ record { name = (codes "ungrouped"); hosts = ((codes "h1") ∷ []) } ∷ []) }

abbrev run_043_registry : Registry
run_043_registry = (builtins ++ ([]))

run_043 : recaps_of run_043_registry run_043_inventory run_043_book 5 (([]) ∷ []) ≡ (record { ok = 4; changed = 0; unreachable = 0; failed = 0; skipped = 0; rescued = 1; ignored = 0 } ∷ [])
unfolding digits
run_043 = refl

-- run_044: set_fact that failed and is ignored sets
abbrev run_044_book : Book
run_044_book = (record { line = 1; pattern = ((codes "all") ∷ []); gathering = None; vars = (no_parts); is_linear = true; serial = ([]); pre_tasks = (no_steps); tasks = (task_step (record { line = 2; work = (set_fact_work (part (codes "a") (literal (int (pos 0))) (no_parts))); condition = (no_expressions); loop = None; register = None; vars = (no_parts); notify = ([]); changed_when = None; failed_when = None; attempts = None; ignore_errors = None }) (task_step (record { line = 3; work = (set_fact_work (part (codes "a") (literal (int (pos 1))) (no_parts))); condition = (no_expressions); loop = None; register = None; vars = (no_parts); notify = ([]); changed_when = None; failed_when = (Some (expression (literal (boolean true)) (no_expressions))); attempts = None; ignore_errors = (Some true) }) (task_step (record { line = 4; work = (assert_work (conditions_are (expression (comparison equal (path (variable (codes "a")) ([])) (literal (int (pos 1)))) (no_expressions))) (no_parts)); condition = (no_expressions); loop = None; register = None; vars = (no_parts); notify = ([]); changed_when = None; failed_when = None; attempts = None; ignore_errors = None }) (no_steps)))); post_tasks = (no_steps); handlers = ([]); forces = false } ∷ [])

abbrev run_044_inventory : Inventory
run_044_inventory = record { hosts = (record { name = (codes "h1"); variables = (no_fields) } ∷ []); groups = (record { name = (codes "all"); hosts = ((codes "h1") ∷ []) } ∷ record { name = (codes "ungrouped"); hosts = ((codes "h1") ∷ []) } ∷ []) }

abbrev run_044_registry : Registry
run_044_registry = (builtins ++ ([]))

run_044 : recaps_of run_044_registry run_044_inventory run_044_book 5 (([]) ∷ []) ≡ (record { ok = 3; changed = 0; unreachable = 0; failed = 0; skipped = 0; rescued = 0; ignored = 1 } ∷ [])
unfolding digits
run_044 = refl

-- run_046: a second setup: the record is replaced, other names stay
abbrev run_046_book : Book
run_046_book = (record { line = 1; pattern = ((codes "all") ∷ []); gathering = None; vars = (no_parts); is_linear = true; serial = ([]); pre_tasks = (no_steps); tasks = (task_step (record { line = 2; work = (module_work (codes "setup") (no_parts)); condition = (no_expressions); loop = None; register = None; vars = (no_parts); notify = ([]); changed_when = None; failed_when = None; attempts = None; ignore_errors = None }) (task_step (record { line = 3; work = (module_work (codes "setup") (no_parts)); condition = (no_expressions); loop = None; register = None; vars = (no_parts); notify = ([]); changed_when = None; failed_when = None; attempts = None; ignore_errors = None }) (task_step (record { line = 4; work = (assert_work (conditions_are (expression (comparison equal (path (variable (codes "ansible_hostname")) ([])) (literal (text (codes "m")))) (expression (defined (variable (codes "ansible_os_family")) ([])) (expression (negation (defined (variable (codes "ansible_facts")) ((codes "os_family") ∷ []))) (expression (comparison equal (path (variable (codes "ansible_facts")) ((codes "hostname") ∷ [])) (literal (text (codes "m")))) (no_expressions)))))) (no_parts)); condition = (no_expressions); loop = None; register = None; vars = (no_parts); notify = ([]); changed_when = None; failed_when = None; attempts = None; ignore_errors = None }) (no_steps)))); post_tasks = (no_steps); handlers = ([]); forces = false } ∷ [])

abbrev run_046_inventory : Inventory
run_046_inventory = record { hosts = (record { name = (codes "h1"); variables = (no_fields) } ∷ []); groups = (record { name = (codes "all"); hosts = ((codes "h1") ∷ []) } ∷ record { name = (codes "ungrouped"); hosts = ((codes "h1") ∷ []) } ∷ []) }

abbrev run_046_registry : Registry
run_046_registry = (builtins ++ ([]))

run_046 : recaps_of run_046_registry run_046_inventory run_046_book 5 ((object (rec (field (codes "ansible_facts") (rec (field (codes "ansible_hostname") (text (codes "n")) (field (codes "ansible_os_family") (text (codes "D")) (field (codes "ansible_system") (text (codes "L")) (no_fields))))) (no_fields))) ∷ object (rec (field (codes "ansible_facts") (rec (field (codes "ansible_hostname") (text (codes "m")) (field (codes "ansible_system") (text (codes "L")) (no_fields)))) (no_fields))) ∷ []) ∷ []) ≡ (record { ok = 3; changed = 0; unreachable = 0; failed = 0; skipped = 0; rescued = 0; ignored = 0 } ∷ [])
unfolding digits
run_046 = refl

-- run_050: by name and by topic
abbrev run_050_book : Book
run_050_book = (record { line = 1; pattern = ((codes "all") ∷ []); gathering = None; vars = (no_parts); is_linear = true; serial = ([]); pre_tasks = (no_steps); tasks = (task_step (record { line = 2; work = (module_work (codes "ping") (no_parts)); condition = (no_expressions); loop = None; register = None; vars = (no_parts); notify = ((codes "b") ∷ []); changed_when = None; failed_when = None; attempts = None; ignore_errors = None }) (no_steps)); post_tasks = (no_steps); handlers = (record { work = (record { line = 3; work = (module_work (codes "ping") (no_parts)); condition = (no_expressions); loop = None; register = None; vars = (no_parts); notify = ((codes "c") ∷ []); changed_when = None; failed_when = None; attempts = None; ignore_errors = None }); name = (Some (codes "a")); topics = ([]) } ∷ record { work = (record { line = 4; work = (module_work (codes "ping") (no_parts)); condition = (no_expressions); loop = None; register = None; vars = (no_parts); notify = ([]); changed_when = None; failed_when = None; attempts = None; ignore_errors = None }); name = (Some (codes "b")); topics = ([]) } ∷ record { work = (record { line = 5; work = (module_work (codes "ping") (no_parts)); condition = (no_expressions); loop = None; register = None; vars = (no_parts); notify = ([]); changed_when = None; failed_when = None; attempts = None; ignore_errors = None }); name = (Some (codes "c")); topics = ((codes "b") ∷ []) } ∷ []); forces = false } ∷ [])

abbrev run_050_inventory : Inventory
run_050_inventory = record { hosts = (record { name = (codes "h1"); variables = (no_fields) } ∷ []); groups = (record { name = (codes "all"); hosts = ((codes "h1") ∷ []) } ∷ record { name = (codes "ungrouped"); hosts = ((codes "h1") ∷ []) } ∷ []) }

abbrev run_050_registry : Registry
run_050_registry = (builtins ++ ([]))

run_050 : recaps_of run_050_registry run_050_inventory run_050_book 5 ((object (rec (field (codes "changed") (boolean true) (field (codes "ping") (text (codes "pong")) (no_fields)))) ∷ object (rec (field (codes "ping") (text (codes "pong")) (no_fields))) ∷ object (rec (field (codes "ping") (text (codes "pong")) (no_fields))) ∷ []) ∷ []) ≡ (record { ok = 3; changed = 1; unreachable = 0; failed = 0; skipped = 0; rescued = 0; ignored = 0 } ∷ [])
unfolding digits
run_050 = refl
