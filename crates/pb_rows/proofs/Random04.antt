-- Cases of random, computed.
use Rattle.std.specs.Prelude.{◌≡◌, refl, pos, negsuc, [], ◌∷◌, ◌++◌, true, false, Some, None, codes}
use Rattle.std.specs.Fmt.{digits}
use Rattle.pb_semantics.specs.Data.{null, boolean, int, text, list, rec, opaque, no_items, item, no_fields, field}
use Rattle.pb_semantics.specs.Kind.{booleans, ints, texts, lists, recs, no_slots, slot}
use Rattle.pb_language.specs.Expression.{equal, is_failed, is_changed, named_host, item_host, group_member, literal, path, negation, disjunction, comparison, membership, in_batch, defined, path_status, path_or, length_of, concatenation, list_of, record_of, variable, other, no_expressions, expression, no_parts, part}
use Rattle.pb_language.specs.Book.{conditions_are, module_work, debug_work, set_fact_work, assert_work, fail_work, no_steps, task_step, block_step, flush_step, host_count, percentage, Book, Registry}
use Rattle.pb_language.specs.Builtins.{builtins}
use Rattle.pb_language.specs.Give.{object}
use Rattle.pb_language.specs.Judged.{judged}
use Rattle.pb_language.specs.Program.{Inventory}
use Rattle.pb_language.specs.Verdict.{accepted, refused}
use Rattle.pb_rows.specs.Recaps.{recaps_of}

-- random_001332:
abbrev random_001332_book : Book
random_001332_book = (record { line = 1; pattern = ((codes "a") ∷ []); gathering = (Some 2); vars = (no_parts); is_linear = false; serial = ([]); pre_tasks = (no_steps); tasks = (block_step (record { line = 3; condition = (no_expressions); vars = (no_parts); ignore_errors = None }) (no_steps) (no_steps) (no_steps) (no_steps)); post_tasks = (no_steps); handlers = ([]); forces = false } ∷ [])

abbrev random_001332_inventory : Inventory
random_001332_inventory = record { hosts = (record { name = (codes "c"); variables = (field (codes "inv") (list (item (int (pos 1)) (item (int (pos 2)) (no_items)))) (no_fields)) } ∷ record { name = (codes "b"); variables = (field (codes "inv") (list (item (int (pos 1)) (item (int (pos 2)) (no_items)))) (field (codes "k") (rec (field (codes "z") opaque (no_fields))) (no_fields))) } ∷ record { name = (codes "a"); variables = (field (codes "inv") (list (item (text (codes "x")) (no_items))) (field (codes "opq") opaque (no_fields))) } ∷ []); groups = (record { name = (codes "all"); hosts = ((codes "c") ∷ (codes "b") ∷ (codes "a") ∷ []) } ∷ record { name = (codes "g"); hosts = ((codes "b") ∷ (codes "a") ∷ []) } ∷ record { name = (codes "ungrouped"); hosts = ((codes "c") ∷ []) } ∷ []) }

abbrev random_001332_registry : Registry
random_001332_registry = (builtins ++ ([]))

random_001332 : judged random_001332_registry random_001332_inventory random_001332_book ≡ accepted 1
random_001332 = refl

-- random_001332_run:
abbrev random_001332_run_book : Book
random_001332_run_book = (record { line = 1; pattern = ((codes "a") ∷ []); gathering = (Some 2); vars = (no_parts); is_linear = false; serial = ([]); pre_tasks = (no_steps); tasks = (block_step (record { line = 3; condition = (no_expressions); vars = (no_parts); ignore_errors = None }) (no_steps) (no_steps) (no_steps) (no_steps)); post_tasks = (no_steps); handlers = ([]); forces = false } ∷ [])

abbrev random_001332_run_inventory : Inventory
random_001332_run_inventory = record { hosts = (record { name = (codes "c"); variables = (field (codes "inv") (list (item (int (pos 1)) (item (int (pos 2)) (no_items)))) (no_fields)) } ∷ record { name = (codes "b"); variables = (field (codes "inv") (list (item (int (pos 1)) (item (int (pos 2)) (no_items)))) (field (codes "k") (rec (field (codes "z") opaque (no_fields))) (no_fields))) } ∷ record { name = (codes "a"); variables = (field (codes "inv") (list (item (text (codes "x")) (no_items))) (field (codes "opq") opaque (no_fields))) } ∷ []); groups = (record { name = (codes "all"); hosts = ((codes "c") ∷ (codes "b") ∷ (codes "a") ∷ []) } ∷ record { name = (codes "g"); hosts = ((codes "b") ∷ (codes "a") ∷ []) } ∷ record { name = (codes "ungrouped"); hosts = ((codes "c") ∷ []) } ∷ []) }

abbrev random_001332_run_registry : Registry
random_001332_run_registry = (builtins ++ ([]))

random_001332_run : recaps_of random_001332_run_registry random_001332_run_inventory random_001332_run_book 1 (([]) ∷ ([]) ∷ (object (rec (field (codes "ansible_facts") (rec (field (codes "ansible_hostname") (text (123 ∷ 123 ∷ 32 ∷ 120 ∷ 32 ∷ 125 ∷ 125 ∷ [])) (field (codes "ansible_os_family") (text (codes "b")) (field (codes "ansible_system") (text (codes "a")) (no_fields))))) (field (codes "changed") (boolean true) (no_fields)))) ∷ []) ∷ []) ≡ (record { ok = 0; changed = 0; unreachable = 0; failed = 0; skipped = 0; rescued = 0; ignored = 0 } ∷ record { ok = 0; changed = 0; unreachable = 0; failed = 0; skipped = 0; rescued = 0; ignored = 0 } ∷ record { ok = 1; changed = 1; unreachable = 0; failed = 0; skipped = 0; rescued = 0; ignored = 0 } ∷ [])
unfolding digits
random_001332_run = refl

-- random_001333_run:
abbrev random_001333_run_book : Book
random_001333_run_book = (record { line = 1; pattern = ((codes "c") ∷ (codes "all") ∷ []); gathering = None; vars = (no_parts); is_linear = true; serial = ([]); pre_tasks = (no_steps); tasks = (task_step (record { line = 2; work = (module_work (codes "probe") (no_parts)); condition = (no_expressions); loop = None; register = (Some (codes "r2")); vars = (no_parts); notify = ([]); changed_when = None; failed_when = None; attempts = None; ignore_errors = None }) (block_step (record { line = 3; condition = (no_expressions); vars = (no_parts); ignore_errors = None }) (task_step (record { line = 4; work = (module_work (codes "ping") (no_parts)); condition = (no_expressions); loop = (Some (path_or (variable (codes "r3")) ((codes "results") ∷ []) (list_of (no_expressions)))); register = None; vars = (no_parts); notify = ([]); changed_when = None; failed_when = None; attempts = None; ignore_errors = None }) (task_step (record { line = 5; work = (module_work (codes "command") (part (codes "cmd") (literal (text (codes "x"))) (no_parts))); condition = (expression (negation (defined (variable (codes "r3")) ((codes "failed") ∷ []))) (no_expressions)); loop = None; register = (Some (codes "r2")); vars = (no_parts); notify = ([]); changed_when = None; failed_when = None; attempts = None; ignore_errors = None }) (no_steps))) (block_step (record { line = 6; condition = (no_expressions); vars = (no_parts); ignore_errors = None }) (no_steps) (task_step (record { line = 7; work = (module_work (codes "command") (part (codes "cmd") (concatenation (expression (literal (text (codes "x "))) (expression (path_or (other (named_host (codes "c")) (codes "r2")) ((codes "failed") ∷ []) (literal (text (codes "z")))) (no_expressions)))) (no_parts))); condition = (no_expressions); loop = None; register = (Some (codes "r3")); vars = (no_parts); notify = ([]); changed_when = None; failed_when = None; attempts = (Some (record { until = (expression (comparison equal (path_or (variable (codes "r3")) ((codes "failed") ∷ []) (literal (boolean true))) (literal (boolean true))) (no_expressions)); retries = 3 })); ignore_errors = None }) (task_step (record { line = 8; work = (assert_work (conditions_are (expression (path_or (variable (codes "i1")) ([]) (literal (boolean false))) (no_expressions))) (no_parts)); condition = (no_expressions); loop = None; register = None; vars = (part (codes "v1") (comparison equal (path (other (named_host (codes "d")) (codes "i1")) ([])) (path (variable (codes "r1")) ((codes "failed") ∷ []))) (part (codes "v3") (path (variable (codes "r3")) ([])) (no_parts))); notify = ([]); changed_when = (Some (expression (literal (boolean true)) (no_expressions))); failed_when = None; attempts = None; ignore_errors = None }) (task_step (record { line = 9; work = (module_work (codes "command") (part (codes "cmd") (concatenation (expression (literal (text (codes "x "))) (expression (path (variable (codes "r1")) ((codes "changed") ∷ [])) (no_expressions)))) (no_parts))); condition = (expression (negation (path_status is_failed (variable (codes "r1")) ([]))) (no_expressions)); loop = None; register = None; vars = (no_parts); notify = ([]); changed_when = None; failed_when = None; attempts = None; ignore_errors = (Some true) }) (no_steps)))) (no_steps) (task_step (record { line = 10; work = (debug_work (part (codes "msg") (literal (text (codes "x"))) (no_parts))); condition = (expression (negation (path_status is_failed (variable (codes "r2")) ([]))) (no_expressions)); loop = None; register = None; vars = (no_parts); notify = ([]); changed_when = None; failed_when = None; attempts = None; ignore_errors = None }) (no_steps))) (no_steps) (task_step (record { line = 11; work = (module_work (codes "ping") (no_parts)); condition = (no_expressions); loop = None; register = (Some (codes "r3")); vars = (no_parts); notify = ([]); changed_when = None; failed_when = None; attempts = None; ignore_errors = None }) (no_steps)))); post_tasks = (no_steps); handlers = ([]); forces = true } ∷ record { line = 12; pattern = ((codes "g1") ∷ []); gathering = (Some 13); vars = (part (codes "v2") (literal (text (codes "no"))) (part (codes "v3") (length_of (path (variable (codes "r3")) ((codes "msg") ∷ []))) (no_parts))); is_linear = true; serial = (percentage 50 ∷ []); pre_tasks = (no_steps); tasks = (task_step (record { line = 14; work = (debug_work (part (codes "msg") (literal null) (no_parts))); condition = (expression (membership (literal (text (codes "g2"))) (path (variable (codes "group_names")) ([]))) (no_expressions)); loop = None; register = (Some (codes "r3")); vars = (no_parts); notify = ((codes "h0") ∷ []); changed_when = (Some (expression (literal (boolean true)) (no_expressions))); failed_when = (Some (expression (comparison equal (path_or (variable (codes "r3")) ((codes "failed") ∷ []) (literal (boolean true))) (literal (boolean true))) (no_expressions))); attempts = None; ignore_errors = None }) (no_steps)); post_tasks = (no_steps); handlers = (record { work = (record { line = 15; work = (assert_work (conditions_are (expression (literal (boolean true)) (no_expressions))) (no_parts)); condition = (no_expressions); loop = None; register = None; vars = (no_parts); notify = ([]); changed_when = None; failed_when = None; attempts = None; ignore_errors = None }); name = (Some (codes "h0")); topics = ((codes "t") ∷ []) } ∷ []); forces = false } ∷ [])

abbrev random_001333_run_inventory : Inventory
random_001333_run_inventory = record { hosts = (record { name = (codes "a"); variables = (field (codes "i1") (list (item (text (codes "no")) (item (text (codes "a")) (no_items)))) (field (codes "i2") (text ([])) (field (codes "op") opaque (field (codes "s1") (list (item (text (codes "a")) (item (text (codes "a")) (no_items)))) (no_fields))))) } ∷ record { name = (codes "b"); variables = (field (codes "i1") (int (pos 1)) (field (codes "i2") (text ([])) (field (codes "op") opaque (no_fields)))) } ∷ record { name = (codes "c"); variables = (field (codes "i2") (text ([])) (field (codes "op") opaque (field (codes "s1") (rec (field (codes "f") (text (codes "b")) (field (codes "g") (text (codes "b")) (no_fields)))) (no_fields)))) } ∷ record { name = (codes "d"); variables = (field (codes "i2") (text ([])) (field (codes "op") opaque (field (codes "s1") (text (codes "no")) (no_fields)))) } ∷ []); groups = (record { name = (codes "all"); hosts = ((codes "a") ∷ (codes "b") ∷ (codes "c") ∷ (codes "d") ∷ []) } ∷ record { name = (codes "g1"); hosts = ((codes "b") ∷ (codes "c") ∷ []) } ∷ record { name = (codes "ungrouped"); hosts = ((codes "a") ∷ (codes "d") ∷ []) } ∷ []) }

abbrev random_001333_run_registry : Registry
random_001333_run_registry = (builtins ++ (record { name = (codes "probe"); params = (record { name = (codes "n"); kind = ints; required = false } ∷ record { name = (codes "l"); kind = (lists texts 3); required = false } ∷ []); ok = recs (slot (codes "changed") true booleans (slot (codes "deep") false (recs (slot (codes "a") true texts (slot (codes "b") false booleans (no_slots)))) (slot (codes "rows") true (lists texts 2) (slot (codes "v") false ints (no_slots))))); failure = recs (slot (codes "changed") true booleans (slot (codes "msg") true texts (slot (codes "v") false texts (slot (codes "why") true ints (no_slots))))); free = None } ∷ record { name = (codes "odd"); params = ([]); ok = recs (slot (codes "changed") true booleans (slot (codes "msg") false ints (no_slots))); failure = recs (slot (codes "changed") true booleans (slot (codes "msg") true texts (no_slots))); free = None } ∷ []))

random_001333_run : recaps_of random_001333_run_registry random_001333_run_inventory random_001333_run_book 1 ((object (rec (field (codes "changed") (boolean true) (field (codes "deep") (rec (field (codes "a") (text ([])) (no_fields))) (field (codes "rows") (list (item (text (codes "a")) (item (text (codes "b")) (no_items)))) (no_fields))))) ∷ object (rec (field (codes "changed") (boolean true) (field (codes "rc") (int (pos 1)) (field (codes "stderr") (text (codes "x")) (field (codes "stderr_lines") (list (item (text (123 ∷ 123 ∷ 32 ∷ 120 ∷ 32 ∷ 125 ∷ 125 ∷ [])) (no_items))) (field (codes "stdout") (text (123 ∷ 123 ∷ 32 ∷ 120 ∷ 32 ∷ 125 ∷ 125 ∷ [])) (field (codes "stdout_lines") (list (item (text (codes "x")) (item (text (codes "b")) (no_items)))) (no_fields)))))))) ∷ object (rec (field (codes "changed") (boolean true) (field (codes "ping") (text (codes "b")) (no_fields)))) ∷ []) ∷ (object (rec (field (codes "changed") (boolean true) (field (codes "deep") (rec (field (codes "a") (text (codes "d")) (field (codes "b") (boolean false) (no_fields)))) (field (codes "rows") (list (item (text (codes "b")) (no_items))) (field (codes "v") (int (negsuc 6)) (no_fields)))))) ∷ object (rec (field (codes "changed") (boolean false) (field (codes "rc") (int (pos 2)) (field (codes "stderr") (text (codes "b")) (field (codes "stderr_lines") (list (item (text (codes "x")) (item (text (codes "a")) (no_items)))) (field (codes "stdout") (text (123 ∷ 123 ∷ 32 ∷ 120 ∷ 32 ∷ 125 ∷ 125 ∷ [])) (field (codes "stdout_lines") (list (no_items)) (no_fields)))))))) ∷ object (rec (field (codes "changed") (boolean true) (field (codes "ping") (text ([])) (no_fields)))) ∷ object (rec (field (codes "ansible_facts") (rec (field (codes "ansible_distribution") (text ([])) (field (codes "ansible_hostname") (text ([])) (field (codes "ansible_os_family") (text ([])) (field (codes "ansible_system") (text (codes "d")) (no_fields)))))) (field (codes "changed") (boolean false) (no_fields)))) ∷ []) ∷ (object (rec (field (codes "changed") (boolean true) (field (codes "rows") (list (item (text (123 ∷ 123 ∷ 32 ∷ 120 ∷ 32 ∷ 125 ∷ 125 ∷ [])) (no_items))) (no_fields)))) ∷ object (rec (field (codes "changed") (boolean false) (field (codes "rc") (int (pos 0)) (field (codes "stderr") (text (codes "d")) (field (codes "stderr_lines") (list (item (text (codes "a")) (item (text (codes "a")) (item (text (codes "b")) (no_items))))) (field (codes "stdout") (text (codes "b")) (field (codes "stdout_lines") (list (item (text (codes "a")) (no_items))) (no_fields)))))))) ∷ object (rec (field (codes "changed") (boolean true) (field (codes "ping") (text (codes "c")) (no_fields)))) ∷ object (rec (field (codes "ansible_facts") (rec (field (codes "ansible_hostname") (text (codes "d")) (field (codes "ansible_system") (text ([])) (no_fields)))) (field (codes "changed") (boolean true) (no_fields)))) ∷ []) ∷ (object (rec (field (codes "changed") (boolean false) (field (codes "rows") (list (item (text (codes "d")) (item (text (123 ∷ 123 ∷ 32 ∷ 120 ∷ 32 ∷ 125 ∷ 125 ∷ [])) (no_items)))) (no_fields)))) ∷ object (rec (field (codes "changed") (int (pos 7)) (no_fields))) ∷ []) ∷ []) ≡ (record { ok = 3; changed = 3; unreachable = 0; failed = 0; skipped = 1; rescued = 0; ignored = 0 } ∷ record { ok = 4; changed = 2; unreachable = 0; failed = 0; skipped = 2; rescued = 0; ignored = 0 } ∷ record { ok = 4; changed = 3; unreachable = 0; failed = 0; skipped = 2; rescued = 0; ignored = 0 } ∷ record { ok = 1; changed = 0; unreachable = 0; failed = 1; skipped = 1; rescued = 0; ignored = 0 } ∷ [])
unfolding digits
random_001333_run = refl

-- random_001345:
abbrev random_001345_book : Book
random_001345_book = (record { line = 1; pattern = ((codes "all") ∷ []); gathering = None; vars = (no_parts); is_linear = true; serial = ([]); pre_tasks = (no_steps); tasks = (task_step (record { line = 2; work = (module_work (codes "ping") (no_parts)); condition = (expression (in_batch item_host) (no_expressions)); loop = (Some (path (variable (codes "groups")) ((codes "all") ∷ []))); register = None; vars = (no_parts); notify = ([]); changed_when = None; failed_when = None; attempts = None; ignore_errors = None }) (task_step (record { line = 3; work = (module_work (codes "probe") (no_parts)); condition = (no_expressions); loop = None; register = (Some (codes "r1")); vars = (no_parts); notify = ((codes "t") ∷ []); changed_when = None; failed_when = None; attempts = (Some (record { until = (expression (path_status is_failed (variable (codes "r1")) ([])) (no_expressions)); retries = 3 })); ignore_errors = (Some true) }) (no_steps))); post_tasks = (no_steps); handlers = (record { work = (record { line = 4; work = (module_work (codes "command") (part (codes "cmd") (concatenation (expression (literal (text (codes "x "))) (expression (path (variable (codes "s1")) ([])) (no_expressions)))) (no_parts))); condition = (no_expressions); loop = None; register = (Some (codes "r1")); vars = (no_parts); notify = ([]); changed_when = None; failed_when = None; attempts = None; ignore_errors = (Some true) }); name = (Some (codes "h0")); topics = ((codes "t") ∷ []) } ∷ record { work = (record { line = 5; work = (fail_work (no_parts)); condition = (no_expressions); loop = None; register = None; vars = (part (codes "v3") (concatenation (expression (literal (text (codes "x"))) (expression (path (variable (codes "r2")) ((codes "changed") ∷ [])) (no_expressions)))) (no_parts)); notify = ([]); changed_when = None; failed_when = None; attempts = None; ignore_errors = (Some true) }); name = (Some (codes "h1")); topics = ([]) } ∷ []); forces = false } ∷ [])

abbrev random_001345_inventory : Inventory
random_001345_inventory = record { hosts = (record { name = (codes "a"); variables = (field (codes "i1") (boolean true) (field (codes "op") opaque (field (codes "s1") (list (no_items)) (no_fields)))) } ∷ []); groups = (record { name = (codes "all"); hosts = ((codes "a") ∷ []) } ∷ record { name = (codes "g2"); hosts = ((codes "a") ∷ []) } ∷ record { name = (codes "ungrouped"); hosts = ([]) } ∷ []) }

abbrev random_001345_registry : Registry
random_001345_registry = (builtins ++ (record { name = (codes "probe"); params = (record { name = (codes "n"); kind = ints; required = false } ∷ record { name = (codes "l"); kind = (lists texts 3); required = false } ∷ []); ok = recs (slot (codes "changed") true booleans (slot (codes "deep") false (recs (slot (codes "a") true texts (slot (codes "b") false booleans (no_slots)))) (slot (codes "rows") true (lists texts 2) (slot (codes "v") false ints (no_slots))))); failure = recs (slot (codes "changed") true booleans (slot (codes "msg") true texts (slot (codes "v") false texts (slot (codes "why") true ints (no_slots))))); free = None } ∷ record { name = (codes "odd"); params = ([]); ok = recs (slot (codes "changed") true booleans (slot (codes "msg") false ints (no_slots))); failure = recs (slot (codes "changed") true booleans (slot (codes "msg") true texts (no_slots))); free = None } ∷ []))

random_001345 : judged random_001345_registry random_001345_inventory random_001345_book ≡ refused (record { code = 4; line = 4; host = (Some (codes "a")) })
random_001345 = refl

-- random_001358:
abbrev random_001358_book : Book
random_001358_book = (record { line = 1; pattern = ((codes "all") ∷ []); gathering = None; vars = (part (codes "v1") (list_of (expression (literal null) (no_expressions))) (no_parts)); is_linear = true; serial = ([]); pre_tasks = (no_steps); tasks = (task_step (record { line = 2; work = (module_work (codes "stat") (part (codes "path") (literal (text (codes "p"))) (no_parts))); condition = (no_expressions); loop = None; register = (Some (codes "r")); vars = (no_parts); notify = ([]); changed_when = None; failed_when = None; attempts = None; ignore_errors = None }) (no_steps)); post_tasks = (no_steps); handlers = ([]); forces = false } ∷ [])

abbrev random_001358_inventory : Inventory
random_001358_inventory = record { hosts = (record { name = (codes "c"); variables = (field (codes "inv") (list (item (int (pos 1)) (item (int (pos 2)) (no_items)))) (no_fields)) } ∷ record { name = (codes "b"); variables = (field (codes "inv") (list (item (int (pos 1)) (item (int (pos 2)) (no_items)))) (field (codes "k") (rec (field (codes "z") opaque (no_fields))) (no_fields))) } ∷ record { name = (codes "a"); variables = (field (codes "inv") (list (item (text (codes "x")) (no_items))) (field (codes "opq") opaque (no_fields))) } ∷ []); groups = (record { name = (codes "all"); hosts = ((codes "c") ∷ (codes "b") ∷ (codes "a") ∷ []) } ∷ record { name = (codes "g"); hosts = ((codes "b") ∷ (codes "a") ∷ []) } ∷ record { name = (codes "ungrouped"); hosts = ((codes "c") ∷ []) } ∷ []) }

abbrev random_001358_registry : Registry
random_001358_registry = (builtins ++ ([]))

random_001358 : judged random_001358_registry random_001358_inventory random_001358_book ≡ accepted 3
random_001358 = refl

-- random_001362:
abbrev random_001362_book : Book
random_001362_book = (record { line = 1; pattern = ((codes "all") ∷ []); gathering = (Some 2); vars = (no_parts); is_linear = true; serial = (host_count 1 ∷ host_count 2 ∷ []); pre_tasks = (no_steps); tasks = (task_step (record { line = 3; work = (fail_work (no_parts)); condition = (expression (path_status is_changed (variable (codes "r")) ((codes "rc") ∷ [])) (no_expressions)); loop = None; register = None; vars = (no_parts); notify = ([]); changed_when = None; failed_when = None; attempts = None; ignore_errors = None }) (no_steps)); post_tasks = (no_steps); handlers = ([]); forces = false } ∷ [])

abbrev random_001362_inventory : Inventory
random_001362_inventory = record { hosts = (record { name = (codes "c"); variables = (field (codes "inv") (list (item (int (pos 1)) (item (int (pos 2)) (no_items)))) (no_fields)) } ∷ record { name = (codes "b"); variables = (field (codes "inv") (list (item (int (pos 1)) (item (int (pos 2)) (no_items)))) (field (codes "k") (rec (field (codes "z") opaque (no_fields))) (no_fields))) } ∷ record { name = (codes "a"); variables = (field (codes "inv") (list (item (text (codes "x")) (no_items))) (field (codes "opq") opaque (no_fields))) } ∷ []); groups = (record { name = (codes "all"); hosts = ((codes "c") ∷ (codes "b") ∷ (codes "a") ∷ []) } ∷ record { name = (codes "g"); hosts = ((codes "b") ∷ (codes "a") ∷ []) } ∷ record { name = (codes "ungrouped"); hosts = ((codes "c") ∷ []) } ∷ []) }

abbrev random_001362_registry : Registry
random_001362_registry = (builtins ++ ([]))

random_001362 : judged random_001362_registry random_001362_inventory random_001362_book ≡ refused (record { code = 1; line = 3; host = (Some (codes "c")) })
random_001362 = refl

-- random_001379_run:
abbrev random_001379_run_book : Book
random_001379_run_book = (record { line = 1; pattern = ((codes "all") ∷ []); gathering = (Some 2); vars = (no_parts); is_linear = true; serial = (host_count 2 ∷ []); pre_tasks = (no_steps); tasks = (task_step (record { line = 3; work = (module_work (codes "ping") (no_parts)); condition = (no_expressions); loop = None; register = None; vars = (no_parts); notify = ([]); changed_when = None; failed_when = None; attempts = None; ignore_errors = None }) (task_step (record { line = 4; work = (module_work (codes "probe") (no_parts)); condition = (no_expressions); loop = None; register = (Some (codes "r3")); vars = (no_parts); notify = ([]); changed_when = None; failed_when = None; attempts = None; ignore_errors = None }) (no_steps))); post_tasks = (no_steps); handlers = ([]); forces = true } ∷ [])

abbrev random_001379_run_inventory : Inventory
random_001379_run_inventory = record { hosts = (record { name = (codes "a"); variables = (field (codes "op") opaque (field (codes "s1") (list (no_items)) (no_fields))) } ∷ record { name = (codes "b"); variables = (field (codes "op") opaque (no_fields)) } ∷ record { name = (codes "c"); variables = (field (codes "op") opaque (no_fields)) } ∷ []); groups = (record { name = (codes "all"); hosts = ((codes "a") ∷ (codes "b") ∷ (codes "c") ∷ []) } ∷ record { name = (codes "ungrouped"); hosts = ((codes "a") ∷ (codes "b") ∷ (codes "c") ∷ []) } ∷ []) }

abbrev random_001379_run_registry : Registry
random_001379_run_registry = (builtins ++ (record { name = (codes "probe"); params = (record { name = (codes "n"); kind = ints; required = false } ∷ record { name = (codes "l"); kind = (lists texts 3); required = false } ∷ []); ok = recs (slot (codes "changed") true booleans (slot (codes "deep") false (recs (slot (codes "a") true texts (slot (codes "b") false booleans (no_slots)))) (slot (codes "rows") true (lists texts 2) (slot (codes "v") false ints (no_slots))))); failure = recs (slot (codes "changed") true booleans (slot (codes "msg") true texts (slot (codes "v") false texts (slot (codes "why") true ints (no_slots))))); free = None } ∷ record { name = (codes "odd"); params = ([]); ok = recs (slot (codes "changed") true booleans (slot (codes "msg") false ints (no_slots))); failure = recs (slot (codes "changed") true booleans (slot (codes "msg") true texts (no_slots))); free = None } ∷ []))

random_001379_run : recaps_of random_001379_run_registry random_001379_run_inventory random_001379_run_book 1 ((object (rec (field (codes "ansible_facts") (rec (field (codes "ansible_distribution") (text (codes "b")) (field (codes "ansible_hostname") (text (codes "b")) (field (codes "ansible_os_family") (text (codes "c")) (field (codes "ansible_system") (text (123 ∷ 123 ∷ 32 ∷ 120 ∷ 32 ∷ 125 ∷ 125 ∷ [])) (no_fields)))))) (field (codes "changed") (boolean false) (no_fields)))) ∷ object (rec (field (codes "changed") (boolean true) (field (codes "ping") (text (codes "b")) (no_fields)))) ∷ object (rec (field (codes "changed") (boolean false) (field (codes "deep") (rec (field (codes "a") (text (codes "a")) (no_fields))) (field (codes "rows") (list (item (text (codes "a")) (item (text (codes "a")) (no_items)))) (field (codes "v") (int (pos 0)) (no_fields)))))) ∷ []) ∷ (object (rec (field (codes "changed") (boolean true) (field (codes "failed") (boolean true) (field (codes "msg") (text (codes "a")) (no_fields))))) ∷ []) ∷ (object (rec (field (codes "ansible_facts") (rec (field (codes "ansible_distribution") (text (codes "c")) (field (codes "ansible_hostname") (text ([])) (field (codes "ansible_memtotal_mb") (int (pos 2)) (field (codes "ansible_system") (text (codes "b")) (no_fields)))))) (field (codes "changed") (boolean false) (no_fields)))) ∷ object (rec (field (codes "changed") (boolean true) (field (codes "ping") (text (codes "c")) (no_fields)))) ∷ object (rec (field (codes "changed") (boolean true) (field (codes "deep") (rec (field (codes "a") (text ([])) (field (codes "b") (boolean false) (no_fields)))) (field (codes "rows") (list (no_items)) (field (codes "v") (int (pos 1)) (no_fields)))))) ∷ []) ∷ []) ≡ (record { ok = 3; changed = 1; unreachable = 0; failed = 0; skipped = 0; rescued = 0; ignored = 0 } ∷ record { ok = 0; changed = 0; unreachable = 0; failed = 1; skipped = 0; rescued = 0; ignored = 0 } ∷ record { ok = 3; changed = 2; unreachable = 0; failed = 0; skipped = 0; rescued = 0; ignored = 0 } ∷ [])
unfolding digits
random_001379_run = refl

-- random_001392:
abbrev random_001392_book : Book
random_001392_book = (record { line = 1; pattern = ((codes "a") ∷ []); gathering = None; vars = (no_parts); is_linear = true; serial = ([]); pre_tasks = (no_steps); tasks = (block_step (record { line = 2; condition = (expression (in_batch (group_member (codes "g") 0)) (no_expressions)); vars = (no_parts); ignore_errors = None }) (no_steps) (no_steps) (task_step (record { line = 3; work = (fail_work (no_parts)); condition = (expression (path_status is_changed (variable (codes "group_names")) ((codes "os_family") ∷ [])) (no_expressions)); loop = None; register = (Some (codes "s")); vars = (no_parts); notify = ([]); changed_when = None; failed_when = None; attempts = None; ignore_errors = None }) (no_steps)) (task_step (record { line = 4; work = (module_work (codes "command") (part (codes "cmd") (literal (text (codes "x"))) (no_parts))); condition = (expression (negation (in_batch (named_host (codes "a")))) (expression (membership (literal (text (codes "a"))) (path (variable (codes "inventory_hostname")) ((codes "k") ∷ []))) (no_expressions))); loop = None; register = None; vars = (no_parts); notify = ([]); changed_when = None; failed_when = None; attempts = (Some (record { until = (expression (path (variable (codes "zz")) ((codes "changed") ∷ [])) (no_expressions)); retries = 3 })); ignore_errors = None }) (no_steps))); post_tasks = (no_steps); handlers = ([]); forces = true } ∷ [])

abbrev random_001392_inventory : Inventory
random_001392_inventory = record { hosts = (record { name = (codes "c"); variables = (field (codes "inv") (list (item (int (pos 1)) (item (int (pos 2)) (no_items)))) (no_fields)) } ∷ record { name = (codes "b"); variables = (field (codes "inv") (list (item (int (pos 1)) (item (int (pos 2)) (no_items)))) (field (codes "k") (rec (field (codes "z") opaque (no_fields))) (no_fields))) } ∷ record { name = (codes "a"); variables = (field (codes "inv") (list (item (text (codes "x")) (no_items))) (field (codes "opq") opaque (no_fields))) } ∷ []); groups = (record { name = (codes "all"); hosts = ((codes "c") ∷ (codes "b") ∷ (codes "a") ∷ []) } ∷ record { name = (codes "g"); hosts = ((codes "b") ∷ (codes "a") ∷ []) } ∷ record { name = (codes "ungrouped"); hosts = ((codes "c") ∷ []) } ∷ []) }

abbrev random_001392_registry : Registry
random_001392_registry = (builtins ++ ([]))

random_001392 : judged random_001392_registry random_001392_inventory random_001392_book ≡ refused (record { code = 4; line = 3; host = (Some (codes "a")) })
random_001392 = refl

-- random_001398:
abbrev random_001398_book : Book
random_001398_book = (record { line = 1; pattern = ((codes "g") ∷ []); gathering = None; vars = (no_parts); is_linear = true; serial = ([]); pre_tasks = (task_step (record { line = 2; work = (module_work (codes "stat") (part (codes "path") (literal (text (codes "p"))) (no_parts))); condition = (expression (defined (variable (codes "r")) ([])) (no_expressions)); loop = (Some (list_of (no_expressions))); register = (Some (codes "r")); vars = (no_parts); notify = ((codes "h0") ∷ []); changed_when = None; failed_when = None; attempts = None; ignore_errors = None }) (block_step (record { line = 3; condition = (no_expressions); vars = (no_parts); ignore_errors = None }) (no_steps) (no_steps) (no_steps) (block_step (record { line = 4; condition = (expression (negation (path_status is_changed (variable (codes "inventory_hostname")) ([]))) (expression (in_batch (group_member (codes "g") 0)) (no_expressions))); vars = (no_parts); ignore_errors = (Some true) }) (task_step (record { line = 5; work = (set_fact_work (part (codes "s") (literal (int (pos 1))) (no_parts))); condition = (expression (defined (other (named_host (codes "b")) (codes "y")) ([])) (no_expressions)); loop = None; register = (Some (codes "s")); vars = (no_parts); notify = ([]); changed_when = None; failed_when = None; attempts = None; ignore_errors = None }) (no_steps)) (task_step (record { line = 6; work = (module_work (codes "stat") (part (codes "path") (literal (text (codes "p"))) (no_parts))); condition = (no_expressions); loop = None; register = (Some (codes "r")); vars = (no_parts); notify = ([]); changed_when = None; failed_when = None; attempts = None; ignore_errors = None }) (no_steps)) (no_steps) (block_step (record { line = 7; condition = (no_expressions); vars = (no_parts); ignore_errors = None }) (block_step (record { line = 8; condition = (no_expressions); vars = (no_parts); ignore_errors = None }) (task_step (record { line = 9; work = (fail_work (no_parts)); condition = (no_expressions); loop = None; register = (Some (codes "r")); vars = (no_parts); notify = ([]); changed_when = None; failed_when = None; attempts = None; ignore_errors = None }) (no_steps)) (task_step (record { line = 10; work = (fail_work (no_parts)); condition = (expression (negation (in_batch (named_host (codes "a")))) (no_expressions)); loop = None; register = (Some (codes "s")); vars = (part (codes "v2") (length_of (path (variable (codes "groups")) ((codes "g") ∷ []))) (no_parts)); notify = ((codes "h0") ∷ []); changed_when = None; failed_when = None; attempts = None; ignore_errors = None }) (no_steps)) (no_steps) (task_step (record { line = 11; work = (debug_work (part (codes "msg") (literal (text (codes "a"))) (no_parts))); condition = (expression (in_batch item_host) (no_expressions)); loop = None; register = (Some (codes "s")); vars = (no_parts); notify = ([]); changed_when = None; failed_when = None; attempts = None; ignore_errors = None }) (no_steps))) (block_step (record { line = 12; condition = (no_expressions); vars = (no_parts); ignore_errors = None }) (task_step (record { line = 13; work = (debug_work (part (codes "msg") (literal (int (pos 1))) (no_parts))); condition = (no_expressions); loop = None; register = (Some (codes "s")); vars = (no_parts); notify = ((codes "h0") ∷ []); changed_when = None; failed_when = None; attempts = None; ignore_errors = None }) (no_steps)) (no_steps) (task_step (record { line = 14; work = (module_work (codes "ping") (no_parts)); condition = (no_expressions); loop = None; register = (Some (codes "s")); vars = (no_parts); notify = ((codes "h0") ∷ []); changed_when = None; failed_when = None; attempts = None; ignore_errors = None }) (no_steps)) (no_steps)) (task_step (record { line = 15; work = (set_fact_work (part (codes "y") (path (variable (codes "groups")) ((codes "g") ∷ [])) (no_parts))); condition = (no_expressions); loop = None; register = None; vars = (part (codes "v2") (record_of (part (codes "k") (literal (int (pos 1))) (no_parts))) (no_parts)); notify = ((codes "h0") ∷ []); changed_when = None; failed_when = None; attempts = None; ignore_errors = (Some true) }) (no_steps)) (no_steps))))); tasks = (block_step (record { line = 16; condition = (no_expressions); vars = (no_parts); ignore_errors = None }) (block_step (record { line = 17; condition = (expression (comparison equal (path (variable (codes "r")) ((codes "os_family") ∷ [])) (literal (int (pos 1)))) (no_expressions)); vars = (no_parts); ignore_errors = (Some false) }) (task_step (record { line = 18; work = (set_fact_work (part (codes "y") (record_of (part (codes "k") (literal (int (pos 1))) (no_parts))) (no_parts))); condition = (expression (comparison equal (path (variable (codes "item")) ([])) (literal (int (pos 1)))) (no_expressions)); loop = (Some (path (variable (codes "groups")) ((codes "g") ∷ []))); register = (Some (codes "s")); vars = (no_parts); notify = ((codes "h0") ∷ []); changed_when = None; failed_when = None; attempts = None; ignore_errors = None }) (no_steps)) (task_step (record { line = 19; work = (module_work (codes "setup") (no_parts)); condition = (no_expressions); loop = (Some (list_of (expression (literal (int (pos 1))) (expression (literal (int (pos 2))) (no_expressions))))); register = (Some (codes "s")); vars = (no_parts); notify = ([]); changed_when = None; failed_when = None; attempts = None; ignore_errors = None }) (task_step (record { line = 20; work = (set_fact_work (part (codes "s") (path_or (variable (codes "r")) ((codes "rc") ∷ []) (path (variable (codes "r")) ((codes "failed") ∷ []))) (no_parts))); condition = (expression (defined (other (named_host (codes "a")) (codes "r")) ((codes "rc") ∷ [])) (expression (defined (other (named_host (codes "b")) (codes "y")) ([])) (no_expressions))); loop = None; register = None; vars = (no_parts); notify = ((codes "h0") ∷ []); changed_when = None; failed_when = None; attempts = None; ignore_errors = None }) (no_steps))) (no_steps) (no_steps)) (no_steps) (no_steps) (task_step (record { line = 21; work = (module_work (codes "command") (part (codes "cmd") (literal (text (codes "x"))) (no_parts))); condition = (no_expressions); loop = None; register = (Some (codes "r")); vars = (no_parts); notify = ((codes "h0") ∷ []); changed_when = None; failed_when = None; attempts = None; ignore_errors = None }) (no_steps))); post_tasks = (no_steps); handlers = (record { work = (record { line = 22; work = (set_fact_work (part (codes "s") (literal (text (codes "a"))) (no_parts))); condition = (no_expressions); loop = (Some (path (variable (codes "ansible_play_batch")) ([]))); register = None; vars = (no_parts); notify = ([]); changed_when = None; failed_when = None; attempts = None; ignore_errors = (Some true) }); name = (Some (codes "h0")); topics = ([]) } ∷ []); forces = true } ∷ [])

abbrev random_001398_inventory : Inventory
random_001398_inventory = record { hosts = (record { name = (codes "c"); variables = (field (codes "inv") (list (item (int (pos 1)) (item (int (pos 2)) (no_items)))) (no_fields)) } ∷ record { name = (codes "b"); variables = (field (codes "inv") (list (item (int (pos 1)) (item (int (pos 2)) (no_items)))) (field (codes "k") (rec (field (codes "z") opaque (no_fields))) (no_fields))) } ∷ record { name = (codes "a"); variables = (field (codes "inv") (list (item (text (codes "x")) (no_items))) (field (codes "opq") opaque (no_fields))) } ∷ []); groups = (record { name = (codes "all"); hosts = ((codes "c") ∷ (codes "b") ∷ (codes "a") ∷ []) } ∷ record { name = (codes "g"); hosts = ((codes "b") ∷ (codes "a") ∷ []) } ∷ record { name = (codes "ungrouped"); hosts = ((codes "c") ∷ []) } ∷ []) }

abbrev random_001398_registry : Registry
random_001398_registry = (builtins ++ ([]))

random_001398 : judged random_001398_registry random_001398_inventory random_001398_book ≡ refused (record { code = 4; line = 5; host = (Some (codes "b")) })
random_001398 = refl

-- random_001407:
abbrev random_001407_book : Book
random_001407_book = (record { line = 1; pattern = ((codes "all") ∷ []); gathering = None; vars = (no_parts); is_linear = true; serial = (host_count 1 ∷ percentage 100 ∷ []); pre_tasks = (no_steps); tasks = (task_step (record { line = 2; work = (module_work (codes "ping") (no_parts)); condition = (no_expressions); loop = None; register = None; vars = (no_parts); notify = ((codes "h0") ∷ []); changed_when = None; failed_when = None; attempts = None; ignore_errors = None }) (block_step (record { line = 3; condition = (expression (membership (literal (text (codes "g2"))) (path (variable (codes "group_names")) ([]))) (no_expressions)); vars = (no_parts); ignore_errors = None }) (task_step (record { line = 4; work = (module_work (codes "command") (part (codes "cmd") (literal (text (codes "x"))) (no_parts))); condition = (no_expressions); loop = None; register = (Some (codes "r3")); vars = (no_parts); notify = ([]); changed_when = None; failed_when = None; attempts = None; ignore_errors = None }) (task_step (record { line = 5; work = (module_work (codes "ping") (no_parts)); condition = (no_expressions); loop = None; register = None; vars = (no_parts); notify = ((codes "t") ∷ []); changed_when = None; failed_when = None; attempts = None; ignore_errors = None }) (task_step (record { line = 6; work = (fail_work (part (codes "msg") (literal (text (codes "m"))) (no_parts))); condition = (no_expressions); loop = None; register = (Some (codes "r1")); vars = (no_parts); notify = ((codes "t") ∷ []); changed_when = (Some (expression (literal (boolean true)) (no_expressions))); failed_when = (Some (expression (comparison equal (path (variable (codes "r1")) ((codes "failed") ∷ [])) (literal (text (codes "a")))) (no_expressions))); attempts = None; ignore_errors = (Some true) }) (no_steps)))) (no_steps) (block_step (record { line = 7; condition = (no_expressions); vars = (no_parts); ignore_errors = None }) (task_step (record { line = 8; work = (assert_work (conditions_are (expression (literal (boolean true)) (no_expressions))) (no_parts)); condition = (no_expressions); loop = None; register = None; vars = (no_parts); notify = ([]); changed_when = None; failed_when = None; attempts = None; ignore_errors = None }) (block_step (record { line = 9; condition = (no_expressions); vars = (no_parts); ignore_errors = None }) (task_step (record { line = 10; work = (debug_work (part (codes "msg") (path (variable (codes "r1")) ((codes "failed") ∷ [])) (no_parts))); condition = (expression (defined (variable (codes "r1")) ([])) (expression (path_status is_failed (variable (codes "r1")) ([])) (no_expressions))); loop = (Some (path_or (variable (codes "r2")) ((codes "stdout_lines") ∷ []) (list_of (no_expressions)))); register = None; vars = (no_parts); notify = ((codes "t") ∷ []); changed_when = None; failed_when = None; attempts = None; ignore_errors = None }) (no_steps)) (no_steps) (task_step (record { line = 11; work = (module_work (codes "odd") (no_parts)); condition = (no_expressions); loop = (Some (path_or (variable (codes "r2")) ((codes "stdout_lines") ∷ []) (list_of (no_expressions)))); register = None; vars = (no_parts); notify = ([]); changed_when = None; failed_when = None; attempts = None; ignore_errors = None }) (task_step (record { line = 12; work = (assert_work (conditions_are (expression (in_batch (named_host (codes "a"))) (no_expressions))) (no_parts)); condition = (no_expressions); loop = None; register = (Some (codes "r3")); vars = (no_parts); notify = ([]); changed_when = None; failed_when = None; attempts = None; ignore_errors = None }) (no_steps))) (task_step (record { line = 13; work = (module_work (codes "command") (part (codes "cmd") (literal (text (codes "x"))) (no_parts))); condition = (expression (membership (literal (text (codes "g1"))) (path (variable (codes "group_names")) ([]))) (no_expressions)); loop = (Some (list_of (no_expressions))); register = (Some (codes "r3")); vars = (no_parts); notify = ([]); changed_when = None; failed_when = None; attempts = None; ignore_errors = None }) (no_steps)))) (no_steps) (task_step (record { line = 14; work = (set_fact_work (part (codes "s2") (record_of (part (codes "f") (literal (int (pos 1))) (no_parts))) (no_parts))); condition = (no_expressions); loop = None; register = None; vars = (no_parts); notify = ([]); changed_when = None; failed_when = None; attempts = None; ignore_errors = None }) (no_steps)) (task_step (record { line = 15; work = (module_work (codes "ping") (no_parts)); condition = (expression (negation (defined (variable (codes "s2")) ((codes "f") ∷ []))) (no_expressions)); loop = None; register = None; vars = (no_parts); notify = ((codes "t") ∷ []); changed_when = (Some (expression (literal (boolean false)) (no_expressions))); failed_when = None; attempts = None; ignore_errors = None }) (task_step (record { line = 16; work = (module_work (codes "command") (part (codes "cmd") (literal (text (codes "x"))) (no_parts))); condition = (no_expressions); loop = None; register = None; vars = (no_parts); notify = ((codes "t") ∷ []); changed_when = None; failed_when = None; attempts = None; ignore_errors = None }) (no_steps)))) (block_step (record { line = 17; condition = (no_expressions); vars = (no_parts); ignore_errors = None }) (task_step (record { line = 18; work = (debug_work (part (codes "msg") (literal (text (codes "x"))) (no_parts))); condition = (no_expressions); loop = None; register = (Some (codes "r3")); vars = (no_parts); notify = ((codes "t") ∷ []); changed_when = None; failed_when = None; attempts = None; ignore_errors = None }) (task_step (record { line = 19; work = (module_work (codes "command") (part (codes "cmd") (literal (text (codes "x"))) (no_parts))); condition = (no_expressions); loop = None; register = (Some (codes "r2")); vars = (no_parts); notify = ([]); changed_when = None; failed_when = None; attempts = None; ignore_errors = None }) (no_steps))) (no_steps) (no_steps) (no_steps)))); post_tasks = (no_steps); handlers = (record { work = (record { line = 20; work = (module_work (codes "command") (part (codes "cmd") (literal (text (codes "x"))) (no_parts))); condition = (no_expressions); loop = None; register = None; vars = (no_parts); notify = ([]); changed_when = None; failed_when = None; attempts = None; ignore_errors = None }); name = (Some (codes "h0")); topics = ((codes "t") ∷ []) } ∷ []); forces = true } ∷ [])

abbrev random_001407_inventory : Inventory
random_001407_inventory = record { hosts = (record { name = (codes "a"); variables = (no_fields) } ∷ []); groups = (record { name = (codes "all"); hosts = ((codes "a") ∷ []) } ∷ record { name = (codes "g1"); hosts = ((codes "a") ∷ []) } ∷ record { name = (codes "g2"); hosts = ((codes "a") ∷ []) } ∷ record { name = (codes "ungrouped"); hosts = ([]) } ∷ []) }

abbrev random_001407_registry : Registry
random_001407_registry = (builtins ++ (record { name = (codes "probe"); params = (record { name = (codes "n"); kind = ints; required = false } ∷ record { name = (codes "l"); kind = (lists texts 3); required = false } ∷ []); ok = recs (slot (codes "changed") true booleans (slot (codes "deep") false (recs (slot (codes "a") true texts (slot (codes "b") false booleans (no_slots)))) (slot (codes "rows") true (lists texts 2) (slot (codes "v") false ints (no_slots))))); failure = recs (slot (codes "changed") true booleans (slot (codes "msg") true texts (slot (codes "v") false texts (slot (codes "why") true ints (no_slots))))); free = None } ∷ record { name = (codes "odd"); params = ([]); ok = recs (slot (codes "changed") true booleans (slot (codes "msg") false ints (no_slots))); failure = recs (slot (codes "changed") true booleans (slot (codes "msg") true texts (no_slots))); free = None } ∷ []))

random_001407 : judged random_001407_registry random_001407_inventory random_001407_book ≡ accepted 7
random_001407 = refl

-- random_001408_run:
abbrev random_001408_run_book : Book
random_001408_run_book = (record { line = 1; pattern = ((codes "g") ∷ []); gathering = None; vars = (no_parts); is_linear = false; serial = (host_count 2 ∷ []); pre_tasks = (flush_step 2 (no_steps)); tasks = (flush_step 3 (task_step (record { line = 4; work = (module_work (codes "command") (part (codes "cmd") (literal (text (codes "x"))) (no_parts))); condition = (expression (negation (disjunction (expression (negation (defined (variable (codes "r")) ([]))) (expression (path_status is_failed (variable (codes "r")) ([])) (no_expressions))))) (no_expressions)); loop = None; register = None; vars = (no_parts); notify = ([]); changed_when = (Some (expression (literal (boolean true)) (no_expressions))); failed_when = None; attempts = None; ignore_errors = None }) (no_steps))); post_tasks = (no_steps); handlers = ([]); forces = true } ∷ [])

abbrev random_001408_run_inventory : Inventory
random_001408_run_inventory = record { hosts = (record { name = (codes "c"); variables = (field (codes "inv") (list (item (int (pos 1)) (item (int (pos 2)) (no_items)))) (no_fields)) } ∷ record { name = (codes "b"); variables = (field (codes "inv") (list (item (int (pos 1)) (item (int (pos 2)) (no_items)))) (field (codes "k") (rec (field (codes "z") opaque (no_fields))) (no_fields))) } ∷ record { name = (codes "a"); variables = (field (codes "inv") (list (item (text (codes "x")) (no_items))) (field (codes "opq") opaque (no_fields))) } ∷ []); groups = (record { name = (codes "all"); hosts = ((codes "c") ∷ (codes "b") ∷ (codes "a") ∷ []) } ∷ record { name = (codes "g"); hosts = ((codes "b") ∷ (codes "a") ∷ []) } ∷ record { name = (codes "ungrouped"); hosts = ((codes "c") ∷ []) } ∷ []) }

abbrev random_001408_run_registry : Registry
random_001408_run_registry = (builtins ++ ([]))

random_001408_run : recaps_of random_001408_run_registry random_001408_run_inventory random_001408_run_book 1 (([]) ∷ ([]) ∷ ([]) ∷ []) ≡ (record { ok = 0; changed = 0; unreachable = 0; failed = 0; skipped = 0; rescued = 0; ignored = 0 } ∷ record { ok = 0; changed = 0; unreachable = 0; failed = 0; skipped = 1; rescued = 0; ignored = 0 } ∷ record { ok = 0; changed = 0; unreachable = 0; failed = 0; skipped = 1; rescued = 0; ignored = 0 } ∷ [])
unfolding digits
random_001408_run = refl

-- random_001436:
abbrev random_001436_book : Book
random_001436_book = (record { line = 1; pattern = ((codes "b") ∷ (codes "a") ∷ []); gathering = (Some 2); vars = (no_parts); is_linear = true; serial = ([]); pre_tasks = (no_steps); tasks = (task_step (record { line = 3; work = (set_fact_work (part (codes "s") (path_status is_failed (variable (codes "ansible_facts")) ((codes "stat") ∷ (codes "isdir") ∷ [])) (no_parts))); condition = (expression (negation (path_status is_failed (variable (codes "ansible_facts")) ((codes "rc") ∷ []))) (no_expressions)); loop = None; register = None; vars = (no_parts); notify = ([]); changed_when = None; failed_when = None; attempts = None; ignore_errors = None }) (no_steps)); post_tasks = (no_steps); handlers = ([]); forces = true } ∷ [])

abbrev random_001436_inventory : Inventory
random_001436_inventory = record { hosts = (record { name = (codes "c"); variables = (field (codes "inv") (list (item (int (pos 1)) (item (int (pos 2)) (no_items)))) (no_fields)) } ∷ record { name = (codes "b"); variables = (field (codes "inv") (list (item (int (pos 1)) (item (int (pos 2)) (no_items)))) (field (codes "k") (rec (field (codes "z") opaque (no_fields))) (no_fields))) } ∷ record { name = (codes "a"); variables = (field (codes "inv") (list (item (text (codes "x")) (no_items))) (field (codes "opq") opaque (no_fields))) } ∷ []); groups = (record { name = (codes "all"); hosts = ((codes "c") ∷ (codes "b") ∷ (codes "a") ∷ []) } ∷ record { name = (codes "g"); hosts = ((codes "b") ∷ (codes "a") ∷ []) } ∷ record { name = (codes "ungrouped"); hosts = ((codes "c") ∷ []) } ∷ []) }

abbrev random_001436_registry : Registry
random_001436_registry = (builtins ++ ([]))

random_001436 : judged random_001436_registry random_001436_inventory random_001436_book ≡ refused (record { code = 3; line = 3; host = (Some (codes "b")) })
random_001436 = refl
