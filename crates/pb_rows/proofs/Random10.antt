-- Cases of random, computed.
use Rattle.std.specs.Prelude.{◌≡◌, refl, pos, negsuc, [], ◌∷◌, ◌++◌, true, false, Some, None, codes}
use Rattle.std.specs.Fmt.{digits}
use Rattle.pb_semantics.specs.Data.{null, boolean, int, text, list, rec, opaque, no_items, item, no_fields, field}
use Rattle.pb_semantics.specs.Kind.{booleans, ints, texts, lists, recs, no_slots, slot}
use Rattle.pb_language.specs.Expression.{equal, less, is_failed, is_changed, is_skipped, named_host, this_host, item_host, group_member, literal, path, negation, conjunction, comparison, membership, in_batch, defined, path_status, path_or, length_of, concatenation, list_of, record_of, variable, other, no_expressions, expression, no_parts, part}
use Rattle.pb_language.specs.Book.{conditions_are, module_work, debug_work, set_fact_work, assert_work, fail_work, no_steps, task_step, block_step, flush_step, host_count, percentage, Book, Registry}
use Rattle.pb_language.specs.Builtins.{builtins}
use Rattle.pb_language.specs.Give.{object, unreachable}
use Rattle.pb_language.specs.Judged.{judged}
use Rattle.pb_language.specs.Program.{Inventory}
use Rattle.pb_language.specs.Verdict.{refused}
use Rattle.pb_rows.specs.Recaps.{recaps_of}

-- random_002201_run:
abbrev random_002201_run_book : Book
random_002201_run_book = (record { line = 1; pattern = ((codes "a") ∷ (codes "all") ∷ []); gathering = None; vars = (no_parts); is_linear = false; serial = (percentage 50 ∷ []); pre_tasks = (no_steps); tasks = (task_step (record { line = 2; work = (debug_work (part (codes "msg") (literal (text (codes "x"))) (no_parts))); condition = (no_expressions); loop = None; register = (Some (codes "r3")); vars = (no_parts); notify = ([]); changed_when = None; failed_when = None; attempts = None; ignore_errors = None }) (task_step (record { line = 3; work = (module_work (codes "setup") (no_parts)); condition = (expression (negation (comparison equal (path (variable (codes "inventory_hostname")) ([])) (literal (text (codes "b"))))) (no_expressions)); loop = None; register = None; vars = (no_parts); notify = ((codes "h0") ∷ []); changed_when = None; failed_when = None; attempts = None; ignore_errors = None }) (task_step (record { line = 4; work = (set_fact_work (part (codes "s1") (literal (int (pos 1))) (part (codes "s3") (literal (boolean true)) (no_parts)))); condition = (no_expressions); loop = None; register = None; vars = (part (codes "v1") (path (other (named_host (codes "a")) (codes "r1")) ((codes "changed") ∷ [])) (part (codes "v2") (concatenation (expression (literal (text (codes "x"))) (expression (path (other (named_host (codes "b")) (codes "op")) ([])) (no_expressions)))) (no_parts))); notify = ((codes "t") ∷ []); changed_when = (Some (expression (literal (boolean true)) (no_expressions))); failed_when = (Some (expression (literal (boolean false)) (no_expressions))); attempts = None; ignore_errors = (Some true) }) (no_steps)))); post_tasks = (no_steps); handlers = (record { work = (record { line = 5; work = (module_work (codes "command") (part (codes "cmd") (literal (text (codes "x"))) (no_parts))); condition = (no_expressions); loop = None; register = (Some (codes "r1")); vars = (no_parts); notify = ((codes "h1") ∷ []); changed_when = None; failed_when = None; attempts = (Some (record { until = (expression (conjunction (expression (defined (variable (codes "r1")) ((codes "failed") ∷ [])) (expression (comparison equal (path (variable (codes "r1")) ((codes "failed") ∷ [])) (literal (text (codes "a")))) (no_expressions)))) (no_expressions)); retries = 3 })); ignore_errors = None }); name = (Some (codes "h0")); topics = ((codes "t") ∷ []) } ∷ record { work = (record { line = 6; work = (set_fact_work (part (codes "s2") (literal (text (codes "t"))) (no_parts))); condition = (no_expressions); loop = None; register = None; vars = (part (codes "v1") (path_or (variable (codes "r2")) ((codes "changed") ∷ []) (path (variable (codes "s1")) ([]))) (no_parts)); notify = ([]); changed_when = None; failed_when = None; attempts = None; ignore_errors = None }); name = (Some (codes "h1")); topics = ((codes "t") ∷ []) } ∷ record { work = (record { line = 7; work = (fail_work (no_parts)); condition = (no_expressions); loop = None; register = None; vars = (no_parts); notify = ([]); changed_when = None; failed_when = (Some (expression (literal (boolean true)) (no_expressions))); attempts = None; ignore_errors = None }); name = (Some (codes "h2")); topics = ((codes "t") ∷ []) } ∷ []); forces = false } ∷ [])

abbrev random_002201_run_inventory : Inventory
random_002201_run_inventory = record { hosts = (record { name = (codes "a"); variables = (field (codes "i2") (int (pos 1)) (no_fields)) } ∷ record { name = (codes "b"); variables = (field (codes "i1") (list (item (int (pos 1)) (item (text (codes "no")) (no_items)))) (field (codes "i2") (boolean true) (field (codes "op") opaque (no_fields)))) } ∷ []); groups = (record { name = (codes "all"); hosts = ((codes "a") ∷ (codes "b") ∷ []) } ∷ record { name = (codes "g1"); hosts = ((codes "a") ∷ (codes "b") ∷ []) } ∷ record { name = (codes "g2"); hosts = ((codes "a") ∷ (codes "b") ∷ []) } ∷ record { name = (codes "ungrouped"); hosts = ([]) } ∷ []) }

abbrev random_002201_run_registry : Registry
random_002201_run_registry = (builtins ++ (record { name = (codes "probe"); params = (record { name = (codes "n"); kind = ints; required = false } ∷ record { name = (codes "l"); kind = (lists texts 3); required = false } ∷ []); ok = recs (slot (codes "changed") true booleans (slot (codes "deep") false (recs (slot (codes "a") true texts (slot (codes "b") false booleans (no_slots)))) (slot (codes "rows") true (lists texts 2) (slot (codes "v") false ints (no_slots))))); failure = recs (slot (codes "changed") true booleans (slot (codes "msg") true texts (slot (codes "v") false texts (slot (codes "why") true ints (no_slots))))); free = None } ∷ record { name = (codes "odd"); params = ([]); ok = recs (slot (codes "changed") true booleans (slot (codes "msg") false ints (no_slots))); failure = recs (slot (codes "changed") true booleans (slot (codes "msg") true texts (no_slots))); free = None } ∷ []))

random_002201_run : recaps_of random_002201_run_registry random_002201_run_inventory random_002201_run_book 1 ((object (rec (field (codes "ansible_facts") (rec (field (codes "ansible_distribution") (text (codes "a")) (field (codes "ansible_hostname") (text ([])) (field (codes "ansible_system") (text (123 ∷ 123 ∷ 32 ∷ 120 ∷ 32 ∷ 125 ∷ 125 ∷ [])) (no_fields))))) (field (codes "changed") (boolean true) (no_fields)))) ∷ object (rec (field (codes "changed") (boolean false) (field (codes "rc") (int (negsuc 6)) (field (codes "stderr") (text (codes "b")) (field (codes "stderr_lines") (list (item (text (codes "a")) (item (text ([])) (no_items)))) (field (codes "stdout") (text (codes "b")) (field (codes "stdout_lines") (list (no_items)) (no_fields)))))))) ∷ object (rec (field (codes "changed") (boolean true) (field (codes "failed") (boolean true) (field (codes "msg") (text (codes "x")) (field (codes "rc") (int (pos 2)) (field (codes "stderr") (text (codes "a")) (field (codes "stderr_lines") (list (item (text (codes "x")) (item (text (codes "b")) (no_items)))) (field (codes "stdout") (text (codes "x")) (field (codes "stdout_lines") (list (no_items)) (no_fields)))))))))) ∷ object (rec (field (codes "changed") (boolean false) (field (codes "rc") (int (pos 0)) (field (codes "stderr") (text (123 ∷ 123 ∷ 32 ∷ 120 ∷ 32 ∷ 125 ∷ 125 ∷ [])) (field (codes "stderr_lines") (list (item (text (codes "a")) (item (text (codes "a")) (item (text (codes "a")) (no_items))))) (field (codes "stdout") (text (codes "a")) (field (codes "stdout_lines") (list (item (text (codes "a")) (no_items))) (no_fields)))))))) ∷ object (rec (field (codes "changed") (boolean true) (field (codes "rc") (int (negsuc 6)) (field (codes "stderr") (text (codes "a")) (field (codes "stderr_lines") (list (item (text ([])) (no_items))) (field (codes "stdout") (text (codes "b")) (field (codes "stdout_lines") (list (item (text (codes "b")) (item (text (codes "a")) (item (text (codes "x")) (no_items))))) (no_fields)))))))) ∷ []) ∷ ([]) ∷ []) ≡ (record { ok = 3; changed = 2; unreachable = 0; failed = 1; skipped = 0; rescued = 0; ignored = 0 } ∷ record { ok = 0; changed = 0; unreachable = 0; failed = 0; skipped = 0; rescued = 0; ignored = 0 } ∷ [])
unfolding digits
random_002201_run = refl

-- random_002204_run:
abbrev random_002204_run_book : Book
random_002204_run_book = (record { line = 1; pattern = ((codes "all") ∷ []); gathering = None; vars = (no_parts); is_linear = true; serial = (percentage 50 ∷ []); pre_tasks = (no_steps); tasks = (task_step (record { line = 2; work = (module_work (codes "ping") (no_parts)); condition = (no_expressions); loop = None; register = None; vars = (no_parts); notify = ([]); changed_when = None; failed_when = None; attempts = (Some (record { until = (expression (literal (boolean true)) (no_expressions)); retries = 3 })); ignore_errors = None }) (block_step (record { line = 3; condition = (no_expressions); vars = (no_parts); ignore_errors = (Some true) }) (task_step (record { line = 4; work = (fail_work (no_parts)); condition = (no_expressions); loop = None; register = None; vars = (no_parts); notify = ([]); changed_when = None; failed_when = None; attempts = None; ignore_errors = (Some true) }) (block_step (record { line = 5; condition = (no_expressions); vars = (no_parts); ignore_errors = None }) (no_steps) (no_steps) (no_steps) (no_steps))) (no_steps) (no_steps) (task_step (record { line = 6; work = (debug_work (part (codes "msg") (literal (boolean true)) (no_parts))); condition = (no_expressions); loop = None; register = None; vars = (no_parts); notify = ((codes "h0") ∷ []); changed_when = None; failed_when = None; attempts = None; ignore_errors = None }) (task_step (record { line = 7; work = (module_work (codes "stat") (part (codes "path") (literal (text (codes "p"))) (no_parts))); condition = (no_expressions); loop = None; register = (Some (codes "r")); vars = (no_parts); notify = ((codes "h0") ∷ []); changed_when = None; failed_when = (Some (expression (path (variable (codes "r")) ((codes "changed") ∷ [])) (no_expressions))); attempts = None; ignore_errors = None }) (no_steps))))); post_tasks = (task_step (record { line = 8; work = (set_fact_work (part (codes "s") (path_or (other (named_host (codes "a")) (codes "r")) ((codes "rc") ∷ []) (list_of (no_expressions))) (no_parts))); condition = (expression (defined (variable (codes "r")) ((codes "rc") ∷ [])) (no_expressions)); loop = None; register = None; vars = (no_parts); notify = ([]); changed_when = (Some (expression (literal (boolean true)) (no_expressions))); failed_when = None; attempts = None; ignore_errors = None }) (flush_step 9 (no_steps))); handlers = (record { work = (record { line = 10; work = (debug_work (part (codes "msg") (path (variable (codes "r")) ((codes "failed") ∷ [])) (no_parts))); condition = (no_expressions); loop = None; register = None; vars = (no_parts); notify = ([]); changed_when = None; failed_when = None; attempts = None; ignore_errors = None }); name = (Some (codes "h0")); topics = ([]) } ∷ []); forces = false } ∷ [])

abbrev random_002204_run_inventory : Inventory
random_002204_run_inventory = record { hosts = (record { name = (codes "c"); variables = (field (codes "inv") (list (item (int (pos 1)) (item (int (pos 2)) (no_items)))) (no_fields)) } ∷ record { name = (codes "b"); variables = (field (codes "inv") (list (item (int (pos 1)) (item (int (pos 2)) (no_items)))) (field (codes "k") (rec (field (codes "z") opaque (no_fields))) (no_fields))) } ∷ record { name = (codes "a"); variables = (field (codes "inv") (list (item (text (codes "x")) (no_items))) (field (codes "opq") opaque (no_fields))) } ∷ []); groups = (record { name = (codes "all"); hosts = ((codes "c") ∷ (codes "b") ∷ (codes "a") ∷ []) } ∷ record { name = (codes "g"); hosts = ((codes "b") ∷ (codes "a") ∷ []) } ∷ record { name = (codes "ungrouped"); hosts = ((codes "c") ∷ []) } ∷ []) }

abbrev random_002204_run_registry : Registry
random_002204_run_registry = (builtins ++ ([]))

random_002204_run : recaps_of random_002204_run_registry random_002204_run_inventory random_002204_run_book 1 ((object (rec (field (codes "changed") (boolean true) (field (codes "failed") (boolean true) (field (codes "msg") (text (codes "x")) (no_fields))))) ∷ []) ∷ ([]) ∷ ([]) ∷ []) ≡ (record { ok = 0; changed = 0; unreachable = 0; failed = 1; skipped = 0; rescued = 0; ignored = 0 } ∷ record { ok = 0; changed = 0; unreachable = 0; failed = 0; skipped = 0; rescued = 0; ignored = 0 } ∷ record { ok = 0; changed = 0; unreachable = 0; failed = 0; skipped = 0; rescued = 0; ignored = 0 } ∷ [])
unfolding digits
random_002204_run = refl

-- random_002234:
abbrev random_002234_book : Book
random_002234_book = (record { line = 1; pattern = ((codes "all") ∷ []); gathering = None; vars = (no_parts); is_linear = true; serial = ([]); pre_tasks = (no_steps); tasks = (flush_step 2 (no_steps)); post_tasks = (no_steps); handlers = ([]); forces = false } ∷ record { line = 3; pattern = ((codes "all") ∷ []); gathering = None; vars = (no_parts); is_linear = true; serial = ([]); pre_tasks = (no_steps); tasks = (block_step (record { line = 4; condition = (expression (comparison less (path (variable (codes "r")) ((codes "results") ∷ [])) (literal (int (pos 3)))) (no_expressions)); vars = (no_parts); ignore_errors = None }) (task_step (record { line = 5; work = (module_work (codes "command") (part (codes "cmd") (list_of (expression (negation (defined (other (named_host (codes "a")) (codes "inv")) ([]))) (no_expressions))) (no_parts))); condition = (no_expressions); loop = None; register = (Some (codes "s")); vars = (no_parts); notify = ([]); changed_when = None; failed_when = None; attempts = (Some (record { until = (expression (literal (boolean true)) (no_expressions)); retries = 1 })); ignore_errors = (Some true) }) (task_step (record { line = 6; work = (fail_work (part (codes "msg") (literal (text (codes "m"))) (no_parts))); condition = (no_expressions); loop = None; register = (Some (codes "r")); vars = (no_parts); notify = ([]); changed_when = None; failed_when = None; attempts = None; ignore_errors = None }) (no_steps))) (task_step (record { line = 7; work = (module_work (codes "stat") (part (codes "path") (literal (text (codes "p"))) (no_parts))); condition = (no_expressions); loop = None; register = (Some (codes "s")); vars = (no_parts); notify = ([]); changed_when = (Some (expression (path_status is_changed (variable (codes "s")) ([])) (no_expressions))); failed_when = None; attempts = (Some (record { until = (expression (literal (boolean true)) (no_expressions)); retries = 1 })); ignore_errors = None }) (no_steps)) (block_step (record { line = 8; condition = (no_expressions); vars = (no_parts); ignore_errors = None }) (task_step (record { line = 9; work = (module_work (codes "command") (part (codes "cmd") (record_of (part (codes "k") (literal (int (pos 1))) (no_parts))) (no_parts))); condition = (no_expressions); loop = None; register = None; vars = (no_parts); notify = ([]); changed_when = None; failed_when = None; attempts = None; ignore_errors = None }) (no_steps)) (no_steps) (no_steps) (no_steps)) (no_steps)); post_tasks = (no_steps); handlers = ([]); forces = true } ∷ [])

abbrev random_002234_inventory : Inventory
random_002234_inventory = record { hosts = (record { name = (codes "c"); variables = (field (codes "inv") (list (item (int (pos 1)) (item (int (pos 2)) (no_items)))) (no_fields)) } ∷ record { name = (codes "b"); variables = (field (codes "inv") (list (item (int (pos 1)) (item (int (pos 2)) (no_items)))) (field (codes "k") (rec (field (codes "z") opaque (no_fields))) (no_fields))) } ∷ record { name = (codes "a"); variables = (field (codes "inv") (list (item (text (codes "x")) (no_items))) (field (codes "opq") opaque (no_fields))) } ∷ []); groups = (record { name = (codes "all"); hosts = ((codes "c") ∷ (codes "b") ∷ (codes "a") ∷ []) } ∷ record { name = (codes "g"); hosts = ((codes "b") ∷ (codes "a") ∷ []) } ∷ record { name = (codes "ungrouped"); hosts = ((codes "c") ∷ []) } ∷ []) }

abbrev random_002234_registry : Registry
random_002234_registry = (builtins ++ ([]))

random_002234 : judged random_002234_registry random_002234_inventory random_002234_book ≡ refused (record { code = 1; line = 5; host = (Some (codes "c")) })
random_002234 = refl

-- random_002243_run:
abbrev random_002243_run_book : Book
random_002243_run_book = (record { line = 1; pattern = ((codes "g1") ∷ []); gathering = None; vars = (no_parts); is_linear = false; serial = ([]); pre_tasks = (no_steps); tasks = (block_step (record { line = 2; condition = (no_expressions); vars = (no_parts); ignore_errors = (Some true) }) (block_step (record { line = 3; condition = (no_expressions); vars = (no_parts); ignore_errors = None }) (no_steps) (no_steps) (no_steps) (no_steps)) (task_step (record { line = 4; work = (debug_work (part (codes "msg") (path_or (variable (codes "r3")) ((codes "changed") ∷ []) (literal (int (pos 1)))) (no_parts))); condition = (no_expressions); loop = None; register = (Some (codes "r2")); vars = (no_parts); notify = ([]); changed_when = None; failed_when = None; attempts = None; ignore_errors = None }) (no_steps)) (no_steps) (block_step (record { line = 5; condition = (no_expressions); vars = (no_parts); ignore_errors = None }) (task_step (record { line = 6; work = (module_work (codes "command") (part (codes "cmd") (literal (text (codes "x"))) (no_parts))); condition = (no_expressions); loop = None; register = None; vars = (no_parts); notify = ([]); changed_when = None; failed_when = None; attempts = None; ignore_errors = None }) (no_steps)) (no_steps) (no_steps) (task_step (record { line = 7; work = (module_work (codes "setup") (no_parts)); condition = (no_expressions); loop = None; register = None; vars = (no_parts); notify = ([]); changed_when = None; failed_when = None; attempts = None; ignore_errors = None }) (no_steps)))); post_tasks = (no_steps); handlers = (record { work = (record { line = 8; work = (debug_work (part (codes "msg") (literal (text (codes "x"))) (no_parts))); condition = (no_expressions); loop = None; register = None; vars = (no_parts); notify = ((codes "h1") ∷ []); changed_when = None; failed_when = None; attempts = None; ignore_errors = None }); name = (Some (codes "h0")); topics = ([]) } ∷ record { work = (record { line = 9; work = (module_work (codes "setup") (no_parts)); condition = (no_expressions); loop = None; register = (Some (codes "r2")); vars = (no_parts); notify = ([]); changed_when = None; failed_when = (Some (expression (conjunction (expression (defined (variable (codes "r2")) ((codes "changed") ∷ [])) (expression (comparison equal (path (variable (codes "r2")) ((codes "changed") ∷ [])) (literal (text (codes "a")))) (no_expressions)))) (no_expressions))); attempts = (Some (record { until = (expression (comparison equal (path_or (variable (codes "r2")) ((codes "changed") ∷ []) (literal (boolean true))) (literal (boolean true))) (no_expressions)); retries = 2 })); ignore_errors = None }); name = (Some (codes "h1")); topics = ((codes "t") ∷ []) } ∷ record { work = (record { line = 10; work = (module_work (codes "probe") (no_parts)); condition = (no_expressions); loop = None; register = (Some (codes "r2")); vars = (part (codes "v2") (path_or (variable (codes "i2")) ([]) (literal (text (codes "z")))) (part (codes "v3") (concatenation (expression (literal (text (codes "x"))) (expression (list_of (expression (literal (int (pos 1))) (expression (literal (int (pos 2))) (no_expressions)))) (no_expressions)))) (no_parts))); notify = ([]); changed_when = None; failed_when = None; attempts = None; ignore_errors = None }); name = (Some (codes "h2")); topics = ([]) } ∷ []); forces = false } ∷ record { line = 11; pattern = ((codes "a") ∷ []); gathering = None; vars = (part (codes "v1") (literal (boolean false)) (no_parts)); is_linear = true; serial = ([]); pre_tasks = (no_steps); tasks = (task_step (record { line = 12; work = (assert_work (conditions_are (expression (conjunction (expression (defined (variable (codes "s1")) ([])) (expression (comparison equal (path (variable (codes "s1")) ([])) (literal (text (codes "a")))) (no_expressions)))) (no_expressions))) (no_parts)); condition = (expression (negation (in_batch (named_host (codes "c")))) (no_expressions)); loop = None; register = (Some (codes "r1")); vars = (no_parts); notify = ([]); changed_when = None; failed_when = None; attempts = None; ignore_errors = (Some true) }) (task_step (record { line = 13; work = (assert_work (conditions_are (expression (literal (boolean true)) (no_expressions))) (no_parts)); condition = (no_expressions); loop = None; register = None; vars = (no_parts); notify = ((codes "t") ∷ []); changed_when = None; failed_when = None; attempts = None; ignore_errors = None }) (no_steps))); post_tasks = (no_steps); handlers = (record { work = (record { line = 14; work = (set_fact_work (part (codes "s2") (record_of (part (codes "f") (literal (int (pos 1))) (no_parts))) (no_parts))); condition = (no_expressions); loop = None; register = (Some (codes "r1")); vars = (no_parts); notify = ([]); changed_when = None; failed_when = None; attempts = None; ignore_errors = None }); name = (Some (codes "h0")); topics = ((codes "t") ∷ []) } ∷ []); forces = false } ∷ [])

abbrev random_002243_run_inventory : Inventory
random_002243_run_inventory = record { hosts = (record { name = (codes "a"); variables = (field (codes "i1") (list (item (text (codes "b")) (no_items))) (field (codes "op") opaque (field (codes "s1") (text (codes "a")) (no_fields)))) } ∷ record { name = (codes "b"); variables = (field (codes "i1") (list (item (text (codes "b")) (no_items))) (field (codes "i2") (text (codes "no")) (no_fields))) } ∷ record { name = (codes "c"); variables = (field (codes "i1") (list (item (text (codes "b")) (no_items))) (field (codes "op") opaque (field (codes "s1") (text (codes "a")) (no_fields)))) } ∷ record { name = (codes "d"); variables = (field (codes "i1") (rec (field (codes "f") (text (codes "x")) (field (codes "g") (list (no_items)) (no_fields)))) (field (codes "op") opaque (field (codes "s1") (text (codes "a")) (no_fields)))) } ∷ []); groups = (record { name = (codes "all"); hosts = ((codes "a") ∷ (codes "b") ∷ (codes "c") ∷ (codes "d") ∷ []) } ∷ record { name = (codes "g1"); hosts = ((codes "a") ∷ (codes "c") ∷ (codes "d") ∷ []) } ∷ record { name = (codes "ungrouped"); hosts = ((codes "b") ∷ []) } ∷ []) }

abbrev random_002243_run_registry : Registry
random_002243_run_registry = (builtins ++ (record { name = (codes "probe"); params = (record { name = (codes "n"); kind = ints; required = false } ∷ record { name = (codes "l"); kind = (lists texts 3); required = false } ∷ []); ok = recs (slot (codes "changed") true booleans (slot (codes "deep") false (recs (slot (codes "a") true texts (slot (codes "b") false booleans (no_slots)))) (slot (codes "rows") true (lists texts 2) (slot (codes "v") false ints (no_slots))))); failure = recs (slot (codes "changed") true booleans (slot (codes "msg") true texts (slot (codes "v") false texts (slot (codes "why") true ints (no_slots))))); free = None } ∷ record { name = (codes "odd"); params = ([]); ok = recs (slot (codes "changed") true booleans (slot (codes "msg") false ints (no_slots))); failure = recs (slot (codes "changed") true booleans (slot (codes "msg") true texts (no_slots))); free = None } ∷ []))

random_002243_run : recaps_of random_002243_run_registry random_002243_run_inventory random_002243_run_book 1 ((object (rec (field (codes "changed") (boolean true) (field (codes "rc") (int (pos 2)) (field (codes "stderr") (text (codes "x")) (field (codes "stderr_lines") (list (no_items)) (field (codes "stdout") (text (codes "b")) (field (codes "stdout_lines") (list (no_items)) (no_fields)))))))) ∷ object (rec (field (codes "ansible_facts") (rec (field (codes "ansible_distribution") (text (codes "a")) (field (codes "ansible_hostname") (text (codes "b")) (field (codes "ansible_os_family") (text (codes "b")) (field (codes "ansible_processor_vcpus") (int (pos 1)) (field (codes "ansible_system") (text (codes "c")) (no_fields))))))) (field (codes "changed") (boolean true) (no_fields)))) ∷ []) ∷ ([]) ∷ (object (rec (field (codes "changed") (boolean true) (field (codes "extra") (rec (field (codes "a") (int (pos 1)) (no_fields))) (field (codes "rc") (int (pos 2)) (field (codes "stderr") (text (codes "a")) (field (codes "stderr_lines") (list (item (text (codes "d")) (item (text (123 ∷ 123 ∷ 32 ∷ 120 ∷ 32 ∷ 125 ∷ 125 ∷ [])) (item (text (codes "c")) (no_items))))) (field (codes "stdout") (text ([])) (field (codes "stdout_lines") (list (item (text (codes "c")) (item (text (codes "b")) (no_items)))) (no_fields))))))))) ∷ object (rec (field (codes "changed") (boolean true) (field (codes "failed") (boolean true) (field (codes "msg") (text ([])) (no_fields))))) ∷ []) ∷ (object (rec (field (codes "changed") (boolean true) (field (codes "rc") (int (negsuc 6)) (field (codes "stderr") (text (codes "b")) (field (codes "stderr_lines") (list (item (text (codes "a")) (no_items))) (field (codes "stdout") (text (codes "d")) (field (codes "stdout_lines") (list (item (text (codes "b")) (item (text (codes "d")) (item (text (codes "b")) (no_items))))) (no_fields)))))))) ∷ object (rec (field (codes "ansible_facts") (rec (field (codes "ansible_hostname") (text (codes "b")) (field (codes "ansible_memtotal_mb") (int (pos 0)) (field (codes "ansible_system") (text (codes "a")) (no_fields))))) (field (codes "changed") (boolean true) (no_fields)))) ∷ []) ∷ []) ≡ (record { ok = 4; changed = 2; unreachable = 0; failed = 0; skipped = 0; rescued = 0; ignored = 0 } ∷ record { ok = 0; changed = 0; unreachable = 0; failed = 0; skipped = 0; rescued = 0; ignored = 0 } ∷ record { ok = 1; changed = 1; unreachable = 0; failed = 1; skipped = 0; rescued = 0; ignored = 0 } ∷ record { ok = 2; changed = 2; unreachable = 0; failed = 0; skipped = 0; rescued = 0; ignored = 0 } ∷ [])
unfolding digits
random_002243_run = refl

-- random_002271_run:
abbrev random_002271_run_book : Book
random_002271_run_book = (record { line = 1; pattern = ((codes "all") ∷ []); gathering = (Some 2); vars = (no_parts); is_linear = true; serial = ([]); pre_tasks = (block_step (record { line = 3; condition = (no_expressions); vars = (no_parts); ignore_errors = None }) (task_step (record { line = 4; work = (module_work (codes "ping") (no_parts)); condition = (no_expressions); loop = None; register = None; vars = (no_parts); notify = ([]); changed_when = None; failed_when = None; attempts = None; ignore_errors = None }) (no_steps)) (task_step (record { line = 5; work = (module_work (codes "command") (part (codes "cmd") (literal (text (codes "x"))) (no_parts))); condition = (no_expressions); loop = None; register = None; vars = (no_parts); notify = ([]); changed_when = None; failed_when = None; attempts = None; ignore_errors = (Some true) }) (task_step (record { line = 6; work = (module_work (codes "probe") (no_parts)); condition = (no_expressions); loop = None; register = (Some (codes "r2")); vars = (no_parts); notify = ([]); changed_when = None; failed_when = None; attempts = None; ignore_errors = None }) (no_steps))) (block_step (record { line = 7; condition = (no_expressions); vars = (no_parts); ignore_errors = None }) (task_step (record { line = 8; work = (module_work (codes "stat") (part (codes "path") (literal (text (codes "/"))) (no_parts))); condition = (no_expressions); loop = None; register = (Some (codes "r1")); vars = (part (codes "v1") (path (other this_host (codes "r3")) ([])) (part (codes "v2") (path (variable (codes "groups")) ((codes "all") ∷ [])) (part (codes "v3") (concatenation (expression (literal (text (codes "x"))) (expression (path (other (named_host (codes "c")) (codes "r2")) ([])) (no_expressions)))) (no_parts)))); notify = ([]); changed_when = None; failed_when = None; attempts = None; ignore_errors = None }) (task_step (record { line = 9; work = (module_work (codes "ping") (no_parts)); condition = (no_expressions); loop = None; register = None; vars = (no_parts); notify = ([]); changed_when = (Some (expression (literal (boolean false)) (no_expressions))); failed_when = None; attempts = (Some (record { until = (expression (literal (boolean true)) (no_expressions)); retries = 1 })); ignore_errors = None }) (no_steps))) (task_step (record { line = 10; work = (module_work (codes "ping") (no_parts)); condition = (no_expressions); loop = None; register = None; vars = (part (codes "v2") (literal null) (no_parts)); notify = ([]); changed_when = None; failed_when = (Some (expression (literal (boolean true)) (no_expressions))); attempts = None; ignore_errors = None }) (block_step (record { line = 11; condition = (no_expressions); vars = (no_parts); ignore_errors = None }) (task_step (record { line = 12; work = (module_work (codes "command") (part (codes "cmd") (literal (text (codes "x"))) (no_parts))); condition = (no_expressions); loop = None; register = (Some (codes "r3")); vars = (part (codes "v1") (path_or (variable (codes "r1")) ((codes "stat") ∷ (codes "size") ∷ []) (literal (int (pos 1)))) (no_parts)); notify = ([]); changed_when = (Some (expression (literal (boolean true)) (no_expressions))); failed_when = None; attempts = (Some (record { until = (expression (comparison equal (path (variable (codes "r3")) ((codes "rc") ∷ [])) (literal (int (pos 1)))) (no_expressions)); retries = 3 })); ignore_errors = (Some true) }) (task_step (record { line = 13; work = (debug_work (part (codes "msg") (path (variable (codes "r1")) ((codes "stat") ∷ (codes "exists") ∷ [])) (no_parts))); condition = (expression (negation (path_status is_failed (variable (codes "r1")) ([]))) (no_expressions)); loop = None; register = (Some (codes "r2")); vars = (part (codes "v1") (path (variable (codes "r2")) ([])) (part (codes "v3") (length_of (path (variable (codes "ansible_failed_result")) ((codes "msg") ∷ []))) (no_parts))); notify = ([]); changed_when = None; failed_when = (Some (expression (comparison equal (path_or (variable (codes "r2")) ((codes "failed") ∷ []) (literal (boolean true))) (literal (boolean true))) (no_expressions))); attempts = None; ignore_errors = None }) (task_step (record { line = 14; work = (module_work (codes "command") (part (codes "cmd") (literal (text (codes "x"))) (no_parts))); condition = (no_expressions); loop = (Some (path_or (variable (codes "r3")) ((codes "stdout_lines") ∷ []) (list_of (no_expressions)))); register = (Some (codes "r1")); vars = (no_parts); notify = ([]); changed_when = None; failed_when = (Some (expression (comparison equal (path (variable (codes "r1")) ((codes "stderr") ∷ [])) (literal (int (pos 1)))) (no_expressions))); attempts = None; ignore_errors = None }) (no_steps)))) (no_steps) (task_step (record { line = 15; work = (debug_work (part (codes "msg") (comparison equal (path (variable (codes "ansible_hostname")) ([])) (path (other (named_host (codes "d")) (codes "s1")) ([]))) (no_parts))); condition = (expression (in_batch this_host) (no_expressions)); loop = None; register = None; vars = (no_parts); notify = ([]); changed_when = None; failed_when = None; attempts = None; ignore_errors = None }) (task_step (record { line = 16; work = (module_work (codes "ping") (no_parts)); condition = (no_expressions); loop = None; register = None; vars = (no_parts); notify = ([]); changed_when = None; failed_when = None; attempts = None; ignore_errors = None }) (no_steps))) (no_steps))) (task_step (record { line = 17; work = (module_work (codes "command") (part (codes "cmd") (literal (text (codes "x"))) (no_parts))); condition = (no_expressions); loop = None; register = None; vars = (no_parts); notify = ([]); changed_when = None; failed_when = None; attempts = (Some (record { until = (expression (literal (boolean true)) (no_expressions)); retries = 2 })); ignore_errors = None }) (task_step (record { line = 18; work = (fail_work (no_parts)); condition = (no_expressions); loop = None; register = (Some (codes "r1")); vars = (no_parts); notify = ([]); changed_when = None; failed_when = None; attempts = None; ignore_errors = None }) (task_step (record { line = 19; work = (module_work (codes "probe") (no_parts)); condition = (expression (negation (defined (other (named_host (codes "c")) (codes "r3")) ((codes "stderr") ∷ []))) (no_expressions)); loop = None; register = None; vars = (no_parts); notify = ([]); changed_when = None; failed_when = (Some (expression (literal (boolean true)) (no_expressions))); attempts = None; ignore_errors = None }) (no_steps)))) (no_steps)) (block_step (record { line = 20; condition = (no_expressions); vars = (no_parts); ignore_errors = None }) (task_step (record { line = 21; work = (module_work (codes "probe") (part (codes "l") (literal (text (codes "t"))) (no_parts))); condition = (no_expressions); loop = None; register = None; vars = (no_parts); notify = ([]); changed_when = None; failed_when = (Some (expression (literal (boolean false)) (no_expressions))); attempts = None; ignore_errors = None }) (task_step (record { line = 22; work = (module_work (codes "setup") (no_parts)); condition = (no_expressions); loop = None; register = (Some (codes "r2")); vars = (no_parts); notify = ([]); changed_when = None; failed_when = (Some (expression (literal (boolean false)) (no_expressions))); attempts = None; ignore_errors = None }) (task_step (record { line = 23; work = (module_work (codes "stat") (part (codes "path") (literal (text (codes "/"))) (no_parts))); condition = (no_expressions); loop = None; register = (Some (codes "r2")); vars = (no_parts); notify = ([]); changed_when = (Some (expression (path_status is_changed (variable (codes "r2")) ([])) (no_expressions))); failed_when = None; attempts = None; ignore_errors = None }) (no_steps)))) (no_steps) (no_steps) (no_steps))); tasks = (task_step (record { line = 24; work = (fail_work (part (codes "msg") (literal (text (codes "m"))) (no_parts))); condition = (no_expressions); loop = None; register = (Some (codes "r3")); vars = (no_parts); notify = ([]); changed_when = None; failed_when = None; attempts = None; ignore_errors = None }) (task_step (record { line = 25; work = (module_work (codes "ping") (no_parts)); condition = (no_expressions); loop = None; register = (Some (codes "r3")); vars = (part (codes "v1") (concatenation (expression (literal (text (codes "x"))) (expression (path (other (named_host (codes "a")) (codes "s1")) ((codes "f") ∷ [])) (no_expressions)))) (part (codes "v3") (path (variable (codes "r2")) ((codes "stat") ∷ [])) (no_parts))); notify = ([]); changed_when = (Some (expression (comparison equal (path_or (variable (codes "r3")) ((codes "ping") ∷ []) (literal (boolean true))) (literal (boolean true))) (no_expressions))); failed_when = None; attempts = None; ignore_errors = None }) (no_steps))); post_tasks = (no_steps); handlers = ([]); forces = false } ∷ [])

abbrev random_002271_run_inventory : Inventory
random_002271_run_inventory = record { hosts = (record { name = (codes "a"); variables = (field (codes "s1") (list (no_items)) (no_fields)) } ∷ record { name = (codes "b"); variables = (field (codes "s1") (boolean true) (no_fields)) } ∷ record { name = (codes "c"); variables = (field (codes "i1") (boolean false) (field (codes "i2") null (field (codes "s1") (list (no_items)) (no_fields)))) } ∷ record { name = (codes "d"); variables = (field (codes "s1") (list (no_items)) (no_fields)) } ∷ []); groups = (record { name = (codes "all"); hosts = ((codes "a") ∷ (codes "b") ∷ (codes "c") ∷ (codes "d") ∷ []) } ∷ record { name = (codes "g1"); hosts = ((codes "a") ∷ (codes "b") ∷ (codes "c") ∷ (codes "d") ∷ []) } ∷ record { name = (codes "g2"); hosts = ((codes "a") ∷ (codes "c") ∷ (codes "d") ∷ []) } ∷ record { name = (codes "ungrouped"); hosts = ([]) } ∷ []) }

abbrev random_002271_run_registry : Registry
random_002271_run_registry = (builtins ++ (record { name = (codes "probe"); params = (record { name = (codes "n"); kind = ints; required = false } ∷ record { name = (codes "l"); kind = (lists texts 3); required = false } ∷ []); ok = recs (slot (codes "changed") true booleans (slot (codes "deep") false (recs (slot (codes "a") true texts (slot (codes "b") false booleans (no_slots)))) (slot (codes "rows") true (lists texts 2) (slot (codes "v") false ints (no_slots))))); failure = recs (slot (codes "changed") true booleans (slot (codes "msg") true texts (slot (codes "v") false texts (slot (codes "why") true ints (no_slots))))); free = None } ∷ record { name = (codes "odd"); params = ([]); ok = recs (slot (codes "changed") true booleans (slot (codes "msg") false ints (no_slots))); failure = recs (slot (codes "changed") true booleans (slot (codes "msg") true texts (no_slots))); free = None } ∷ []))

random_002271_run : recaps_of random_002271_run_registry random_002271_run_inventory random_002271_run_book 1 ((object (rec (field (codes "ansible_facts") (rec (field (codes "ansible_distribution") (text (codes "b")) (field (codes "ansible_hostname") (text (codes "d")) (field (codes "ansible_os_family") (text (codes "a")) (field (codes "ansible_system") (text (codes "x")) (no_fields)))))) (field (codes "changed") (boolean true) (no_fields)))) ∷ object (rec (field (codes "changed") (boolean true) (field (codes "ping") (text (123 ∷ 123 ∷ 32 ∷ 120 ∷ 32 ∷ 125 ∷ 125 ∷ [])) (no_fields)))) ∷ object (rec (field (codes "changed") (boolean true) (field (codes "stat") (rec (field (codes "exists") (boolean true) (field (codes "mode") (text (codes "c")) (no_fields)))) (no_fields)))) ∷ object (rec (field (codes "changed") (boolean false) (field (codes "ping") (text (codes "b")) (no_fields)))) ∷ object (rec (field (codes "changed") opaque (no_fields))) ∷ []) ∷ (object (rec (field (codes "ansible_facts") (rec (field (codes "ansible_distribution") (text ([])) (field (codes "ansible_hostname") (text (codes "d")) (field (codes "ansible_memtotal_mb") (int (pos 2)) (field (codes "ansible_processor_vcpus") (int (pos 1)) (field (codes "ansible_system") (text (codes "b")) (no_fields))))))) (field (codes "changed") (boolean false) (no_fields)))) ∷ object (rec (field (codes "changed") (boolean false) (field (codes "ping") (text (123 ∷ 123 ∷ 32 ∷ 120 ∷ 32 ∷ 125 ∷ 125 ∷ [])) (no_fields)))) ∷ object (rec (field (codes "changed") (boolean false) (field (codes "failed") (boolean true) (field (codes "msg") (text (codes "x")) (no_fields))))) ∷ object (rec (field (codes "changed") (boolean false) (field (codes "ping") (text (codes "c")) (no_fields)))) ∷ object (rec (field (codes "changed") (boolean false) (field (codes "failed") (boolean true) (field (codes "msg") (text (codes "b")) (field (codes "rc") (int (pos 2)) (field (codes "stderr") (text (codes "a")) (field (codes "stderr_lines") (list (item (text (codes "c")) (item (text (codes "a")) (item (text ([])) (no_items))))) (field (codes "stdout") (text (codes "x")) (field (codes "stdout_lines") (list (item (text (codes "b")) (no_items))) (no_fields)))))))))) ∷ []) ∷ (object (rec (field (codes "ansible_facts") (rec (field (codes "ansible_hostname") (text (codes "x")) (field (codes "ansible_os_family") (text (codes "b")) (field (codes "ansible_system") (text (codes "b")) (no_fields))))) (field (codes "changed") (boolean false) (no_fields)))) ∷ object (rec (field (codes "changed") (boolean true) (field (codes "failed") (boolean true) (field (codes "msg") (text (codes "x")) (no_fields))))) ∷ object (rec (field (codes "changed") (boolean false) (field (codes "failed") (boolean true) (field (codes "msg") (text (codes "c")) (field (codes "rc") (int (negsuc 6)) (field (codes "stderr") (text (codes "a")) (field (codes "stderr_lines") (list (item (text (codes "c")) (no_items))) (field (codes "stdout") (text (codes "a")) (field (codes "stdout_lines") (list (item (text (codes "x")) (no_items))) (no_fields)))))))))) ∷ object (rec (field (codes "changed") (boolean false) (field (codes "rows") (list (item (text (codes "c")) (no_items))) (field (codes "v") (int (pos 0)) (no_fields))))) ∷ object (rec (field (codes "changed") (boolean false) (field (codes "stat") (rec (field (codes "exists") (boolean false) (no_fields))) (no_fields)))) ∷ object (rec (field (codes "changed") (boolean false) (field (codes "ping") (text (codes "b")) (no_fields)))) ∷ object (rec (field (codes "changed") (boolean true) (field (codes "failed") (boolean true) (field (codes "msg") (text (codes "x")) (field (codes "rc") (int (negsuc 6)) (field (codes "stderr") (text ([])) (field (codes "stderr_lines") (list (item (text ([])) (item (text (codes "d")) (item (text (codes "b")) (no_items))))) (field (codes "stdout") (text (codes "a")) (field (codes "stdout_lines") (list (item (text ([])) (item (text (codes "a")) (item (text (codes "b")) (no_items))))) (no_fields)))))))))) ∷ []) ∷ (object (rec (field (codes "ansible_facts") (rec (field (codes "ansible_hostname") (text (codes "a")) (field (codes "ansible_os_family") (text (codes "b")) (field (codes "ansible_processor_vcpus") (int (pos 0)) (field (codes "ansible_system") (text (codes "a")) (no_fields)))))) (field (codes "changed") (boolean false) (no_fields)))) ∷ object (rec (field (codes "changed") (boolean true) (field (codes "ping") (text (codes "a")) (no_fields)))) ∷ object (rec (field (codes "changed") (boolean true) (field (codes "stat") (rec (field (codes "exists") (boolean false) (field (codes "isdir") (boolean true) (field (codes "isreg") (boolean true) (field (codes "mode") (text (codes "d")) (no_fields)))))) (no_fields)))) ∷ object (rec (field (codes "changed") (boolean true) (field (codes "ping") (text (codes "c")) (no_fields)))) ∷ object (rec (field (codes "changed") (boolean true) (field (codes "rc") (int (pos 1)) (field (codes "stderr") (text (codes "a")) (field (codes "stderr_lines") (list (item (text (codes "a")) (item (text (codes "a")) (item (text (codes "a")) (no_items))))) (field (codes "stdout") (text (codes "c")) (field (codes "stdout_lines") (list (item (text (codes "x")) (item (text (codes "c")) (no_items)))) (no_fields)))))))) ∷ []) ∷ []) ≡ (record { ok = 4; changed = 3; unreachable = 0; failed = 1; skipped = 0; rescued = 0; ignored = 0 } ∷ record { ok = 2; changed = 0; unreachable = 0; failed = 2; skipped = 0; rescued = 1; ignored = 0 } ∷ record { ok = 5; changed = 0; unreachable = 0; failed = 1; skipped = 0; rescued = 1; ignored = 1 } ∷ record { ok = 5; changed = 3; unreachable = 0; failed = 1; skipped = 0; rescued = 0; ignored = 0 } ∷ [])
unfolding digits
random_002271_run = refl

-- random_002280_run:
abbrev random_002280_run_book : Book
random_002280_run_book = (record { line = 1; pattern = ((codes "all") ∷ []); gathering = None; vars = (no_parts); is_linear = true; serial = (host_count 1 ∷ host_count 2 ∷ []); pre_tasks = (no_steps); tasks = (task_step (record { line = 2; work = (fail_work (part (codes "msg") (literal (text (codes "m"))) (no_parts))); condition = (expression (conjunction (expression (defined (variable (codes "s")) ([])) (expression (negation (path_status is_failed (variable (codes "s")) ([]))) (no_expressions)))) (no_expressions)); loop = None; register = None; vars = (no_parts); notify = ([]); changed_when = None; failed_when = None; attempts = None; ignore_errors = None }) (no_steps)); post_tasks = (task_step (record { line = 3; work = (fail_work (no_parts)); condition = (expression (conjunction (expression (defined (variable (codes "r")) ([])) (expression (negation (path_status is_failed (variable (codes "r")) ([]))) (no_expressions)))) (expression (defined (variable (codes "r")) ([])) (no_expressions))); loop = None; register = None; vars = (no_parts); notify = ([]); changed_when = None; failed_when = None; attempts = None; ignore_errors = None }) (task_step (record { line = 4; work = (module_work (codes "command") (part (codes "cmd") (literal (text (codes "x"))) (no_parts))); condition = (expression (defined (variable (codes "r")) ((codes "rc") ∷ [])) (expression (in_batch (named_host (codes "a"))) (no_expressions))); loop = None; register = None; vars = (no_parts); notify = ([]); changed_when = None; failed_when = None; attempts = None; ignore_errors = (Some true) }) (task_step (record { line = 5; work = (fail_work (part (codes "msg") (literal (text (codes "m"))) (no_parts))); condition = (expression (defined (variable (codes "r")) ([])) (expression (in_batch (named_host (codes "b"))) (no_expressions))); loop = None; register = (Some (codes "r")); vars = (no_parts); notify = ([]); changed_when = None; failed_when = None; attempts = None; ignore_errors = None }) (task_step (record { line = 6; work = (fail_work (part (codes "msg") (literal (text (codes "m"))) (no_parts))); condition = (no_expressions); loop = None; register = (Some (codes "r")); vars = (no_parts); notify = ([]); changed_when = None; failed_when = None; attempts = None; ignore_errors = None }) (no_steps))))); handlers = ([]); forces = true } ∷ [])

abbrev random_002280_run_inventory : Inventory
random_002280_run_inventory = record { hosts = (record { name = (codes "c"); variables = (field (codes "inv") (list (item (int (pos 1)) (item (int (pos 2)) (no_items)))) (no_fields)) } ∷ record { name = (codes "b"); variables = (field (codes "inv") (list (item (int (pos 1)) (item (int (pos 2)) (no_items)))) (field (codes "k") (rec (field (codes "z") opaque (no_fields))) (no_fields))) } ∷ record { name = (codes "a"); variables = (field (codes "inv") (list (item (text (codes "x")) (no_items))) (field (codes "opq") opaque (no_fields))) } ∷ []); groups = (record { name = (codes "all"); hosts = ((codes "c") ∷ (codes "b") ∷ (codes "a") ∷ []) } ∷ record { name = (codes "g"); hosts = ((codes "b") ∷ (codes "a") ∷ []) } ∷ record { name = (codes "ungrouped"); hosts = ((codes "c") ∷ []) } ∷ []) }

abbrev random_002280_run_registry : Registry
random_002280_run_registry = (builtins ++ ([]))

random_002280_run : recaps_of random_002280_run_registry random_002280_run_inventory random_002280_run_book 1 (([]) ∷ ([]) ∷ ([]) ∷ []) ≡ (record { ok = 0; changed = 0; unreachable = 0; failed = 1; skipped = 4; rescued = 0; ignored = 0 } ∷ record { ok = 0; changed = 0; unreachable = 0; failed = 0; skipped = 0; rescued = 0; ignored = 0 } ∷ record { ok = 0; changed = 0; unreachable = 0; failed = 0; skipped = 0; rescued = 0; ignored = 0 } ∷ [])
unfolding digits
random_002280_run = refl

-- random_002283_run:
abbrev random_002283_run_book : Book
random_002283_run_book = (record { line = 1; pattern = ((codes "all") ∷ []); gathering = None; vars = (no_parts); is_linear = false; serial = ([]); pre_tasks = (task_step (record { line = 2; work = (module_work (codes "probe") (no_parts)); condition = (no_expressions); loop = None; register = (Some (codes "r3")); vars = (no_parts); notify = ([]); changed_when = None; failed_when = None; attempts = None; ignore_errors = None }) (task_step (record { line = 3; work = (fail_work (no_parts)); condition = (no_expressions); loop = None; register = None; vars = (no_parts); notify = ([]); changed_when = None; failed_when = None; attempts = None; ignore_errors = None }) (task_step (record { line = 4; work = (module_work (codes "ping") (no_parts)); condition = (expression (path_status is_changed (variable (codes "r1")) ([])) (no_expressions)); loop = None; register = (Some (codes "r1")); vars = (no_parts); notify = ([]); changed_when = None; failed_when = None; attempts = None; ignore_errors = None }) (task_step (record { line = 5; work = (assert_work (conditions_are (expression (conjunction (expression (membership (literal (text (codes "g1"))) (path (variable (codes "group_names")) ([]))) (expression (negation (comparison equal (path (variable (codes "inventory_hostname")) ([])) (literal (text (codes "a"))))) (no_expressions)))) (no_expressions))) (no_parts)); condition = (no_expressions); loop = None; register = (Some (codes "r1")); vars = (no_parts); notify = ([]); changed_when = None; failed_when = None; attempts = None; ignore_errors = None }) (no_steps))))); tasks = (block_step (record { line = 6; condition = (expression (negation (defined (variable (codes "i2")) ([]))) (no_expressions)); vars = (part (codes "v2") (literal (int (negsuc 0))) (no_parts)); ignore_errors = None }) (task_step (record { line = 7; work = (module_work (codes "probe") (part (codes "n") (path (variable (codes "r1")) ((codes "skip_reason") ∷ [])) (no_parts))); condition = (expression (negation (path_status is_skipped (variable (codes "r1")) ([]))) (no_expressions)); loop = None; register = (Some (codes "r2")); vars = (no_parts); notify = ([]); changed_when = (Some (expression (comparison equal (path (variable (codes "r2")) ((codes "changed") ∷ [])) (literal (int (pos 1)))) (no_expressions))); failed_when = None; attempts = (Some (record { until = (expression (literal (boolean false)) (no_expressions)); retries = 1 })); ignore_errors = None }) (task_step (record { line = 8; work = (fail_work (no_parts)); condition = (no_expressions); loop = None; register = (Some (codes "r3")); vars = (no_parts); notify = ([]); changed_when = None; failed_when = None; attempts = None; ignore_errors = None }) (no_steps))) (task_step (record { line = 9; work = (debug_work (part (codes "msg") (path (variable (codes "ansible_facts")) ((codes "hostname") ∷ [])) (no_parts))); condition = (expression (negation (path_status is_failed (variable (codes "ansible_facts")) ([]))) (no_expressions)); loop = None; register = (Some (codes "r1")); vars = (no_parts); notify = ([]); changed_when = (Some (expression (comparison equal (path (variable (codes "inventory_hostname")) ([])) (literal (text (codes "a")))) (no_expressions))); failed_when = (Some (expression (path_status is_changed (variable (codes "r1")) ([])) (no_expressions))); attempts = None; ignore_errors = (Some true) }) (no_steps)) (block_step (record { line = 10; condition = (no_expressions); vars = (part (codes "v2") (list_of (no_expressions)) (no_parts)); ignore_errors = None }) (block_step (record { line = 11; condition = (no_expressions); vars = (no_parts); ignore_errors = None }) (task_step (record { line = 12; work = (debug_work (part (codes "msg") (path (variable (codes "r3")) ((codes "msg") ∷ [])) (no_parts))); condition = (expression (negation (path_status is_failed (variable (codes "r3")) ([]))) (no_expressions)); loop = (Some (path_or (variable (codes "r1")) ((codes "stdout_lines") ∷ []) (list_of (no_expressions)))); register = None; vars = (no_parts); notify = ([]); changed_when = None; failed_when = None; attempts = None; ignore_errors = (Some false) }) (task_step (record { line = 13; work = (module_work (codes "stat") (part (codes "path") (literal (text (codes "/"))) (no_parts))); condition = (no_expressions); loop = None; register = (Some (codes "r1")); vars = (no_parts); notify = ([]); changed_when = None; failed_when = None; attempts = None; ignore_errors = None }) (no_steps))) (no_steps) (task_step (record { line = 14; work = (set_fact_work (part (codes "s2") (literal (int (pos 1))) (no_parts))); condition = (no_expressions); loop = None; register = (Some (codes "r3")); vars = (no_parts); notify = ([]); changed_when = None; failed_when = None; attempts = None; ignore_errors = None }) (no_steps)) (task_step (record { line = 15; work = (module_work (codes "stat") (part (codes "path") (literal (text (codes "/"))) (no_parts))); condition = (expression (negation (comparison equal (path (variable (codes "s1")) ((codes "f") ∷ [])) (literal (int (pos 1))))) (no_expressions)); loop = None; register = None; vars = (no_parts); notify = ([]); changed_when = None; failed_when = None; attempts = None; ignore_errors = None }) (no_steps))) (task_step (record { line = 16; work = (module_work (codes "stat") (part (codes "path") (literal (text (codes "/"))) (no_parts))); condition = (expression (negation (defined (variable (codes "v2")) ((codes "stdout") ∷ []))) (no_expressions)); loop = None; register = (Some (codes "r1")); vars = (no_parts); notify = ([]); changed_when = None; failed_when = None; attempts = (Some (record { until = (expression (comparison equal (path (variable (codes "r1")) ((codes "stat") ∷ [])) (literal (text (codes "a")))) (no_expressions)); retries = 1 })); ignore_errors = None }) (task_step (record { line = 17; work = (module_work (codes "command") (part (codes "cmd") (literal (text (codes "x"))) (no_parts))); condition = (expression (negation (defined (other (named_host (codes "a")) (codes "r1")) ((codes "stat") ∷ (codes "size") ∷ []))) (no_expressions)); loop = None; register = None; vars = (part (codes "v1") (list_of (expression (path (other this_host (codes "i2")) ((codes "f") ∷ [])) (expression (literal (int (pos 1))) (no_expressions)))) (part (codes "v2") (path (variable (codes "ansible_hostname")) ([])) (no_parts))); notify = ([]); changed_when = None; failed_when = None; attempts = None; ignore_errors = (Some true) }) (no_steps))) (no_steps) (no_steps)) (task_step (record { line = 18; work = (module_work (codes "ping") (no_parts)); condition = (no_expressions); loop = None; register = None; vars = (no_parts); notify = ([]); changed_when = None; failed_when = None; attempts = None; ignore_errors = None }) (block_step (record { line = 19; condition = (no_expressions); vars = (no_parts); ignore_errors = None }) (task_step (record { line = 20; work = (module_work (codes "command") (part (codes "cmd") (concatenation (expression (literal (text (codes "x "))) (expression (length_of (path (other (named_host (codes "a")) (codes "i2")) ([]))) (no_expressions)))) (no_parts))); condition = (expression (conjunction (expression (conjunction (expression (defined (other (named_host (codes "a")) (codes "r1")) ((codes "stat") ∷ (codes "size") ∷ [])) (expression (negation (defined (variable (codes "r1")) ((codes "msg") ∷ []))) (no_expressions)))) (expression (path_status is_skipped (variable (codes "r1")) ([])) (no_expressions)))) (expression (in_batch (named_host (codes "a"))) (no_expressions))); loop = None; register = (Some (codes "r1")); vars = (no_parts); notify = ([]); changed_when = None; failed_when = None; attempts = None; ignore_errors = None }) (task_step (record { line = 21; work = (assert_work (conditions_are (expression (conjunction (expression (membership (literal (text (codes "g1"))) (path (variable (codes "group_names")) ([]))) (expression (negation (comparison equal (path (variable (codes "inventory_hostname")) ([])) (literal (text (codes "a"))))) (no_expressions)))) (no_expressions))) (no_parts)); condition = (no_expressions); loop = None; register = (Some (codes "r2")); vars = (no_parts); notify = ([]); changed_when = None; failed_when = None; attempts = None; ignore_errors = None }) (task_step (record { line = 22; work = (module_work (codes "ping") (no_parts)); condition = (no_expressions); loop = (Some (path_or (variable (codes "r3")) ((codes "stdout_lines") ∷ []) (list_of (no_expressions)))); register = (Some (codes "r2")); vars = (no_parts); notify = ([]); changed_when = None; failed_when = None; attempts = None; ignore_errors = None }) (no_steps)))) (task_step (record { line = 23; work = (module_work (codes "command") (part (codes "cmd") (literal (text (codes "x"))) (no_parts))); condition = (no_expressions); loop = None; register = None; vars = (no_parts); notify = ([]); changed_when = (Some (expression (literal (boolean false)) (no_expressions))); failed_when = None; attempts = None; ignore_errors = None }) (no_steps)) (task_step (record { line = 24; work = (fail_work (no_parts)); condition = (expression (negation (defined (variable (codes "s3")) ([]))) (no_expressions)); loop = None; register = None; vars = (part (codes "v1") (concatenation (expression (literal (text (codes "x"))) (expression (path_or (variable (codes "op")) ([]) (literal (int (pos 1)))) (no_expressions)))) (part (codes "v2") (path (variable (codes "groups")) ((codes "all") ∷ [])) (part (codes "v3") (comparison equal (path (variable (codes "i1")) ([])) (path (variable (codes "r2")) ((codes "ping") ∷ []))) (no_parts)))); notify = ([]); changed_when = None; failed_when = (Some (expression (literal (boolean false)) (no_expressions))); attempts = None; ignore_errors = None }) (no_steps)) (no_steps)))); post_tasks = (no_steps); handlers = ([]); forces = false } ∷ [])

abbrev random_002283_run_inventory : Inventory
random_002283_run_inventory = record { hosts = (record { name = (codes "a"); variables = (field (codes "i1") (rec (field (codes "f") (boolean false) (field (codes "g") (text (codes "b")) (no_fields)))) (field (codes "i2") (rec (field (codes "g") (list (item (text (codes "x")) (item (boolean true) (no_items)))) (no_fields))) (field (codes "op") opaque (field (codes "s1") (text ([])) (no_fields))))) } ∷ []); groups = (record { name = (codes "all"); hosts = ((codes "a") ∷ []) } ∷ record { name = (codes "g1"); hosts = ((codes "a") ∷ []) } ∷ record { name = (codes "g2"); hosts = ([]) } ∷ record { name = (codes "ungrouped"); hosts = ([]) } ∷ []) }

abbrev random_002283_run_registry : Registry
random_002283_run_registry = (builtins ++ (record { name = (codes "probe"); params = (record { name = (codes "n"); kind = ints; required = false } ∷ record { name = (codes "l"); kind = (lists texts 3); required = false } ∷ []); ok = recs (slot (codes "changed") true booleans (slot (codes "deep") false (recs (slot (codes "a") true texts (slot (codes "b") false booleans (no_slots)))) (slot (codes "rows") true (lists texts 2) (slot (codes "v") false ints (no_slots))))); failure = recs (slot (codes "changed") true booleans (slot (codes "msg") true texts (slot (codes "v") false texts (slot (codes "why") true ints (no_slots))))); free = None } ∷ record { name = (codes "odd"); params = ([]); ok = recs (slot (codes "changed") true booleans (slot (codes "msg") false ints (no_slots))); failure = recs (slot (codes "changed") true booleans (slot (codes "msg") true texts (no_slots))); free = None } ∷ []))

random_002283_run : recaps_of random_002283_run_registry random_002283_run_inventory random_002283_run_book 1 ((object (rec (field (codes "changed") (boolean false) (field (codes "rows") (list (item (text (codes "a")) (item (text (codes "b")) (no_items)))) (field (codes "v") (int (negsuc 6)) (no_fields))))) ∷ []) ∷ []) ≡ (record { ok = 1; changed = 0; unreachable = 0; failed = 1; skipped = 0; rescued = 0; ignored = 0 } ∷ [])
unfolding digits
random_002283_run = refl

-- random_002285_run:
abbrev random_002285_run_book : Book
random_002285_run_book = (record { line = 1; pattern = ((codes "b") ∷ (codes "all") ∷ []); gathering = None; vars = (no_parts); is_linear = false; serial = (host_count 1 ∷ []); pre_tasks = (no_steps); tasks = (task_step (record { line = 2; work = (module_work (codes "command") (part (codes "cmd") (literal (text (codes "x"))) (no_parts))); condition = (expression (in_batch item_host) (no_expressions)); loop = (Some (path (variable (codes "ansible_play_batch")) ([]))); register = None; vars = (no_parts); notify = ([]); changed_when = None; failed_when = None; attempts = None; ignore_errors = None }) (task_step (record { line = 3; work = (set_fact_work (part (codes "s2") (record_of (part (codes "f") (literal (int (pos 1))) (no_parts))) (no_parts))); condition = (no_expressions); loop = None; register = None; vars = (no_parts); notify = ((codes "h0") ∷ []); changed_when = None; failed_when = None; attempts = None; ignore_errors = (Some true) }) (task_step (record { line = 4; work = (module_work (codes "setup") (no_parts)); condition = (no_expressions); loop = None; register = (Some (codes "r2")); vars = (no_parts); notify = ([]); changed_when = None; failed_when = None; attempts = None; ignore_errors = (Some true) }) (task_step (record { line = 5; work = (set_fact_work (part (codes "s1") (record_of (part (codes "f") (path (other (named_host (codes "c")) (codes "r1")) ((codes "changed") ∷ [])) (part (codes "rc") (literal (int (pos 1))) (no_parts)))) (no_parts))); condition = (expression (negation (defined (variable (codes "r2")) ((codes "ansible_facts") ∷ (codes "ansible_hostname") ∷ []))) (expression (defined (other (named_host (codes "c")) (codes "r1")) ([])) (expression (defined (other (named_host (codes "c")) (codes "r1")) ((codes "changed") ∷ [])) (no_expressions)))); loop = None; register = (Some (codes "r2")); vars = (part (codes "v1") (path (variable (codes "op")) ([])) (part (codes "v2") (path (variable (codes "ansible_hostname")) ([])) (part (codes "v3") (comparison equal (path (variable (codes "ansible_facts")) ((codes "hostname") ∷ [])) (path (other (named_host (codes "a")) (codes "r2")) ((codes "ansible_facts") ∷ (codes "ansible_os_family") ∷ []))) (no_parts)))); notify = ([]); changed_when = None; failed_when = None; attempts = None; ignore_errors = None }) (no_steps))))); post_tasks = (task_step (record { line = 6; work = (fail_work (no_parts)); condition = (no_expressions); loop = None; register = (Some (codes "r1")); vars = (part (codes "v1") (list_of (expression (path (variable (codes "r1")) ((codes "failed") ∷ [])) (expression (path (variable (codes "r1")) ((codes "failed") ∷ [])) (no_expressions)))) (part (codes "v3") (concatenation (expression (literal (text (codes "x"))) (expression (comparison equal (path (variable (codes "i1")) ((codes "f") ∷ [])) (path (variable (codes "i2")) ((codes "changed") ∷ []))) (no_expressions)))) (no_parts))); notify = ([]); changed_when = None; failed_when = None; attempts = None; ignore_errors = None }) (task_step (record { line = 7; work = (module_work (codes "stat") (part (codes "path") (literal (text (codes "/"))) (no_parts))); condition = (expression (negation (in_batch (named_host (codes "a")))) (no_expressions)); loop = None; register = (Some (codes "r1")); vars = (no_parts); notify = ([]); changed_when = None; failed_when = None; attempts = None; ignore_errors = None }) (block_step (record { line = 8; condition = (no_expressions); vars = (no_parts); ignore_errors = (Some true) }) (task_step (record { line = 9; work = (debug_work (part (codes "msg") (literal null) (no_parts))); condition = (no_expressions); loop = None; register = (Some (codes "r1")); vars = (no_parts); notify = ([]); changed_when = None; failed_when = None; attempts = None; ignore_errors = None }) (no_steps)) (no_steps) (block_step (record { line = 10; condition = (no_expressions); vars = (no_parts); ignore_errors = None }) (task_step (record { line = 11; work = (module_work (codes "command") (part (codes "cmd") (literal (text (codes "x"))) (no_parts))); condition = (expression (negation (path_status is_skipped (variable (codes "r2")) ([]))) (expression (in_batch item_host) (no_expressions))); loop = (Some (path (variable (codes "ansible_play_batch")) ([]))); register = (Some (codes "r2")); vars = (no_parts); notify = ((codes "h2") ∷ []); changed_when = (Some (expression (literal (boolean true)) (no_expressions))); failed_when = None; attempts = None; ignore_errors = None }) (task_step (record { line = 12; work = (module_work (codes "setup") (no_parts)); condition = (expression (path_status is_skipped (variable (codes "r1")) ([])) (no_expressions)); loop = None; register = None; vars = (no_parts); notify = ([]); changed_when = None; failed_when = None; attempts = (Some (record { until = (expression (literal (boolean true)) (no_expressions)); retries = 2 })); ignore_errors = None }) (task_step (record { line = 13; work = (debug_work (part (codes "msg") (comparison equal (path (other (named_host (codes "b")) (codes "r1")) ((codes "changed") ∷ [])) (path (variable (codes "r1")) ((codes "failed") ∷ []))) (no_parts))); condition = (no_expressions); loop = None; register = (Some (codes "r2")); vars = (part (codes "v1") (path (variable (codes "groups")) ((codes "all") ∷ [])) (part (codes "v3") (path (variable (codes "ansible_os_family")) ([])) (no_parts))); notify = ([]); changed_when = None; failed_when = None; attempts = None; ignore_errors = None }) (no_steps)))) (task_step (record { line = 14; work = (module_work (codes "command") (part (codes "cmd") (literal (text (codes "x"))) (no_parts))); condition = (no_expressions); loop = (Some (path (variable (codes "s1")) ([]))); register = (Some (codes "r3")); vars = (no_parts); notify = ((codes "t") ∷ []); changed_when = None; failed_when = None; attempts = None; ignore_errors = (Some false) }) (no_steps)) (no_steps) (task_step (record { line = 15; work = (module_work (codes "command") (part (codes "cmd") (concatenation (expression (literal (text (codes "x "))) (expression (comparison equal (path (variable (codes "op")) ((codes "changed") ∷ [])) (path (variable (codes "s2")) ([]))) (no_expressions)))) (no_parts))); condition = (no_expressions); loop = None; register = None; vars = (no_parts); notify = ((codes "h0") ∷ []); changed_when = (Some (expression (literal (boolean true)) (no_expressions))); failed_when = None; attempts = None; ignore_errors = None }) (task_step (record { line = 16; work = (module_work (codes "command") (part (codes "cmd") (literal (text (codes "x"))) (no_parts))); condition = (no_expressions); loop = None; register = None; vars = (no_parts); notify = ((codes "t") ∷ []); changed_when = None; failed_when = (Some (expression (literal (boolean false)) (no_expressions))); attempts = None; ignore_errors = None }) (no_steps)))) (no_steps)))); handlers = (record { work = (record { line = 17; work = (module_work (codes "ping") (no_parts)); condition = (no_expressions); loop = None; register = None; vars = (no_parts); notify = ((codes "h2") ∷ []); changed_when = (Some (expression (literal (boolean false)) (no_expressions))); failed_when = None; attempts = None; ignore_errors = None }); name = (Some (codes "h0")); topics = ([]) } ∷ record { work = (record { line = 18; work = (debug_work (part (codes "msg") (literal (text (codes "x"))) (no_parts))); condition = (no_expressions); loop = None; register = None; vars = (no_parts); notify = ((codes "h2") ∷ []); changed_when = None; failed_when = None; attempts = None; ignore_errors = None }); name = (Some (codes "h1")); topics = ([]) } ∷ record { work = (record { line = 19; work = (module_work (codes "setup") (no_parts)); condition = (no_expressions); loop = None; register = (Some (codes "r1")); vars = (no_parts); notify = ([]); changed_when = None; failed_when = None; attempts = None; ignore_errors = None }); name = (Some (codes "h2")); topics = ((codes "t") ∷ []) } ∷ []); forces = true } ∷ [])

abbrev random_002285_run_inventory : Inventory
random_002285_run_inventory = record { hosts = (record { name = (codes "a"); variables = (no_fields) } ∷ record { name = (codes "b"); variables = (field (codes "i1") (list (item (boolean false) (item (int (pos 1)) (no_items)))) (field (codes "op") opaque (field (codes "s1") (rec (field (codes "f") (text (codes "b")) (no_fields))) (no_fields)))) } ∷ record { name = (codes "c"); variables = (field (codes "i1") (list (item (boolean false) (item (int (pos 1)) (no_items)))) (field (codes "op") opaque (field (codes "s1") (text (codes "t")) (no_fields)))) } ∷ []); groups = (record { name = (codes "all"); hosts = ((codes "a") ∷ (codes "b") ∷ (codes "c") ∷ []) } ∷ record { name = (codes "g1"); hosts = ((codes "b") ∷ (codes "c") ∷ []) } ∷ record { name = (codes "g2"); hosts = ((codes "b") ∷ (codes "c") ∷ []) } ∷ record { name = (codes "ungrouped"); hosts = ((codes "a") ∷ []) } ∷ []) }

abbrev random_002285_run_registry : Registry
random_002285_run_registry = (builtins ++ (record { name = (codes "probe"); params = (record { name = (codes "n"); kind = ints; required = false } ∷ record { name = (codes "l"); kind = (lists texts 3); required = false } ∷ []); ok = recs (slot (codes "changed") true booleans (slot (codes "deep") false (recs (slot (codes "a") true texts (slot (codes "b") false booleans (no_slots)))) (slot (codes "rows") true (lists texts 2) (slot (codes "v") false ints (no_slots))))); failure = recs (slot (codes "changed") true booleans (slot (codes "msg") true texts (slot (codes "v") false texts (slot (codes "why") true ints (no_slots))))); free = None } ∷ record { name = (codes "odd"); params = ([]); ok = recs (slot (codes "changed") true booleans (slot (codes "msg") false ints (no_slots))); failure = recs (slot (codes "changed") true booleans (slot (codes "msg") true texts (no_slots))); free = None } ∷ []))

random_002285_run : recaps_of random_002285_run_registry random_002285_run_inventory random_002285_run_book 1 (([]) ∷ (object (rec (field (codes "changed") (boolean false) (field (codes "rc") (int (negsuc 6)) (field (codes "stderr") (text (codes "a")) (field (codes "stderr_lines") (list (no_items)) (field (codes "stdout") (text (123 ∷ 123 ∷ 32 ∷ 120 ∷ 32 ∷ 125 ∷ 125 ∷ [])) (field (codes "stdout_lines") (list (item (text (codes "a")) (item (text (codes "c")) (no_items)))) (no_fields)))))))) ∷ object (rec (field (codes "changed") (boolean false) (field (codes "failed") (boolean true) (field (codes "msg") (text (codes "b")) (no_fields))))) ∷ []) ∷ ([]) ∷ []) ≡ (record { ok = 0; changed = 0; unreachable = 0; failed = 0; skipped = 0; rescued = 0; ignored = 0 } ∷ record { ok = 3; changed = 0; unreachable = 0; failed = 1; skipped = 1; rescued = 0; ignored = 1 } ∷ record { ok = 0; changed = 0; unreachable = 0; failed = 0; skipped = 0; rescued = 0; ignored = 0 } ∷ [])
unfolding digits
random_002285_run = refl

-- random_002301_run:
abbrev random_002301_run_book : Book
random_002301_run_book = (record { line = 1; pattern = ((codes "b") ∷ (codes "all") ∷ []); gathering = None; vars = (no_parts); is_linear = true; serial = ([]); pre_tasks = (task_step (record { line = 2; work = (set_fact_work (part (codes "s2") (path (variable (codes "r1")) ((codes "failed") ∷ [])) (no_parts))); condition = (expression (defined (variable (codes "r1")) ((codes "failed") ∷ [])) (no_expressions)); loop = None; register = (Some (codes "r3")); vars = (no_parts); notify = ([]); changed_when = (Some (expression (comparison equal (path (variable (codes "r3")) ((codes "changed") ∷ [])) (literal (int (pos 1)))) (no_expressions))); failed_when = None; attempts = None; ignore_errors = (Some true) }) (task_step (record { line = 3; work = (module_work (codes "command") (part (codes "cmd") (literal (text (codes "x"))) (no_parts))); condition = (no_expressions); loop = None; register = (Some (codes "r1")); vars = (no_parts); notify = ([]); changed_when = None; failed_when = None; attempts = None; ignore_errors = None }) (task_step (record { line = 4; work = (module_work (codes "setup") (no_parts)); condition = (no_expressions); loop = None; register = None; vars = (no_parts); notify = ([]); changed_when = (Some (expression (literal (boolean false)) (no_expressions))); failed_when = None; attempts = None; ignore_errors = None }) (task_step (record { line = 5; work = (module_work (codes "probe") (no_parts)); condition = (no_expressions); loop = None; register = None; vars = (no_parts); notify = ([]); changed_when = None; failed_when = None; attempts = None; ignore_errors = None }) (no_steps))))); tasks = (task_step (record { line = 6; work = (module_work (codes "setup") (no_parts)); condition = (no_expressions); loop = None; register = (Some (codes "r2")); vars = (no_parts); notify = ([]); changed_when = (Some (expression (path_status is_failed (variable (codes "r2")) ([])) (no_expressions))); failed_when = (Some (expression (comparison equal (path (variable (codes "r2")) ((codes "changed") ∷ [])) (literal (int (pos 1)))) (no_expressions))); attempts = None; ignore_errors = None }) (task_step (record { line = 7; work = (module_work (codes "command") (part (codes "cmd") (literal (text (codes "x"))) (no_parts))); condition = (expression (defined (variable (codes "op")) ([])) (no_expressions)); loop = None; register = (Some (codes "r2")); vars = (no_parts); notify = ([]); changed_when = None; failed_when = None; attempts = None; ignore_errors = (Some true) }) (flush_step 8 (flush_step 9 (no_steps))))); post_tasks = (no_steps); handlers = ([]); forces = true } ∷ [])

abbrev random_002301_run_inventory : Inventory
random_002301_run_inventory = record { hosts = (record { name = (codes "a"); variables = (field (codes "i1") (boolean true) (field (codes "i2") (text (codes "a")) (field (codes "op") opaque (field (codes "s1") (text (codes "x")) (no_fields))))) } ∷ record { name = (codes "b"); variables = (field (codes "i1") (text (codes "no")) (field (codes "i2") (text (codes "a")) (field (codes "op") opaque (field (codes "s1") (text (codes "no")) (no_fields))))) } ∷ record { name = (codes "c"); variables = (field (codes "i2") (text (codes "a")) (field (codes "op") opaque (field (codes "s1") (list (item (boolean true) (item (int (pos 2)) (no_items)))) (no_fields)))) } ∷ []); groups = (record { name = (codes "all"); hosts = ((codes "a") ∷ (codes "b") ∷ (codes "c") ∷ []) } ∷ record { name = (codes "g1"); hosts = ((codes "a") ∷ (codes "b") ∷ (codes "c") ∷ []) } ∷ record { name = (codes "ungrouped"); hosts = ([]) } ∷ []) }

abbrev random_002301_run_registry : Registry
random_002301_run_registry = (builtins ++ (record { name = (codes "probe"); params = (record { name = (codes "n"); kind = ints; required = false } ∷ record { name = (codes "l"); kind = (lists texts 3); required = false } ∷ []); ok = recs (slot (codes "changed") true booleans (slot (codes "deep") false (recs (slot (codes "a") true texts (slot (codes "b") false booleans (no_slots)))) (slot (codes "rows") true (lists texts 2) (slot (codes "v") false ints (no_slots))))); failure = recs (slot (codes "changed") true booleans (slot (codes "msg") true texts (slot (codes "v") false texts (slot (codes "why") true ints (no_slots))))); free = None } ∷ record { name = (codes "odd"); params = ([]); ok = recs (slot (codes "changed") true booleans (slot (codes "msg") false ints (no_slots))); failure = recs (slot (codes "changed") true booleans (slot (codes "msg") true texts (no_slots))); free = None } ∷ []))

random_002301_run : recaps_of random_002301_run_registry random_002301_run_inventory random_002301_run_book 1 ((object (rec (field (codes "changed") (boolean false) (field (codes "extra") (rec (field (codes "a") (int (pos 1)) (no_fields))) (field (codes "rc") (int (pos 1)) (field (codes "stderr") (text (codes "a")) (field (codes "stderr_lines") (list (no_items)) (field (codes "stdout") (text (codes "x")) (field (codes "stdout_lines") (list (item (text (codes "b")) (no_items))) (no_fields))))))))) ∷ object (rec (field (codes "ansible_facts") (rec (field (codes "ansible_distribution") (text (codes "b")) (field (codes "ansible_hostname") (text (codes "c")) (field (codes "ansible_os_family") (text (codes "a")) (field (codes "ansible_processor_vcpus") (int (pos 0)) (field (codes "ansible_system") (text (codes "a")) (no_fields))))))) (field (codes "changed") (boolean true) (no_fields)))) ∷ object (rec (field (codes "changed") (boolean false) (field (codes "deep") (rec (field (codes "a") (text (codes "a")) (no_fields))) (field (codes "rows") (list (item (text (123 ∷ 123 ∷ 32 ∷ 120 ∷ 32 ∷ 125 ∷ 125 ∷ [])) (no_items))) (no_fields))))) ∷ object (rec (field (codes "ansible_facts") (rec (field (codes "ansible_distribution") (text (codes "a")) (field (codes "ansible_hostname") (text (codes "x")) (field (codes "ansible_memtotal_mb") (int (pos 2)) (field (codes "ansible_os_family") (text (codes "a")) (field (codes "ansible_processor_vcpus") (int (negsuc 6)) (field (codes "ansible_system") (text (codes "b")) (no_fields)))))))) (field (codes "changed") (boolean true) (no_fields)))) ∷ object (rec (field (codes "changed") (boolean false) (field (codes "failed") (boolean true) (field (codes "msg") (text (codes "b")) (field (codes "rc") (int (pos 0)) (field (codes "stderr") (text (codes "b")) (field (codes "stderr_lines") (list (item (text (codes "b")) (item (text (123 ∷ 123 ∷ 32 ∷ 120 ∷ 32 ∷ 125 ∷ 125 ∷ [])) (no_items)))) (field (codes "stdout") (text (codes "c")) (field (codes "stdout_lines") (list (no_items)) (no_fields)))))))))) ∷ []) ∷ (object (rec (field (codes "changed") (boolean false) (field (codes "failed") (boolean true) (field (codes "msg") (text (codes "c")) (field (codes "rc") (int (pos 2)) (field (codes "stderr") (text ([])) (field (codes "stderr_lines") (list (no_items)) (field (codes "stdout") (text ([])) (field (codes "stdout_lines") (list (item (text (codes "a")) (no_items))) (no_fields)))))))))) ∷ []) ∷ (object (rec (field (codes "changed") (boolean false) (field (codes "rc") (int (pos 2)) (field (codes "stderr") (text (codes "c")) (field (codes "stderr_lines") (list (item (text (123 ∷ 123 ∷ 32 ∷ 120 ∷ 32 ∷ 125 ∷ 125 ∷ [])) (no_items))) (field (codes "stdout") (text ([])) (field (codes "stdout_lines") (list (item (text (123 ∷ 123 ∷ 32 ∷ 120 ∷ 32 ∷ 125 ∷ 125 ∷ [])) (item (text (codes "a")) (item (text (codes "c")) (no_items))))) (no_fields)))))))) ∷ object (rec (field (codes "changed") (boolean true) (field (codes "failed") (boolean true) (field (codes "msg") (text (codes "b")) (no_fields))))) ∷ []) ∷ []) ≡ (record { ok = 5; changed = 0; unreachable = 0; failed = 0; skipped = 1; rescued = 0; ignored = 1 } ∷ record { ok = 0; changed = 0; unreachable = 0; failed = 1; skipped = 1; rescued = 0; ignored = 0 } ∷ record { ok = 1; changed = 0; unreachable = 0; failed = 1; skipped = 1; rescued = 0; ignored = 0 } ∷ [])
unfolding digits
random_002301_run = refl

-- random_002304:
abbrev random_002304_book : Book
random_002304_book = (record { line = 1; pattern = ((codes "g") ∷ []); gathering = None; vars = (no_parts); is_linear = false; serial = (percentage 50 ∷ []); pre_tasks = (no_steps); tasks = (task_step (record { line = 2; work = (debug_work (part (codes "msg") (path (other (named_host (codes "b")) (codes "y")) ([])) (no_parts))); condition = (expression (defined (other (named_host (codes "a")) (codes "r")) ((codes "rc") ∷ [])) (no_expressions)); loop = None; register = (Some (codes "r")); vars = (no_parts); notify = ([]); changed_when = None; failed_when = None; attempts = None; ignore_errors = None }) (task_step (record { line = 3; work = (module_work (codes "command") (part (codes "cmd") (literal (text (codes "x"))) (no_parts))); condition = (expression (defined (variable (codes "r")) ((codes "rc") ∷ [])) (no_expressions)); loop = None; register = None; vars = (no_parts); notify = ([]); changed_when = None; failed_when = None; attempts = (Some (record { until = (expression (literal (boolean false)) (no_expressions)); retries = 1 })); ignore_errors = None }) (no_steps))); post_tasks = (no_steps); handlers = (record { work = (record { line = 4; work = (module_work (codes "command") (part (codes "cmd") (literal (int (pos 1))) (no_parts))); condition = (no_expressions); loop = None; register = (Some (codes "r")); vars = (no_parts); notify = ([]); changed_when = None; failed_when = None; attempts = None; ignore_errors = None }); name = (Some (codes "h0")); topics = ([]) } ∷ record { work = (record { line = 5; work = (module_work (codes "command") (part (codes "cmd") (path_status is_changed (variable (codes "group_names")) ((codes "stdout") ∷ [])) (no_parts))); condition = (no_expressions); loop = None; register = None; vars = (no_parts); notify = ([]); changed_when = None; failed_when = None; attempts = None; ignore_errors = None }); name = (Some (codes "h1")); topics = ([]) } ∷ []); forces = false } ∷ record { line = 6; pattern = ((codes "all") ∷ []); gathering = None; vars = (part (codes "v1") (literal (text (codes "a"))) (no_parts)); is_linear = false; serial = (host_count 1 ∷ host_count 2 ∷ []); pre_tasks = (task_step (record { line = 7; work = (module_work (codes "command") (part (codes "cmd") (length_of (path (variable (codes "y")) ([]))) (no_parts))); condition = (no_expressions); loop = None; register = None; vars = (part (codes "v1") (path (variable (codes "opq")) ((codes "k") ∷ [])) (no_parts)); notify = ([]); changed_when = None; failed_when = None; attempts = None; ignore_errors = None }) (task_step (record { line = 8; work = (debug_work (part (codes "msg") (record_of (part (codes "k") (path (variable (codes "r")) ((codes "rc") ∷ [])) (no_parts))) (no_parts))); condition = (no_expressions); loop = None; register = (Some (codes "r")); vars = (no_parts); notify = ([]); changed_when = (Some (expression (literal (boolean true)) (no_expressions))); failed_when = None; attempts = None; ignore_errors = None }) (task_step (record { line = 9; work = (module_work (codes "stat") (part (codes "path") (literal (text (codes "p"))) (no_parts))); condition = (no_expressions); loop = (Some (path (variable (codes "r")) ((codes "results") ∷ []))); register = None; vars = (no_parts); notify = ([]); changed_when = None; failed_when = None; attempts = None; ignore_errors = None }) (no_steps)))); tasks = (block_step (record { line = 10; condition = (no_expressions); vars = (no_parts); ignore_errors = (Some true) }) (no_steps) (task_step (record { line = 11; work = (module_work (codes "ping") (no_parts)); condition = (expression (conjunction (expression (defined (variable (codes "s")) ([])) (expression (negation (path_status is_failed (variable (codes "s")) ([]))) (no_expressions)))) (no_expressions)); loop = None; register = (Some (codes "r")); vars = (no_parts); notify = ([]); changed_when = None; failed_when = None; attempts = None; ignore_errors = (Some false) }) (block_step (record { line = 12; condition = (no_expressions); vars = (no_parts); ignore_errors = None }) (task_step (record { line = 13; work = (set_fact_work (part (codes "y") (literal (text (codes "a"))) (no_parts))); condition = (no_expressions); loop = (Some (list_of (expression (literal (int (pos 1))) (expression (literal (int (pos 2))) (no_expressions))))); register = (Some (codes "s")); vars = (no_parts); notify = ([]); changed_when = (Some (expression (literal (boolean false)) (no_expressions))); failed_when = None; attempts = None; ignore_errors = None }) (task_step (record { line = 14; work = (module_work (codes "setup") (no_parts)); condition = (expression (defined (other (named_host (codes "b")) (codes "y")) ([])) (expression (defined (other item_host (codes "y")) ([])) (no_expressions))); loop = (Some (list_of (expression (literal (int (pos 1))) (expression (literal (int (pos 2))) (no_expressions))))); register = (Some (codes "r")); vars = (no_parts); notify = ([]); changed_when = None; failed_when = None; attempts = None; ignore_errors = None }) (no_steps))) (task_step (record { line = 15; work = (fail_work (part (codes "msg") (literal (text (codes "m"))) (no_parts))); condition = (no_expressions); loop = None; register = (Some (codes "r")); vars = (no_parts); notify = ([]); changed_when = None; failed_when = None; attempts = None; ignore_errors = None }) (no_steps)) (no_steps) (no_steps))) (no_steps) (task_step (record { line = 16; work = (set_fact_work (part (codes "s") (path (other this_host (codes "inv")) ([])) (no_parts))); condition = (no_expressions); loop = None; register = None; vars = (no_parts); notify = ([]); changed_when = None; failed_when = None; attempts = None; ignore_errors = None }) (block_step (record { line = 17; condition = (no_expressions); vars = (no_parts); ignore_errors = None }) (no_steps) (no_steps) (no_steps) (task_step (record { line = 18; work = (set_fact_work (part (codes "y") (list_of (expression (literal (int (pos 1))) (expression (literal (int (pos 2))) (no_expressions)))) (no_parts))); condition = (no_expressions); loop = None; register = (Some (codes "s")); vars = (no_parts); notify = ([]); changed_when = None; failed_when = None; attempts = None; ignore_errors = None }) (no_steps))))); post_tasks = (no_steps); handlers = ([]); forces = false } ∷ [])

abbrev random_002304_inventory : Inventory
random_002304_inventory = record { hosts = (record { name = (codes "c"); variables = (field (codes "inv") (list (item (int (pos 1)) (item (int (pos 2)) (no_items)))) (no_fields)) } ∷ record { name = (codes "b"); variables = (field (codes "inv") (list (item (int (pos 1)) (item (int (pos 2)) (no_items)))) (field (codes "k") (rec (field (codes "z") opaque (no_fields))) (no_fields))) } ∷ record { name = (codes "a"); variables = (field (codes "inv") (list (item (text (codes "x")) (no_items))) (field (codes "opq") opaque (no_fields))) } ∷ []); groups = (record { name = (codes "all"); hosts = ((codes "c") ∷ (codes "b") ∷ (codes "a") ∷ []) } ∷ record { name = (codes "g"); hosts = ((codes "b") ∷ (codes "a") ∷ []) } ∷ record { name = (codes "ungrouped"); hosts = ((codes "c") ∷ []) } ∷ []) }

abbrev random_002304_registry : Registry
random_002304_registry = (builtins ++ ([]))

random_002304 : judged random_002304_registry random_002304_inventory random_002304_book ≡ refused (record { code = 2; line = 2; host = (Some (codes "b")) })
random_002304 = refl

-- random_002308:
abbrev random_002308_book : Book
random_002308_book = (record { line = 1; pattern = ((codes "all") ∷ []); gathering = None; vars = (part (codes "v1") (in_batch item_host) (no_parts)); is_linear = true; serial = ([]); pre_tasks = (no_steps); tasks = (task_step (record { line = 2; work = (module_work (codes "command") (part (codes "cmd") (record_of (part (codes "k") (literal (int (pos 1))) (no_parts))) (no_parts))); condition = (expression (defined (variable (codes "r")) ([])) (expression (negation (path_status is_skipped (variable (codes "r")) ([]))) (no_expressions))); loop = None; register = None; vars = (no_parts); notify = ([]); changed_when = None; failed_when = None; attempts = None; ignore_errors = (Some true) }) (task_step (record { line = 3; work = (set_fact_work (part (codes "s") (literal null) (no_parts))); condition = (expression (conjunction (expression (defined (variable (codes "r")) ([])) (expression (negation (path_status is_failed (variable (codes "r")) ([]))) (no_expressions)))) (expression (defined (variable (codes "y")) ([])) (no_expressions))); loop = None; register = None; vars = (no_parts); notify = ([]); changed_when = None; failed_when = None; attempts = None; ignore_errors = None }) (no_steps))); post_tasks = (no_steps); handlers = ([]); forces = false } ∷ [])

abbrev random_002308_inventory : Inventory
random_002308_inventory = record { hosts = (record { name = (codes "c"); variables = (field (codes "inv") (list (item (int (pos 1)) (item (int (pos 2)) (no_items)))) (no_fields)) } ∷ record { name = (codes "b"); variables = (field (codes "inv") (list (item (int (pos 1)) (item (int (pos 2)) (no_items)))) (field (codes "k") (rec (field (codes "z") opaque (no_fields))) (no_fields))) } ∷ record { name = (codes "a"); variables = (field (codes "inv") (list (item (text (codes "x")) (no_items))) (field (codes "opq") opaque (no_fields))) } ∷ []); groups = (record { name = (codes "all"); hosts = ((codes "c") ∷ (codes "b") ∷ (codes "a") ∷ []) } ∷ record { name = (codes "g"); hosts = ((codes "b") ∷ (codes "a") ∷ []) } ∷ record { name = (codes "ungrouped"); hosts = ((codes "c") ∷ []) } ∷ []) }

abbrev random_002308_registry : Registry
random_002308_registry = (builtins ++ ([]))

random_002308 : judged random_002308_registry random_002308_inventory random_002308_book ≡ refused (record { code = 4; line = 2; host = (Some (codes "c")) })
random_002308 = refl

-- random_002313_run:
abbrev random_002313_run_book : Book
random_002313_run_book = (record { line = 1; pattern = ((codes "b") ∷ []); gathering = None; vars = (no_parts); is_linear = true; serial = ([]); pre_tasks = (no_steps); tasks = (block_step (record { line = 2; condition = (no_expressions); vars = (no_parts); ignore_errors = None }) (task_step (record { line = 3; work = (module_work (codes "probe") (no_parts)); condition = (no_expressions); loop = None; register = None; vars = (no_parts); notify = ((codes "t") ∷ []); changed_when = None; failed_when = None; attempts = None; ignore_errors = None }) (no_steps)) (task_step (record { line = 4; work = (debug_work (part (codes "msg") (path (variable (codes "inventory_hostname")) ([])) (no_parts))); condition = (no_expressions); loop = None; register = None; vars = (no_parts); notify = ([]); changed_when = None; failed_when = None; attempts = None; ignore_errors = None }) (block_step (record { line = 5; condition = (no_expressions); vars = (no_parts); ignore_errors = None }) (task_step (record { line = 6; work = (module_work (codes "command") (part (codes "cmd") (literal (text (codes "x"))) (no_parts))); condition = (expression (negation (defined (other (named_host (codes "c")) (codes "r1")) ((codes "failed") ∷ []))) (no_expressions)); loop = None; register = (Some (codes "r1")); vars = (no_parts); notify = ((codes "h0") ∷ []); changed_when = None; failed_when = None; attempts = None; ignore_errors = None }) (block_step (record { line = 7; condition = (no_expressions); vars = (no_parts); ignore_errors = (Some true) }) (task_step (record { line = 8; work = (debug_work (part (codes "msg") (path (other (named_host (codes "a")) (codes "r1")) ((codes "stdout") ∷ [])) (no_parts))); condition = (expression (in_batch (named_host (codes "a"))) (expression (defined (other (named_host (codes "a")) (codes "r1")) ((codes "stdout") ∷ [])) (no_expressions))); loop = None; register = None; vars = (no_parts); notify = ([]); changed_when = None; failed_when = (Some (expression (literal (boolean true)) (no_expressions))); attempts = None; ignore_errors = None }) (task_step (record { line = 9; work = (assert_work (conditions_are (expression (path_or (variable (codes "r2")) ((codes "failed") ∷ []) (literal (boolean false))) (no_expressions))) (no_parts)); condition = (no_expressions); loop = None; register = (Some (codes "r1")); vars = (no_parts); notify = ([]); changed_when = None; failed_when = None; attempts = None; ignore_errors = None }) (task_step (record { line = 10; work = (debug_work (part (codes "msg") (list_of (expression (path (variable (codes "r3")) ((codes "skipped") ∷ [])) (expression (literal (int (pos 1))) (no_expressions)))) (no_parts))); condition = (expression (defined (variable (codes "r3")) ([])) (expression (defined (variable (codes "r3")) ((codes "skipped") ∷ [])) (no_expressions))); loop = None; register = (Some (codes "r1")); vars = (no_parts); notify = ([]); changed_when = None; failed_when = None; attempts = None; ignore_errors = None }) (no_steps)))) (task_step (record { line = 11; work = (set_fact_work (part (codes "s3") (path (variable (codes "s1")) ([])) (no_parts))); condition = (no_expressions); loop = (Some (path (variable (codes "r1")) ((codes "failed") ∷ []))); register = (Some (codes "r1")); vars = (no_parts); notify = ([]); changed_when = None; failed_when = None; attempts = None; ignore_errors = None }) (task_step (record { line = 12; work = (assert_work (conditions_are (expression (path_status is_failed (variable (codes "r2")) ([])) (no_expressions))) (no_parts)); condition = (no_expressions); loop = None; register = (Some (codes "r1")); vars = (no_parts); notify = ([]); changed_when = (Some (expression (path_status is_changed (variable (codes "r1")) ([])) (no_expressions))); failed_when = (Some (expression (comparison equal (path_or (variable (codes "r1")) ((codes "changed") ∷ []) (literal (boolean true))) (literal (boolean true))) (no_expressions))); attempts = None; ignore_errors = None }) (no_steps))) (no_steps) (no_steps))) (task_step (record { line = 13; work = (fail_work (part (codes "msg") (literal (text (codes "m"))) (no_parts))); condition = (no_expressions); loop = None; register = None; vars = (no_parts); notify = ([]); changed_when = None; failed_when = None; attempts = None; ignore_errors = None }) (block_step (record { line = 14; condition = (no_expressions); vars = (no_parts); ignore_errors = None }) (task_step (record { line = 15; work = (debug_work (part (codes "msg") (path (variable (codes "r3")) ((codes "results") ∷ [])) (no_parts))); condition = (no_expressions); loop = None; register = None; vars = (no_parts); notify = ((codes "h0") ∷ []); changed_when = None; failed_when = None; attempts = None; ignore_errors = None }) (no_steps)) (no_steps) (task_step (record { line = 16; work = (set_fact_work (part (codes "s2") (path (variable (codes "r1")) ((codes "changed") ∷ [])) (part (codes "s3") (literal (text (codes "a"))) (no_parts)))); condition = (expression (defined (variable (codes "r1")) ((codes "changed") ∷ [])) (no_expressions)); loop = None; register = (Some (codes "r2")); vars = (no_parts); notify = ([]); changed_when = None; failed_when = None; attempts = None; ignore_errors = None }) (task_step (record { line = 17; work = (module_work (codes "ping") (no_parts)); condition = (no_expressions); loop = None; register = None; vars = (no_parts); notify = ((codes "t") ∷ []); changed_when = None; failed_when = None; attempts = None; ignore_errors = None }) (no_steps))) (task_step (record { line = 18; work = (debug_work (part (codes "msg") (path_or (variable (codes "ansible_failed_result")) ((codes "msg") ∷ []) (path (variable (codes "s1")) ([]))) (no_parts))); condition = (no_expressions); loop = (Some (path (variable (codes "ansible_play_batch")) ([]))); register = None; vars = (no_parts); notify = ([]); changed_when = None; failed_when = None; attempts = None; ignore_errors = None }) (no_steps)))) (no_steps) (task_step (record { line = 19; work = (fail_work (no_parts)); condition = (no_expressions); loop = None; register = (Some (codes "r1")); vars = (no_parts); notify = ([]); changed_when = None; failed_when = None; attempts = None; ignore_errors = None }) (no_steps)))) (task_step (record { line = 20; work = (debug_work (part (codes "msg") (path_or (variable (codes "r2")) ((codes "skipped") ∷ []) (literal (text (codes "z")))) (no_parts))); condition = (no_expressions); loop = None; register = (Some (codes "r1")); vars = (no_parts); notify = ([]); changed_when = None; failed_when = (Some (expression (conjunction (expression (defined (variable (codes "r1")) ((codes "changed") ∷ [])) (expression (comparison equal (path (variable (codes "r1")) ((codes "changed") ∷ [])) (literal (text (codes "a")))) (no_expressions)))) (no_expressions))); attempts = None; ignore_errors = (Some false) }) (no_steps)) (task_step (record { line = 21; work = (set_fact_work (part (codes "s1") (literal (text (codes "t"))) (no_parts))); condition = (no_expressions); loop = None; register = None; vars = (no_parts); notify = ([]); changed_when = None; failed_when = None; attempts = None; ignore_errors = None }) (no_steps))); post_tasks = (no_steps); handlers = (record { work = (record { line = 22; work = (module_work (codes "command") (part (codes "cmd") (literal (text (codes "x"))) (no_parts))); condition = (expression (negation (defined (other (group_member (codes "all") 0) (codes "r3")) ((codes "changed") ∷ []))) (no_expressions)); loop = None; register = None; vars = (no_parts); notify = ([]); changed_when = None; failed_when = None; attempts = None; ignore_errors = None }); name = (Some (codes "h0")); topics = ((codes "t") ∷ []) } ∷ record { work = (record { line = 23; work = (fail_work (part (codes "msg") (literal (text (codes "m"))) (no_parts))); condition = (no_expressions); loop = None; register = (Some (codes "r1")); vars = (no_parts); notify = ([]); changed_when = None; failed_when = None; attempts = None; ignore_errors = None }); name = (Some (codes "h1")); topics = ([]) } ∷ []); forces = false } ∷ record { line = 24; pattern = ((codes "d") ∷ (codes "all") ∷ []); gathering = None; vars = (no_parts); is_linear = true; serial = ([]); pre_tasks = (no_steps); tasks = (task_step (record { line = 25; work = (module_work (codes "stat") (part (codes "path") (literal (text (codes "/"))) (no_parts))); condition = (no_expressions); loop = None; register = (Some (codes "r1")); vars = (no_parts); notify = ((codes "h0") ∷ []); changed_when = None; failed_when = None; attempts = None; ignore_errors = None }) (task_step (record { line = 26; work = (debug_work (part (codes "msg") (literal (text (codes "x"))) (no_parts))); condition = (no_expressions); loop = None; register = (Some (codes "r2")); vars = (no_parts); notify = ((codes "h1") ∷ []); changed_when = None; failed_when = None; attempts = None; ignore_errors = None }) (task_step (record { line = 27; work = (module_work (codes "stat") (part (codes "path") (literal (text (codes "/"))) (no_parts))); condition = (no_expressions); loop = None; register = (Some (codes "r2")); vars = (no_parts); notify = ([]); changed_when = None; failed_when = None; attempts = None; ignore_errors = (Some false) }) (task_step (record { line = 28; work = (fail_work (part (codes "msg") (literal (text (codes "m"))) (no_parts))); condition = (no_expressions); loop = None; register = None; vars = (no_parts); notify = ([]); changed_when = None; failed_when = None; attempts = None; ignore_errors = None }) (no_steps))))); post_tasks = (no_steps); handlers = (record { work = (record { line = 29; work = (module_work (codes "ping") (no_parts)); condition = (expression (negation (in_batch this_host)) (no_expressions)); loop = None; register = None; vars = (no_parts); notify = ((codes "h1") ∷ []); changed_when = None; failed_when = (Some (expression (comparison equal (path (variable (codes "inventory_hostname")) ([])) (literal (text (codes "a")))) (no_expressions))); attempts = None; ignore_errors = (Some true) }); name = (Some (codes "h0")); topics = ((codes "t") ∷ []) } ∷ record { work = (record { line = 30; work = (module_work (codes "command") (part (codes "cmd") (literal (text (codes "x"))) (no_parts))); condition = (no_expressions); loop = None; register = (Some (codes "r3")); vars = (no_parts); notify = ([]); changed_when = None; failed_when = (Some (expression (literal (boolean true)) (no_expressions))); attempts = None; ignore_errors = None }); name = (Some (codes "h1")); topics = ([]) } ∷ []); forces = true } ∷ [])

abbrev random_002313_run_inventory : Inventory
random_002313_run_inventory = record { hosts = (record { name = (codes "a"); variables = (field (codes "i1") (boolean true) (field (codes "op") opaque (no_fields))) } ∷ record { name = (codes "b"); variables = (field (codes "i1") (boolean true) (field (codes "i2") (int (negsuc 0)) (field (codes "op") opaque (no_fields)))) } ∷ record { name = (codes "c"); variables = (field (codes "i2") (text (codes "a")) (field (codes "op") opaque (no_fields))) } ∷ record { name = (codes "d"); variables = (field (codes "op") opaque (field (codes "s1") (boolean false) (no_fields))) } ∷ []); groups = (record { name = (codes "all"); hosts = ((codes "a") ∷ (codes "b") ∷ (codes "c") ∷ (codes "d") ∷ []) } ∷ record { name = (codes "g1"); hosts = ((codes "a") ∷ (codes "b") ∷ []) } ∷ record { name = (codes "g2"); hosts = ((codes "a") ∷ (codes "d") ∷ []) } ∷ record { name = (codes "ungrouped"); hosts = ((codes "c") ∷ []) } ∷ []) }

abbrev random_002313_run_registry : Registry
random_002313_run_registry = (builtins ++ (record { name = (codes "probe"); params = (record { name = (codes "n"); kind = ints; required = false } ∷ record { name = (codes "l"); kind = (lists texts 3); required = false } ∷ []); ok = recs (slot (codes "changed") true booleans (slot (codes "deep") false (recs (slot (codes "a") true texts (slot (codes "b") false booleans (no_slots)))) (slot (codes "rows") true (lists texts 2) (slot (codes "v") false ints (no_slots))))); failure = recs (slot (codes "changed") true booleans (slot (codes "msg") true texts (slot (codes "v") false texts (slot (codes "why") true ints (no_slots))))); free = None } ∷ record { name = (codes "odd"); params = ([]); ok = recs (slot (codes "changed") true booleans (slot (codes "msg") false ints (no_slots))); failure = recs (slot (codes "changed") true booleans (slot (codes "msg") true texts (no_slots))); free = None } ∷ []))

random_002313_run : recaps_of random_002313_run_registry random_002313_run_inventory random_002313_run_book 1 ((object (rec (field (codes "changed") (boolean true) (field (codes "stat") (rec (field (codes "exists") (boolean true) (field (codes "mode") (text (codes "x")) (field (codes "size") (int (pos 1)) (no_fields))))) (no_fields)))) ∷ unreachable ∷ []) ∷ (object (rec (field (codes "changed") (boolean false) (field (codes "rows") (list (item (text (codes "b")) (no_items))) (field (codes "v") (int (pos 2)) (no_fields))))) ∷ object (rec (field (codes "changed") (boolean true) (field (codes "extra") (rec (field (codes "a") (int (pos 1)) (no_fields))) (field (codes "stat") (rec (field (codes "exists") (boolean true) (field (codes "isdir") (boolean false) (field (codes "isreg") (boolean true) (field (codes "mode") (text (123 ∷ 123 ∷ 32 ∷ 120 ∷ 32 ∷ 125 ∷ 125 ∷ [])) (no_fields)))))) (no_fields))))) ∷ object (rec (field (codes "changed") (boolean false) (field (codes "stat") (rec (field (codes "exists") (boolean false) (field (codes "isdir") (boolean false) (no_fields)))) (no_fields)))) ∷ []) ∷ (object (rec (field (codes "changed") (boolean false) (field (codes "failed") (boolean true) (field (codes "msg") (text (codes "b")) (no_fields))))) ∷ []) ∷ (object (rec (field (codes "changed") (boolean true) (field (codes "failed") (boolean true) (field (codes "msg") (text ([])) (no_fields))))) ∷ []) ∷ []) ≡ (record { ok = 2; changed = 1; unreachable = 1; failed = 0; skipped = 0; rescued = 0; ignored = 0 } ∷ record { ok = 6; changed = 1; unreachable = 0; failed = 1; skipped = 1; rescued = 0; ignored = 0 } ∷ record { ok = 0; changed = 0; unreachable = 0; failed = 1; skipped = 0; rescued = 0; ignored = 0 } ∷ record { ok = 0; changed = 0; unreachable = 0; failed = 1; skipped = 0; rescued = 0; ignored = 0 } ∷ [])
unfolding digits
random_002313_run = refl
