-- Cases of random, computed.
use Rattle.std.specs.Prelude.{◌≡◌, refl, pos, negsuc, [], ◌∷◌, ◌++◌, true, false, Some, None, codes}
use Rattle.std.specs.Fmt.{digits}
use Rattle.pb_semantics.specs.Data.{null, boolean, int, text, list, rec, opaque, no_items, item, no_fields, field}
use Rattle.pb_semantics.specs.Kind.{booleans, ints, texts, lists, recs, no_slots, slot}
use Rattle.pb_language.specs.Expression.{equal, is_failed, is_changed, is_skipped, named_host, this_host, item_host, group_member, literal, path, negation, conjunction, disjunction, comparison, membership, in_batch, defined, path_status, path_or, length_of, concatenation, list_of, record_of, variable, other, no_expressions, expression, no_parts, part}
use Rattle.pb_language.specs.Book.{conditions_are, module_work, debug_work, set_fact_work, assert_work, fail_work, no_steps, task_step, block_step, flush_step, host_count, percentage, Book, Registry}
use Rattle.pb_language.specs.Builtins.{builtins}
use Rattle.pb_language.specs.Give.{object}
use Rattle.pb_language.specs.Judged.{judged}
use Rattle.pb_language.specs.Program.{Inventory}
use Rattle.pb_language.specs.Verdict.{accepted, refused}
use Rattle.pb_rows.specs.Recaps.{recaps_of}

-- random_001587_run:
abbrev random_001587_run_book : Book
random_001587_run_book = (record { line = 1; pattern = ((codes "all") ∷ []); gathering = None; vars = (no_parts); is_linear = true; serial = ([]); pre_tasks = (task_step (record { line = 2; work = (module_work (codes "command") (part (codes "cmd") (literal (text (codes "x"))) (no_parts))); condition = (no_expressions); loop = None; register = (Some (codes "r3")); vars = (no_parts); notify = ([]); changed_when = (Some (expression (comparison equal (path (variable (codes "inventory_hostname")) ([])) (literal (text (codes "a")))) (no_expressions))); failed_when = None; attempts = None; ignore_errors = (Some true) }) (block_step (record { line = 3; condition = (no_expressions); vars = (no_parts); ignore_errors = None }) (task_step (record { line = 4; work = (module_work (codes "probe") (no_parts)); condition = (no_expressions); loop = None; register = (Some (codes "r1")); vars = (no_parts); notify = ([]); changed_when = None; failed_when = None; attempts = None; ignore_errors = (Some true) }) (no_steps)) (block_step (record { line = 5; condition = (no_expressions); vars = (no_parts); ignore_errors = None }) (task_step (record { line = 6; work = (module_work (codes "probe") (no_parts)); condition = (expression (negation (path_status is_failed (variable (codes "r3")) ([]))) (no_expressions)); loop = None; register = (Some (codes "r2")); vars = (no_parts); notify = ((codes "t") ∷ []); changed_when = (Some (expression (path_status is_failed (variable (codes "r2")) ([])) (no_expressions))); failed_when = None; attempts = None; ignore_errors = None }) (task_step (record { line = 7; work = (module_work (codes "setup") (no_parts)); condition = (no_expressions); loop = None; register = None; vars = (no_parts); notify = ([]); changed_when = None; failed_when = None; attempts = None; ignore_errors = None }) (task_step (record { line = 8; work = (module_work (codes "odd") (no_parts)); condition = (no_expressions); loop = None; register = (Some (codes "r1")); vars = (no_parts); notify = ((codes "h1") ∷ []); changed_when = None; failed_when = None; attempts = None; ignore_errors = (Some true) }) (no_steps)))) (task_step (record { line = 9; work = (set_fact_work (part (codes "s1") (path (variable (codes "s1")) ([])) (no_parts))); condition = (expression (defined (variable (codes "r2")) ((codes "deep") ∷ (codes "b") ∷ [])) (no_expressions)); loop = None; register = (Some (codes "r2")); vars = (no_parts); notify = ((codes "h1") ∷ []); changed_when = (Some (expression (literal (boolean true)) (no_expressions))); failed_when = None; attempts = None; ignore_errors = None }) (no_steps)) (no_steps) (task_step (record { line = 10; work = (module_work (codes "command") (part (codes "cmd") (literal (text (codes "x"))) (no_parts))); condition = (expression (negation (path_status is_skipped (variable (codes "r2")) ([]))) (no_expressions)); loop = None; register = (Some (codes "r1")); vars = (no_parts); notify = ([]); changed_when = None; failed_when = None; attempts = None; ignore_errors = None }) (task_step (record { line = 11; work = (fail_work (part (codes "msg") (literal (text (codes "m"))) (no_parts))); condition = (no_expressions); loop = None; register = None; vars = (no_parts); notify = ([]); changed_when = None; failed_when = None; attempts = None; ignore_errors = None }) (no_steps)))) (task_step (record { line = 12; work = (module_work (codes "command") (part (codes "cmd") (literal (text (codes "x"))) (no_parts))); condition = (expression (negation (in_batch (named_host (codes "a")))) (no_expressions)); loop = None; register = None; vars = (no_parts); notify = ([]); changed_when = None; failed_when = None; attempts = None; ignore_errors = None }) (task_step (record { line = 13; work = (module_work (codes "command") (part (codes "cmd") (literal (text (codes "x"))) (no_parts))); condition = (no_expressions); loop = (Some (list_of (expression (list_of (expression (literal (int (pos 1))) (no_expressions))) (expression (list_of (no_expressions)) (no_expressions))))); register = (Some (codes "r2")); vars = (no_parts); notify = ((codes "t") ∷ []); changed_when = None; failed_when = None; attempts = None; ignore_errors = (Some true) }) (task_step (record { line = 14; work = (module_work (codes "ping") (no_parts)); condition = (expression (defined (variable (codes "ansible_facts")) ([])) (no_expressions)); loop = None; register = (Some (codes "r1")); vars = (no_parts); notify = ([]); changed_when = None; failed_when = None; attempts = None; ignore_errors = None }) (no_steps)))) (no_steps))); tasks = (block_step (record { line = 15; condition = (no_expressions); vars = (no_parts); ignore_errors = None }) (task_step (record { line = 16; work = (module_work (codes "command") (part (codes "cmd") (literal (text (codes "x"))) (no_parts))); condition = (no_expressions); loop = None; register = (Some (codes "r1")); vars = (no_parts); notify = ([]); changed_when = None; failed_when = None; attempts = None; ignore_errors = None }) (task_step (record { line = 17; work = (module_work (codes "probe") (no_parts)); condition = (no_expressions); loop = (Some (path_or (variable (codes "r1")) ((codes "results") ∷ []) (list_of (no_expressions)))); register = None; vars = (no_parts); notify = ((codes "h1") ∷ []); changed_when = None; failed_when = None; attempts = None; ignore_errors = None }) (no_steps))) (no_steps) (task_step (record { line = 18; work = (module_work (codes "setup") (no_parts)); condition = (no_expressions); loop = None; register = None; vars = (no_parts); notify = ([]); changed_when = None; failed_when = None; attempts = None; ignore_errors = (Some true) }) (task_step (record { line = 19; work = (assert_work (conditions_are (expression (defined (variable (codes "i1")) ([])) (no_expressions))) (no_parts)); condition = (no_expressions); loop = None; register = (Some (codes "r2")); vars = (part (codes "v1") (path (variable (codes "i1")) ([])) (no_parts)); notify = ([]); changed_when = None; failed_when = None; attempts = None; ignore_errors = (Some true) }) (no_steps))) (no_steps)); post_tasks = (task_step (record { line = 20; work = (module_work (codes "command") (part (codes "cmd") (literal (text (codes "x"))) (no_parts))); condition = (no_expressions); loop = None; register = (Some (codes "r3")); vars = (no_parts); notify = ([]); changed_when = None; failed_when = None; attempts = (Some (record { until = (expression (comparison equal (path (variable (codes "r3")) ((codes "stdout_lines") ∷ [])) (literal (text (codes "a")))) (no_expressions)); retries = 3 })); ignore_errors = None }) (flush_step 21 (no_steps))); handlers = (record { work = (record { line = 22; work = (module_work (codes "ping") (no_parts)); condition = (no_expressions); loop = None; register = (Some (codes "r3")); vars = (no_parts); notify = ([]); changed_when = None; failed_when = (Some (expression (comparison equal (path_or (variable (codes "r3")) ((codes "failed") ∷ []) (literal (boolean true))) (literal (boolean true))) (no_expressions))); attempts = None; ignore_errors = None }); name = (Some (codes "h0")); topics = ((codes "t") ∷ []) } ∷ record { work = (record { line = 23; work = (debug_work (part (codes "msg") (literal (text (codes "x"))) (no_parts))); condition = (no_expressions); loop = None; register = None; vars = (no_parts); notify = ([]); changed_when = None; failed_when = None; attempts = None; ignore_errors = None }); name = (Some (codes "h1")); topics = ([]) } ∷ []); forces = false } ∷ [])

abbrev random_001587_run_inventory : Inventory
random_001587_run_inventory = record { hosts = (record { name = (codes "a"); variables = (field (codes "i1") (text (codes "b")) (no_fields)) } ∷ []); groups = (record { name = (codes "all"); hosts = ((codes "a") ∷ []) } ∷ record { name = (codes "g1"); hosts = ((codes "a") ∷ []) } ∷ record { name = (codes "ungrouped"); hosts = ([]) } ∷ []) }

abbrev random_001587_run_registry : Registry
random_001587_run_registry = (builtins ++ (record { name = (codes "probe"); params = (record { name = (codes "n"); kind = ints; required = false } ∷ record { name = (codes "l"); kind = (lists texts 3); required = false } ∷ []); ok = recs (slot (codes "changed") true booleans (slot (codes "deep") false (recs (slot (codes "a") true texts (slot (codes "b") false booleans (no_slots)))) (slot (codes "rows") true (lists texts 2) (slot (codes "v") false ints (no_slots))))); failure = recs (slot (codes "changed") true booleans (slot (codes "msg") true texts (slot (codes "v") false texts (slot (codes "why") true ints (no_slots))))); free = None } ∷ record { name = (codes "odd"); params = ([]); ok = recs (slot (codes "changed") true booleans (slot (codes "msg") false ints (no_slots))); failure = recs (slot (codes "changed") true booleans (slot (codes "msg") true texts (no_slots))); free = None } ∷ []))

random_001587_run : recaps_of random_001587_run_registry random_001587_run_inventory random_001587_run_book 1 ((object (rec (field (codes "changed") (boolean true) (field (codes "rc") (int (pos 0)) (field (codes "stderr") (text (codes "b")) (field (codes "stderr_lines") (list (item (text ([])) (no_items))) (field (codes "stdout") (text (123 ∷ 123 ∷ 32 ∷ 120 ∷ 32 ∷ 125 ∷ 125 ∷ [])) (field (codes "stdout_lines") (list (item (text (codes "a")) (no_items))) (no_fields)))))))) ∷ object (rec (field (codes "changed") (boolean false) (field (codes "rows") (list (item (text (codes "a")) (no_items))) (no_fields)))) ∷ object (rec (field (codes "changed") (boolean true) (field (codes "rc") (int (pos 2)) (field (codes "stderr") (text (codes "a")) (field (codes "stderr_lines") (list (item (text ([])) (item (text (codes "a")) (no_items)))) (field (codes "stdout") (text (codes "a")) (field (codes "stdout_lines") (list (item (text (123 ∷ 123 ∷ 32 ∷ 120 ∷ 32 ∷ 125 ∷ 125 ∷ [])) (no_items))) (no_fields)))))))) ∷ object (rec (field (codes "changed") (boolean false) (field (codes "rc") (int (pos 2)) (field (codes "stderr") (text (codes "b")) (field (codes "stderr_lines") (list (item (text (123 ∷ 123 ∷ 32 ∷ 120 ∷ 32 ∷ 125 ∷ 125 ∷ [])) (item (text (123 ∷ 123 ∷ 32 ∷ 120 ∷ 32 ∷ 125 ∷ 125 ∷ [])) (item (text (codes "b")) (no_items))))) (field (codes "stdout") (text (codes "b")) (field (codes "stdout_lines") (list (no_items)) (no_fields)))))))) ∷ object (rec (field (codes "changed") (boolean false) (field (codes "ping") (text (codes "b")) (no_fields)))) ∷ object (rec (field (codes "changed") (boolean false) (field (codes "rc") (int (pos 2)) (field (codes "stderr") (text (codes "a")) (field (codes "stderr_lines") (list (item (text (codes "b")) (no_items))) (field (codes "stdout") (text ([])) (field (codes "stdout_lines") (list (item (text ([])) (item (text (123 ∷ 123 ∷ 32 ∷ 120 ∷ 32 ∷ 125 ∷ 125 ∷ [])) (item (text (codes "a")) (no_items))))) (no_fields)))))))) ∷ object (rec (field (codes "changed") (boolean false) (field (codes "extra") (rec (field (codes "a") (int (pos 1)) (no_fields))) (field (codes "failed") (boolean true) (field (codes "msg") (text (codes "x")) (no_fields)))))) ∷ object (rec (field (codes "changed") (boolean false) (field (codes "rc") (int (pos 1)) (field (codes "stderr") (text (codes "a")) (field (codes "stderr_lines") (list (item (text (codes "b")) (no_items))) (field (codes "stdout") (text (codes "a")) (field (codes "stdout_lines") (list (item (text (codes "a")) (item (text (codes "x")) (item (text ([])) (no_items))))) (no_fields)))))))) ∷ object (rec (field (codes "changed") opaque (no_fields))) ∷ []) ∷ []) ≡ (record { ok = 7; changed = 2; unreachable = 0; failed = 1; skipped = 3; rescued = 0; ignored = 1 } ∷ [])
unfolding digits
random_001587_run = refl

-- random_001589_run:
abbrev random_001589_run_book : Book
random_001589_run_book = (record { line = 1; pattern = ((codes "a") ∷ (codes "all") ∷ []); gathering = (Some 2); vars = (no_parts); is_linear = false; serial = ([]); pre_tasks = (no_steps); tasks = (block_step (record { line = 3; condition = (no_expressions); vars = (no_parts); ignore_errors = None }) (task_step (record { line = 4; work = (module_work (codes "command") (part (codes "cmd") (literal (text (codes "x"))) (no_parts))); condition = (no_expressions); loop = None; register = (Some (codes "r1")); vars = (no_parts); notify = ([]); changed_when = None; failed_when = None; attempts = None; ignore_errors = None }) (task_step (record { line = 5; work = (module_work (codes "command") (part (codes "cmd") (literal (text (codes "x"))) (no_parts))); condition = (no_expressions); loop = None; register = (Some (codes "r2")); vars = (no_parts); notify = ([]); changed_when = None; failed_when = None; attempts = None; ignore_errors = None }) (task_step (record { line = 6; work = (debug_work (part (codes "msg") (length_of (path (variable (codes "r1")) ([]))) (no_parts))); condition = (expression (defined (variable (codes "r1")) ([])) (no_expressions)); loop = None; register = None; vars = (no_parts); notify = ([]); changed_when = (Some (expression (literal (boolean false)) (no_expressions))); failed_when = None; attempts = None; ignore_errors = (Some true) }) (no_steps)))) (block_step (record { line = 7; condition = (no_expressions); vars = (no_parts); ignore_errors = None }) (task_step (record { line = 8; work = (debug_work (part (codes "msg") (literal (text (codes "x"))) (no_parts))); condition = (no_expressions); loop = None; register = None; vars = (no_parts); notify = ([]); changed_when = None; failed_when = None; attempts = None; ignore_errors = None }) (task_step (record { line = 9; work = (debug_work (part (codes "msg") (literal (text (codes "x"))) (no_parts))); condition = (no_expressions); loop = None; register = (Some (codes "r3")); vars = (no_parts); notify = ([]); changed_when = None; failed_when = None; attempts = None; ignore_errors = (Some true) }) (no_steps))) (task_step (record { line = 10; work = (module_work (codes "command") (part (codes "cmd") (concatenation (expression (literal (text (codes "x "))) (expression (path (variable (codes "s2")) ([])) (no_expressions)))) (no_parts))); condition = (no_expressions); loop = None; register = (Some (codes "r3")); vars = (no_parts); notify = ([]); changed_when = None; failed_when = None; attempts = (Some (record { until = (expression (comparison equal (path (variable (codes "inventory_hostname")) ([])) (literal (text (codes "a")))) (no_expressions)); retries = 2 })); ignore_errors = None }) (task_step (record { line = 11; work = (debug_work (part (codes "msg") (comparison equal (path (variable (codes "r3")) ((codes "skipped") ∷ [])) (path (variable (codes "i1")) ([]))) (no_parts))); condition = (expression (in_batch this_host) (no_expressions)); loop = None; register = (Some (codes "r1")); vars = (no_parts); notify = ([]); changed_when = None; failed_when = None; attempts = None; ignore_errors = (Some true) }) (task_step (record { line = 12; work = (module_work (codes "command") (part (codes "cmd") (literal (text (codes "x"))) (no_parts))); condition = (no_expressions); loop = None; register = None; vars = (no_parts); notify = ([]); changed_when = None; failed_when = None; attempts = None; ignore_errors = None }) (no_steps)))) (task_step (record { line = 13; work = (module_work (codes "command") (part (codes "cmd") (literal (text (codes "x"))) (no_parts))); condition = (no_expressions); loop = (Some (path_or (variable (codes "r1")) ((codes "results") ∷ []) (list_of (no_expressions)))); register = (Some (codes "r1")); vars = (no_parts); notify = ([]); changed_when = None; failed_when = None; attempts = None; ignore_errors = (Some true) }) (task_step (record { line = 14; work = (module_work (codes "command") (part (codes "cmd") (concatenation (expression (literal (text (codes "x "))) (expression (path (variable (codes "ansible_failed_result")) ((codes "msg") ∷ [])) (no_expressions)))) (no_parts))); condition = (no_expressions); loop = None; register = (Some (codes "r2")); vars = (part (codes "v1") (concatenation (expression (literal (text (codes "x"))) (expression (path (variable (codes "r1")) ((codes "stdout_lines") ∷ [])) (no_expressions)))) (no_parts)); notify = ([]); changed_when = None; failed_when = None; attempts = None; ignore_errors = (Some false) }) (block_step (record { line = 15; condition = (no_expressions); vars = (no_parts); ignore_errors = None }) (task_step (record { line = 16; work = (fail_work (part (codes "msg") (literal (text (codes "m"))) (no_parts))); condition = (expression (negation (in_batch (group_member (codes "all") 0))) (no_expressions)); loop = None; register = (Some (codes "r1")); vars = (no_parts); notify = ([]); changed_when = None; failed_when = None; attempts = None; ignore_errors = None }) (no_steps)) (no_steps) (task_step (record { line = 17; work = (fail_work (part (codes "msg") (literal (text (codes "m"))) (no_parts))); condition = (no_expressions); loop = None; register = (Some (codes "r3")); vars = (no_parts); notify = ([]); changed_when = None; failed_when = None; attempts = None; ignore_errors = None }) (no_steps)) (no_steps)))) (block_step (record { line = 18; condition = (no_expressions); vars = (no_parts); ignore_errors = None }) (task_step (record { line = 19; work = (set_fact_work (part (codes "s1") (concatenation (expression (literal (text (codes "x"))) (expression (path_or (other (named_host (codes "a")) (codes "r3")) ((codes "failed") ∷ []) (literal (int (pos 1)))) (no_expressions)))) (no_parts))); condition = (expression (conjunction (expression (in_batch (named_host (codes "a"))) (expression (negation (defined (variable (codes "r2")) ([]))) (no_expressions)))) (no_expressions)); loop = None; register = None; vars = (part (codes "v3") (path (other (named_host (codes "a")) (codes "s1")) ([])) (no_parts)); notify = ([]); changed_when = None; failed_when = None; attempts = None; ignore_errors = None }) (no_steps)) (task_step (record { line = 20; work = (module_work (codes "ping") (no_parts)); condition = (no_expressions); loop = None; register = None; vars = (no_parts); notify = ([]); changed_when = None; failed_when = None; attempts = None; ignore_errors = None }) (no_steps)) (no_steps) (no_steps))) (no_steps) (task_step (record { line = 21; work = (set_fact_work (part (codes "s1") (literal (int (pos 1))) (no_parts))); condition = (no_expressions); loop = None; register = (Some (codes "r2")); vars = (part (codes "v1") (concatenation (expression (literal (text (codes "x"))) (expression (path_or (other (named_host (codes "a")) (codes "r1")) ((codes "msg") ∷ []) (literal (int (pos 1)))) (no_expressions)))) (part (codes "v2") (concatenation (expression (literal (text (codes "x"))) (expression (path_or (variable (codes "i2")) ([]) (path (variable (codes "s1")) ([]))) (no_expressions)))) (no_parts))); notify = ([]); changed_when = None; failed_when = None; attempts = None; ignore_errors = None }) (no_steps))); post_tasks = (no_steps); handlers = ([]); forces = false } ∷ [])

abbrev random_001589_run_inventory : Inventory
random_001589_run_inventory = record { hosts = (record { name = (codes "a"); variables = (field (codes "i2") (list (item (boolean true) (no_items))) (field (codes "op") opaque (no_fields))) } ∷ []); groups = (record { name = (codes "all"); hosts = ((codes "a") ∷ []) } ∷ record { name = (codes "g1"); hosts = ([]) } ∷ record { name = (codes "g2"); hosts = ([]) } ∷ record { name = (codes "ungrouped"); hosts = ((codes "a") ∷ []) } ∷ []) }

abbrev random_001589_run_registry : Registry
random_001589_run_registry = (builtins ++ (record { name = (codes "probe"); params = (record { name = (codes "n"); kind = ints; required = false } ∷ record { name = (codes "l"); kind = (lists texts 3); required = false } ∷ []); ok = recs (slot (codes "changed") true booleans (slot (codes "deep") false (recs (slot (codes "a") true texts (slot (codes "b") false booleans (no_slots)))) (slot (codes "rows") true (lists texts 2) (slot (codes "v") false ints (no_slots))))); failure = recs (slot (codes "changed") true booleans (slot (codes "msg") true texts (slot (codes "v") false texts (slot (codes "why") true ints (no_slots))))); free = None } ∷ record { name = (codes "odd"); params = ([]); ok = recs (slot (codes "changed") true booleans (slot (codes "msg") false ints (no_slots))); failure = recs (slot (codes "changed") true booleans (slot (codes "msg") true texts (no_slots))); free = None } ∷ []))

random_001589_run : recaps_of random_001589_run_registry random_001589_run_inventory random_001589_run_book 1 ((object (rec (field (codes "ansible_facts") (rec (field (codes "ansible_distribution") (text ([])) (field (codes "ansible_hostname") (text (codes "a")) (field (codes "ansible_memtotal_mb") (int (negsuc 6)) (field (codes "ansible_os_family") (text (codes "x")) (field (codes "ansible_processor_vcpus") (int (pos 1)) (field (codes "ansible_system") (text (codes "x")) (no_fields)))))))) (field (codes "changed") (boolean true) (no_fields)))) ∷ object (rec (field (codes "changed") (boolean true) (field (codes "rc") (int (pos 1)) (field (codes "stderr") (text ([])) (field (codes "stderr_lines") (list (item (text (codes "a")) (item (text (123 ∷ 123 ∷ 32 ∷ 120 ∷ 32 ∷ 125 ∷ 125 ∷ [])) (item (text (codes "a")) (no_items))))) (field (codes "stdout") (text (codes "x")) (field (codes "stdout_lines") (list (item (text (codes "a")) (no_items))) (no_fields)))))))) ∷ object (rec (field (codes "changed") (boolean true) (field (codes "rc") (int (pos 0)) (field (codes "stderr") (text (codes "x")) (field (codes "stderr_lines") (list (item (text ([])) (no_items))) (field (codes "stdout") (text (codes "a")) (field (codes "stdout_lines") (list (item (text (codes "b")) (item (text ([])) (no_items)))) (no_fields)))))))) ∷ []) ∷ []) ≡ (record { ok = 5; changed = 3; unreachable = 0; failed = 0; skipped = 0; rescued = 0; ignored = 0 } ∷ [])
unfolding digits
random_001589_run = refl

-- random_001605_run:
abbrev random_001605_run_book : Book
random_001605_run_book = (record { line = 1; pattern = ((codes "a") ∷ (codes "all") ∷ []); gathering = None; vars = (part (codes "v2") (path (variable (codes "r2")) ((codes "failed") ∷ [])) (no_parts)); is_linear = true; serial = ([]); pre_tasks = (task_step (record { line = 2; work = (module_work (codes "stat") (part (codes "path") (literal (text (codes "/"))) (no_parts))); condition = (expression (negation (defined (other item_host (codes "r2")) ((codes "changed") ∷ []))) (expression (in_batch item_host) (no_expressions))); loop = (Some (path (variable (codes "groups")) ((codes "all") ∷ []))); register = None; vars = (no_parts); notify = ((codes "h1") ∷ []); changed_when = None; failed_when = None; attempts = None; ignore_errors = None }) (no_steps)); tasks = (task_step (record { line = 3; work = (set_fact_work (part (codes "s3") (list_of (expression (path_or (variable (codes "s1")) ([]) (literal (int (pos 1)))) (no_expressions))) (no_parts))); condition = (no_expressions); loop = None; register = (Some (codes "r2")); vars = (no_parts); notify = ([]); changed_when = None; failed_when = None; attempts = None; ignore_errors = None }) (block_step (record { line = 4; condition = (no_expressions); vars = (no_parts); ignore_errors = None }) (task_step (record { line = 5; work = (debug_work (part (codes "msg") (literal (text (codes "x"))) (no_parts))); condition = (no_expressions); loop = None; register = None; vars = (no_parts); notify = ((codes "t") ∷ []); changed_when = None; failed_when = None; attempts = None; ignore_errors = None }) (no_steps)) (task_step (record { line = 6; work = (set_fact_work (part (codes "s1") (literal null) (no_parts))); condition = (expression (comparison equal (path (variable (codes "inventory_hostname")) ([])) (literal (text (codes "a")))) (no_expressions)); loop = None; register = None; vars = (no_parts); notify = ([]); changed_when = None; failed_when = None; attempts = None; ignore_errors = None }) (task_step (record { line = 7; work = (debug_work (part (codes "msg") (length_of (path (variable (codes "v2")) ((codes "stdout") ∷ []))) (no_parts))); condition = (expression (comparison equal (path (variable (codes "ansible_os_family")) ([])) (literal (int (pos 1)))) (expression (defined (variable (codes "v2")) ((codes "stdout") ∷ [])) (no_expressions))); loop = None; register = (Some (codes "r3")); vars = (no_parts); notify = ([]); changed_when = None; failed_when = None; attempts = None; ignore_errors = None }) (task_step (record { line = 8; work = (module_work (codes "ping") (no_parts)); condition = (no_expressions); loop = None; register = None; vars = (no_parts); notify = ([]); changed_when = (Some (expression (comparison equal (path (variable (codes "inventory_hostname")) ([])) (literal (text (codes "a")))) (no_expressions))); failed_when = None; attempts = None; ignore_errors = None }) (no_steps)))) (task_step (record { line = 9; work = (fail_work (part (codes "msg") (literal (text (codes "m"))) (no_parts))); condition = (no_expressions); loop = None; register = None; vars = (no_parts); notify = ([]); changed_when = None; failed_when = None; attempts = None; ignore_errors = None }) (no_steps)) (task_step (record { line = 10; work = (module_work (codes "command") (part (codes "cmd") (literal (text (codes "x"))) (no_parts))); condition = (no_expressions); loop = None; register = None; vars = (no_parts); notify = ([]); changed_when = None; failed_when = None; attempts = None; ignore_errors = None }) (no_steps)))); post_tasks = (no_steps); handlers = (record { work = (record { line = 11; work = (module_work (codes "probe") (no_parts)); condition = (no_expressions); loop = None; register = None; vars = (no_parts); notify = ([]); changed_when = None; failed_when = None; attempts = None; ignore_errors = None }); name = (Some (codes "h0")); topics = ((codes "t") ∷ []) } ∷ record { work = (record { line = 12; work = (module_work (codes "command") (part (codes "cmd") (literal (text (codes "x"))) (no_parts))); condition = (no_expressions); loop = None; register = (Some (codes "r3")); vars = (no_parts); notify = ([]); changed_when = None; failed_when = None; attempts = None; ignore_errors = (Some true) }); name = (Some (codes "h1")); topics = ((codes "t") ∷ []) } ∷ []); forces = true } ∷ record { line = 13; pattern = ((codes "a") ∷ []); gathering = None; vars = (no_parts); is_linear = true; serial = ([]); pre_tasks = (task_step (record { line = 14; work = (module_work (codes "ping") (no_parts)); condition = (no_expressions); loop = None; register = (Some (codes "r2")); vars = (no_parts); notify = ((codes "t") ∷ []); changed_when = (Some (expression (literal (boolean true)) (no_expressions))); failed_when = None; attempts = (Some (record { until = (expression (path_status is_failed (variable (codes "r2")) ([])) (no_expressions)); retries = 3 })); ignore_errors = None }) (no_steps)); tasks = (task_step (record { line = 15; work = (fail_work (part (codes "msg") (literal (text (codes "m"))) (no_parts))); condition = (no_expressions); loop = None; register = (Some (codes "r3")); vars = (no_parts); notify = ([]); changed_when = None; failed_when = None; attempts = None; ignore_errors = None }) (block_step (record { line = 16; condition = (no_expressions); vars = (no_parts); ignore_errors = None }) (block_step (record { line = 17; condition = (no_expressions); vars = (no_parts); ignore_errors = None }) (block_step (record { line = 18; condition = (no_expressions); vars = (no_parts); ignore_errors = None }) (task_step (record { line = 19; work = (module_work (codes "stat") (part (codes "path") (literal (text (codes "/"))) (no_parts))); condition = (no_expressions); loop = None; register = None; vars = (no_parts); notify = ([]); changed_when = None; failed_when = None; attempts = (Some (record { until = (expression (literal (boolean false)) (no_expressions)); retries = 2 })); ignore_errors = None }) (task_step (record { line = 20; work = (module_work (codes "ping") (no_parts)); condition = (expression (path_or (other (named_host (codes "a")) (codes "s3")) ([]) (literal (boolean false))) (no_expressions)); loop = None; register = None; vars = (part (codes "v1") (path (variable (codes "r2")) ((codes "ping") ∷ [])) (part (codes "v3") (path (variable (codes "ansible_hostname")) ([])) (no_parts))); notify = ((codes "h1") ∷ []); changed_when = (Some (expression (literal (boolean true)) (no_expressions))); failed_when = None; attempts = None; ignore_errors = None }) (task_step (record { line = 21; work = (set_fact_work (part (codes "s3") (record_of (part (codes "f") (path (variable (codes "group_names")) ([])) (part (codes "rc") (literal (int (pos 1))) (no_parts)))) (no_parts))); condition = (no_expressions); loop = None; register = None; vars = (no_parts); notify = ((codes "t") ∷ []); changed_when = None; failed_when = (Some (expression (literal (boolean true)) (no_expressions))); attempts = None; ignore_errors = None }) (no_steps)))) (task_step (record { line = 22; work = (fail_work (part (codes "msg") (literal (text (codes "m"))) (no_parts))); condition = (no_expressions); loop = None; register = None; vars = (part (codes "v2") (list_of (expression (path (other (named_host (codes "a")) (codes "r1")) ([])) (expression (path (other (named_host (codes "a")) (codes "r1")) ([])) (no_expressions)))) (no_parts)); notify = ((codes "h1") ∷ []); changed_when = None; failed_when = None; attempts = None; ignore_errors = None }) (task_step (record { line = 23; work = (set_fact_work (part (codes "s1") (literal (int (pos 1))) (no_parts))); condition = (no_expressions); loop = None; register = (Some (codes "r1")); vars = (no_parts); notify = ((codes "h0") ∷ []); changed_when = (Some (expression (comparison equal (path (variable (codes "r1")) ((codes "failed") ∷ [])) (literal (text (codes "a")))) (no_expressions))); failed_when = (Some (expression (literal (boolean true)) (no_expressions))); attempts = None; ignore_errors = None }) (no_steps))) (no_steps) (no_steps)) (task_step (record { line = 24; work = (debug_work (part (codes "msg") (path (other (named_host (codes "a")) (codes "r1")) ((codes "failed") ∷ [])) (no_parts))); condition = (expression (in_batch (named_host (codes "a"))) (expression (defined (other (named_host (codes "a")) (codes "r1")) ((codes "failed") ∷ [])) (no_expressions))); loop = None; register = (Some (codes "r1")); vars = (no_parts); notify = ([]); changed_when = None; failed_when = None; attempts = None; ignore_errors = None }) (task_step (record { line = 25; work = (module_work (codes "setup") (no_parts)); condition = (no_expressions); loop = None; register = (Some (codes "r3")); vars = (no_parts); notify = ([]); changed_when = (Some (expression (comparison equal (path (variable (codes "r3")) ((codes "ansible_facts") ∷ (codes "ansible_hostname") ∷ [])) (literal (text (codes "a")))) (no_expressions))); failed_when = None; attempts = None; ignore_errors = None }) (no_steps))) (no_steps) (block_step (record { line = 26; condition = (no_expressions); vars = (no_parts); ignore_errors = None }) (task_step (record { line = 27; work = (module_work (codes "probe") (no_parts)); condition = (no_expressions); loop = None; register = (Some (codes "r1")); vars = (part (codes "v3") (path (variable (codes "i2")) ([])) (no_parts)); notify = ([]); changed_when = (Some (expression (path_status is_changed (variable (codes "r1")) ([])) (no_expressions))); failed_when = None; attempts = None; ignore_errors = None }) (no_steps)) (task_step (record { line = 28; work = (module_work (codes "stat") (part (codes "path") (literal (text (codes "/"))) (no_parts))); condition = (no_expressions); loop = None; register = None; vars = (no_parts); notify = ([]); changed_when = None; failed_when = None; attempts = None; ignore_errors = None }) (task_step (record { line = 29; work = (module_work (codes "probe") (no_parts)); condition = (no_expressions); loop = None; register = None; vars = (no_parts); notify = ([]); changed_when = None; failed_when = None; attempts = None; ignore_errors = (Some true) }) (task_step (record { line = 30; work = (set_fact_work (part (codes "s3") (concatenation (expression (literal (text (codes "x"))) (expression (path (variable (codes "s3")) ([])) (no_expressions)))) (no_parts))); condition = (expression (path_status is_skipped (variable (codes "r2")) ([])) (no_expressions)); loop = None; register = (Some (codes "r1")); vars = (part (codes "v3") (concatenation (expression (literal (text (codes "x"))) (expression (path (variable (codes "r1")) ((codes "v") ∷ [])) (no_expressions)))) (no_parts)); notify = ([]); changed_when = None; failed_when = None; attempts = None; ignore_errors = None }) (no_steps)))) (no_steps) (task_step (record { line = 31; work = (module_work (codes "ping") (no_parts)); condition = (no_expressions); loop = None; register = None; vars = (part (codes "v3") (path (variable (codes "ansible_os_family")) ([])) (no_parts)); notify = ([]); changed_when = None; failed_when = None; attempts = None; ignore_errors = (Some true) }) (no_steps)))) (no_steps) (no_steps) (no_steps))); post_tasks = (no_steps); handlers = (record { work = (record { line = 32; work = (assert_work (conditions_are (expression (negation (in_batch (named_host (codes "a")))) (no_expressions))) (no_parts)); condition = (no_expressions); loop = None; register = None; vars = (no_parts); notify = ((codes "h1") ∷ []); changed_when = None; failed_when = None; attempts = None; ignore_errors = None }); name = (Some (codes "h0")); topics = ((codes "t") ∷ []) } ∷ record { work = (record { line = 33; work = (module_work (codes "probe") (no_parts)); condition = (no_expressions); loop = (Some (path (variable (codes "r1")) ((codes "failed") ∷ []))); register = (Some (codes "r2")); vars = (no_parts); notify = ([]); changed_when = None; failed_when = None; attempts = None; ignore_errors = None }); name = (Some (codes "h1")); topics = ([]) } ∷ []); forces = false } ∷ record { line = 34; pattern = ((codes "b") ∷ (codes "all") ∷ []); gathering = (Some 35); vars = (part (codes "v1") (record_of (part (codes "f") (record_of (part (codes "g") (literal (int (pos 1))) (no_parts))) (no_parts))) (part (codes "v3") (path_or (variable (codes "r3")) ((codes "changed") ∷ []) (path (variable (codes "s1")) ([]))) (no_parts))); is_linear = false; serial = ([]); pre_tasks = (no_steps); tasks = (task_step (record { line = 36; work = (module_work (codes "probe") (no_parts)); condition = (no_expressions); loop = None; register = None; vars = (no_parts); notify = ([]); changed_when = None; failed_when = (Some (expression (literal (boolean true)) (no_expressions))); attempts = None; ignore_errors = None }) (no_steps)); post_tasks = (no_steps); handlers = ([]); forces = false } ∷ [])

abbrev random_001605_run_inventory : Inventory
random_001605_run_inventory = record { hosts = (record { name = (codes "a"); variables = (field (codes "i1") (text (codes "no")) (field (codes "i2") (rec (field (codes "f") (boolean false) (field (codes "g") (list (no_items)) (no_fields)))) (no_fields))) } ∷ record { name = (codes "b"); variables = (field (codes "s1") (list (no_items)) (no_fields)) } ∷ []); groups = (record { name = (codes "all"); hosts = ((codes "a") ∷ (codes "b") ∷ []) } ∷ record { name = (codes "g1"); hosts = ((codes "b") ∷ []) } ∷ record { name = (codes "g2"); hosts = ((codes "b") ∷ []) } ∷ record { name = (codes "ungrouped"); hosts = ((codes "a") ∷ []) } ∷ []) }

abbrev random_001605_run_registry : Registry
random_001605_run_registry = (builtins ++ (record { name = (codes "probe"); params = (record { name = (codes "n"); kind = ints; required = false } ∷ record { name = (codes "l"); kind = (lists texts 3); required = false } ∷ []); ok = recs (slot (codes "changed") true booleans (slot (codes "deep") false (recs (slot (codes "a") true texts (slot (codes "b") false booleans (no_slots)))) (slot (codes "rows") true (lists texts 2) (slot (codes "v") false ints (no_slots))))); failure = recs (slot (codes "changed") true booleans (slot (codes "msg") true texts (slot (codes "v") false texts (slot (codes "why") true ints (no_slots))))); free = None } ∷ record { name = (codes "odd"); params = ([]); ok = recs (slot (codes "changed") true booleans (slot (codes "msg") false ints (no_slots))); failure = recs (slot (codes "changed") true booleans (slot (codes "msg") true texts (no_slots))); free = None } ∷ []))

random_001605_run : recaps_of random_001605_run_registry random_001605_run_inventory random_001605_run_book 1 ((object (rec (field (codes "changed") (boolean true) (field (codes "stat") (rec (field (codes "exists") (boolean false) (field (codes "isreg") (boolean true) (field (codes "mode") (text (codes "x")) (field (codes "size") (int (negsuc 6)) (no_fields)))))) (no_fields)))) ∷ object (rec (field (codes "changed") (boolean false) (field (codes "extra") (rec (field (codes "a") (int (pos 1)) (no_fields))) (field (codes "stat") (rec (field (codes "exists") (boolean true) (field (codes "isdir") (boolean true) (field (codes "mode") (text (123 ∷ 123 ∷ 32 ∷ 120 ∷ 32 ∷ 125 ∷ 125 ∷ [])) (field (codes "size") (int (pos 1)) (no_fields)))))) (no_fields))))) ∷ object (rec (field (codes "changed") (boolean false) (field (codes "rc") (int (pos 2)) (field (codes "stderr") (text (codes "x")) (field (codes "stderr_lines") (list (no_items)) (field (codes "stdout") (text (codes "b")) (field (codes "stdout_lines") (list (no_items)) (no_fields)))))))) ∷ []) ∷ (object (rec (field (codes "changed") (boolean false) (field (codes "stat") (rec (field (codes "exists") (boolean false) (field (codes "size") (int (negsuc 6)) (no_fields)))) (no_fields)))) ∷ object (rec (field (codes "changed") (boolean false) (field (codes "stat") (rec (field (codes "exists") (boolean false) (field (codes "mode") (text (codes "a")) (no_fields)))) (no_fields)))) ∷ []) ∷ []) ≡ (record { ok = 4; changed = 1; unreachable = 0; failed = 1; skipped = 0; rescued = 0; ignored = 0 } ∷ record { ok = 3; changed = 0; unreachable = 0; failed = 1; skipped = 0; rescued = 0; ignored = 0 } ∷ [])
unfolding digits
random_001605_run = refl

-- random_001608:
abbrev random_001608_book : Book
random_001608_book = (record { line = 1; pattern = ((codes "b") ∷ (codes "a") ∷ []); gathering = None; vars = (part (codes "v1") (path (variable (codes "group_names")) ([])) (no_parts)); is_linear = true; serial = ([]); pre_tasks = (no_steps); tasks = (task_step (record { line = 2; work = (module_work (codes "setup") (no_parts)); condition = (no_expressions); loop = None; register = None; vars = (no_parts); notify = ([]); changed_when = None; failed_when = None; attempts = None; ignore_errors = None }) (task_step (record { line = 3; work = (module_work (codes "setup") (no_parts)); condition = (expression (defined (variable (codes "r")) ([])) (no_expressions)); loop = None; register = (Some (codes "s")); vars = (no_parts); notify = ((codes "h0") ∷ []); changed_when = None; failed_when = None; attempts = None; ignore_errors = None }) (block_step (record { line = 4; condition = (no_expressions); vars = (no_parts); ignore_errors = None }) (task_step (record { line = 5; work = (module_work (codes "stat") (part (codes "path") (literal (text (codes "p"))) (no_parts))); condition = (no_expressions); loop = None; register = (Some (codes "s")); vars = (no_parts); notify = ((codes "h0") ∷ []); changed_when = (Some (expression (path_status is_changed (variable (codes "s")) ([])) (no_expressions))); failed_when = None; attempts = None; ignore_errors = None }) (task_step (record { line = 6; work = (module_work (codes "stat") (part (codes "path") (literal (text (codes "p"))) (no_parts))); condition = (expression (path_status is_changed (other (group_member (codes "g") 0) (codes "y")) ((codes "stdout") ∷ [])) (expression (negation (path_status is_failed (other this_host (codes "r")) ((codes "k") ∷ []))) (no_expressions))); loop = None; register = (Some (codes "r")); vars = (no_parts); notify = ([]); changed_when = None; failed_when = None; attempts = None; ignore_errors = (Some true) }) (no_steps))) (no_steps) (no_steps) (task_step (record { line = 7; work = (fail_work (part (codes "msg") (literal (text (codes "m"))) (no_parts))); condition = (no_expressions); loop = None; register = (Some (codes "s")); vars = (no_parts); notify = ([]); changed_when = None; failed_when = None; attempts = None; ignore_errors = (Some true) }) (no_steps))))); post_tasks = (no_steps); handlers = (record { work = (record { line = 8; work = (module_work (codes "command") (part (codes "cmd") (literal (text (codes "x"))) (no_parts))); condition = (no_expressions); loop = None; register = None; vars = (no_parts); notify = ([]); changed_when = None; failed_when = None; attempts = (Some (record { until = (expression (path (variable (codes "zz")) ((codes "changed") ∷ [])) (no_expressions)); retries = 2 })); ignore_errors = None }); name = (Some (codes "h0")); topics = ([]) } ∷ []); forces = false } ∷ [])

abbrev random_001608_inventory : Inventory
random_001608_inventory = record { hosts = (record { name = (codes "c"); variables = (field (codes "inv") (list (item (int (pos 1)) (item (int (pos 2)) (no_items)))) (no_fields)) } ∷ record { name = (codes "b"); variables = (field (codes "inv") (list (item (int (pos 1)) (item (int (pos 2)) (no_items)))) (field (codes "k") (rec (field (codes "z") opaque (no_fields))) (no_fields))) } ∷ record { name = (codes "a"); variables = (field (codes "inv") (list (item (text (codes "x")) (no_items))) (field (codes "opq") opaque (no_fields))) } ∷ []); groups = (record { name = (codes "all"); hosts = ((codes "c") ∷ (codes "b") ∷ (codes "a") ∷ []) } ∷ record { name = (codes "g"); hosts = ((codes "b") ∷ (codes "a") ∷ []) } ∷ record { name = (codes "ungrouped"); hosts = ((codes "c") ∷ []) } ∷ []) }

abbrev random_001608_registry : Registry
random_001608_registry = (builtins ++ ([]))

random_001608 : judged random_001608_registry random_001608_inventory random_001608_book ≡ refused (record { code = 2; line = 6; host = (Some (codes "b")) })
random_001608 = refl

-- random_001612:
abbrev random_001612_book : Book
random_001612_book = (record { line = 1; pattern = ((codes "a") ∷ []); gathering = None; vars = (no_parts); is_linear = true; serial = ([]); pre_tasks = (no_steps); tasks = (block_step (record { line = 2; condition = (no_expressions); vars = (no_parts); ignore_errors = None }) (no_steps) (no_steps) (no_steps) (block_step (record { line = 3; condition = (no_expressions); vars = (no_parts); ignore_errors = None }) (no_steps) (block_step (record { line = 4; condition = (expression (path_status is_skipped (variable (codes "opq")) ((codes "stdout_lines") ∷ [])) (no_expressions)); vars = (no_parts); ignore_errors = None }) (no_steps) (task_step (record { line = 5; work = (fail_work (no_parts)); condition = (no_expressions); loop = None; register = (Some (codes "s")); vars = (no_parts); notify = ([]); changed_when = None; failed_when = None; attempts = None; ignore_errors = None }) (no_steps)) (task_step (record { line = 6; work = (set_fact_work (part (codes "s") (record_of (part (codes "k") (list_of (expression (literal (text (codes "a"))) (expression (literal (int (pos 1))) (no_expressions)))) (no_parts))) (no_parts))); condition = (expression (conjunction (expression (defined (variable (codes "r")) ([])) (expression (negation (path_status is_failed (variable (codes "r")) ([]))) (no_expressions)))) (expression (defined (other (named_host (codes "a")) (codes "r")) ((codes "rc") ∷ [])) (no_expressions))); loop = (Some (path (variable (codes "r")) ((codes "results") ∷ []))); register = (Some (codes "r")); vars = (no_parts); notify = ([]); changed_when = None; failed_when = None; attempts = None; ignore_errors = None }) (no_steps)) (task_step (record { line = 7; work = (module_work (codes "ping") (no_parts)); condition = (no_expressions); loop = None; register = (Some (codes "r")); vars = (no_parts); notify = ([]); changed_when = None; failed_when = None; attempts = None; ignore_errors = None }) (no_steps))) (no_steps) (block_step (record { line = 8; condition = (expression (negation (negation (path_status is_skipped (other (named_host (codes "a")) (codes "r")) ((codes "rc") ∷ [])))) (no_expressions)); vars = (no_parts); ignore_errors = None }) (task_step (record { line = 9; work = (module_work (codes "command") (part (codes "cmd") (literal (text (codes "x"))) (no_parts))); condition = (no_expressions); loop = None; register = None; vars = (no_parts); notify = ([]); changed_when = None; failed_when = None; attempts = None; ignore_errors = None }) (task_step (record { line = 10; work = (module_work (codes "ping") (no_parts)); condition = (no_expressions); loop = None; register = None; vars = (no_parts); notify = ([]); changed_when = None; failed_when = None; attempts = None; ignore_errors = None }) (no_steps))) (task_step (record { line = 11; work = (module_work (codes "ping") (no_parts)); condition = (no_expressions); loop = None; register = (Some (codes "s")); vars = (no_parts); notify = ([]); changed_when = None; failed_when = None; attempts = None; ignore_errors = None }) (task_step (record { line = 12; work = (set_fact_work (part (codes "y") (path_or (other this_host (codes "s")) ((codes "os_family") ∷ []) (path (variable (codes "inv")) ([]))) (no_parts))); condition = (expression (negation (negation (defined (variable (codes "inventory_hostname")) ((codes "hostname") ∷ [])))) (expression (path (variable (codes "s")) ((codes "changed") ∷ [])) (no_expressions))); loop = None; register = None; vars = (no_parts); notify = ([]); changed_when = None; failed_when = None; attempts = None; ignore_errors = None }) (no_steps))) (no_steps) (task_step (record { line = 13; work = (set_fact_work (part (codes "s") (concatenation (expression (literal (text (codes "x"))) (expression (path (variable (codes "inv")) ((codes "hostname") ∷ [])) (no_expressions)))) (no_parts))); condition = (no_expressions); loop = None; register = None; vars = (no_parts); notify = ([]); changed_when = None; failed_when = None; attempts = None; ignore_errors = None }) (no_steps))))); post_tasks = (no_steps); handlers = ([]); forces = true } ∷ [])

abbrev random_001612_inventory : Inventory
random_001612_inventory = record { hosts = (record { name = (codes "c"); variables = (field (codes "inv") (list (item (int (pos 1)) (item (int (pos 2)) (no_items)))) (no_fields)) } ∷ record { name = (codes "b"); variables = (field (codes "inv") (list (item (int (pos 1)) (item (int (pos 2)) (no_items)))) (field (codes "k") (rec (field (codes "z") opaque (no_fields))) (no_fields))) } ∷ record { name = (codes "a"); variables = (field (codes "inv") (list (item (text (codes "x")) (no_items))) (field (codes "opq") opaque (no_fields))) } ∷ []); groups = (record { name = (codes "all"); hosts = ((codes "c") ∷ (codes "b") ∷ (codes "a") ∷ []) } ∷ record { name = (codes "g"); hosts = ((codes "b") ∷ (codes "a") ∷ []) } ∷ record { name = (codes "ungrouped"); hosts = ((codes "c") ∷ []) } ∷ []) }

abbrev random_001612_registry : Registry
random_001612_registry = (builtins ++ ([]))

random_001612 : judged random_001612_registry random_001612_inventory random_001612_book ≡ refused (record { code = 2; line = 9; host = (Some (codes "a")) })
random_001612 = refl

-- random_001615:
abbrev random_001615_book : Book
random_001615_book = (record { line = 1; pattern = ((codes "g2") ∷ []); gathering = None; vars = (no_parts); is_linear = true; serial = ([]); pre_tasks = (task_step (record { line = 2; work = (set_fact_work (part (codes "s1") (literal (int (pos 1))) (no_parts))); condition = (no_expressions); loop = None; register = (Some (codes "r1")); vars = (no_parts); notify = ([]); changed_when = None; failed_when = None; attempts = None; ignore_errors = (Some true) }) (task_step (record { line = 3; work = (module_work (codes "ping") (no_parts)); condition = (expression (membership (literal (text (codes "g2"))) (path (variable (codes "group_names")) ([]))) (no_expressions)); loop = None; register = (Some (codes "r3")); vars = (no_parts); notify = ([]); changed_when = None; failed_when = None; attempts = None; ignore_errors = (Some true) }) (task_step (record { line = 4; work = (module_work (codes "command") (part (codes "cmd") (literal (text (codes "x"))) (no_parts))); condition = (expression (disjunction (expression (path_or (variable (codes "r3")) ((codes "changed") ∷ []) (literal (boolean false))) (expression (conjunction (expression (defined (variable (codes "r1")) ([])) (expression (negation (path_status is_skipped (variable (codes "r1")) ([]))) (expression (comparison equal (path (variable (codes "r1")) ((codes "failed") ∷ [])) (literal (int (pos 1)))) (no_expressions))))) (no_expressions)))) (no_expressions)); loop = None; register = (Some (codes "r1")); vars = (no_parts); notify = ([]); changed_when = None; failed_when = None; attempts = None; ignore_errors = None }) (block_step (record { line = 5; condition = (no_expressions); vars = (no_parts); ignore_errors = None }) (task_step (record { line = 6; work = (module_work (codes "stat") (part (codes "path") (literal (text (codes "/"))) (no_parts))); condition = (no_expressions); loop = (Some (path_or (variable (codes "r1")) ((codes "results") ∷ []) (list_of (no_expressions)))); register = None; vars = (no_parts); notify = ([]); changed_when = None; failed_when = None; attempts = None; ignore_errors = None }) (no_steps)) (task_step (record { line = 7; work = (assert_work (conditions_are (expression (negation (in_batch item_host)) (no_expressions))) (no_parts)); condition = (no_expressions); loop = (Some (list_of (expression (literal (text (codes "no"))) (no_expressions)))); register = (Some (codes "r3")); vars = (no_parts); notify = ([]); changed_when = None; failed_when = (Some (expression (conjunction (expression (defined (variable (codes "r3")) ((codes "changed") ∷ [])) (expression (comparison equal (path (variable (codes "r3")) ((codes "changed") ∷ [])) (literal (text (codes "a")))) (no_expressions)))) (no_expressions))); attempts = None; ignore_errors = None }) (block_step (record { line = 8; condition = (expression (comparison equal (path (variable (codes "inventory_hostname")) ([])) (literal (text (codes "b")))) (no_expressions)); vars = (no_parts); ignore_errors = None }) (task_step (record { line = 9; work = (module_work (codes "odd") (no_parts)); condition = (expression (negation (defined (variable (codes "r3")) ((codes "msg") ∷ []))) (no_expressions)); loop = None; register = (Some (codes "r3")); vars = (no_parts); notify = ([]); changed_when = None; failed_when = None; attempts = None; ignore_errors = None }) (block_step (record { line = 10; condition = (expression (conjunction (expression (in_batch (named_host (codes "b"))) (expression (conjunction (expression (defined (variable (codes "r2")) ((codes "failed") ∷ [])) (expression (comparison equal (path (variable (codes "r2")) ((codes "failed") ∷ [])) (literal (text (codes "a")))) (no_expressions)))) (no_expressions)))) (no_expressions)); vars = (no_parts); ignore_errors = None }) (task_step (record { line = 11; work = (debug_work (part (codes "msg") (literal (text (codes "x"))) (no_parts))); condition = (expression (defined (variable (codes "s1")) ([])) (no_expressions)); loop = None; register = None; vars = (no_parts); notify = ([]); changed_when = None; failed_when = None; attempts = None; ignore_errors = None }) (task_step (record { line = 12; work = (module_work (codes "odd") (no_parts)); condition = (no_expressions); loop = None; register = (Some (codes "r3")); vars = (no_parts); notify = ([]); changed_when = None; failed_when = None; attempts = None; ignore_errors = (Some false) }) (task_step (record { line = 13; work = (module_work (codes "ping") (no_parts)); condition = (expression (in_batch item_host) (no_expressions)); loop = (Some (path (variable (codes "groups")) ((codes "all") ∷ []))); register = None; vars = (no_parts); notify = ([]); changed_when = None; failed_when = (Some (expression (literal (boolean false)) (no_expressions))); attempts = None; ignore_errors = None }) (no_steps)))) (task_step (record { line = 14; work = (module_work (codes "probe") (no_parts)); condition = (no_expressions); loop = None; register = None; vars = (no_parts); notify = ([]); changed_when = None; failed_when = None; attempts = None; ignore_errors = None }) (task_step (record { line = 15; work = (module_work (codes "setup") (no_parts)); condition = (expression (negation (path_status is_skipped (variable (codes "r3")) ([]))) (no_expressions)); loop = None; register = None; vars = (no_parts); notify = ([]); changed_when = None; failed_when = (Some (expression (literal (boolean false)) (no_expressions))); attempts = None; ignore_errors = None }) (no_steps))) (no_steps) (task_step (record { line = 16; work = (debug_work (part (codes "msg") (length_of (path (variable (codes "r1")) ([]))) (no_parts))); condition = (expression (in_batch item_host) (no_expressions)); loop = (Some (path (variable (codes "ansible_play_batch")) ([]))); register = None; vars = (no_parts); notify = ([]); changed_when = None; failed_when = None; attempts = None; ignore_errors = None }) (no_steps)))) (no_steps) (task_step (record { line = 17; work = (set_fact_work (part (codes "s1") (literal (text (codes "t"))) (part (codes "s3") (length_of (path (variable (codes "s2")) ([]))) (no_parts)))); condition = (expression (defined (variable (codes "s2")) ([])) (no_expressions)); loop = None; register = (Some (codes "r2")); vars = (no_parts); notify = ([]); changed_when = (Some (expression (path_status is_failed (variable (codes "r2")) ([])) (no_expressions))); failed_when = None; attempts = None; ignore_errors = (Some true) }) (task_step (record { line = 18; work = (module_work (codes "command") (part (codes "cmd") (literal (text (codes "x"))) (no_parts))); condition = (no_expressions); loop = None; register = (Some (codes "r1")); vars = (no_parts); notify = ([]); changed_when = None; failed_when = None; attempts = None; ignore_errors = None }) (no_steps))) (task_step (record { line = 19; work = (fail_work (part (codes "msg") (literal (text (codes "m"))) (no_parts))); condition = (expression (negation (in_batch (named_host (codes "a")))) (no_expressions)); loop = None; register = (Some (codes "r3")); vars = (no_parts); notify = ([]); changed_when = None; failed_when = None; attempts = None; ignore_errors = None }) (no_steps)))) (no_steps) (no_steps))))); tasks = (task_step (record { line = 20; work = (module_work (codes "command") (part (codes "cmd") (literal (text (codes "x"))) (no_parts))); condition = (no_expressions); loop = (Some (path (variable (codes "ansible_play_batch")) ([]))); register = (Some (codes "r1")); vars = (part (codes "v2") (length_of (path (variable (codes "r1")) ((codes "rc") ∷ []))) (no_parts)); notify = ([]); changed_when = (Some (expression (comparison equal (path (variable (codes "inventory_hostname")) ([])) (literal (text (codes "a")))) (no_expressions))); failed_when = None; attempts = None; ignore_errors = None }) (task_step (record { line = 21; work = (module_work (codes "ping") (no_parts)); condition = (no_expressions); loop = None; register = None; vars = (no_parts); notify = ([]); changed_when = None; failed_when = None; attempts = None; ignore_errors = (Some true) }) (no_steps))); post_tasks = (no_steps); handlers = ([]); forces = true } ∷ [])

abbrev random_001615_inventory : Inventory
random_001615_inventory = record { hosts = (record { name = (codes "a"); variables = (field (codes "i2") (list (item (boolean true) (no_items))) (field (codes "s1") (int (pos 3)) (no_fields))) } ∷ record { name = (codes "b"); variables = (no_fields) } ∷ record { name = (codes "c"); variables = (field (codes "i1") (text ([])) (field (codes "i2") (rec (no_fields)) (field (codes "op") opaque (field (codes "s1") (text (codes "t")) (no_fields))))) } ∷ []); groups = (record { name = (codes "all"); hosts = ((codes "a") ∷ (codes "b") ∷ (codes "c") ∷ []) } ∷ record { name = (codes "g1"); hosts = ((codes "a") ∷ (codes "c") ∷ []) } ∷ record { name = (codes "g2"); hosts = ((codes "a") ∷ []) } ∷ record { name = (codes "ungrouped"); hosts = ((codes "b") ∷ []) } ∷ []) }

abbrev random_001615_registry : Registry
random_001615_registry = (builtins ++ (record { name = (codes "probe"); params = (record { name = (codes "n"); kind = ints; required = false } ∷ record { name = (codes "l"); kind = (lists texts 3); required = false } ∷ []); ok = recs (slot (codes "changed") true booleans (slot (codes "deep") false (recs (slot (codes "a") true texts (slot (codes "b") false booleans (no_slots)))) (slot (codes "rows") true (lists texts 2) (slot (codes "v") false ints (no_slots))))); failure = recs (slot (codes "changed") true booleans (slot (codes "msg") true texts (slot (codes "v") false texts (slot (codes "why") true ints (no_slots))))); free = None } ∷ record { name = (codes "odd"); params = ([]); ok = recs (slot (codes "changed") true booleans (slot (codes "msg") false ints (no_slots))); failure = recs (slot (codes "changed") true booleans (slot (codes "msg") true texts (no_slots))); free = None } ∷ []))

random_001615 : judged random_001615_registry random_001615_inventory random_001615_book ≡ accepted 12
random_001615 = refl

-- random_001623_run:
abbrev random_001623_run_book : Book
random_001623_run_book = (record { line = 1; pattern = ((codes "all") ∷ []); gathering = None; vars = (no_parts); is_linear = true; serial = ([]); pre_tasks = (no_steps); tasks = (task_step (record { line = 2; work = (set_fact_work (part (codes "s2") (path_or (variable (codes "r1")) ((codes "changed") ∷ []) (literal (text (codes "z")))) (no_parts))); condition = (no_expressions); loop = None; register = (Some (codes "r3")); vars = (no_parts); notify = ((codes "t") ∷ []); changed_when = None; failed_when = None; attempts = None; ignore_errors = None }) (block_step (record { line = 3; condition = (no_expressions); vars = (no_parts); ignore_errors = None }) (task_step (record { line = 4; work = (module_work (codes "command") (part (codes "cmd") (literal (text (codes "x"))) (no_parts))); condition = (no_expressions); loop = None; register = (Some (codes "r3")); vars = (no_parts); notify = ([]); changed_when = None; failed_when = None; attempts = None; ignore_errors = None }) (task_step (record { line = 5; work = (module_work (codes "ping") (no_parts)); condition = (no_expressions); loop = None; register = None; vars = (no_parts); notify = ([]); changed_when = None; failed_when = None; attempts = None; ignore_errors = None }) (no_steps))) (no_steps) (task_step (record { line = 6; work = (module_work (codes "command") (part (codes "cmd") (literal (text (codes "x"))) (no_parts))); condition = (no_expressions); loop = None; register = (Some (codes "r1")); vars = (no_parts); notify = ([]); changed_when = None; failed_when = None; attempts = None; ignore_errors = None }) (task_step (record { line = 7; work = (fail_work (no_parts)); condition = (no_expressions); loop = None; register = (Some (codes "r3")); vars = (part (codes "v2") (path (variable (codes "r3")) ((codes "stdout") ∷ [])) (part (codes "v3") (list_of (expression (path (variable (codes "r2")) ((codes "failed") ∷ [])) (expression (literal (int (pos 1))) (no_expressions)))) (no_parts))); notify = ([]); changed_when = None; failed_when = None; attempts = None; ignore_errors = None }) (no_steps))) (task_step (record { line = 8; work = (debug_work (part (codes "msg") (comparison equal (path (other (named_host (codes "b")) (codes "r3")) ((codes "msg") ∷ [])) (path (variable (codes "r2")) ([]))) (no_parts))); condition = (no_expressions); loop = None; register = None; vars = (no_parts); notify = ([]); changed_when = None; failed_when = None; attempts = None; ignore_errors = (Some true) }) (no_steps)))); post_tasks = (no_steps); handlers = (record { work = (record { line = 9; work = (module_work (codes "probe") (no_parts)); condition = (no_expressions); loop = None; register = (Some (codes "r3")); vars = (part (codes "v1") (comparison equal (path (variable (codes "r2")) ((codes "changed") ∷ [])) (path (other (named_host (codes "a")) (codes "s1")) ((codes "f") ∷ []))) (no_parts)); notify = ((codes "h1") ∷ []); changed_when = None; failed_when = None; attempts = (Some (record { until = (expression (comparison equal (path_or (variable (codes "r3")) ((codes "failed") ∷ []) (literal (boolean true))) (literal (boolean true))) (no_expressions)); retries = 1 })); ignore_errors = None }); name = (Some (codes "h0")); topics = ((codes "t") ∷ []) } ∷ record { work = (record { line = 10; work = (set_fact_work (part (codes "s2") (record_of (part (codes "f") (path (variable (codes "ansible_play_batch")) ([])) (part (codes "rc") (literal (int (pos 1))) (no_parts)))) (no_parts))); condition = (no_expressions); loop = None; register = None; vars = (no_parts); notify = ([]); changed_when = (Some (expression (comparison equal (path (variable (codes "inventory_hostname")) ([])) (literal (text (codes "a")))) (no_expressions))); failed_when = None; attempts = None; ignore_errors = None }); name = (Some (codes "h1")); topics = ([]) } ∷ []); forces = false } ∷ [])

abbrev random_001623_run_inventory : Inventory
random_001623_run_inventory = record { hosts = (record { name = (codes "a"); variables = (field (codes "i1") null (field (codes "i2") (rec (field (codes "g") (rec (field (codes "f") (boolean false) (field (codes "g") (int (negsuc 0)) (no_fields)))) (no_fields))) (field (codes "s1") (rec (field (codes "f") (rec (field (codes "f") (boolean false) (no_fields))) (field (codes "g") (text (codes "t")) (no_fields)))) (no_fields)))) } ∷ record { name = (codes "b"); variables = (field (codes "i1") null (field (codes "i2") (text (codes "a")) (field (codes "op") opaque (no_fields)))) } ∷ []); groups = (record { name = (codes "all"); hosts = ((codes "a") ∷ (codes "b") ∷ []) } ∷ record { name = (codes "g2"); hosts = ([]) } ∷ record { name = (codes "ungrouped"); hosts = ((codes "a") ∷ (codes "b") ∷ []) } ∷ []) }

abbrev random_001623_run_registry : Registry
random_001623_run_registry = (builtins ++ (record { name = (codes "probe"); params = (record { name = (codes "n"); kind = ints; required = false } ∷ record { name = (codes "l"); kind = (lists texts 3); required = false } ∷ []); ok = recs (slot (codes "changed") true booleans (slot (codes "deep") false (recs (slot (codes "a") true texts (slot (codes "b") false booleans (no_slots)))) (slot (codes "rows") true (lists texts 2) (slot (codes "v") false ints (no_slots))))); failure = recs (slot (codes "changed") true booleans (slot (codes "msg") true texts (slot (codes "v") false texts (slot (codes "why") true ints (no_slots))))); free = None } ∷ record { name = (codes "odd"); params = ([]); ok = recs (slot (codes "changed") true booleans (slot (codes "msg") false ints (no_slots))); failure = recs (slot (codes "changed") true booleans (slot (codes "msg") true texts (no_slots))); free = None } ∷ []))

random_001623_run : recaps_of random_001623_run_registry random_001623_run_inventory random_001623_run_book 1 ((object (rec (field (codes "changed") (boolean true) (field (codes "rc") (int (negsuc 6)) (field (codes "stderr") (text (123 ∷ 123 ∷ 32 ∷ 120 ∷ 32 ∷ 125 ∷ 125 ∷ [])) (field (codes "stderr_lines") (list (item (text (codes "a")) (no_items))) (field (codes "stdout") (text (codes "b")) (field (codes "stdout_lines") (list (no_items)) (no_fields)))))))) ∷ object (rec (field (codes "changed") (boolean false) (field (codes "ping") (text (123 ∷ 123 ∷ 32 ∷ 120 ∷ 32 ∷ 125 ∷ 125 ∷ [])) (no_fields)))) ∷ object (rec (field (codes "changed") (boolean false) (field (codes "rc") (int (pos 1)) (field (codes "stderr") (text ([])) (field (codes "stderr_lines") (list (item (text (codes "b")) (item (text (123 ∷ 123 ∷ 32 ∷ 120 ∷ 32 ∷ 125 ∷ 125 ∷ [])) (item (text ([])) (no_items))))) (field (codes "stdout") (text (123 ∷ 123 ∷ 32 ∷ 120 ∷ 32 ∷ 125 ∷ 125 ∷ [])) (field (codes "stdout_lines") (list (item (text (codes "b")) (no_items))) (no_fields)))))))) ∷ []) ∷ (object (rec (field (codes "changed") (boolean false) (field (codes "rc") (int (pos 1)) (field (codes "stderr") (text ([])) (field (codes "stderr_lines") (list (item (text (codes "a")) (no_items))) (field (codes "stdout") (text (codes "a")) (field (codes "stdout_lines") (list (item (text (codes "a")) (item (text (codes "b")) (item (text (codes "b")) (no_items))))) (no_fields)))))))) ∷ object (rec (field (codes "changed") (boolean true) (field (codes "ping") (text (123 ∷ 123 ∷ 32 ∷ 120 ∷ 32 ∷ 125 ∷ 125 ∷ [])) (no_fields)))) ∷ object (rec (field (codes "changed") (boolean false) (field (codes "rc") (int (pos 1)) (field (codes "stderr") (text (123 ∷ 123 ∷ 32 ∷ 120 ∷ 32 ∷ 125 ∷ 125 ∷ [])) (field (codes "stderr_lines") (list (item (text (codes "x")) (no_items))) (field (codes "stdout") (text (codes "b")) (field (codes "stdout_lines") (list (item (text ([])) (item (text (123 ∷ 123 ∷ 32 ∷ 120 ∷ 32 ∷ 125 ∷ 125 ∷ [])) (no_items)))) (no_fields)))))))) ∷ []) ∷ []) ≡ (record { ok = 4; changed = 1; unreachable = 0; failed = 1; skipped = 0; rescued = 0; ignored = 0 } ∷ record { ok = 4; changed = 1; unreachable = 0; failed = 1; skipped = 0; rescued = 0; ignored = 0 } ∷ [])
unfolding digits
random_001623_run = refl

-- random_001641_run:
abbrev random_001641_run_book : Book
random_001641_run_book = (record { line = 1; pattern = ((codes "c") ∷ []); gathering = None; vars = (no_parts); is_linear = false; serial = ([]); pre_tasks = (task_step (record { line = 2; work = (debug_work (part (codes "msg") (literal (text (codes "x"))) (no_parts))); condition = (no_expressions); loop = (Some (path_or (variable (codes "r2")) ((codes "stdout_lines") ∷ []) (list_of (no_expressions)))); register = None; vars = (no_parts); notify = ([]); changed_when = None; failed_when = None; attempts = None; ignore_errors = None }) (no_steps)); tasks = (task_step (record { line = 3; work = (debug_work (part (codes "msg") (path (other (named_host (codes "b")) (codes "r3")) ((codes "failed") ∷ [])) (no_parts))); condition = (expression (defined (other (named_host (codes "b")) (codes "r3")) ([])) (expression (negation (path_status is_failed (other (named_host (codes "b")) (codes "r3")) ([]))) (no_expressions))); loop = None; register = None; vars = (no_parts); notify = ([]); changed_when = None; failed_when = None; attempts = None; ignore_errors = (Some true) }) (task_step (record { line = 4; work = (module_work (codes "probe") (no_parts)); condition = (no_expressions); loop = None; register = None; vars = (no_parts); notify = ((codes "t") ∷ []); changed_when = None; failed_when = None; attempts = None; ignore_errors = (Some false) }) (task_step (record { line = 5; work = (module_work (codes "command") (part (codes "cmd") (literal (text (codes "x"))) (no_parts))); condition = (no_expressions); loop = None; register = (Some (codes "r1")); vars = (no_parts); notify = ((codes "h0") ∷ []); changed_when = (Some (expression (literal (boolean true)) (no_expressions))); failed_when = None; attempts = None; ignore_errors = None }) (no_steps)))); post_tasks = (no_steps); handlers = (record { work = (record { line = 6; work = (module_work (codes "ping") (no_parts)); condition = (no_expressions); loop = None; register = None; vars = (no_parts); notify = ([]); changed_when = None; failed_when = (Some (expression (comparison equal (path (variable (codes "inventory_hostname")) ([])) (literal (text (codes "a")))) (no_expressions))); attempts = None; ignore_errors = None }); name = (Some (codes "h0")); topics = ((codes "t") ∷ []) } ∷ []); forces = true } ∷ record { line = 7; pattern = ((codes "b") ∷ (codes "all") ∷ []); gathering = None; vars = (no_parts); is_linear = false; serial = (host_count 1 ∷ percentage 100 ∷ []); pre_tasks = (no_steps); tasks = (task_step (record { line = 8; work = (module_work (codes "setup") (no_parts)); condition = (no_expressions); loop = None; register = (Some (codes "r1")); vars = (no_parts); notify = ([]); changed_when = (Some (expression (path_status is_changed (variable (codes "r1")) ([])) (no_expressions))); failed_when = None; attempts = None; ignore_errors = None }) (task_step (record { line = 9; work = (set_fact_work (part (codes "s2") (literal (text (codes "t"))) (no_parts))); condition = (no_expressions); loop = None; register = (Some (codes "r1")); vars = (no_parts); notify = ([]); changed_when = None; failed_when = None; attempts = None; ignore_errors = None }) (task_step (record { line = 10; work = (assert_work (conditions_are (expression (negation (negation (defined (variable (codes "r1")) ((codes "failed") ∷ [])))) (no_expressions))) (no_parts)); condition = (no_expressions); loop = None; register = (Some (codes "r2")); vars = (no_parts); notify = ([]); changed_when = (Some (expression (path_status is_failed (variable (codes "r2")) ([])) (no_expressions))); failed_when = None; attempts = None; ignore_errors = None }) (no_steps)))); post_tasks = (no_steps); handlers = ([]); forces = true } ∷ record { line = 11; pattern = ((codes "b") ∷ (codes "all") ∷ []); gathering = (Some 12); vars = (no_parts); is_linear = true; serial = (percentage 50 ∷ []); pre_tasks = (task_step (record { line = 13; work = (module_work (codes "stat") (part (codes "path") (literal (text (codes "/"))) (no_parts))); condition = (no_expressions); loop = None; register = (Some (codes "r1")); vars = (no_parts); notify = ([]); changed_when = None; failed_when = None; attempts = None; ignore_errors = None }) (no_steps)); tasks = (task_step (record { line = 14; work = (module_work (codes "command") (part (codes "cmd") (literal (text (codes "x"))) (no_parts))); condition = (expression (negation (defined (variable (codes "s1")) ((codes "rc") ∷ []))) (no_expressions)); loop = None; register = (Some (codes "r3")); vars = (no_parts); notify = ([]); changed_when = None; failed_when = None; attempts = None; ignore_errors = None }) (no_steps)); post_tasks = (flush_step 15 (task_step (record { line = 16; work = (module_work (codes "ping") (no_parts)); condition = (no_expressions); loop = None; register = (Some (codes "r1")); vars = (no_parts); notify = ([]); changed_when = None; failed_when = (Some (expression (conjunction (expression (defined (variable (codes "r1")) ((codes "ping") ∷ [])) (expression (comparison equal (path (variable (codes "r1")) ((codes "ping") ∷ [])) (literal (text (codes "a")))) (no_expressions)))) (no_expressions))); attempts = None; ignore_errors = None }) (no_steps))); handlers = ([]); forces = false } ∷ [])

abbrev random_001641_run_inventory : Inventory
random_001641_run_inventory = record { hosts = (record { name = (codes "a"); variables = (field (codes "i1") (int (pos 1)) (field (codes "i2") (boolean false) (field (codes "op") opaque (field (codes "s1") (boolean false) (no_fields))))) } ∷ record { name = (codes "b"); variables = (field (codes "op") opaque (field (codes "s1") (boolean false) (no_fields))) } ∷ record { name = (codes "c"); variables = (field (codes "op") opaque (field (codes "s1") (list (no_items)) (no_fields))) } ∷ []); groups = (record { name = (codes "all"); hosts = ((codes "a") ∷ (codes "b") ∷ (codes "c") ∷ []) } ∷ record { name = (codes "g1"); hosts = ((codes "b") ∷ (codes "a") ∷ []) } ∷ record { name = (codes "g2"); hosts = ((codes "a") ∷ []) } ∷ record { name = (codes "ungrouped"); hosts = ((codes "c") ∷ []) } ∷ []) }

abbrev random_001641_run_registry : Registry
random_001641_run_registry = (builtins ++ (record { name = (codes "probe"); params = (record { name = (codes "n"); kind = ints; required = false } ∷ record { name = (codes "l"); kind = (lists texts 3); required = false } ∷ []); ok = recs (slot (codes "changed") true booleans (slot (codes "deep") false (recs (slot (codes "a") true texts (slot (codes "b") false booleans (no_slots)))) (slot (codes "rows") true (lists texts 2) (slot (codes "v") false ints (no_slots))))); failure = recs (slot (codes "changed") true booleans (slot (codes "msg") true texts (slot (codes "v") false texts (slot (codes "why") true ints (no_slots))))); free = None } ∷ record { name = (codes "odd"); params = ([]); ok = recs (slot (codes "changed") true booleans (slot (codes "msg") false ints (no_slots))); failure = recs (slot (codes "changed") true booleans (slot (codes "msg") true texts (no_slots))); free = None } ∷ []))

random_001641_run : recaps_of random_001641_run_registry random_001641_run_inventory random_001641_run_book 1 ((object (rec (field (codes "ansible_facts") (rec (field (codes "ansible_hostname") (text (codes "x")) (field (codes "ansible_memtotal_mb") (int (pos 0)) (field (codes "ansible_os_family") (text ([])) (field (codes "ansible_system") (text (123 ∷ 123 ∷ 32 ∷ 120 ∷ 32 ∷ 125 ∷ 125 ∷ [])) (no_fields)))))) (field (codes "changed") (boolean true) (no_fields)))) ∷ object (rec (field (codes "ansible_facts") (rec (field (codes "ansible_distribution") (text (codes "b")) (field (codes "ansible_hostname") (text ([])) (field (codes "ansible_memtotal_mb") (int (pos 1)) (field (codes "ansible_system") (text (codes "b")) (no_fields)))))) (field (codes "changed") (boolean false) (no_fields)))) ∷ object (rec (field (codes "changed") (boolean true) (field (codes "stat") (rec (field (codes "exists") (boolean true) (field (codes "isreg") (boolean true) (field (codes "size") (int (pos 0)) (no_fields))))) (no_fields)))) ∷ object (rec (field (codes "changed") (boolean false) (field (codes "rc") (int (negsuc 6)) (field (codes "stderr") (text (123 ∷ 123 ∷ 32 ∷ 120 ∷ 32 ∷ 125 ∷ 125 ∷ [])) (field (codes "stderr_lines") (list (item (text (123 ∷ 123 ∷ 32 ∷ 120 ∷ 32 ∷ 125 ∷ 125 ∷ [])) (no_items))) (field (codes "stdout") (text (codes "a")) (field (codes "stdout_lines") (list (item (text (codes "a")) (no_items))) (no_fields)))))))) ∷ object (rec (field (codes "changed") (boolean false) (field (codes "ping") (text (codes "a")) (no_fields)))) ∷ []) ∷ (object (rec (field (codes "ansible_facts") (rec (field (codes "ansible_distribution") (text (codes "b")) (field (codes "ansible_hostname") (text (123 ∷ 123 ∷ 32 ∷ 120 ∷ 32 ∷ 125 ∷ 125 ∷ [])) (field (codes "ansible_system") (text (codes "c")) (no_fields))))) (field (codes "changed") (boolean false) (no_fields)))) ∷ object (rec (field (codes "ansible_facts") (rec (field (codes "ansible_distribution") (text ([])) (field (codes "ansible_hostname") (text (codes "b")) (field (codes "ansible_memtotal_mb") (int (pos 2)) (field (codes "ansible_os_family") (text ([])) (field (codes "ansible_system") (text (codes "b")) (no_fields))))))) (field (codes "changed") (boolean true) (field (codes "extra") (rec (field (codes "a") (int (pos 1)) (no_fields))) (no_fields))))) ∷ object (rec (field (codes "changed") (boolean true) (field (codes "extra") (rec (field (codes "a") (int (pos 1)) (no_fields))) (field (codes "stat") (rec (field (codes "exists") (boolean true) (field (codes "mode") (text (123 ∷ 123 ∷ 32 ∷ 120 ∷ 32 ∷ 125 ∷ 125 ∷ [])) (no_fields)))) (no_fields))))) ∷ object (rec (field (codes "changed") (boolean false) (field (codes "rc") (int (pos 2)) (field (codes "stderr") (text (codes "a")) (field (codes "stderr_lines") (list (item (text (123 ∷ 123 ∷ 32 ∷ 120 ∷ 32 ∷ 125 ∷ 125 ∷ [])) (no_items))) (field (codes "stdout") (text (codes "a")) (field (codes "stdout_lines") (list (item (text (codes "b")) (item (text (123 ∷ 123 ∷ 32 ∷ 120 ∷ 32 ∷ 125 ∷ 125 ∷ [])) (no_items)))) (no_fields)))))))) ∷ object (rec (field (codes "changed") (boolean false) (field (codes "ping") (text (codes "b")) (no_fields)))) ∷ []) ∷ (object (rec (field (codes "changed") (boolean false) (field (codes "rows") (list (item (text ([])) (item (text (codes "b")) (no_items)))) (field (codes "v") (int (pos 1)) (no_fields))))) ∷ object (rec (field (codes "changed") (boolean true) (field (codes "rc") (int (pos 1)) (field (codes "stderr") (text (codes "x")) (field (codes "stderr_lines") (list (item (text (codes "x")) (no_items))) (field (codes "stdout") (text (codes "a")) (field (codes "stdout_lines") (list (item (text (codes "a")) (no_items))) (no_fields)))))))) ∷ object (rec (field (codes "changed") (boolean true) (field (codes "ping") (text (123 ∷ 123 ∷ 32 ∷ 120 ∷ 32 ∷ 125 ∷ 125 ∷ [])) (no_fields)))) ∷ object (rec (field (codes "changed") (boolean true) (field (codes "failed") (boolean true) (field (codes "msg") (text (123 ∷ 123 ∷ 32 ∷ 120 ∷ 32 ∷ 125 ∷ 125 ∷ [])) (no_fields))))) ∷ []) ∷ []) ≡ (record { ok = 6; changed = 2; unreachable = 0; failed = 1; skipped = 0; rescued = 0; ignored = 0 } ∷ record { ok = 7; changed = 2; unreachable = 0; failed = 0; skipped = 0; rescued = 0; ignored = 0 } ∷ record { ok = 3; changed = 2; unreachable = 0; failed = 1; skipped = 2; rescued = 0; ignored = 0 } ∷ [])
unfolding digits
random_001641_run = refl

-- random_001647:
abbrev random_001647_book : Book
random_001647_book = (record { line = 1; pattern = ((codes "g2") ∷ []); gathering = None; vars = (no_parts); is_linear = false; serial = ([]); pre_tasks = (no_steps); tasks = (task_step (record { line = 2; work = (module_work (codes "ping") (no_parts)); condition = (expression (negation (in_batch (named_host (codes "d")))) (no_expressions)); loop = None; register = None; vars = (no_parts); notify = ([]); changed_when = None; failed_when = None; attempts = None; ignore_errors = None }) (flush_step 3 (task_step (record { line = 4; work = (set_fact_work (part (codes "s2") (record_of (part (codes "f") (literal (int (pos 1))) (no_parts))) (no_parts))); condition = (no_expressions); loop = None; register = (Some (codes "r1")); vars = (part (codes "v1") (path_or (variable (codes "r3")) ((codes "failed") ∷ []) (list_of (no_expressions))) (part (codes "v2") (length_of (path (variable (codes "r3")) ((codes "failed") ∷ []))) (no_parts))); notify = ([]); changed_when = None; failed_when = None; attempts = None; ignore_errors = (Some true) }) (no_steps)))); post_tasks = (no_steps); handlers = (record { work = (record { line = 5; work = (set_fact_work (part (codes "s2") (literal (int (pos 1))) (no_parts))); condition = (no_expressions); loop = None; register = (Some (codes "r3")); vars = (no_parts); notify = ([]); changed_when = None; failed_when = None; attempts = None; ignore_errors = None }); name = (Some (codes "h0")); topics = ((codes "t") ∷ []) } ∷ []); forces = true } ∷ [])

abbrev random_001647_inventory : Inventory
random_001647_inventory = record { hosts = (record { name = (codes "a"); variables = (field (codes "i2") (text (codes "x")) (field (codes "op") opaque (field (codes "s1") (list (item (int (negsuc 0)) (item (int (negsuc 0)) (no_items)))) (no_fields)))) } ∷ record { name = (codes "b"); variables = (field (codes "i2") (int (pos 1)) (field (codes "op") opaque (field (codes "s1") (list (item (int (negsuc 0)) (item (int (negsuc 0)) (no_items)))) (no_fields)))) } ∷ record { name = (codes "c"); variables = (field (codes "op") opaque (field (codes "s1") (list (item (int (negsuc 0)) (item (int (negsuc 0)) (no_items)))) (no_fields))) } ∷ record { name = (codes "d"); variables = (field (codes "op") opaque (field (codes "s1") (list (item (int (negsuc 0)) (item (int (negsuc 0)) (no_items)))) (no_fields))) } ∷ []); groups = (record { name = (codes "all"); hosts = ((codes "a") ∷ (codes "b") ∷ (codes "c") ∷ (codes "d") ∷ []) } ∷ record { name = (codes "g1"); hosts = ((codes "a") ∷ (codes "b") ∷ (codes "c") ∷ (codes "d") ∷ []) } ∷ record { name = (codes "g2"); hosts = ((codes "a") ∷ (codes "b") ∷ (codes "c") ∷ (codes "d") ∷ []) } ∷ record { name = (codes "ungrouped"); hosts = ([]) } ∷ []) }

abbrev random_001647_registry : Registry
random_001647_registry = (builtins ++ (record { name = (codes "probe"); params = (record { name = (codes "n"); kind = ints; required = false } ∷ record { name = (codes "l"); kind = (lists texts 3); required = false } ∷ []); ok = recs (slot (codes "changed") true booleans (slot (codes "deep") false (recs (slot (codes "a") true texts (slot (codes "b") false booleans (no_slots)))) (slot (codes "rows") true (lists texts 2) (slot (codes "v") false ints (no_slots))))); failure = recs (slot (codes "changed") true booleans (slot (codes "msg") true texts (slot (codes "v") false texts (slot (codes "why") true ints (no_slots))))); free = None } ∷ record { name = (codes "odd"); params = ([]); ok = recs (slot (codes "changed") true booleans (slot (codes "msg") false ints (no_slots))); failure = recs (slot (codes "changed") true booleans (slot (codes "msg") true texts (no_slots))); free = None } ∷ []))

random_001647 : judged random_001647_registry random_001647_inventory random_001647_book ≡ accepted 4
random_001647 = refl

-- random_001651_run:
abbrev random_001651_run_book : Book
random_001651_run_book = (record { line = 1; pattern = ((codes "a") ∷ []); gathering = None; vars = (part (codes "v2") (list_of (expression (literal (text (codes "b"))) (expression (literal (text (codes "no"))) (no_expressions)))) (no_parts)); is_linear = true; serial = ([]); pre_tasks = (no_steps); tasks = (block_step (record { line = 2; condition = (no_expressions); vars = (no_parts); ignore_errors = None }) (task_step (record { line = 3; work = (fail_work (no_parts)); condition = (no_expressions); loop = None; register = None; vars = (no_parts); notify = ([]); changed_when = None; failed_when = None; attempts = None; ignore_errors = None }) (task_step (record { line = 4; work = (assert_work (conditions_are (expression (disjunction (expression (negation (path_status is_changed (variable (codes "r1")) ([]))) (expression (negation (path_status is_changed (variable (codes "r2")) ([]))) (no_expressions)))) (no_expressions))) (no_parts)); condition = (no_expressions); loop = None; register = None; vars = (no_parts); notify = ([]); changed_when = None; failed_when = None; attempts = None; ignore_errors = None }) (no_steps))) (block_step (record { line = 5; condition = (no_expressions); vars = (part (codes "v3") (record_of (part (codes "f") (literal (boolean true)) (no_parts))) (no_parts)); ignore_errors = None }) (task_step (record { line = 6; work = (module_work (codes "command") (part (codes "cmd") (literal (text (codes "x"))) (no_parts))); condition = (no_expressions); loop = None; register = (Some (codes "r2")); vars = (no_parts); notify = ([]); changed_when = None; failed_when = None; attempts = None; ignore_errors = None }) (task_step (record { line = 7; work = (debug_work (part (codes "msg") (list_of (expression (path (variable (codes "group_names")) ([])) (expression (literal (int (pos 1))) (no_expressions)))) (no_parts))); condition = (no_expressions); loop = (Some (path_or (variable (codes "r1")) ((codes "stdout_lines") ∷ []) (list_of (no_expressions)))); register = (Some (codes "r2")); vars = (no_parts); notify = ([]); changed_when = None; failed_when = None; attempts = None; ignore_errors = None }) (no_steps))) (block_step (record { line = 8; condition = (expression (negation (negation (comparison equal (path (variable (codes "inventory_hostname")) ([])) (literal (text (codes "a")))))) (no_expressions)); vars = (no_parts); ignore_errors = None }) (task_step (record { line = 9; work = (fail_work (part (codes "msg") (literal (text (codes "m"))) (no_parts))); condition = (no_expressions); loop = None; register = (Some (codes "r3")); vars = (no_parts); notify = ([]); changed_when = None; failed_when = None; attempts = None; ignore_errors = None }) (task_step (record { line = 10; work = (module_work (codes "command") (part (codes "cmd") (literal (text (codes "x"))) (no_parts))); condition = (expression (negation (path_or (other (group_member (codes "all") 0) (codes "r1")) ((codes "changed") ∷ []) (literal (boolean false)))) (no_expressions)); loop = None; register = (Some (codes "r2")); vars = (no_parts); notify = ([]); changed_when = None; failed_when = None; attempts = None; ignore_errors = None }) (no_steps))) (no_steps) (task_step (record { line = 11; work = (fail_work (no_parts)); condition = (no_expressions); loop = None; register = None; vars = (no_parts); notify = ([]); changed_when = None; failed_when = None; attempts = None; ignore_errors = None }) (task_step (record { line = 12; work = (debug_work (part (codes "msg") (path (variable (codes "r3")) ((codes "failed") ∷ [])) (no_parts))); condition = (expression (defined (variable (codes "r3")) ([])) (expression (negation (path_status is_failed (variable (codes "r3")) ([]))) (no_expressions))); loop = None; register = (Some (codes "r3")); vars = (no_parts); notify = ([]); changed_when = None; failed_when = None; attempts = None; ignore_errors = None }) (no_steps))) (no_steps)) (no_steps) (task_step (record { line = 13; work = (fail_work (no_parts)); condition = (no_expressions); loop = None; register = (Some (codes "r2")); vars = (part (codes "v1") (path (other (named_host (codes "a")) (codes "r2")) ([])) (part (codes "v2") (path_or (variable (codes "groups")) ((codes "all") ∷ []) (literal (int (pos 1)))) (no_parts))); notify = ([]); changed_when = None; failed_when = None; attempts = None; ignore_errors = None }) (no_steps))) (no_steps) (block_step (record { line = 14; condition = (no_expressions); vars = (no_parts); ignore_errors = None }) (task_step (record { line = 15; work = (module_work (codes "stat") (part (codes "path") (literal (text (codes "/"))) (no_parts))); condition = (no_expressions); loop = None; register = (Some (codes "r1")); vars = (no_parts); notify = ([]); changed_when = None; failed_when = None; attempts = None; ignore_errors = None }) (block_step (record { line = 16; condition = (no_expressions); vars = (no_parts); ignore_errors = None }) (task_step (record { line = 17; work = (debug_work (part (codes "msg") (path_or (other (named_host (codes "a")) (codes "r3")) ((codes "failed") ∷ []) (literal (int (pos 1)))) (no_parts))); condition = (expression (path_or (variable (codes "r3")) ((codes "skip_reason") ∷ []) (literal (boolean false))) (no_expressions)); loop = None; register = None; vars = (part (codes "v1") (concatenation (expression (literal (text (codes "x"))) (expression (path (other (named_host (codes "a")) (codes "r1")) ((codes "stat") ∷ (codes "exists") ∷ [])) (no_expressions)))) (part (codes "v2") (path (other (named_host (codes "a")) (codes "op")) ([])) (no_parts))); notify = ([]); changed_when = None; failed_when = None; attempts = None; ignore_errors = None }) (task_step (record { line = 18; work = (module_work (codes "stat") (part (codes "path") (literal (text (codes "/"))) (no_parts))); condition = (no_expressions); loop = None; register = None; vars = (no_parts); notify = ([]); changed_when = None; failed_when = None; attempts = None; ignore_errors = None }) (task_step (record { line = 19; work = (module_work (codes "command") (part (codes "cmd") (literal (text (codes "x"))) (no_parts))); condition = (expression (negation (in_batch (named_host (codes "a")))) (no_expressions)); loop = None; register = (Some (codes "r1")); vars = (no_parts); notify = ([]); changed_when = None; failed_when = None; attempts = (Some (record { until = (expression (conjunction (expression (defined (variable (codes "r1")) ((codes "stderr") ∷ [])) (expression (comparison equal (path (variable (codes "r1")) ((codes "stderr") ∷ [])) (literal (text (codes "a")))) (no_expressions)))) (no_expressions)); retries = 3 })); ignore_errors = None }) (no_steps)))) (task_step (record { line = 20; work = (module_work (codes "probe") (no_parts)); condition = (no_expressions); loop = (Some (path (variable (codes "groups")) ((codes "all") ∷ []))); register = (Some (codes "r1")); vars = (part (codes "v3") (path (other item_host (codes "r1")) ([])) (no_parts)); notify = ([]); changed_when = None; failed_when = None; attempts = None; ignore_errors = None }) (block_step (record { line = 21; condition = (no_expressions); vars = (no_parts); ignore_errors = None }) (no_steps) (no_steps) (no_steps) (block_step (record { line = 22; condition = (no_expressions); vars = (no_parts); ignore_errors = None }) (task_step (record { line = 23; work = (module_work (codes "odd") (no_parts)); condition = (no_expressions); loop = (Some (path_or (variable (codes "r2")) ((codes "results") ∷ []) (list_of (no_expressions)))); register = None; vars = (no_parts); notify = ([]); changed_when = None; failed_when = (Some (expression (comparison equal (path (variable (codes "inventory_hostname")) ([])) (literal (text (codes "a")))) (no_expressions))); attempts = None; ignore_errors = (Some false) }) (task_step (record { line = 24; work = (module_work (codes "command") (part (codes "cmd") (literal (text (codes "x"))) (no_parts))); condition = (no_expressions); loop = None; register = (Some (codes "r1")); vars = (part (codes "v1") (path_or (variable (codes "r2")) ((codes "failed") ∷ []) (path (variable (codes "s1")) ([]))) (part (codes "v2") (path (variable (codes "r1")) ([])) (no_parts))); notify = ([]); changed_when = None; failed_when = None; attempts = None; ignore_errors = None }) (no_steps))) (no_steps) (task_step (record { line = 25; work = (module_work (codes "command") (part (codes "cmd") (concatenation (expression (literal (text (codes "x "))) (expression (list_of (expression (path (variable (codes "r1")) ((codes "stdout") ∷ [])) (expression (literal (text (codes "q"))) (no_expressions)))) (no_expressions)))) (no_parts))); condition = (expression (path_status is_failed (variable (codes "r1")) ([])) (no_expressions)); loop = None; register = (Some (codes "r1")); vars = (no_parts); notify = ([]); changed_when = None; failed_when = None; attempts = None; ignore_errors = None }) (task_step (record { line = 26; work = (module_work (codes "ping") (no_parts)); condition = (no_expressions); loop = (Some (list_of (expression (list_of (expression (literal (boolean false)) (no_expressions))) (expression (literal (boolean true)) (no_expressions))))); register = None; vars = (no_parts); notify = ([]); changed_when = None; failed_when = None; attempts = None; ignore_errors = None }) (no_steps))) (no_steps)))) (no_steps) (no_steps))) (no_steps) (task_step (record { line = 27; work = (module_work (codes "command") (part (codes "cmd") (literal (text (codes "x"))) (no_parts))); condition = (no_expressions); loop = None; register = (Some (codes "r2")); vars = (no_parts); notify = ([]); changed_when = None; failed_when = None; attempts = None; ignore_errors = None }) (task_step (record { line = 28; work = (module_work (codes "command") (part (codes "cmd") (literal (text (codes "x"))) (no_parts))); condition = (no_expressions); loop = None; register = (Some (codes "r1")); vars = (no_parts); notify = ([]); changed_when = None; failed_when = None; attempts = None; ignore_errors = (Some true) }) (task_step (record { line = 29; work = (set_fact_work (part (codes "s2") (list_of (expression (literal (int (pos 1))) (no_expressions))) (no_parts))); condition = (no_expressions); loop = (Some (path_or (variable (codes "r3")) ((codes "results") ∷ []) (list_of (no_expressions)))); register = (Some (codes "r2")); vars = (no_parts); notify = ([]); changed_when = None; failed_when = None; attempts = None; ignore_errors = None }) (no_steps)))) (no_steps))); post_tasks = (no_steps); handlers = ([]); forces = false } ∷ record { line = 30; pattern = ((codes "a") ∷ (codes "all") ∷ []); gathering = None; vars = (no_parts); is_linear = true; serial = ([]); pre_tasks = (no_steps); tasks = (task_step (record { line = 31; work = (set_fact_work (part (codes "s3") (list_of (expression (path (other this_host (codes "r3")) ((codes "failed") ∷ [])) (no_expressions))) (no_parts))); condition = (expression (in_batch this_host) (expression (negation (path_status is_failed (other this_host (codes "r3")) ([]))) (no_expressions))); loop = None; register = (Some (codes "r2")); vars = (part (codes "v3") (list_of (expression (path (variable (codes "r2")) ((codes "changed") ∷ [])) (expression (literal (int (pos 1))) (no_expressions)))) (no_parts)); notify = ([]); changed_when = None; failed_when = None; attempts = None; ignore_errors = None }) (task_step (record { line = 32; work = (module_work (codes "command") (part (codes "cmd") (literal (text (codes "x"))) (no_parts))); condition = (no_expressions); loop = (Some (path (variable (codes "r2")) ((codes "skip_reason") ∷ []))); register = None; vars = (no_parts); notify = ([]); changed_when = None; failed_when = None; attempts = None; ignore_errors = None }) (task_step (record { line = 33; work = (debug_work (part (codes "msg") (path (variable (codes "ansible_play_batch")) ([])) (no_parts))); condition = (no_expressions); loop = (Some (path_or (variable (codes "r3")) ((codes "results") ∷ []) (list_of (no_expressions)))); register = (Some (codes "r3")); vars = (no_parts); notify = ((codes "h0") ∷ []); changed_when = None; failed_when = None; attempts = None; ignore_errors = None }) (task_step (record { line = 34; work = (module_work (codes "command") (part (codes "cmd") (literal (text (codes "x"))) (no_parts))); condition = (no_expressions); loop = None; register = None; vars = (part (codes "v1") (literal (text (codes "t"))) (part (codes "v2") (literal (int (pos 1))) (part (codes "v3") (path (variable (codes "s2")) ([])) (no_parts)))); notify = ([]); changed_when = None; failed_when = None; attempts = None; ignore_errors = None }) (no_steps))))); post_tasks = (no_steps); handlers = (record { work = (record { line = 35; work = (debug_work (part (codes "msg") (path (other (named_host (codes "a")) (codes "s3")) ([])) (no_parts))); condition = (expression (disjunction (expression (negation (path_status is_skipped (variable (codes "r1")) ([]))) (expression (in_batch (named_host (codes "a"))) (no_expressions)))) (expression (defined (other (named_host (codes "a")) (codes "s3")) ([])) (no_expressions))); loop = None; register = (Some (codes "r2")); vars = (no_parts); notify = ([]); changed_when = None; failed_when = None; attempts = None; ignore_errors = (Some false) }); name = (Some (codes "h0")); topics = ((codes "t") ∷ []) } ∷ []); forces = false } ∷ [])

abbrev random_001651_run_inventory : Inventory
random_001651_run_inventory = record { hosts = (record { name = (codes "a"); variables = (field (codes "i1") null (field (codes "i2") (list (item (text (codes "no")) (item (boolean false) (no_items)))) (no_fields))) } ∷ []); groups = (record { name = (codes "all"); hosts = ((codes "a") ∷ []) } ∷ record { name = (codes "ungrouped"); hosts = ((codes "a") ∷ []) } ∷ []) }

abbrev random_001651_run_registry : Registry
random_001651_run_registry = (builtins ++ (record { name = (codes "probe"); params = (record { name = (codes "n"); kind = ints; required = false } ∷ record { name = (codes "l"); kind = (lists texts 3); required = false } ∷ []); ok = recs (slot (codes "changed") true booleans (slot (codes "deep") false (recs (slot (codes "a") true texts (slot (codes "b") false booleans (no_slots)))) (slot (codes "rows") true (lists texts 2) (slot (codes "v") false ints (no_slots))))); failure = recs (slot (codes "changed") true booleans (slot (codes "msg") true texts (slot (codes "v") false texts (slot (codes "why") true ints (no_slots))))); free = None } ∷ record { name = (codes "odd"); params = ([]); ok = recs (slot (codes "changed") true booleans (slot (codes "msg") false ints (no_slots))); failure = recs (slot (codes "changed") true booleans (slot (codes "msg") true texts (no_slots))); free = None } ∷ []))

random_001651_run : recaps_of random_001651_run_registry random_001651_run_inventory random_001651_run_book 1 ((object (rec (field (codes "changed") (boolean true) (field (codes "rc") (int (pos 1)) (field (codes "stderr") (text ([])) (field (codes "stderr_lines") (list (item (text ([])) (item (text (codes "x")) (item (text ([])) (no_items))))) (field (codes "stdout") (text (codes "a")) (field (codes "stdout_lines") (list (no_items)) (no_fields)))))))) ∷ []) ∷ []) ≡ (record { ok = 1; changed = 1; unreachable = 0; failed = 1; skipped = 1; rescued = 1; ignored = 0 } ∷ [])
unfolding digits
random_001651_run = refl

-- random_001657:
abbrev random_001657_book : Book
random_001657_book = (record { line = 1; pattern = ((codes "b") ∷ []); gathering = None; vars = (no_parts); is_linear = true; serial = ([]); pre_tasks = (task_step (record { line = 2; work = (fail_work (part (codes "msg") (literal (text (codes "m"))) (no_parts))); condition = (expression (negation (defined (variable (codes "ansible_facts")) ([]))) (no_expressions)); loop = None; register = (Some (codes "r3")); vars = (part (codes "v1") (path (other this_host (codes "r2")) ((codes "failed") ∷ [])) (part (codes "v3") (path_or (other this_host (codes "r2")) ((codes "failed") ∷ []) (list_of (no_expressions))) (no_parts))); notify = ([]); changed_when = None; failed_when = None; attempts = None; ignore_errors = None }) (flush_step 3 (task_step (record { line = 4; work = (set_fact_work (part (codes "s2") (list_of (expression (path (other this_host (codes "r1")) ((codes "failed") ∷ [])) (expression (literal (int (pos 1))) (no_expressions)))) (no_parts))); condition = (expression (comparison equal (path (variable (codes "inventory_hostname")) ([])) (literal (text (codes "c")))) (expression (in_batch this_host) (expression (defined (other this_host (codes "r1")) ((codes "failed") ∷ [])) (no_expressions)))); loop = None; register = (Some (codes "r2")); vars = (no_parts); notify = ([]); changed_when = None; failed_when = None; attempts = None; ignore_errors = (Some true) }) (block_step (record { line = 5; condition = (expression (conjunction (expression (defined (variable (codes "r1")) ([])) (expression (comparison equal (path (variable (codes "r1")) ([])) (literal (text (codes "a")))) (no_expressions)))) (no_expressions)); vars = (no_parts); ignore_errors = None }) (task_step (record { line = 6; work = (assert_work (conditions_are (expression (negation (defined (variable (codes "i1")) ([]))) (no_expressions))) (no_parts)); condition = (no_expressions); loop = None; register = None; vars = (no_parts); notify = ([]); changed_when = None; failed_when = None; attempts = None; ignore_errors = (Some true) }) (task_step (record { line = 7; work = (module_work (codes "setup") (no_parts)); condition = (no_expressions); loop = None; register = (Some (codes "r3")); vars = (no_parts); notify = ([]); changed_when = None; failed_when = None; attempts = None; ignore_errors = None }) (task_step (record { line = 8; work = (assert_work (conditions_are (expression (conjunction (expression (negation (path_status is_failed (variable (codes "r2")) ([]))) (expression (comparison equal (path (variable (codes "inventory_hostname")) ([])) (literal (text (codes "c")))) (no_expressions)))) (no_expressions))) (no_parts)); condition = (expression (negation (comparison equal (path (variable (codes "inventory_hostname")) ([])) (literal (text (codes "d"))))) (expression (in_batch item_host) (no_expressions))); loop = (Some (path (variable (codes "ansible_play_batch")) ([]))); register = (Some (codes "r2")); vars = (no_parts); notify = ([]); changed_when = None; failed_when = None; attempts = None; ignore_errors = None }) (no_steps)))) (task_step (record { line = 9; work = (module_work (codes "ping") (no_parts)); condition = (expression (negation (defined (other (named_host (codes "b")) (codes "r2")) ([]))) (no_expressions)); loop = None; register = (Some (codes "r1")); vars = (part (codes "v1") (path (variable (codes "groups")) ((codes "all") ∷ [])) (part (codes "v3") (concatenation (expression (literal (text (codes "x"))) (expression (list_of (expression (path (variable (codes "s1")) ([])) (expression (literal (int (pos 1))) (no_expressions)))) (no_expressions)))) (no_parts))); notify = ([]); changed_when = None; failed_when = None; attempts = None; ignore_errors = None }) (task_step (record { line = 10; work = (module_work (codes "probe") (no_parts)); condition = (no_expressions); loop = None; register = (Some (codes "r2")); vars = (part (codes "v1") (path_or (variable (codes "r2")) ((codes "msg") ∷ []) (literal (int (pos 1)))) (part (codes "v3") (concatenation (expression (literal (text (codes "x"))) (expression (path_or (variable (codes "r3")) ((codes "ansible_facts") ∷ (codes "ansible_hostname") ∷ []) (literal (text (codes "z")))) (no_expressions)))) (no_parts))); notify = ([]); changed_when = None; failed_when = None; attempts = None; ignore_errors = None }) (no_steps))) (no_steps) (no_steps))))); tasks = (flush_step 11 (task_step (record { line = 12; work = (module_work (codes "ping") (no_parts)); condition = (no_expressions); loop = None; register = None; vars = (part (codes "v1") (path_or (variable (codes "r1")) ((codes "changed") ∷ []) (literal (text (codes "z")))) (part (codes "v2") (concatenation (expression (literal (text (codes "x"))) (expression (path (other this_host (codes "r2")) ((codes "v") ∷ [])) (no_expressions)))) (part (codes "v3") (path (variable (codes "r2")) ([])) (no_parts)))); notify = ([]); changed_when = (Some (expression (literal (boolean false)) (no_expressions))); failed_when = None; attempts = None; ignore_errors = None }) (task_step (record { line = 13; work = (debug_work (part (codes "msg") (path (other (named_host (codes "d")) (codes "r2")) ((codes "deep") ∷ [])) (no_parts))); condition = (expression (path_status is_failed (variable (codes "r1")) ([])) (expression (defined (other (named_host (codes "d")) (codes "r2")) ([])) (expression (defined (other (named_host (codes "d")) (codes "r2")) ((codes "deep") ∷ [])) (no_expressions)))); loop = None; register = None; vars = (no_parts); notify = ([]); changed_when = None; failed_when = None; attempts = None; ignore_errors = None }) (task_step (record { line = 14; work = (debug_work (part (codes "msg") (path_or (variable (codes "r1")) ((codes "failed") ∷ []) (literal (int (pos 1)))) (no_parts))); condition = (expression (membership (literal (text (codes "g1"))) (path (variable (codes "group_names")) ([]))) (no_expressions)); loop = (Some (path (other (named_host (codes "d")) (codes "r2")) ([]))); register = (Some (codes "r1")); vars = (no_parts); notify = ([]); changed_when = None; failed_when = None; attempts = None; ignore_errors = None }) (no_steps))))); post_tasks = (no_steps); handlers = ([]); forces = true } ∷ [])

abbrev random_001657_inventory : Inventory
random_001657_inventory = record { hosts = (record { name = (codes "a"); variables = (field (codes "i2") (text (codes "t")) (field (codes "op") opaque (field (codes "s1") (boolean false) (no_fields)))) } ∷ record { name = (codes "b"); variables = (field (codes "op") opaque (field (codes "s1") (text ([])) (no_fields))) } ∷ record { name = (codes "c"); variables = (field (codes "op") opaque (field (codes "s1") (text (codes "b")) (no_fields))) } ∷ record { name = (codes "d"); variables = (field (codes "i2") (int (pos 3)) (field (codes "op") opaque (field (codes "s1") (rec (field (codes "g") (list (item (text (codes "b")) (no_items))) (no_fields))) (no_fields)))) } ∷ []); groups = (record { name = (codes "all"); hosts = ((codes "a") ∷ (codes "b") ∷ (codes "c") ∷ (codes "d") ∷ []) } ∷ record { name = (codes "g1"); hosts = ((codes "a") ∷ (codes "b") ∷ (codes "d") ∷ []) } ∷ record { name = (codes "g2"); hosts = ((codes "a") ∷ (codes "d") ∷ []) } ∷ record { name = (codes "ungrouped"); hosts = ((codes "c") ∷ []) } ∷ []) }

abbrev random_001657_registry : Registry
random_001657_registry = (builtins ++ (record { name = (codes "probe"); params = (record { name = (codes "n"); kind = ints; required = false } ∷ record { name = (codes "l"); kind = (lists texts 3); required = false } ∷ []); ok = recs (slot (codes "changed") true booleans (slot (codes "deep") false (recs (slot (codes "a") true texts (slot (codes "b") false booleans (no_slots)))) (slot (codes "rows") true (lists texts 2) (slot (codes "v") false ints (no_slots))))); failure = recs (slot (codes "changed") true booleans (slot (codes "msg") true texts (slot (codes "v") false texts (slot (codes "why") true ints (no_slots))))); free = None } ∷ record { name = (codes "odd"); params = ([]); ok = recs (slot (codes "changed") true booleans (slot (codes "msg") false ints (no_slots))); failure = recs (slot (codes "changed") true booleans (slot (codes "msg") true texts (no_slots))); free = None } ∷ []))

random_001657 : judged random_001657_registry random_001657_inventory random_001657_book ≡ refused (record { code = 1; line = 13; host = (Some (codes "b")) })
random_001657 = refl

-- random_001672:
abbrev random_001672_book : Book
random_001672_book = (record { line = 1; pattern = ((codes "g") ∷ []); gathering = None; vars = (part (codes "v1") (path (variable (codes "inv")) ([])) (no_parts)); is_linear = false; serial = (host_count 1 ∷ []); pre_tasks = (no_steps); tasks = (block_step (record { line = 2; condition = (no_expressions); vars = (no_parts); ignore_errors = None }) (no_steps) (no_steps) (task_step (record { line = 3; work = (module_work (codes "stat") (part (codes "path") (literal (text (codes "p"))) (no_parts))); condition = (no_expressions); loop = (Some (list_of (expression (literal (text (codes "a"))) (expression (literal (text (codes "b"))) (no_expressions))))); register = None; vars = (no_parts); notify = ([]); changed_when = None; failed_when = None; attempts = None; ignore_errors = None }) (no_steps)) (no_steps)); post_tasks = (no_steps); handlers = ([]); forces = false } ∷ record { line = 4; pattern = ((codes "all") ∷ []); gathering = None; vars = (no_parts); is_linear = true; serial = (percentage 50 ∷ []); pre_tasks = (no_steps); tasks = (task_step (record { line = 5; work = (module_work (codes "ping") (no_parts)); condition = (no_expressions); loop = None; register = (Some (codes "s")); vars = (no_parts); notify = ((codes "h0") ∷ []); changed_when = None; failed_when = None; attempts = None; ignore_errors = None }) (task_step (record { line = 6; work = (module_work (codes "command") (part (codes "cmd") (path (other (named_host (codes "b")) (codes "ansible_hostname")) ((codes "hostname") ∷ [])) (no_parts))); condition = (expression (defined (variable (codes "r")) ((codes "rc") ∷ [])) (expression (conjunction (expression (defined (variable (codes "s")) ([])) (expression (negation (path_status is_failed (variable (codes "s")) ([]))) (no_expressions)))) (no_expressions))); loop = None; register = (Some (codes "s")); vars = (no_parts); notify = ((codes "h0") ∷ []); changed_when = None; failed_when = None; attempts = (Some (record { until = (expression (literal (boolean false)) (no_expressions)); retries = 2 })); ignore_errors = (Some true) }) (flush_step 7 (no_steps)))); post_tasks = (no_steps); handlers = (record { work = (record { line = 8; work = (set_fact_work (part (codes "y") (path (variable (codes "group_names")) ((codes "msg") ∷ [])) (no_parts))); condition = (expression (disjunction (expression (conjunction (expression (path (variable (codes "opq")) ((codes "hostname") ∷ [])) (expression (negation (defined (variable (codes "group_names")) ((codes "changed") ∷ []))) (no_expressions)))) (expression (path_status is_changed (variable (codes "inventory_hostname")) ((codes "msg") ∷ [])) (no_expressions)))) (no_expressions)); loop = None; register = (Some (codes "s")); vars = (no_parts); notify = ([]); changed_when = None; failed_when = None; attempts = None; ignore_errors = None }); name = (Some (codes "h0")); topics = ([]) } ∷ []); forces = false } ∷ [])

abbrev random_001672_inventory : Inventory
random_001672_inventory = record { hosts = (record { name = (codes "c"); variables = (field (codes "inv") (list (item (int (pos 1)) (item (int (pos 2)) (no_items)))) (no_fields)) } ∷ record { name = (codes "b"); variables = (field (codes "inv") (list (item (int (pos 1)) (item (int (pos 2)) (no_items)))) (field (codes "k") (rec (field (codes "z") opaque (no_fields))) (no_fields))) } ∷ record { name = (codes "a"); variables = (field (codes "inv") (list (item (text (codes "x")) (no_items))) (field (codes "opq") opaque (no_fields))) } ∷ []); groups = (record { name = (codes "all"); hosts = ((codes "c") ∷ (codes "b") ∷ (codes "a") ∷ []) } ∷ record { name = (codes "g"); hosts = ((codes "b") ∷ (codes "a") ∷ []) } ∷ record { name = (codes "ungrouped"); hosts = ((codes "c") ∷ []) } ∷ []) }

abbrev random_001672_registry : Registry
random_001672_registry = (builtins ++ ([]))

random_001672 : judged random_001672_registry random_001672_inventory random_001672_book ≡ refused (record { code = 2; line = 6; host = (Some (codes "c")) })
random_001672 = refl
