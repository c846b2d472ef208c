-- Cases of random, computed.
use Rattle.std.specs.Prelude.{◌≡◌, refl, pos, negsuc, [], ◌∷◌, ◌++◌, true, false, Some, None, codes}
use Rattle.std.specs.Fmt.{digits}
use Rattle.pb_semantics.specs.Data.{null, boolean, int, text, list, rec, opaque, no_items, item, no_fields, field}
use Rattle.pb_semantics.specs.Kind.{booleans, ints, texts, lists, recs, no_slots, slot}
use Rattle.pb_language.specs.Expression.{equal, is_failed, is_changed, is_skipped, named_host, this_host, item_host, group_member, literal, path, negation, conjunction, disjunction, comparison, membership, in_batch, defined, path_status, path_or, length_of, joined_by, concatenation, list_of, record_of, variable, other, no_expressions, expression, no_parts, part}
use Rattle.pb_language.specs.Book.{conditions_are, module_work, debug_work, set_fact_work, assert_work, fail_work, no_steps, task_step, block_step, flush_step, host_count, percentage, Book, Registry}
use Rattle.pb_language.specs.Builtins.{builtins}
use Rattle.pb_language.specs.Give.{object}
use Rattle.pb_language.specs.Judged.{judged}
use Rattle.pb_language.specs.Program.{Inventory}
use Rattle.pb_language.specs.Verdict.{accepted, refused}
use Rattle.pb_rows.specs.Recaps.{recaps_of}

-- random_001145_run:
abbrev random_001145_run_book : Book
random_001145_run_book = (record { line = 1; pattern = ((codes "b") ∷ (codes "all") ∷ []); gathering = (Some 2); vars = (no_parts); is_linear = false; serial = ([]); pre_tasks = (no_steps); tasks = (task_step (record { line = 3; work = (module_work (codes "odd") (no_parts)); condition = (no_expressions); loop = None; register = None; vars = (no_parts); notify = ([]); changed_when = None; failed_when = None; attempts = None; ignore_errors = None }) (task_step (record { line = 4; work = (debug_work (part (codes "msg") (path (variable (codes "r2")) ((codes "changed") ∷ [])) (no_parts))); condition = (expression (defined (other (named_host (codes "b")) (codes "s1")) ([])) (expression (defined (variable (codes "r2")) ([])) (expression (negation (path_status is_failed (variable (codes "r2")) ([]))) (no_expressions)))); loop = None; register = None; vars = (part (codes "v2") (path (variable (codes "r1")) ((codes "failed") ∷ [])) (part (codes "v3") (comparison equal (path (variable (codes "r3")) ((codes "changed") ∷ [])) (path (variable (codes "r3")) ((codes "failed") ∷ []))) (no_parts))); notify = ([]); changed_when = None; failed_when = (Some (expression (literal (boolean false)) (no_expressions))); attempts = None; ignore_errors = None }) (task_step (record { line = 5; work = (module_work (codes "setup") (no_parts)); condition = (expression (negation (comparison equal (path (variable (codes "inventory_hostname")) ([])) (literal (text (codes "b"))))) (no_expressions)); loop = None; register = None; vars = (no_parts); notify = ([]); changed_when = None; failed_when = None; attempts = None; ignore_errors = None }) (task_step (record { line = 6; work = (debug_work (part (codes "msg") (literal (text (codes "x"))) (no_parts))); condition = (no_expressions); loop = None; register = (Some (codes "r3")); vars = (no_parts); notify = ([]); changed_when = None; failed_when = None; attempts = None; ignore_errors = (Some false) }) (no_steps))))); post_tasks = (no_steps); handlers = ([]); forces = false } ∷ record { line = 7; pattern = ((codes "all") ∷ []); gathering = None; vars = (no_parts); is_linear = false; serial = (host_count 2 ∷ []); pre_tasks = (task_step (record { line = 8; work = (module_work (codes "ping") (no_parts)); condition = (no_expressions); loop = (Some (path_or (variable (codes "r3")) ((codes "results") ∷ []) (list_of (no_expressions)))); register = None; vars = (no_parts); notify = ([]); changed_when = None; failed_when = None; attempts = None; ignore_errors = None }) (no_steps)); tasks = (task_step (record { line = 9; work = (module_work (codes "setup") (no_parts)); condition = (expression (defined (variable (codes "r1")) ((codes "failed") ∷ [])) (no_expressions)); loop = None; register = (Some (codes "r1")); vars = (no_parts); notify = ([]); changed_when = None; failed_when = None; attempts = None; ignore_errors = None }) (task_step (record { line = 10; work = (module_work (codes "setup") (no_parts)); condition = (no_expressions); loop = None; register = (Some (codes "r3")); vars = (no_parts); notify = ([]); changed_when = None; failed_when = None; attempts = None; ignore_errors = (Some true) }) (no_steps))); post_tasks = (no_steps); handlers = (record { work = (record { line = 11; work = (set_fact_work (part (codes "s1") (path_or (variable (codes "groups")) ((codes "all") ∷ []) (literal (text (codes "z")))) (no_parts))); condition = (expression (membership (literal (text (codes "g2"))) (path (variable (codes "group_names")) ([]))) (expression (in_batch item_host) (no_expressions))); loop = (Some (path (variable (codes "ansible_play_batch")) ([]))); register = (Some (codes "r2")); vars = (no_parts); notify = ([]); changed_when = None; failed_when = (Some (expression (comparison equal (path (variable (codes "inventory_hostname")) ([])) (literal (text (codes "a")))) (no_expressions))); attempts = None; ignore_errors = None }); name = (Some (codes "h0")); topics = ((codes "t") ∷ []) } ∷ record { work = (record { line = 12; work = (module_work (codes "setup") (no_parts)); condition = (expression (negation (defined (variable (codes "s1")) ([]))) (no_expressions)); loop = None; register = (Some (codes "r1")); vars = (no_parts); notify = ((codes "h2") ∷ []); changed_when = None; failed_when = None; attempts = None; ignore_errors = None }); name = (Some (codes "h1")); topics = ([]) } ∷ record { work = (record { line = 13; work = (module_work (codes "command") (part (codes "cmd") (concatenation (expression (literal (text (codes "x "))) (expression (path (variable (codes "r3")) ((codes "changed") ∷ [])) (no_expressions)))) (no_parts))); condition = (expression (negation (path_status is_failed (variable (codes "r3")) ([]))) (no_expressions)); loop = None; register = (Some (codes "r2")); vars = (no_parts); notify = ([]); changed_when = None; failed_when = None; attempts = None; ignore_errors = (Some true) }); name = (Some (codes "h2")); topics = ([]) } ∷ []); forces = false } ∷ record { line = 14; pattern = ((codes "g1") ∷ []); gathering = None; vars = (no_parts); is_linear = false; serial = (host_count 1 ∷ []); pre_tasks = (no_steps); tasks = (task_step (record { line = 15; work = (module_work (codes "setup") (no_parts)); condition = (no_expressions); loop = None; register = (Some (codes "r1")); vars = (no_parts); notify = ([]); changed_when = None; failed_when = None; attempts = None; ignore_errors = None }) (no_steps)); post_tasks = (no_steps); handlers = (record { work = (record { line = 16; work = (module_work (codes "command") (part (codes "cmd") (literal (text (codes "x"))) (no_parts))); condition = (no_expressions); loop = None; register = None; vars = (no_parts); notify = ([]); changed_when = None; failed_when = None; attempts = None; ignore_errors = None }); name = (Some (codes "h0")); topics = ((codes "t") ∷ []) } ∷ record { work = (record { line = 17; work = (module_work (codes "command") (part (codes "cmd") (literal (text (codes "x"))) (no_parts))); condition = (expression (negation (defined (other item_host (codes "op")) ([]))) (no_expressions)); loop = (Some (path (variable (codes "ansible_play_batch")) ([]))); register = None; vars = (no_parts); notify = ([]); changed_when = None; failed_when = None; attempts = None; ignore_errors = None }); name = (Some (codes "h1")); topics = ([]) } ∷ record { work = (record { line = 18; work = (module_work (codes "probe") (no_parts)); condition = (no_expressions); loop = None; register = None; vars = (no_parts); notify = ([]); changed_when = (Some (expression (comparison equal (path (variable (codes "inventory_hostname")) ([])) (literal (text (codes "a")))) (no_expressions))); failed_when = None; attempts = (Some (record { until = (expression (literal (boolean true)) (no_expressions)); retries = 3 })); ignore_errors = None }); name = (Some (codes "h2")); topics = ([]) } ∷ []); forces = false } ∷ [])

abbrev random_001145_run_inventory : Inventory
random_001145_run_inventory = record { hosts = (record { name = (codes "a"); variables = (field (codes "i1") (text ([])) (field (codes "s1") (text (codes "b")) (no_fields))) } ∷ record { name = (codes "b"); variables = (field (codes "i1") (int (pos 1)) (no_fields)) } ∷ []); groups = (record { name = (codes "all"); hosts = ((codes "a") ∷ (codes "b") ∷ []) } ∷ record { name = (codes "g1"); hosts = ((codes "a") ∷ []) } ∷ record { name = (codes "g2"); hosts = ((codes "a") ∷ []) } ∷ record { name = (codes "ungrouped"); hosts = ((codes "b") ∷ []) } ∷ []) }

abbrev random_001145_run_registry : Registry
random_001145_run_registry = (builtins ++ (record { name = (codes "probe"); params = (record { name = (codes "n"); kind = ints; required = false } ∷ record { name = (codes "l"); kind = (lists texts 3); required = false } ∷ []); ok = recs (slot (codes "changed") true booleans (slot (codes "deep") false (recs (slot (codes "a") true texts (slot (codes "b") false booleans (no_slots)))) (slot (codes "rows") true (lists texts 2) (slot (codes "v") false ints (no_slots))))); failure = recs (slot (codes "changed") true booleans (slot (codes "msg") true texts (slot (codes "v") false texts (slot (codes "why") true ints (no_slots))))); free = None } ∷ record { name = (codes "odd"); params = ([]); ok = recs (slot (codes "changed") true booleans (slot (codes "msg") false ints (no_slots))); failure = recs (slot (codes "changed") true booleans (slot (codes "msg") true texts (no_slots))); free = None } ∷ []))

random_001145_run : recaps_of random_001145_run_registry random_001145_run_inventory random_001145_run_book 1 ((object (rec (field (codes "changed") (boolean false) (field (codes "failed") (boolean true) (field (codes "msg") (text (codes "b")) (no_fields))))) ∷ []) ∷ (object (rec (field (codes "ansible_facts") (rec (field (codes "ansible_hostname") (text (codes "b")) (field (codes "ansible_memtotal_mb") (int (pos 0)) (field (codes "ansible_os_family") (text ([])) (field (codes "ansible_processor_vcpus") (int (pos 0)) (field (codes "ansible_system") (text (codes "a")) (no_fields))))))) (field (codes "changed") (boolean false) (no_fields)))) ∷ object (rec (field (codes "changed") (boolean true) (field (codes "extra") (rec (field (codes "a") (int (pos 1)) (no_fields))) (field (codes "msg") (int (pos 0)) (no_fields))))) ∷ object (rec (field (codes "ansible_facts") (rec (field (codes "ansible_hostname") (text (codes "b")) (field (codes "ansible_memtotal_mb") (int (pos 0)) (field (codes "ansible_system") (text (codes "b")) (no_fields))))) (field (codes "changed") (boolean true) (no_fields)))) ∷ []) ∷ []) ≡ (record { ok = 0; changed = 0; unreachable = 0; failed = 1; skipped = 0; rescued = 0; ignored = 0 } ∷ record { ok = 4; changed = 2; unreachable = 0; failed = 0; skipped = 4; rescued = 0; ignored = 0 } ∷ [])
unfolding digits
random_001145_run = refl

-- random_001161:
abbrev random_001161_book : Book
random_001161_book = (record { line = 1; pattern = ((codes "g2") ∷ []); gathering = None; vars = (no_parts); is_linear = true; serial = (host_count 1 ∷ host_count 2 ∷ []); pre_tasks = (task_step (record { line = 2; work = (module_work (codes "ping") (no_parts)); condition = (expression (comparison equal (path (variable (codes "inventory_hostname")) ([])) (literal (text (codes "c")))) (no_expressions)); loop = (Some (path_or (variable (codes "r2")) ((codes "results") ∷ []) (list_of (no_expressions)))); register = None; vars = (part (codes "v1") (path (variable (codes "ansible_hostname")) ([])) (no_parts)); notify = ([]); changed_when = None; failed_when = None; attempts = None; ignore_errors = (Some true) }) (task_step (record { line = 3; work = (module_work (codes "command") (part (codes "cmd") (literal (text (codes "x"))) (no_parts))); condition = (no_expressions); loop = None; register = None; vars = (no_parts); notify = ([]); changed_when = None; failed_when = None; attempts = None; ignore_errors = (Some false) }) (block_step (record { line = 4; condition = (no_expressions); vars = (no_parts); ignore_errors = None }) (block_step (record { line = 5; condition = (no_expressions); vars = (no_parts); ignore_errors = (Some true) }) (task_step (record { line = 6; work = (debug_work (part (codes "msg") (literal (text (codes "x"))) (no_parts))); condition = (no_expressions); loop = None; register = (Some (codes "r2")); vars = (no_parts); notify = ([]); changed_when = None; failed_when = None; attempts = None; ignore_errors = None }) (task_step (record { line = 7; work = (module_work (codes "probe") (no_parts)); condition = (no_expressions); loop = None; register = None; vars = (no_parts); notify = ([]); changed_when = None; failed_when = None; attempts = None; ignore_errors = None }) (task_step (record { line = 8; work = (module_work (codes "command") (part (codes "cmd") (literal (text (codes "x"))) (no_parts))); condition = (no_expressions); loop = None; register = (Some (codes "r1")); vars = (no_parts); notify = ([]); changed_when = None; failed_when = None; attempts = None; ignore_errors = None }) (no_steps)))) (no_steps) (no_steps) (task_step (record { line = 9; work = (set_fact_work (part (codes "s2") (literal (text (codes "t"))) (no_parts))); condition = (no_expressions); loop = None; register = (Some (codes "r3")); vars = (no_parts); notify = ([]); changed_when = None; failed_when = None; attempts = None; ignore_errors = None }) (task_step (record { line = 10; work = (assert_work (conditions_are (expression (defined (other (named_host (codes "c")) (codes "s3")) ((codes "f") ∷ [])) (no_expressions))) (no_parts)); condition = (no_expressions); loop = None; register = (Some (codes "r2")); vars = (no_parts); notify = ([]); changed_when = None; failed_when = None; attempts = None; ignore_errors = (Some true) }) (no_steps)))) (no_steps) (no_steps) (no_steps)))); tasks = (task_step (record { line = 11; work = (module_work (codes "command") (part (codes "cmd") (literal (text (codes "x"))) (no_parts))); condition = (no_expressions); loop = None; register = (Some (codes "r3")); vars = (no_parts); notify = ([]); changed_when = None; failed_when = None; attempts = None; ignore_errors = (Some false) }) (no_steps)); post_tasks = (no_steps); handlers = ([]); forces = true } ∷ [])

abbrev random_001161_inventory : Inventory
random_001161_inventory = record { hosts = (record { name = (codes "a"); variables = (field (codes "i1") (text (codes "t")) (field (codes "i2") (boolean true) (no_fields))) } ∷ record { name = (codes "b"); variables = (field (codes "i2") (boolean true) (field (codes "s1") (list (no_items)) (no_fields))) } ∷ record { name = (codes "c"); variables = (field (codes "i2") (list (no_items)) (field (codes "s1") (list (no_items)) (no_fields))) } ∷ []); groups = (record { name = (codes "all"); hosts = ((codes "a") ∷ (codes "b") ∷ (codes "c") ∷ []) } ∷ record { name = (codes "g1"); hosts = ((codes "b") ∷ (codes "c") ∷ []) } ∷ record { name = (codes "g2"); hosts = ((codes "a") ∷ (codes "b") ∷ (codes "c") ∷ []) } ∷ record { name = (codes "ungrouped"); hosts = ([]) } ∷ []) }

abbrev random_001161_registry : Registry
random_001161_registry = (builtins ++ (record { name = (codes "probe"); params = (record { name = (codes "n"); kind = ints; required = false } ∷ record { name = (codes "l"); kind = (lists texts 3); required = false } ∷ []); ok = recs (slot (codes "changed") true booleans (slot (codes "deep") false (recs (slot (codes "a") true texts (slot (codes "b") false booleans (no_slots)))) (slot (codes "rows") true (lists texts 2) (slot (codes "v") false ints (no_slots))))); failure = recs (slot (codes "changed") true booleans (slot (codes "msg") true texts (slot (codes "v") false texts (slot (codes "why") true ints (no_slots))))); free = None } ∷ record { name = (codes "odd"); params = ([]); ok = recs (slot (codes "changed") true booleans (slot (codes "msg") false ints (no_slots))); failure = recs (slot (codes "changed") true booleans (slot (codes "msg") true texts (no_slots))); free = None } ∷ []))

random_001161 : judged random_001161_registry random_001161_inventory random_001161_book ≡ accepted 12
random_001161 = refl

-- random_001177:
abbrev random_001177_book : Book
random_001177_book = (record { line = 1; pattern = ((codes "all") ∷ []); gathering = None; vars = (part (codes "v2") (literal (text (codes "x"))) (part (codes "v3") (list_of (expression (path (variable (codes "r1")) ((codes "changed") ∷ [])) (expression (literal (text (codes "q"))) (no_expressions)))) (no_parts))); is_linear = true; serial = ([]); pre_tasks = (no_steps); tasks = (task_step (record { line = 2; work = (module_work (codes "odd") (no_parts)); condition = (no_expressions); loop = None; register = None; vars = (no_parts); notify = ([]); changed_when = None; failed_when = None; attempts = None; ignore_errors = None }) (task_step (record { line = 3; work = (set_fact_work (part (codes "s2") (record_of (part (codes "f") (literal (int (pos 1))) (no_parts))) (no_parts))); condition = (no_expressions); loop = None; register = None; vars = (no_parts); notify = ((codes "h1") ∷ []); changed_when = None; failed_when = None; attempts = None; ignore_errors = None }) (flush_step 4 (task_step (record { line = 5; work = (set_fact_work (part (codes "s2") (list_of (expression (path (variable (codes "v2")) ([])) (no_expressions))) (no_parts))); condition = (no_expressions); loop = None; register = (Some (codes "r1")); vars = (part (codes "v3") (path (other (group_member (codes "all") 0) (codes "i1")) ([])) (no_parts)); notify = ([]); changed_when = None; failed_when = None; attempts = None; ignore_errors = None }) (no_steps))))); post_tasks = (no_steps); handlers = (record { work = (record { line = 6; work = (module_work (codes "command") (part (codes "cmd") (literal (text (codes "x"))) (no_parts))); condition = (no_expressions); loop = None; register = (Some (codes "r1")); vars = (no_parts); notify = ([]); changed_when = None; failed_when = None; attempts = None; ignore_errors = None }); name = (Some (codes "h0")); topics = ((codes "t") ∷ []) } ∷ record { work = (record { line = 7; work = (module_work (codes "setup") (no_parts)); condition = (no_expressions); loop = None; register = None; vars = (part (codes "v1") (comparison equal (path (variable (codes "s1")) ([])) (path (variable (codes "groups")) ((codes "all") ∷ []))) (part (codes "v2") (path_or (variable (codes "r1")) ((codes "stdout") ∷ []) (literal (int (pos 1)))) (no_parts))); notify = ([]); changed_when = None; failed_when = (Some (expression (literal (boolean true)) (no_expressions))); attempts = None; ignore_errors = (Some true) }); name = (Some (codes "h1")); topics = ([]) } ∷ []); forces = false } ∷ record { line = 8; pattern = ((codes "a") ∷ (codes "all") ∷ []); gathering = None; vars = (no_parts); is_linear = true; serial = ([]); pre_tasks = (task_step (record { line = 9; work = (debug_work (part (codes "msg") (literal (text (codes "x"))) (no_parts))); condition = (no_expressions); loop = None; register = (Some (codes "r1")); vars = (no_parts); notify = ([]); changed_when = None; failed_when = None; attempts = None; ignore_errors = None }) (task_step (record { line = 10; work = (module_work (codes "odd") (no_parts)); condition = (no_expressions); loop = None; register = (Some (codes "r1")); vars = (part (codes "v2") (path (variable (codes "r1")) ((codes "failed") ∷ [])) (part (codes "v3") (path (variable (codes "r1")) ((codes "skipped") ∷ [])) (no_parts))); notify = ([]); changed_when = None; failed_when = None; attempts = None; ignore_errors = None }) (task_step (record { line = 11; work = (fail_work (no_parts)); condition = (no_expressions); loop = None; register = None; vars = (part (codes "v1") (path (other (named_host (codes "d")) (codes "i2")) ((codes "rc") ∷ [])) (part (codes "v2") (path (variable (codes "r2")) ((codes "failed") ∷ [])) (no_parts))); notify = ([]); changed_when = None; failed_when = (Some (expression (comparison equal (path (variable (codes "inventory_hostname")) ([])) (literal (text (codes "a")))) (no_expressions))); attempts = None; ignore_errors = None }) (no_steps)))); tasks = (block_step (record { line = 12; condition = (no_expressions); vars = (no_parts); ignore_errors = None }) (task_step (record { line = 13; work = (debug_work (part (codes "msg") (literal (text (codes "x"))) (no_parts))); condition = (no_expressions); loop = None; register = None; vars = (no_parts); notify = ([]); changed_when = None; failed_when = None; attempts = None; ignore_errors = None }) (task_step (record { line = 14; work = (module_work (codes "odd") (no_parts)); condition = (expression (negation (defined (other (group_member (codes "all") 0) (codes "s3")) ([]))) (no_expressions)); loop = (Some (list_of (expression (literal (int (pos 0))) (no_expressions)))); register = None; vars = (no_parts); notify = ([]); changed_when = None; failed_when = None; attempts = None; ignore_errors = None }) (task_step (record { line = 15; work = (fail_work (no_parts)); condition = (no_expressions); loop = None; register = None; vars = (no_parts); notify = ([]); changed_when = (Some (expression (literal (boolean false)) (no_expressions))); failed_when = None; attempts = None; ignore_errors = None }) (no_steps)))) (task_step (record { line = 16; work = (module_work (codes "ping") (no_parts)); condition = (no_expressions); loop = None; register = (Some (codes "r3")); vars = (no_parts); notify = ([]); changed_when = None; failed_when = None; attempts = None; ignore_errors = None }) (task_step (record { line = 17; work = (module_work (codes "probe") (no_parts)); condition = (no_expressions); loop = (Some (list_of (expression (literal (boolean false)) (expression (list_of (expression (literal (text (codes "x"))) (expression (literal (boolean false)) (no_expressions)))) (expression (record_of (part (codes "f") (literal (text (codes "b"))) (part (codes "g") (list_of (expression (literal null) (no_expressions))) (no_parts)))) (no_expressions)))))); register = (Some (codes "r3")); vars = (no_parts); notify = ([]); changed_when = None; failed_when = None; attempts = None; ignore_errors = None }) (block_step (record { line = 18; condition = (expression (negation (path_status is_changed (variable (codes "r2")) ([]))) (no_expressions)); vars = (no_parts); ignore_errors = (Some false) }) (task_step (record { line = 19; work = (module_work (codes "ping") (no_parts)); condition = (no_expressions); loop = None; register = None; vars = (no_parts); notify = ([]); changed_when = None; failed_when = None; attempts = None; ignore_errors = None }) (task_step (record { line = 20; work = (module_work (codes "stat") (part (codes "path") (literal (text (codes "/"))) (no_parts))); condition = (no_expressions); loop = None; register = (Some (codes "r2")); vars = (no_parts); notify = ([]); changed_when = None; failed_when = None; attempts = None; ignore_errors = None }) (no_steps))) (no_steps) (task_step (record { line = 21; work = (set_fact_work (part (codes "s2") (list_of (expression (concatenation (expression (literal (text (codes "x"))) (expression (path (variable (codes "r3")) ((codes "changed") ∷ [])) (no_expressions)))) (no_expressions))) (no_parts))); condition = (expression (defined (variable (codes "r3")) ((codes "changed") ∷ [])) (no_expressions)); loop = None; register = (Some (codes "r1")); vars = (part (codes "v2") (path (variable (codes "r2")) ([])) (no_parts)); notify = ([]); changed_when = None; failed_when = (Some (expression (comparison equal (path (variable (codes "r1")) ((codes "changed") ∷ [])) (literal (int (pos 1)))) (no_expressions))); attempts = None; ignore_errors = None }) (task_step (record { line = 22; work = (set_fact_work (part (codes "s1") (list_of (expression (path (variable (codes "ansible_failed_result")) ((codes "msg") ∷ [])) (no_expressions))) (no_parts))); condition = (expression (negation (path_status is_failed (variable (codes "ansible_failed_result")) ([]))) (no_expressions)); loop = None; register = (Some (codes "r3")); vars = (no_parts); notify = ([]); changed_when = None; failed_when = None; attempts = None; ignore_errors = None }) (no_steps))) (no_steps)))) (no_steps) (task_step (record { line = 23; work = (module_work (codes "setup") (no_parts)); condition = (no_expressions); loop = None; register = None; vars = (no_parts); notify = ([]); changed_when = None; failed_when = None; attempts = None; ignore_errors = None }) (no_steps))); post_tasks = (no_steps); handlers = ([]); forces = true } ∷ [])

abbrev random_001177_inventory : Inventory
random_001177_inventory = record { hosts = (record { name = (codes "a"); variables = (field (codes "i1") (int (negsuc 0)) (field (codes "i2") (text ([])) (field (codes "op") opaque (no_fields)))) } ∷ record { name = (codes "b"); variables = (field (codes "i1") (list (no_items)) (field (codes "i2") (list (no_items)) (field (codes "s1") (text ([])) (no_fields)))) } ∷ record { name = (codes "c"); variables = (field (codes "i1") (rec (field (codes "f") (list (item (int (pos 1)) (no_items))) (no_fields))) (field (codes "i2") (list (no_items)) (field (codes "op") opaque (field (codes "s1") (text (codes "no")) (no_fields))))) } ∷ record { name = (codes "d"); variables = (field (codes "i1") (rec (field (codes "f") (list (item (int (pos 1)) (no_items))) (no_fields))) (field (codes "i2") (list (no_items)) (field (codes "op") opaque (field (codes "s1") (text ([])) (no_fields))))) } ∷ []); groups = (record { name = (codes "all"); hosts = ((codes "a") ∷ (codes "b") ∷ (codes "c") ∷ (codes "d") ∷ []) } ∷ record { name = (codes "g1"); hosts = ((codes "b") ∷ (codes "c") ∷ (codes "d") ∷ []) } ∷ record { name = (codes "g2"); hosts = ((codes "c") ∷ (codes "d") ∷ []) } ∷ record { name = (codes "ungrouped"); hosts = ((codes "a") ∷ []) } ∷ []) }

abbrev random_001177_registry : Registry
random_001177_registry = (builtins ++ (record { name = (codes "probe"); params = (record { name = (codes "n"); kind = ints; required = false } ∷ record { name = (codes "l"); kind = (lists texts 3); required = false } ∷ []); ok = recs (slot (codes "changed") true booleans (slot (codes "deep") false (recs (slot (codes "a") true texts (slot (codes "b") false booleans (no_slots)))) (slot (codes "rows") true (lists texts 2) (slot (codes "v") false ints (no_slots))))); failure = recs (slot (codes "changed") true booleans (slot (codes "msg") true texts (slot (codes "v") false texts (slot (codes "why") true ints (no_slots))))); free = None } ∷ record { name = (codes "odd"); params = ([]); ok = recs (slot (codes "changed") true booleans (slot (codes "msg") false ints (no_slots))); failure = recs (slot (codes "changed") true booleans (slot (codes "msg") true texts (no_slots))); free = None } ∷ []))

random_001177 : judged random_001177_registry random_001177_inventory random_001177_book ≡ refused (record { code = 1; line = 19; host = (Some (codes "a")) })
random_001177 = refl

-- random_001179_run:
abbrev random_001179_run_book : Book
random_001179_run_book = (record { line = 1; pattern = ((codes "g1") ∷ []); gathering = None; vars = (no_parts); is_linear = true; serial = (host_count 1 ∷ host_count 2 ∷ []); pre_tasks = (no_steps); tasks = (task_step (record { line = 2; work = (module_work (codes "ping") (no_parts)); condition = (no_expressions); loop = (Some (path_or (variable (codes "r1")) ((codes "results") ∷ []) (list_of (no_expressions)))); register = (Some (codes "r1")); vars = (part (codes "v1") (list_of (expression (path (variable (codes "r2")) ((codes "failed") ∷ [])) (expression (literal (text (codes "q"))) (no_expressions)))) (part (codes "v3") (path (variable (codes "r1")) ((codes "failed") ∷ [])) (no_parts))); notify = ([]); changed_when = None; failed_when = None; attempts = None; ignore_errors = None }) (task_step (record { line = 3; work = (module_work (codes "ping") (no_parts)); condition = (expression (path_or (variable (codes "i2")) ([]) (literal (boolean false))) (no_expressions)); loop = None; register = None; vars = (part (codes "v3") (comparison equal (path (variable (codes "r1")) ((codes "msg") ∷ [])) (path (variable (codes "r2")) ((codes "skip_reason") ∷ []))) (no_parts)); notify = ([]); changed_when = None; failed_when = None; attempts = None; ignore_errors = (Some true) }) (task_step (record { line = 4; work = (debug_work (part (codes "msg") (path (other this_host (codes "r2")) ((codes "failed") ∷ [])) (no_parts))); condition = (expression (negation (defined (other (group_member (codes "all") 0) (codes "r2")) ((codes "failed") ∷ []))) (expression (defined (other this_host (codes "r2")) ([])) (expression (negation (path_status is_failed (other this_host (codes "r2")) ([]))) (no_expressions)))); loop = None; register = None; vars = (no_parts); notify = ([]); changed_when = (Some (expression (literal (boolean false)) (no_expressions))); failed_when = None; attempts = None; ignore_errors = None }) (block_step (record { line = 5; condition = (no_expressions); vars = (no_parts); ignore_errors = None }) (task_step (record { line = 6; work = (module_work (codes "ping") (no_parts)); condition = (no_expressions); loop = (Some (path_or (variable (codes "r3")) ((codes "results") ∷ []) (list_of (no_expressions)))); register = (Some (codes "r3")); vars = (part (codes "v1") (path_or (variable (codes "r1")) ((codes "skip_reason") ∷ []) (list_of (no_expressions))) (part (codes "v3") (concatenation (expression (literal (text (codes "x"))) (expression (path (other this_host (codes "r2")) ((codes "failed") ∷ [])) (no_expressions)))) (no_parts))); notify = ([]); changed_when = None; failed_when = None; attempts = None; ignore_errors = None }) (task_step (record { line = 7; work = (module_work (codes "stat") (part (codes "path") (literal (text (codes "/"))) (no_parts))); condition = (no_expressions); loop = None; register = (Some (codes "r3")); vars = (no_parts); notify = ([]); changed_when = None; failed_when = None; attempts = None; ignore_errors = None }) (block_step (record { line = 8; condition = (no_expressions); vars = (no_parts); ignore_errors = None }) (block_step (record { line = 9; condition = (no_expressions); vars = (part (codes "v3") (literal (int (negsuc 0))) (no_parts)); ignore_errors = None }) (task_step (record { line = 10; work = (module_work (codes "command") (part (codes "cmd") (literal (text (codes "x"))) (no_parts))); condition = (no_expressions); loop = None; register = (Some (codes "r2")); vars = (no_parts); notify = ([]); changed_when = None; failed_when = None; attempts = (Some (record { until = (expression (path_status is_failed (variable (codes "r2")) ([])) (no_expressions)); retries = 1 })); ignore_errors = None }) (no_steps)) (task_step (record { line = 11; work = (assert_work (conditions_are (expression (conjunction (expression (negation (path_status is_failed (variable (codes "r1")) ([]))) (expression (comparison equal (path (variable (codes "r1")) ((codes "ping") ∷ [])) (literal (int (pos 1)))) (no_expressions)))) (no_expressions))) (no_parts)); condition = (no_expressions); loop = None; register = (Some (codes "r2")); vars = (no_parts); notify = ([]); changed_when = None; failed_when = None; attempts = None; ignore_errors = None }) (no_steps)) (task_step (record { line = 12; work = (debug_work (part (codes "msg") (concatenation (expression (literal (text (codes "x"))) (expression (path_or (variable (codes "i1")) ((codes "g") ∷ []) (literal (int (pos 1)))) (no_expressions)))) (no_parts))); condition = (no_expressions); loop = None; register = (Some (codes "r1")); vars = (no_parts); notify = ([]); changed_when = None; failed_when = (Some (expression (path_status is_failed (variable (codes "r1")) ([])) (no_expressions))); attempts = None; ignore_errors = None }) (task_step (record { line = 13; work = (debug_work (part (codes "msg") (path (variable (codes "r3")) ([])) (no_parts))); condition = (no_expressions); loop = (Some (list_of (expression (literal (text ([]))) (expression (record_of (part (codes "f") (literal (text ([]))) (no_parts))) (expression (literal (text (codes "a"))) (no_expressions)))))); register = None; vars = (no_parts); notify = ([]); changed_when = None; failed_when = None; attempts = None; ignore_errors = None }) (no_steps))) (task_step (record { line = 14; work = (module_work (codes "command") (part (codes "cmd") (literal (text (codes "x"))) (no_parts))); condition = (no_expressions); loop = None; register = (Some (codes "r3")); vars = (no_parts); notify = ([]); changed_when = (Some (expression (conjunction (expression (defined (variable (codes "r3")) ((codes "stdout_lines") ∷ [])) (expression (comparison equal (path (variable (codes "r3")) ((codes "stdout_lines") ∷ [])) (literal (text (codes "a")))) (no_expressions)))) (no_expressions))); failed_when = None; attempts = None; ignore_errors = None }) (no_steps))) (task_step (record { line = 15; work = (set_fact_work (part (codes "s1") (path_or (variable (codes "i2")) ((codes "g") ∷ []) (list_of (no_expressions))) (no_parts))); condition = (no_expressions); loop = None; register = (Some (codes "r1")); vars = (part (codes "v2") (concatenation (expression (literal (text (codes "x"))) (expression (path (variable (codes "r1")) ((codes "changed") ∷ [])) (no_expressions)))) (no_parts)); notify = ([]); changed_when = (Some (expression (literal (boolean false)) (no_expressions))); failed_when = None; attempts = None; ignore_errors = None }) (no_steps)) (task_step (record { line = 16; work = (assert_work (conditions_are (expression (defined (other (named_host (codes "a")) (codes "r3")) ((codes "stderr") ∷ [])) (no_expressions))) (no_parts)); condition = (no_expressions); loop = (Some (path_or (variable (codes "r3")) ((codes "stdout_lines") ∷ []) (list_of (no_expressions)))); register = (Some (codes "r3")); vars = (no_parts); notify = ([]); changed_when = None; failed_when = None; attempts = None; ignore_errors = None }) (task_step (record { line = 17; work = (module_work (codes "setup") (no_parts)); condition = (no_expressions); loop = (Some (path (variable (codes "groups")) ((codes "all") ∷ []))); register = (Some (codes "r3")); vars = (no_parts); notify = ([]); changed_when = None; failed_when = (Some (expression (comparison equal (path (variable (codes "r3")) ((codes "ansible_facts") ∷ (codes "ansible_hostname") ∷ [])) (literal (int (pos 1)))) (no_expressions))); attempts = None; ignore_errors = None }) (no_steps))) (no_steps)))) (block_step (record { line = 18; condition = (no_expressions); vars = (no_parts); ignore_errors = None }) (block_step (record { line = 19; condition = (no_expressions); vars = (no_parts); ignore_errors = None }) (task_step (record { line = 20; work = (assert_work (conditions_are (expression (conjunction (expression (in_batch (named_host (codes "a"))) (expression (conjunction (expression (negation (path_status is_skipped (variable (codes "item")) ([]))) (expression (comparison equal (path (variable (codes "item")) ((codes "rc") ∷ [])) (literal (int (pos 1)))) (no_expressions)))) (no_expressions)))) (no_expressions))) (no_parts)); condition = (expression (negation (defined (variable (codes "r1")) ([]))) (expression (in_batch item_host) (no_expressions))); loop = (Some (path (variable (codes "groups")) ((codes "all") ∷ []))); register = None; vars = (no_parts); notify = ([]); changed_when = None; failed_when = None; attempts = None; ignore_errors = None }) (task_step (record { line = 21; work = (module_work (codes "command") (part (codes "cmd") (concatenation (expression (literal (text (codes "x "))) (expression (path (variable (codes "ansible_failed_result")) ((codes "msg") ∷ [])) (no_expressions)))) (no_parts))); condition = (expression (negation (path_status is_skipped (variable (codes "ansible_failed_result")) ([]))) (no_expressions)); loop = None; register = (Some (codes "r3")); vars = (no_parts); notify = ([]); changed_when = None; failed_when = None; attempts = None; ignore_errors = None }) (no_steps))) (task_step (record { line = 22; work = (debug_work (part (codes "msg") (path (variable (codes "r2")) ((codes "changed") ∷ [])) (no_parts))); condition = (no_expressions); loop = None; register = None; vars = (no_parts); notify = ([]); changed_when = None; failed_when = (Some (expression (literal (boolean false)) (no_expressions))); attempts = None; ignore_errors = None }) (no_steps)) (task_step (record { line = 23; work = (module_work (codes "probe") (no_parts)); condition = (no_expressions); loop = None; register = (Some (codes "r3")); vars = (no_parts); notify = ([]); changed_when = (Some (expression (path_status is_failed (variable (codes "r3")) ([])) (no_expressions))); failed_when = None; attempts = None; ignore_errors = None }) (no_steps)) (no_steps)) (block_step (record { line = 24; condition = (expression (disjunction (expression (negation (defined (other (named_host (codes "a")) (codes "s1")) ([]))) (expression (path_or (variable (codes "ansible_os_family")) ([]) (literal (boolean false))) (no_expressions)))) (no_expressions)); vars = (no_parts); ignore_errors = None }) (task_step (record { line = 25; work = (module_work (codes "ping") (no_parts)); condition = (no_expressions); loop = None; register = None; vars = (no_parts); notify = ([]); changed_when = None; failed_when = None; attempts = (Some (record { until = (expression (comparison equal (path (variable (codes "inventory_hostname")) ([])) (literal (text (codes "a")))) (no_expressions)); retries = 3 })); ignore_errors = None }) (no_steps)) (no_steps) (no_steps) (no_steps)) (no_steps) (task_step (record { line = 26; work = (debug_work (part (codes "msg") (path (variable (codes "ansible_failed_result")) ((codes "msg") ∷ [])) (no_parts))); condition = (expression (negation (path_or (variable (codes "r3")) ([]) (literal (boolean false)))) (expression (path_status is_failed (variable (codes "ansible_failed_result")) ([])) (no_expressions))); loop = None; register = (Some (codes "r2")); vars = (no_parts); notify = ([]); changed_when = None; failed_when = (Some (expression (literal (boolean true)) (no_expressions))); attempts = None; ignore_errors = None }) (task_step (record { line = 27; work = (module_work (codes "probe") (part (codes "l") (path_or (other (named_host (codes "a")) (codes "r3")) ((codes "failed") ∷ []) (list_of (no_expressions))) (no_parts))); condition = (expression (in_batch item_host) (no_expressions)); loop = (Some (path (variable (codes "ansible_play_batch")) ([]))); register = (Some (codes "r1")); vars = (no_parts); notify = ([]); changed_when = None; failed_when = None; attempts = None; ignore_errors = None }) (no_steps)))) (no_steps) (no_steps))))); post_tasks = (task_step (record { line = 28; work = (fail_work (no_parts)); condition = (no_expressions); loop = None; register = (Some (codes "r3")); vars = (no_parts); notify = ([]); changed_when = None; failed_when = None; attempts = None; ignore_errors = None }) (flush_step 29 (task_step (record { line = 30; work = (module_work (codes "probe") (no_parts)); condition = (no_expressions); loop = (Some (path_or (variable (codes "r1")) ((codes "stdout_lines") ∷ []) (list_of (no_expressions)))); register = None; vars = (no_parts); notify = ([]); changed_when = None; failed_when = None; attempts = None; ignore_errors = None }) (no_steps)))); handlers = ([]); forces = true } ∷ [])

abbrev random_001179_run_inventory : Inventory
random_001179_run_inventory = record { hosts = (record { name = (codes "a"); variables = (field (codes "i1") (rec (field (codes "f") (text (codes "x")) (field (codes "g") (boolean false) (no_fields)))) (field (codes "i2") (text ([])) (no_fields))) } ∷ []); groups = (record { name = (codes "all"); hosts = ((codes "a") ∷ []) } ∷ record { name = (codes "g1"); hosts = ([]) } ∷ record { name = (codes "ungrouped"); hosts = ((codes "a") ∷ []) } ∷ []) }

abbrev random_001179_run_registry : Registry
random_001179_run_registry = (builtins ++ (record { name = (codes "probe"); params = (record { name = (codes "n"); kind = ints; required = false } ∷ record { name = (codes "l"); kind = (lists texts 3); required = false } ∷ []); ok = recs (slot (codes "changed") true booleans (slot (codes "deep") false (recs (slot (codes "a") true texts (slot (codes "b") false booleans (no_slots)))) (slot (codes "rows") true (lists texts 2) (slot (codes "v") false ints (no_slots))))); failure = recs (slot (codes "changed") true booleans (slot (codes "msg") true texts (slot (codes "v") false texts (slot (codes "why") true ints (no_slots))))); free = None } ∷ record { name = (codes "odd"); params = ([]); ok = recs (slot (codes "changed") true booleans (slot (codes "msg") false ints (no_slots))); failure = recs (slot (codes "changed") true booleans (slot (codes "msg") true texts (no_slots))); free = None } ∷ []))

random_001179_run : recaps_of random_001179_run_registry random_001179_run_inventory random_001179_run_book 1 (([]) ∷ []) ≡ (record { ok = 0; changed = 0; unreachable = 0; failed = 0; skipped = 0; rescued = 0; ignored = 0 } ∷ [])
unfolding digits
random_001179_run = refl

-- random_001190:
abbrev random_001190_book : Book
random_001190_book = (record { line = 1; pattern = ((codes "b") ∷ (codes "a") ∷ []); gathering = (Some 2); vars = (part (codes "v1") (record_of (part (codes "k") (literal (int (pos 1))) (no_parts))) (no_parts)); is_linear = true; serial = ([]); pre_tasks = (no_steps); tasks = (task_step (record { line = 3; work = (module_work (codes "setup") (no_parts)); condition = (expression (defined (variable (codes "y")) ([])) (expression (conjunction (expression (defined (variable (codes "r")) ([])) (expression (negation (path_status is_failed (variable (codes "r")) ([]))) (no_expressions)))) (no_expressions))); loop = None; register = (Some (codes "r")); vars = (no_parts); notify = ([]); changed_when = None; failed_when = None; attempts = None; ignore_errors = (Some false) }) (task_step (record { line = 4; work = (module_work (codes "command") (part (codes "cmd") (literal (text (codes "x"))) (no_parts))); condition = (expression (negation (defined (other (group_member (codes "g") 0) (codes "opq")) ((codes "os_family") ∷ []))) (expression (in_batch (named_host (codes "b"))) (no_expressions))); loop = (Some (path (variable (codes "inv")) ([]))); register = None; vars = (no_parts); notify = ([]); changed_when = None; failed_when = None; attempts = None; ignore_errors = None }) (task_step (record { line = 5; work = (fail_work (no_parts)); condition = (expression (defined (other (named_host (codes "a")) (codes "r")) ((codes "rc") ∷ [])) (no_expressions)); loop = None; register = (Some (codes "s")); vars = (no_parts); notify = ([]); changed_when = None; failed_when = None; attempts = None; ignore_errors = (Some true) }) (no_steps)))); post_tasks = (no_steps); handlers = ([]); forces = true } ∷ [])

abbrev random_001190_inventory : Inventory
random_001190_inventory = record { hosts = (record { name = (codes "c"); variables = (field (codes "inv") (list (item (int (pos 1)) (item (int (pos 2)) (no_items)))) (no_fields)) } ∷ record { name = (codes "b"); variables = (field (codes "inv") (list (item (int (pos 1)) (item (int (pos 2)) (no_items)))) (field (codes "k") (rec (field (codes "z") opaque (no_fields))) (no_fields))) } ∷ record { name = (codes "a"); variables = (field (codes "inv") (list (item (text (codes "x")) (no_items))) (field (codes "opq") opaque (no_fields))) } ∷ []); groups = (record { name = (codes "all"); hosts = ((codes "c") ∷ (codes "b") ∷ (codes "a") ∷ []) } ∷ record { name = (codes "g"); hosts = ((codes "b") ∷ (codes "a") ∷ []) } ∷ record { name = (codes "ungrouped"); hosts = ((codes "c") ∷ []) } ∷ []) }

abbrev random_001190_registry : Registry
random_001190_registry = (builtins ++ ([]))

random_001190 : judged random_001190_registry random_001190_inventory random_001190_book ≡ accepted 7
random_001190 = refl

-- random_001198:
abbrev random_001198_book : Book
random_001198_book = (record { line = 1; pattern = ((codes "b") ∷ (codes "a") ∷ []); gathering = None; vars = (part (codes "v1") (record_of (part (codes "k") (list_of (expression (path (variable (codes "ansible_hostname")) ((codes "stdout") ∷ [])) (no_expressions))) (no_parts))) (no_parts)); is_linear = true; serial = ([]); pre_tasks = (no_steps); tasks = (flush_step 2 (no_steps)); post_tasks = (no_steps); handlers = (record { work = (record { line = 3; work = (assert_work (conditions_are (expression (negation (path_status is_failed (variable (codes "group_names")) ((codes "stdout_lines") ∷ []))) (no_expressions))) (no_parts)); condition = (no_expressions); loop = None; register = (Some (codes "r")); vars = (part (codes "v1") (path_or (variable (codes "r")) ((codes "changed") ∷ []) (literal (text (codes "d")))) (no_parts)); notify = ([]); changed_when = None; failed_when = None; attempts = None; ignore_errors = None }); name = (Some (codes "h0")); topics = ([]) } ∷ record { work = (record { line = 4; work = (module_work (codes "command") (part (codes "cmd") (negation (path_status is_skipped (other this_host (codes "inv")) ([]))) (no_parts))); condition = (no_expressions); loop = None; register = None; vars = (no_parts); notify = ([]); changed_when = None; failed_when = None; attempts = None; ignore_errors = None }); name = (Some (codes "h1")); topics = ([]) } ∷ []); forces = true } ∷ [])

abbrev random_001198_inventory : Inventory
random_001198_inventory = record { hosts = (record { name = (codes "c"); variables = (field (codes "inv") (list (item (int (pos 1)) (item (int (pos 2)) (no_items)))) (no_fields)) } ∷ record { name = (codes "b"); variables = (field (codes "inv") (list (item (int (pos 1)) (item (int (pos 2)) (no_items)))) (field (codes "k") (rec (field (codes "z") opaque (no_fields))) (no_fields))) } ∷ record { name = (codes "a"); variables = (field (codes "inv") (list (item (text (codes "x")) (no_items))) (field (codes "opq") opaque (no_fields))) } ∷ []); groups = (record { name = (codes "all"); hosts = ((codes "c") ∷ (codes "b") ∷ (codes "a") ∷ []) } ∷ record { name = (codes "g"); hosts = ((codes "b") ∷ (codes "a") ∷ []) } ∷ record { name = (codes "ungrouped"); hosts = ((codes "c") ∷ []) } ∷ []) }

abbrev random_001198_registry : Registry
random_001198_registry = (builtins ++ ([]))

random_001198 : judged random_001198_registry random_001198_inventory random_001198_book ≡ refused (record { code = 4; line = 3; host = (Some (codes "b")) })
random_001198 = refl

-- random_001210:
abbrev random_001210_book : Book
random_001210_book = (record { line = 1; pattern = ((codes "b") ∷ (codes "a") ∷ []); gathering = None; vars = (no_parts); is_linear = false; serial = ([]); pre_tasks = (no_steps); tasks = (block_step (record { line = 2; condition = (no_expressions); vars = (no_parts); ignore_errors = None }) (task_step (record { line = 3; work = (set_fact_work (part (codes "s") (joined_by (path (other item_host (codes "inv")) ([])) (literal (text (codes ",")))) (no_parts))); condition = (no_expressions); loop = None; register = None; vars = (no_parts); notify = ([]); changed_when = None; failed_when = None; attempts = None; ignore_errors = (Some true) }) (no_steps)) (task_step (record { line = 4; work = (module_work (codes "setup") (no_parts)); condition = (no_expressions); loop = (Some (path (variable (codes "r")) ((codes "stdout_lines") ∷ []))); register = (Some (codes "s")); vars = (no_parts); notify = ([]); changed_when = None; failed_when = None; attempts = None; ignore_errors = None }) (task_step (record { line = 5; work = (debug_work (part (codes "msg") (concatenation (expression (literal (text (codes "x"))) (expression (length_of (path (variable (codes "v1")) ((codes "stat") ∷ (codes "isdir") ∷ []))) (no_expressions)))) (no_parts))); condition = (no_expressions); loop = None; register = (Some (codes "r")); vars = (no_parts); notify = ((codes "h1") ∷ []); changed_when = None; failed_when = None; attempts = None; ignore_errors = None }) (no_steps))) (task_step (record { line = 6; work = (module_work (codes "command") (part (codes "cmd") (literal (text (codes "x"))) (no_parts))); condition = (expression (conjunction (expression (defined (variable (codes "r")) ([])) (expression (negation (path_status is_failed (variable (codes "r")) ([]))) (no_expressions)))) (no_expressions)); loop = None; register = None; vars = (no_parts); notify = ((codes "h0") ∷ []); changed_when = None; failed_when = None; attempts = None; ignore_errors = None }) (no_steps)) (block_step (record { line = 7; condition = (expression (negation (defined (variable (codes "y")) ((codes "rc") ∷ []))) (expression (membership (literal (text (codes "a"))) (path (variable (codes "s")) ((codes "changed") ∷ []))) (no_expressions))); vars = (no_parts); ignore_errors = None }) (no_steps) (no_steps) (block_step (record { line = 8; condition = (no_expressions); vars = (no_parts); ignore_errors = None }) (task_step (record { line = 9; work = (module_work (codes "ping") (no_parts)); condition = (no_expressions); loop = None; register = (Some (codes "s")); vars = (no_parts); notify = ((codes "h1") ∷ []); changed_when = None; failed_when = None; attempts = None; ignore_errors = (Some true) }) (task_step (record { line = 10; work = (module_work (codes "setup") (no_parts)); condition = (no_expressions); loop = None; register = None; vars = (no_parts); notify = ((codes "h1") ∷ []); changed_when = None; failed_when = None; attempts = None; ignore_errors = None }) (no_steps))) (no_steps) (no_steps) (no_steps)) (no_steps))); post_tasks = (no_steps); handlers = (record { work = (record { line = 11; work = (module_work (codes "ping") (no_parts)); condition = (expression (negation (path_status is_skipped (variable (codes "r")) ([]))) (no_expressions)); loop = None; register = None; vars = (no_parts); notify = ([]); changed_when = None; failed_when = None; attempts = None; ignore_errors = None }); name = (Some (codes "h0")); topics = ([]) } ∷ record { work = (record { line = 12; work = (module_work (codes "command") (part (codes "cmd") (literal (text (codes "x"))) (no_parts))); condition = (no_expressions); loop = None; register = (Some (codes "s")); vars = (no_parts); notify = ([]); changed_when = None; failed_when = None; attempts = None; ignore_errors = (Some false) }); name = (Some (codes "h1")); topics = ([]) } ∷ []); forces = true } ∷ [])

abbrev random_001210_inventory : Inventory
random_001210_inventory = record { hosts = (record { name = (codes "c"); variables = (field (codes "inv") (list (item (int (pos 1)) (item (int (pos 2)) (no_items)))) (no_fields)) } ∷ record { name = (codes "b"); variables = (field (codes "inv") (list (item (int (pos 1)) (item (int (pos 2)) (no_items)))) (field (codes "k") (rec (field (codes "z") opaque (no_fields))) (no_fields))) } ∷ record { name = (codes "a"); variables = (field (codes "inv") (list (item (text (codes "x")) (no_items))) (field (codes "opq") opaque (no_fields))) } ∷ []); groups = (record { name = (codes "all"); hosts = ((codes "c") ∷ (codes "b") ∷ (codes "a") ∷ []) } ∷ record { name = (codes "g"); hosts = ((codes "b") ∷ (codes "a") ∷ []) } ∷ record { name = (codes "ungrouped"); hosts = ((codes "c") ∷ []) } ∷ []) }

abbrev random_001210_registry : Registry
random_001210_registry = (builtins ++ ([]))

random_001210 : judged random_001210_registry random_001210_inventory random_001210_book ≡ refused (record { code = 1; line = 3; host = (Some (codes "b")) })
random_001210 = refl

-- random_001219:
abbrev random_001219_book : Book
random_001219_book = (record { line = 1; pattern = ((codes "all") ∷ []); gathering = None; vars = (no_parts); is_linear = true; serial = (host_count 2 ∷ []); pre_tasks = (no_steps); tasks = (task_step (record { line = 2; work = (debug_work (part (codes "msg") (literal (text (codes "x"))) (no_parts))); condition = (no_expressions); loop = None; register = (Some (codes "r1")); vars = (no_parts); notify = ((codes "h2") ∷ []); changed_when = None; failed_when = None; attempts = None; ignore_errors = None }) (task_step (record { line = 3; work = (fail_work (part (codes "msg") (literal (text (codes "m"))) (no_parts))); condition = (expression (conjunction (expression (disjunction (expression (negation (defined (variable (codes "r1")) ((codes "changed") ∷ []))) (expression (negation (comparison equal (path (variable (codes "inventory_hostname")) ([])) (literal (text (codes "d"))))) (no_expressions)))) (expression (comparison equal (path (variable (codes "inventory_hostname")) ([])) (literal (text (codes "a")))) (no_expressions)))) (expression (in_batch item_host) (no_expressions))); loop = (Some (path (variable (codes "groups")) ((codes "all") ∷ []))); register = None; vars = (no_parts); notify = ([]); changed_when = None; failed_when = None; attempts = None; ignore_errors = None }) (flush_step 4 (task_step (record { line = 5; work = (debug_work (part (codes "msg") (literal (text (codes "x"))) (no_parts))); condition = (no_expressions); loop = None; register = (Some (codes "r1")); vars = (no_parts); notify = ((codes "h2") ∷ []); changed_when = (Some (expression (comparison equal (path (variable (codes "r1")) ((codes "failed") ∷ [])) (literal (int (pos 1)))) (no_expressions))); failed_when = None; attempts = None; ignore_errors = None }) (no_steps))))); post_tasks = (no_steps); handlers = (record { work = (record { line = 6; work = (set_fact_work (part (codes "s2") (record_of (part (codes "f") (literal (int (pos 1))) (no_parts))) (no_parts))); condition = (no_expressions); loop = None; register = (Some (codes "r2")); vars = (no_parts); notify = ((codes "h1") ∷ []); changed_when = None; failed_when = None; attempts = None; ignore_errors = None }); name = (Some (codes "h0")); topics = ([]) } ∷ record { work = (record { line = 7; work = (module_work (codes "command") (part (codes "cmd") (literal (text (codes "x"))) (no_parts))); condition = (no_expressions); loop = (Some (list_of (no_expressions))); register = None; vars = (part (codes "v1") (path_or (variable (codes "r2")) ((codes "changed") ∷ []) (path (variable (codes "s1")) ([]))) (part (codes "v2") (path (variable (codes "group_names")) ([])) (no_parts))); notify = ((codes "h2") ∷ []); changed_when = (Some (expression (literal (boolean true)) (no_expressions))); failed_when = None; attempts = None; ignore_errors = None }); name = (Some (codes "h1")); topics = ((codes "t") ∷ []) } ∷ record { work = (record { line = 8; work = (set_fact_work (part (codes "s3") (literal (int (pos 1))) (no_parts))); condition = (no_expressions); loop = (Some (list_of (expression (list_of (no_expressions)) (expression (literal (int (pos 3))) (no_expressions))))); register = None; vars = (no_parts); notify = ([]); changed_when = None; failed_when = None; attempts = None; ignore_errors = None }); name = (Some (codes "h2")); topics = ((codes "t") ∷ []) } ∷ []); forces = true } ∷ [])

abbrev random_001219_inventory : Inventory
random_001219_inventory = record { hosts = (record { name = (codes "a"); variables = (field (codes "i1") (rec (field (codes "f") (list (item (int (pos 0)) (item (text (codes "a")) (no_items)))) (no_fields))) (field (codes "op") opaque (field (codes "s1") (rec (field (codes "g") (int (pos 1)) (no_fields))) (no_fields)))) } ∷ record { name = (codes "b"); variables = (field (codes "i1") (rec (field (codes "f") (list (item (int (pos 0)) (item (text (codes "a")) (no_items)))) (no_fields))) (field (codes "op") opaque (field (codes "s1") (rec (field (codes "g") (int (pos 1)) (no_fields))) (no_fields)))) } ∷ record { name = (codes "c"); variables = (field (codes "i1") (list (no_items)) (field (codes "op") opaque (field (codes "s1") (rec (field (codes "g") (int (pos 1)) (no_fields))) (no_fields)))) } ∷ record { name = (codes "d"); variables = (field (codes "i1") (rec (field (codes "f") (list (no_items)) (no_fields))) (field (codes "op") opaque (field (codes "s1") (text (codes "t")) (no_fields)))) } ∷ []); groups = (record { name = (codes "all"); hosts = ((codes "a") ∷ (codes "b") ∷ (codes "c") ∷ (codes "d") ∷ []) } ∷ record { name = (codes "g1"); hosts = ((codes "a") ∷ (codes "b") ∷ []) } ∷ record { name = (codes "g2"); hosts = ((codes "c") ∷ (codes "d") ∷ []) } ∷ record { name = (codes "ungrouped"); hosts = ([]) } ∷ []) }

abbrev random_001219_registry : Registry
random_001219_registry = (builtins ++ (record { name = (codes "probe"); params = (record { name = (codes "n"); kind = ints; required = false } ∷ record { name = (codes "l"); kind = (lists texts 3); required = false } ∷ []); ok = recs (slot (codes "changed") true booleans (slot (codes "deep") false (recs (slot (codes "a") true texts (slot (codes "b") false booleans (no_slots)))) (slot (codes "rows") true (lists texts 2) (slot (codes "v") false ints (no_slots))))); failure = recs (slot (codes "changed") true booleans (slot (codes "msg") true texts (slot (codes "v") false texts (slot (codes "why") true ints (no_slots))))); free = None } ∷ record { name = (codes "odd"); params = ([]); ok = recs (slot (codes "changed") true booleans (slot (codes "msg") false ints (no_slots))); failure = recs (slot (codes "changed") true booleans (slot (codes "msg") true texts (no_slots))); free = None } ∷ []))

random_001219 : judged random_001219_registry random_001219_inventory random_001219_book ≡ accepted 0
random_001219 = refl

-- random_001219_run:
abbrev random_001219_run_book : Book
random_001219_run_book = (record { line = 1; pattern = ((codes "all") ∷ []); gathering = None; vars = (no_parts); is_linear = true; serial = (host_count 2 ∷ []); pre_tasks = (no_steps); tasks = (task_step (record { line = 2; work = (debug_work (part (codes "msg") (literal (text (codes "x"))) (no_parts))); condition = (no_expressions); loop = None; register = (Some (codes "r1")); vars = (no_parts); notify = ((codes "h2") ∷ []); changed_when = None; failed_when = None; attempts = None; ignore_errors = None }) (task_step (record { line = 3; work = (fail_work (part (codes "msg") (literal (text (codes "m"))) (no_parts))); condition = (expression (conjunction (expression (disjunction (expression (negation (defined (variable (codes "r1")) ((codes "changed") ∷ []))) (expression (negation (comparison equal (path (variable (codes "inventory_hostname")) ([])) (literal (text (codes "d"))))) (no_expressions)))) (expression (comparison equal (path (variable (codes "inventory_hostname")) ([])) (literal (text (codes "a")))) (no_expressions)))) (expression (in_batch item_host) (no_expressions))); loop = (Some (path (variable (codes "groups")) ((codes "all") ∷ []))); register = None; vars = (no_parts); notify = ([]); changed_when = None; failed_when = None; attempts = None; ignore_errors = None }) (flush_step 4 (task_step (record { line = 5; work = (debug_work (part (codes "msg") (literal (text (codes "x"))) (no_parts))); condition = (no_expressions); loop = None; register = (Some (codes "r1")); vars = (no_parts); notify = ((codes "h2") ∷ []); changed_when = (Some (expression (comparison equal (path (variable (codes "r1")) ((codes "failed") ∷ [])) (literal (int (pos 1)))) (no_expressions))); failed_when = None; attempts = None; ignore_errors = None }) (no_steps))))); post_tasks = (no_steps); handlers = (record { work = (record { line = 6; work = (set_fact_work (part (codes "s2") (record_of (part (codes "f") (literal (int (pos 1))) (no_parts))) (no_parts))); condition = (no_expressions); loop = None; register = (Some (codes "r2")); vars = (no_parts); notify = ((codes "h1") ∷ []); changed_when = None; failed_when = None; attempts = None; ignore_errors = None }); name = (Some (codes "h0")); topics = ([]) } ∷ record { work = (record { line = 7; work = (module_work (codes "command") (part (codes "cmd") (literal (text (codes "x"))) (no_parts))); condition = (no_expressions); loop = (Some (list_of (no_expressions))); register = None; vars = (part (codes "v1") (path_or (variable (codes "r2")) ((codes "changed") ∷ []) (path (variable (codes "s1")) ([]))) (part (codes "v2") (path (variable (codes "group_names")) ([])) (no_parts))); notify = ((codes "h2") ∷ []); changed_when = (Some (expression (literal (boolean true)) (no_expressions))); failed_when = None; attempts = None; ignore_errors = None }); name = (Some (codes "h1")); topics = ((codes "t") ∷ []) } ∷ record { work = (record { line = 8; work = (set_fact_work (part (codes "s3") (literal (int (pos 1))) (no_parts))); condition = (no_expressions); loop = (Some (list_of (expression (list_of (no_expressions)) (expression (literal (int (pos 3))) (no_expressions))))); register = None; vars = (no_parts); notify = ([]); changed_when = None; failed_when = None; attempts = None; ignore_errors = None }); name = (Some (codes "h2")); topics = ((codes "t") ∷ []) } ∷ []); forces = true } ∷ [])

abbrev random_001219_run_inventory : Inventory
random_001219_run_inventory = record { hosts = (record { name = (codes "a"); variables = (field (codes "i1") (rec (field (codes "f") (list (item (int (pos 0)) (item (text (codes "a")) (no_items)))) (no_fields))) (field (codes "op") opaque (field (codes "s1") (rec (field (codes "g") (int (pos 1)) (no_fields))) (no_fields)))) } ∷ record { name = (codes "b"); variables = (field (codes "i1") (rec (field (codes "f") (list (item (int (pos 0)) (item (text (codes "a")) (no_items)))) (no_fields))) (field (codes "op") opaque (field (codes "s1") (rec (field (codes "g") (int (pos 1)) (no_fields))) (no_fields)))) } ∷ record { name = (codes "c"); variables = (field (codes "i1") (list (no_items)) (field (codes "op") opaque (field (codes "s1") (rec (field (codes "g") (int (pos 1)) (no_fields))) (no_fields)))) } ∷ record { name = (codes "d"); variables = (field (codes "i1") (rec (field (codes "f") (list (no_items)) (no_fields))) (field (codes "op") opaque (field (codes "s1") (text (codes "t")) (no_fields)))) } ∷ []); groups = (record { name = (codes "all"); hosts = ((codes "a") ∷ (codes "b") ∷ (codes "c") ∷ (codes "d") ∷ []) } ∷ record { name = (codes "g1"); hosts = ((codes "a") ∷ (codes "b") ∷ []) } ∷ record { name = (codes "g2"); hosts = ((codes "c") ∷ (codes "d") ∷ []) } ∷ record { name = (codes "ungrouped"); hosts = ([]) } ∷ []) }

abbrev random_001219_run_registry : Registry
random_001219_run_registry = (builtins ++ (record { name = (codes "probe"); params = (record { name = (codes "n"); kind = ints; required = false } ∷ record { name = (codes "l"); kind = (lists texts 3); required = false } ∷ []); ok = recs (slot (codes "changed") true booleans (slot (codes "deep") false (recs (slot (codes "a") true texts (slot (codes "b") false booleans (no_slots)))) (slot (codes "rows") true (lists texts 2) (slot (codes "v") false ints (no_slots))))); failure = recs (slot (codes "changed") true booleans (slot (codes "msg") true texts (slot (codes "v") false texts (slot (codes "why") true ints (no_slots))))); free = None } ∷ record { name = (codes "odd"); params = ([]); ok = recs (slot (codes "changed") true booleans (slot (codes "msg") false ints (no_slots))); failure = recs (slot (codes "changed") true booleans (slot (codes "msg") true texts (no_slots))); free = None } ∷ []))

random_001219_run : recaps_of random_001219_run_registry random_001219_run_inventory random_001219_run_book 1 (([]) ∷ ([]) ∷ ([]) ∷ ([]) ∷ []) ≡ (record { ok = 1; changed = 0; unreachable = 0; failed = 1; skipped = 0; rescued = 0; ignored = 0 } ∷ record { ok = 2; changed = 0; unreachable = 0; failed = 0; skipped = 1; rescued = 0; ignored = 0 } ∷ record { ok = 2; changed = 0; unreachable = 0; failed = 0; skipped = 1; rescued = 0; ignored = 0 } ∷ record { ok = 2; changed = 0; unreachable = 0; failed = 0; skipped = 1; rescued = 0; ignored = 0 } ∷ [])
unfolding digits
random_001219_run = refl

-- random_001226:
abbrev random_001226_book : Book
random_001226_book = (record { line = 1; pattern = ((codes "all") ∷ []); gathering = None; vars = (no_parts); is_linear = true; serial = ([]); pre_tasks = (no_steps); tasks = (block_step (record { line = 2; condition = (no_expressions); vars = (no_parts); ignore_errors = (Some true) }) (no_steps) (block_step (record { line = 3; condition = (no_expressions); vars = (no_parts); ignore_errors = None }) (task_step (record { line = 4; work = (debug_work (part (codes "msg") (path_or (other (named_host (codes "a")) (codes "y")) ((codes "k") ∷ []) (literal (int (pos 1)))) (no_parts))); condition = (expression (disjunction (expression (negation (path_status is_failed (variable (codes "group_names")) ([]))) (expression (negation (path_status is_failed (variable (codes "y")) ((codes "results") ∷ []))) (no_expressions)))) (expression (negation (disjunction (expression (membership (literal (text (codes "a"))) (path (variable (codes "inventory_hostname")) ((codes "rc") ∷ []))) (expression (negation (defined (other (named_host (codes "a")) (codes "inv")) ([]))) (no_expressions))))) (no_expressions))); loop = None; register = None; vars = (no_parts); notify = ((codes "h0") ∷ []); changed_when = None; failed_when = None; attempts = None; ignore_errors = (Some true) }) (task_step (record { line = 5; work = (assert_work (conditions_are (expression (in_batch (named_host (codes "b"))) (no_expressions))) (no_parts)); condition = (no_expressions); loop = (Some (path (variable (codes "groups")) ((codes "g") ∷ []))); register = (Some (codes "r")); vars = (no_parts); notify = ([]); changed_when = None; failed_when = None; attempts = None; ignore_errors = (Some true) }) (no_steps))) (no_steps) (no_steps) (no_steps)) (no_steps) (task_step (record { line = 6; work = (set_fact_work (part (codes "s") (path_or (variable (codes "inv")) ([]) (literal (text (codes "d")))) (no_parts))); condition = (no_expressions); loop = None; register = (Some (codes "r")); vars = (no_parts); notify = ([]); changed_when = None; failed_when = None; attempts = None; ignore_errors = None }) (task_step (record { line = 7; work = (fail_work (part (codes "msg") (literal (text (codes "m"))) (no_parts))); condition = (no_expressions); loop = None; register = None; vars = (part (codes "v1") (path_or (other this_host (codes "inv")) ([]) (path (variable (codes "y")) ((codes "stdout_lines") ∷ []))) (no_parts)); notify = ([]); changed_when = None; failed_when = None; attempts = None; ignore_errors = None }) (task_step (record { line = 8; work = (module_work (codes "command") (part (codes "cmd") (literal (text (codes "x"))) (no_parts))); condition = (no_expressions); loop = None; register = (Some (codes "s")); vars = (no_parts); notify = ([]); changed_when = None; failed_when = (Some (expression (literal (boolean true)) (no_expressions))); attempts = None; ignore_errors = None }) (no_steps))))); post_tasks = (flush_step 9 (task_step (record { line = 10; work = (module_work (codes "command") (part (codes "cmd") (literal (text (codes "x"))) (no_parts))); condition = (no_expressions); loop = None; register = None; vars = (no_parts); notify = ([]); changed_when = None; failed_when = None; attempts = None; ignore_errors = None }) (no_steps))); handlers = (record { work = (record { line = 11; work = (assert_work (conditions_are (expression (in_batch item_host) (expression (path_status is_failed (variable (codes "s")) ((codes "stdout_lines") ∷ [])) (no_expressions)))) (no_parts)); condition = (no_expressions); loop = None; register = None; vars = (no_parts); notify = ([]); changed_when = None; failed_when = None; attempts = None; ignore_errors = None }); name = (Some (codes "h0")); topics = ([]) } ∷ []); forces = true } ∷ [])

abbrev random_001226_inventory : Inventory
random_001226_inventory = record { hosts = (record { name = (codes "c"); variables = (field (codes "inv") (list (item (int (pos 1)) (item (int (pos 2)) (no_items)))) (no_fields)) } ∷ record { name = (codes "b"); variables = (field (codes "inv") (list (item (int (pos 1)) (item (int (pos 2)) (no_items)))) (field (codes "k") (rec (field (codes "z") opaque (no_fields))) (no_fields))) } ∷ record { name = (codes "a"); variables = (field (codes "inv") (list (item (text (codes "x")) (no_items))) (field (codes "opq") opaque (no_fields))) } ∷ []); groups = (record { name = (codes "all"); hosts = ((codes "c") ∷ (codes "b") ∷ (codes "a") ∷ []) } ∷ record { name = (codes "g"); hosts = ((codes "b") ∷ (codes "a") ∷ []) } ∷ record { name = (codes "ungrouped"); hosts = ((codes "c") ∷ []) } ∷ []) }

abbrev random_001226_registry : Registry
random_001226_registry = (builtins ++ ([]))

random_001226 : judged random_001226_registry random_001226_inventory random_001226_book ≡ refused (record { code = 1; line = 11; host = (Some (codes "c")) })
random_001226 = refl

-- random_001229_run:
abbrev random_001229_run_book : Book
random_001229_run_book = (record { line = 1; pattern = ((codes "a") ∷ []); gathering = None; vars = (no_parts); is_linear = true; serial = (percentage 50 ∷ []); pre_tasks = (task_step (record { line = 2; work = (module_work (codes "stat") (part (codes "path") (literal (text (codes "/"))) (no_parts))); condition = (no_expressions); loop = None; register = None; vars = (no_parts); notify = ((codes "t") ∷ []); changed_when = (Some (expression (literal (boolean false)) (no_expressions))); failed_when = None; attempts = None; ignore_errors = None }) (task_step (record { line = 3; work = (module_work (codes "ping") (no_parts)); condition = (no_expressions); loop = (Some (list_of (no_expressions))); register = (Some (codes "r3")); vars = (part (codes "v2") (path (variable (codes "r1")) ([])) (no_parts)); notify = ([]); changed_when = None; failed_when = None; attempts = None; ignore_errors = None }) (task_step (record { line = 4; work = (module_work (codes "command") (part (codes "cmd") (literal (text (codes "x"))) (no_parts))); condition = (no_expressions); loop = None; register = None; vars = (no_parts); notify = ((codes "t") ∷ []); changed_when = None; failed_when = None; attempts = None; ignore_errors = None }) (task_step (record { line = 5; work = (module_work (codes "setup") (no_parts)); condition = (no_expressions); loop = None; register = None; vars = (no_parts); notify = ([]); changed_when = None; failed_when = None; attempts = None; ignore_errors = None }) (no_steps))))); tasks = (block_step (record { line = 6; condition = (expression (comparison equal (path (variable (codes "inventory_hostname")) ([])) (literal (text (codes "a")))) (no_expressions)); vars = (no_parts); ignore_errors = None }) (task_step (record { line = 7; work = (debug_work (part (codes "msg") (literal (text (codes "x"))) (no_parts))); condition = (no_expressions); loop = None; register = None; vars = (no_parts); notify = ([]); changed_when = None; failed_when = None; attempts = None; ignore_errors = None }) (block_step (record { line = 8; condition = (no_expressions); vars = (no_parts); ignore_errors = None }) (task_step (record { line = 9; work = (debug_work (part (codes "msg") (list_of (expression (path (variable (codes "ansible_play_batch")) ([])) (expression (path (variable (codes "ansible_play_batch")) ([])) (no_expressions)))) (no_parts))); condition = (no_expressions); loop = None; register = None; vars = (no_parts); notify = ([]); changed_when = (Some (expression (comparison equal (path (variable (codes "inventory_hostname")) ([])) (literal (text (codes "a")))) (no_expressions))); failed_when = None; attempts = None; ignore_errors = None }) (task_step (record { line = 10; work = (module_work (codes "command") (part (codes "cmd") (literal (text (codes "x"))) (no_parts))); condition = (no_expressions); loop = None; register = (Some (codes "r1")); vars = (no_parts); notify = ((codes "h1") ∷ []); changed_when = (Some (expression (literal (boolean true)) (no_expressions))); failed_when = None; attempts = None; ignore_errors = None }) (task_step (record { line = 11; work = (module_work (codes "command") (part (codes "cmd") (literal (text (codes "x"))) (no_parts))); condition = (no_expressions); loop = None; register = None; vars = (no_parts); notify = ([]); changed_when = None; failed_when = None; attempts = None; ignore_errors = None }) (no_steps)))) (block_step (record { line = 12; condition = (no_expressions); vars = (no_parts); ignore_errors = (Some false) }) (task_step (record { line = 13; work = (set_fact_work (part (codes "s1") (literal (text (codes "b"))) (no_parts))); condition = (no_expressions); loop = None; register = (Some (codes "r2")); vars = (no_parts); notify = ([]); changed_when = None; failed_when = None; attempts = None; ignore_errors = None }) (task_step (record { line = 14; work = (module_work (codes "setup") (no_parts)); condition = (expression (negation (in_batch (named_host (codes "b")))) (no_expressions)); loop = None; register = (Some (codes "r1")); vars = (no_parts); notify = ([]); changed_when = None; failed_when = None; attempts = None; ignore_errors = None }) (task_step (record { line = 15; work = (module_work (codes "command") (part (codes "cmd") (literal (text (codes "x"))) (no_parts))); condition = (no_expressions); loop = None; register = (Some (codes "r1")); vars = (no_parts); notify = ((codes "h2") ∷ []); changed_when = None; failed_when = None; attempts = None; ignore_errors = None }) (no_steps)))) (no_steps) (no_steps) (task_step (record { line = 16; work = (module_work (codes "stat") (part (codes "path") (literal (text (codes "/"))) (no_parts))); condition = (expression (disjunction (expression (negation (defined (variable (codes "r2")) ((codes "failed") ∷ []))) (expression (defined (other (named_host (codes "b")) (codes "r3")) ([])) (no_expressions)))) (no_expressions)); loop = None; register = None; vars = (no_parts); notify = ([]); changed_when = None; failed_when = None; attempts = None; ignore_errors = None }) (task_step (record { line = 17; work = (module_work (codes "ping") (no_parts)); condition = (expression (negation (negation (in_batch (named_host (codes "b"))))) (no_expressions)); loop = None; register = None; vars = (part (codes "v1") (list_of (expression (path (other (named_host (codes "a")) (codes "r2")) ((codes "changed") ∷ [])) (expression (path (other (named_host (codes "a")) (codes "r2")) ((codes "changed") ∷ [])) (no_expressions)))) (part (codes "v2") (path (variable (codes "ansible_play_batch")) ([])) (no_parts))); notify = ((codes "h1") ∷ []); changed_when = None; failed_when = None; attempts = None; ignore_errors = (Some true) }) (no_steps)))) (task_step (record { line = 18; work = (module_work (codes "ping") (no_parts)); condition = (no_expressions); loop = (Some (path_or (variable (codes "r3")) ((codes "results") ∷ []) (list_of (no_expressions)))); register = None; vars = (no_parts); notify = ((codes "h2") ∷ []); changed_when = None; failed_when = None; attempts = None; ignore_errors = None }) (block_step (record { line = 19; condition = (no_expressions); vars = (no_parts); ignore_errors = None }) (task_step (record { line = 20; work = (module_work (codes "probe") (no_parts)); condition = (expression (negation (defined (variable (codes "ansible_os_family")) ([]))) (no_expressions)); loop = None; register = None; vars = (no_parts); notify = ([]); changed_when = None; failed_when = None; attempts = None; ignore_errors = None }) (no_steps)) (task_step (record { line = 21; work = (debug_work (part (codes "msg") (path_or (variable (codes "i2")) ((codes "g") ∷ []) (literal (int (pos 1)))) (no_parts))); condition = (no_expressions); loop = None; register = None; vars = (no_parts); notify = ((codes "h2") ∷ []); changed_when = (Some (expression (literal (boolean true)) (no_expressions))); failed_when = None; attempts = None; ignore_errors = None }) (no_steps)) (no_steps) (task_step (record { line = 22; work = (module_work (codes "ping") (no_parts)); condition = (expression (negation (defined (other item_host (codes "r2")) ([]))) (no_expressions)); loop = (Some (path (variable (codes "ansible_play_batch")) ([]))); register = None; vars = (no_parts); notify = ([]); changed_when = (Some (expression (literal (boolean false)) (no_expressions))); failed_when = None; attempts = None; ignore_errors = None }) (no_steps)))) (no_steps))) (task_step (record { line = 23; work = (module_work (codes "setup") (no_parts)); condition = (expression (negation (comparison equal (path (variable (codes "inventory_hostname")) ([])) (literal (text (codes "b"))))) (no_expressions)); loop = None; register = (Some (codes "r2")); vars = (part (codes "v2") (list_of (expression (path (variable (codes "i1")) ((codes "f") ∷ [])) (expression (path (variable (codes "i1")) ((codes "f") ∷ [])) (no_expressions)))) (part (codes "v3") (path (variable (codes "r1")) ((codes "rc") ∷ [])) (no_parts))); notify = ((codes "t") ∷ []); changed_when = None; failed_when = None; attempts = None; ignore_errors = None }) (task_step (record { line = 24; work = (module_work (codes "ping") (no_parts)); condition = (no_expressions); loop = None; register = None; vars = (part (codes "v2") (concatenation (expression (literal (text (codes "x"))) (expression (path (other (named_host (codes "b")) (codes "s1")) ([])) (no_expressions)))) (no_parts)); notify = ([]); changed_when = None; failed_when = None; attempts = None; ignore_errors = None }) (no_steps))) (task_step (record { line = 25; work = (module_work (codes "ping") (no_parts)); condition = (no_expressions); loop = None; register = None; vars = (no_parts); notify = ([]); changed_when = None; failed_when = None; attempts = None; ignore_errors = None }) (task_step (record { line = 26; work = (module_work (codes "ping") (no_parts)); condition = (no_expressions); loop = None; register = (Some (codes "r3")); vars = (no_parts); notify = ([]); changed_when = None; failed_when = None; attempts = None; ignore_errors = (Some true) }) (task_step (record { line = 27; work = (module_work (codes "command") (part (codes "cmd") (literal (text (codes "x"))) (no_parts))); condition = (no_expressions); loop = None; register = (Some (codes "r1")); vars = (no_parts); notify = ([]); changed_when = None; failed_when = None; attempts = None; ignore_errors = None }) (no_steps)))) (task_step (record { line = 28; work = (set_fact_work (part (codes "s2") (literal (int (pos 0))) (part (codes "s3") (record_of (part (codes "f") (length_of (path (variable (codes "s2")) ((codes "stdout") ∷ []))) (part (codes "rc") (literal (int (pos 1))) (no_parts)))) (no_parts)))); condition = (expression (negation (defined (variable (codes "r1")) ((codes "failed") ∷ []))) (expression (defined (variable (codes "s2")) ((codes "stdout") ∷ [])) (no_expressions))); loop = (Some (path_or (variable (codes "r3")) ((codes "results") ∷ []) (list_of (no_expressions)))); register = None; vars = (no_parts); notify = ([]); changed_when = None; failed_when = None; attempts = None; ignore_errors = None }) (task_step (record { line = 29; work = (module_work (codes "probe") (no_parts)); condition = (no_expressions); loop = None; register = (Some (codes "r1")); vars = (no_parts); notify = ([]); changed_when = None; failed_when = None; attempts = None; ignore_errors = None }) (no_steps)))); post_tasks = (no_steps); handlers = (record { work = (record { line = 30; work = (module_work (codes "command") (part (codes "cmd") (literal (text (codes "x"))) (no_parts))); condition = (no_expressions); loop = None; register = None; vars = (no_parts); notify = ((codes "h2") ∷ []); changed_when = None; failed_when = None; attempts = None; ignore_errors = None }); name = (Some (codes "h0")); topics = ([]) } ∷ record { work = (record { line = 31; work = (module_work (codes "ping") (no_parts)); condition = (no_expressions); loop = None; register = (Some (codes "r3")); vars = (no_parts); notify = ([]); changed_when = None; failed_when = None; attempts = (Some (record { until = (expression (path_status is_failed (variable (codes "r3")) ([])) (no_expressions)); retries = 3 })); ignore_errors = (Some false) }); name = (Some (codes "h1")); topics = ((codes "t") ∷ []) } ∷ record { work = (record { line = 32; work = (debug_work (part (codes "msg") (path (variable (codes "s2")) ((codes "f") ∷ [])) (no_parts))); condition = (expression (path_or (other (named_host (codes "b")) (codes "r2")) ((codes "changed") ∷ []) (literal (boolean false))) (expression (defined (variable (codes "s2")) ([])) (expression (defined (variable (codes "s2")) ((codes "f") ∷ [])) (no_expressions)))); loop = None; register = None; vars = (no_parts); notify = ([]); changed_when = None; failed_when = None; attempts = None; ignore_errors = None }); name = (Some (codes "h2")); topics = ([]) } ∷ []); forces = false } ∷ [])

abbrev random_001229_run_inventory : Inventory
random_001229_run_inventory = record { hosts = (record { name = (codes "a"); variables = (field (codes "i1") (text (codes "no")) (field (codes "i2") (boolean true) (field (codes "op") opaque (field (codes "s1") (rec (field (codes "f") (list (item (text (codes "no")) (item (text (codes "x")) (no_items)))) (no_fields))) (no_fields))))) } ∷ record { name = (codes "b"); variables = (field (codes "i1") (text (codes "no")) (field (codes "i2") (rec (field (codes "g") (list (item (text (codes "x")) (item (boolean false) (no_items)))) (no_fields))) (field (codes "op") opaque (field (codes "s1") (boolean false) (no_fields))))) } ∷ []); groups = (record { name = (codes "all"); hosts = ((codes "a") ∷ (codes "b") ∷ []) } ∷ record { name = (codes "g1"); hosts = ([]) } ∷ record { name = (codes "g2"); hosts = ((codes "a") ∷ (codes "b") ∷ []) } ∷ record { name = (codes "ungrouped"); hosts = ([]) } ∷ []) }

abbrev random_001229_run_registry : Registry
random_001229_run_registry = (builtins ++ (record { name = (codes "probe"); params = (record { name = (codes "n"); kind = ints; required = false } ∷ record { name = (codes "l"); kind = (lists texts 3); required = false } ∷ []); ok = recs (slot (codes "changed") true booleans (slot (codes "deep") false (recs (slot (codes "a") true texts (slot (codes "b") false booleans (no_slots)))) (slot (codes "rows") true (lists texts 2) (slot (codes "v") false ints (no_slots))))); failure = recs (slot (codes "changed") true booleans (slot (codes "msg") true texts (slot (codes "v") false texts (slot (codes "why") true ints (no_slots))))); free = None } ∷ record { name = (codes "odd"); params = ([]); ok = recs (slot (codes "changed") true booleans (slot (codes "msg") false ints (no_slots))); failure = recs (slot (codes "changed") true booleans (slot (codes "msg") true texts (no_slots))); free = None } ∷ []))

random_001229_run : recaps_of random_001229_run_registry random_001229_run_inventory random_001229_run_book 1 ((object (rec (field (codes "failed") (int (pos 1)) (no_fields))) ∷ []) ∷ ([]) ∷ []) ≡ (record { ok = 0; changed = 0; unreachable = 0; failed = 1; skipped = 0; rescued = 0; ignored = 0 } ∷ record { ok = 0; changed = 0; unreachable = 0; failed = 0; skipped = 0; rescued = 0; ignored = 0 } ∷ [])
unfolding digits
random_001229_run = refl

-- random_001231:
abbrev random_001231_book : Book
random_001231_book = (record { line = 1; pattern = ((codes "d") ∷ []); gathering = (Some 2); vars = (no_parts); is_linear = true; serial = (host_count 1 ∷ []); pre_tasks = (no_steps); tasks = (block_step (record { line = 3; condition = (no_expressions); vars = (no_parts); ignore_errors = (Some false) }) (task_step (record { line = 4; work = (module_work (codes "ping") (no_parts)); condition = (no_expressions); loop = None; register = None; vars = (no_parts); notify = ([]); changed_when = None; failed_when = None; attempts = None; ignore_errors = None }) (task_step (record { line = 5; work = (module_work (codes "setup") (no_parts)); condition = (no_expressions); loop = None; register = None; vars = (no_parts); notify = ((codes "t") ∷ []); changed_when = (Some (expression (literal (boolean true)) (no_expressions))); failed_when = None; attempts = None; ignore_errors = None }) (task_step (record { line = 6; work = (module_work (codes "command") (part (codes "cmd") (literal (text (codes "x"))) (no_parts))); condition = (no_expressions); loop = None; register = (Some (codes "r2")); vars = (no_parts); notify = ([]); changed_when = (Some (expression (conjunction (expression (defined (variable (codes "r2")) ((codes "stderr") ∷ [])) (expression (comparison equal (path (variable (codes "r2")) ((codes "stderr") ∷ [])) (literal (text (codes "a")))) (no_expressions)))) (no_expressions))); failed_when = None; attempts = None; ignore_errors = None }) (no_steps)))) (no_steps) (task_step (record { line = 7; work = (module_work (codes "command") (part (codes "cmd") (literal (text (codes "x"))) (no_parts))); condition = (no_expressions); loop = None; register = (Some (codes "r2")); vars = (no_parts); notify = ([]); changed_when = None; failed_when = None; attempts = None; ignore_errors = None }) (no_steps)) (no_steps)); post_tasks = (no_steps); handlers = (record { work = (record { line = 8; work = (module_work (codes "ping") (no_parts)); condition = (no_expressions); loop = None; register = (Some (codes "r1")); vars = (no_parts); notify = ((codes "h1") ∷ []); changed_when = None; failed_when = (Some (expression (literal (boolean true)) (no_expressions))); attempts = None; ignore_errors = (Some true) }); name = (Some (codes "h0")); topics = ((codes "t") ∷ []) } ∷ record { work = (record { line = 9; work = (module_work (codes "probe") (no_parts)); condition = (no_expressions); loop = None; register = (Some (codes "r3")); vars = (no_parts); notify = ([]); changed_when = None; failed_when = None; attempts = None; ignore_errors = None }); name = (Some (codes "h1")); topics = ([]) } ∷ []); forces = false } ∷ record { line = 10; pattern = ((codes "d") ∷ (codes "all") ∷ []); gathering = None; vars = (no_parts); is_linear = true; serial = ([]); pre_tasks = (no_steps); tasks = (block_step (record { line = 11; condition = (no_expressions); vars = (no_parts); ignore_errors = None }) (task_step (record { line = 12; work = (debug_work (part (codes "msg") (literal (text (codes "x"))) (no_parts))); condition = (no_expressions); loop = None; register = None; vars = (no_parts); notify = ([]); changed_when = None; failed_when = None; attempts = None; ignore_errors = None }) (task_step (record { line = 13; work = (module_work (codes "stat") (part (codes "path") (literal (text (codes "/"))) (no_parts))); condition = (no_expressions); loop = None; register = (Some (codes "r3")); vars = (no_parts); notify = ([]); changed_when = None; failed_when = None; attempts = None; ignore_errors = None }) (block_step (record { line = 14; condition = (no_expressions); vars = (no_parts); ignore_errors = None }) (task_step (record { line = 15; work = (module_work (codes "command") (part (codes "cmd") (literal (text (codes "x"))) (no_parts))); condition = (no_expressions); loop = None; register = (Some (codes "r3")); vars = (no_parts); notify = ([]); changed_when = None; failed_when = None; attempts = None; ignore_errors = (Some true) }) (no_steps)) (task_step (record { line = 16; work = (module_work (codes "command") (part (codes "cmd") (concatenation (expression (literal (text (codes "x "))) (expression (path (variable (codes "i1")) ([])) (no_expressions)))) (no_parts))); condition = (no_expressions); loop = None; register = None; vars = (part (codes "v3") (path_or (variable (codes "inventory_hostname")) ([]) (list_of (no_expressions))) (no_parts)); notify = ([]); changed_when = None; failed_when = None; attempts = None; ignore_errors = None }) (task_step (record { line = 17; work = (module_work (codes "odd") (no_parts)); condition = (expression (negation (defined (other (named_host (codes "d")) (codes "i1")) ([]))) (no_expressions)); loop = None; register = (Some (codes "r3")); vars = (no_parts); notify = ([]); changed_when = None; failed_when = None; attempts = None; ignore_errors = (Some false) }) (block_step (record { line = 18; condition = (no_expressions); vars = (no_parts); ignore_errors = None }) (task_step (record { line = 19; work = (module_work (codes "command") (part (codes "cmd") (literal (text (codes "x"))) (no_parts))); condition = (no_expressions); loop = (Some (list_of (expression (literal null) (expression (record_of (part (codes "f") (record_of (part (codes "f") (literal (boolean true)) (part (codes "g") (literal (text (codes "x"))) (no_parts)))) (part (codes "g") (list_of (expression (literal (text (codes "a"))) (no_expressions))) (no_parts)))) (no_expressions))))); register = (Some (codes "r1")); vars = (no_parts); notify = ([]); changed_when = None; failed_when = None; attempts = None; ignore_errors = (Some false) }) (no_steps)) (task_step (record { line = 20; work = (set_fact_work (part (codes "s3") (list_of (expression (path (variable (codes "item")) ((codes "f") ∷ [])) (no_expressions))) (no_parts))); condition = (expression (in_batch item_host) (expression (path_status is_failed (variable (codes "item")) ([])) (no_expressions))); loop = (Some (path (variable (codes "ansible_play_batch")) ([]))); register = (Some (codes "r2")); vars = (part (codes "v3") (literal (boolean true)) (no_parts)); notify = ([]); changed_when = None; failed_when = None; attempts = None; ignore_errors = None }) (no_steps)) (task_step (record { line = 21; work = (module_work (codes "setup") (no_parts)); condition = (no_expressions); loop = None; register = (Some (codes "r1")); vars = (part (codes "v1") (path (variable (codes "r2")) ((codes "failed") ∷ [])) (part (codes "v2") (path (variable (codes "r3")) ((codes "skipped") ∷ [])) (no_parts))); notify = ([]); changed_when = None; failed_when = (Some (expression (path_status is_failed (variable (codes "r1")) ([])) (no_expressions))); attempts = None; ignore_errors = None }) (task_step (record { line = 22; work = (debug_work (part (codes "msg") (path (variable (codes "r1")) ((codes "ansible_facts") ∷ (codes "ansible_os_family") ∷ [])) (no_parts))); condition = (expression (negation (path_status is_skipped (variable (codes "r1")) ([]))) (no_expressions)); loop = None; register = (Some (codes "r3")); vars = (no_parts); notify = ([]); changed_when = None; failed_when = None; attempts = None; ignore_errors = None }) (no_steps))) (no_steps)))) (no_steps) (no_steps)))) (task_step (record { line = 23; work = (module_work (codes "probe") (no_parts)); condition = (no_expressions); loop = None; register = (Some (codes "r3")); vars = (no_parts); notify = ([]); changed_when = None; failed_when = None; attempts = None; ignore_errors = None }) (task_step (record { line = 24; work = (debug_work (part (codes "msg") (path (variable (codes "s2")) ([])) (no_parts))); condition = (expression (negation (path_status is_failed (variable (codes "r1")) ([]))) (expression (defined (variable (codes "s2")) ([])) (no_expressions))); loop = None; register = (Some (codes "r3")); vars = (no_parts); notify = ([]); changed_when = None; failed_when = (Some (expression (literal (boolean true)) (no_expressions))); attempts = None; ignore_errors = None }) (no_steps))) (task_step (record { line = 25; work = (debug_work (part (codes "msg") (path (variable (codes "r2")) ((codes "failed") ∷ [])) (no_parts))); condition = (expression (defined (variable (codes "r2")) ((codes "failed") ∷ [])) (no_expressions)); loop = None; register = None; vars = (no_parts); notify = ([]); changed_when = None; failed_when = None; attempts = None; ignore_errors = None }) (task_step (record { line = 26; work = (module_work (codes "odd") (no_parts)); condition = (expression (path_status is_failed (variable (codes "r3")) ([])) (no_expressions)); loop = None; register = None; vars = (no_parts); notify = ([]); changed_when = None; failed_when = None; attempts = None; ignore_errors = (Some false) }) (task_step (record { line = 27; work = (module_work (codes "ping") (no_parts)); condition = (no_expressions); loop = (Some (path (variable (codes "groups")) ((codes "all") ∷ []))); register = (Some (codes "r2")); vars = (no_parts); notify = ([]); changed_when = None; failed_when = (Some (expression (path_status is_failed (variable (codes "r2")) ([])) (no_expressions))); attempts = None; ignore_errors = (Some true) }) (no_steps)))) (task_step (record { line = 28; work = (debug_work (part (codes "msg") (concatenation (expression (literal (text (codes "x"))) (expression (path_or (variable (codes "r2")) ((codes "skip_reason") ∷ []) (literal (int (pos 1)))) (no_expressions)))) (no_parts))); condition = (no_expressions); loop = None; register = None; vars = (no_parts); notify = ([]); changed_when = None; failed_when = None; attempts = None; ignore_errors = None }) (no_steps))); post_tasks = (no_steps); handlers = ([]); forces = true } ∷ record { line = 29; pattern = ((codes "c") ∷ []); gathering = (Some 30); vars = (no_parts); is_linear = true; serial = ([]); pre_tasks = (no_steps); tasks = (task_step (record { line = 31; work = (debug_work (part (codes "msg") (path (variable (codes "r3")) ((codes "changed") ∷ [])) (no_parts))); condition = (expression (defined (variable (codes "r3")) ((codes "changed") ∷ [])) (no_expressions)); loop = None; register = None; vars = (no_parts); notify = ([]); changed_when = None; failed_when = None; attempts = None; ignore_errors = None }) (task_step (record { line = 32; work = (fail_work (part (codes "msg") (literal (text (codes "m"))) (no_parts))); condition = (no_expressions); loop = None; register = None; vars = (no_parts); notify = ([]); changed_when = None; failed_when = None; attempts = None; ignore_errors = None }) (block_step (record { line = 33; condition = (no_expressions); vars = (no_parts); ignore_errors = None }) (no_steps) (task_step (record { line = 34; work = (set_fact_work (part (codes "s1") (literal (text (codes "t"))) (no_parts))); condition = (no_expressions); loop = None; register = None; vars = (no_parts); notify = ([]); changed_when = (Some (expression (comparison equal (path (variable (codes "inventory_hostname")) ([])) (literal (text (codes "a")))) (no_expressions))); failed_when = None; attempts = None; ignore_errors = None }) (no_steps)) (no_steps) (no_steps)))); post_tasks = (task_step (record { line = 35; work = (debug_work (part (codes "msg") (length_of (path (variable (codes "s3")) ((codes "stdout") ∷ []))) (no_parts))); condition = (expression (defined (variable (codes "s3")) ([])) (expression (negation (path_status is_failed (variable (codes "s3")) ([]))) (no_expressions))); loop = None; register = (Some (codes "r2")); vars = (no_parts); notify = ([]); changed_when = (Some (expression (conjunction (expression (defined (variable (codes "r2")) ((codes "failed") ∷ [])) (expression (comparison equal (path (variable (codes "r2")) ((codes "failed") ∷ [])) (literal (text (codes "a")))) (no_expressions)))) (no_expressions))); failed_when = None; attempts = None; ignore_errors = None }) (task_step (record { line = 36; work = (module_work (codes "ping") (no_parts)); condition = (no_expressions); loop = None; register = (Some (codes "r3")); vars = (no_parts); notify = ([]); changed_when = (Some (expression (conjunction (expression (defined (variable (codes "r3")) ((codes "failed") ∷ [])) (expression (comparison equal (path (variable (codes "r3")) ((codes "failed") ∷ [])) (literal (text (codes "a")))) (no_expressions)))) (no_expressions))); failed_when = None; attempts = None; ignore_errors = None }) (no_steps))); handlers = ([]); forces = false } ∷ [])

abbrev random_001231_inventory : Inventory
random_001231_inventory = record { hosts = (record { name = (codes "a"); variables = (field (codes "i1") (rec (no_fields)) (field (codes "i2") (text (codes "x")) (field (codes "op") opaque (field (codes "s1") (text (codes "b")) (no_fields))))) } ∷ record { name = (codes "b"); variables = (field (codes "op") opaque (no_fields)) } ∷ record { name = (codes "c"); variables = (field (codes "i1") (list (no_items)) (field (codes "op") opaque (field (codes "s1") (int (pos 0)) (no_fields)))) } ∷ record { name = (codes "d"); variables = (field (codes "i1") (list (item (text (codes "b")) (item (text (codes "t")) (no_items)))) (field (codes "i2") (boolean true) (no_fields))) } ∷ []); groups = (record { name = (codes "all"); hosts = ((codes "a") ∷ (codes "b") ∷ (codes "c") ∷ (codes "d") ∷ []) } ∷ record { name = (codes "g1"); hosts = ((codes "a") ∷ (codes "c") ∷ []) } ∷ record { name = (codes "g2"); hosts = ((codes "a") ∷ (codes "c") ∷ []) } ∷ record { name = (codes "ungrouped"); hosts = ((codes "b") ∷ (codes "d") ∷ []) } ∷ []) }

abbrev random_001231_registry : Registry
random_001231_registry = (builtins ++ (record { name = (codes "probe"); params = (record { name = (codes "n"); kind = ints; required = false } ∷ record { name = (codes "l"); kind = (lists texts 3); required = false } ∷ []); ok = recs (slot (codes "changed") true booleans (slot (codes "deep") false (recs (slot (codes "a") true texts (slot (codes "b") false booleans (no_slots)))) (slot (codes "rows") true (lists texts 2) (slot (codes "v") false ints (no_slots))))); failure = recs (slot (codes "changed") true booleans (slot (codes "msg") true texts (slot (codes "v") false texts (slot (codes "why") true ints (no_slots))))); free = None } ∷ record { name = (codes "odd"); params = ([]); ok = recs (slot (codes "changed") true booleans (slot (codes "msg") false ints (no_slots))); failure = recs (slot (codes "changed") true booleans (slot (codes "msg") true texts (no_slots))); free = None } ∷ []))

random_001231 : judged random_001231_registry random_001231_inventory random_001231_book ≡ refused (record { code = 1; line = 24; host = (Some (codes "a")) })
random_001231 = refl
