-- Cases of random, computed.
use Rattle.std.specs.Prelude.{◌≡◌, refl, pos, negsuc, [], ◌∷◌, ◌++◌, true, false, Some, None, codes}
use Rattle.std.specs.Fmt.{digits}
use Rattle.pb_semantics.specs.Data.{boolean, int, text, list, rec, opaque, no_items, item, no_fields, field}
use Rattle.pb_semantics.specs.Kind.{booleans, ints, texts, lists, recs, no_slots, slot}
use Rattle.pb_language.specs.Expression.{equal, is_failed, is_changed, is_skipped, named_host, this_host, item_host, group_member, literal, path, negation, conjunction, disjunction, comparison, membership, in_batch, defined, path_status, path_or, length_of, concatenation, list_of, record_of, variable, other, no_expressions, expression, no_parts, part}
use Rattle.pb_language.specs.Book.{conditions_are, module_work, debug_work, set_fact_work, assert_work, fail_work, no_steps, task_step, block_step, flush_step, host_count, Book, Registry}
use Rattle.pb_language.specs.Builtins.{builtins}
use Rattle.pb_language.specs.Give.{object}
use Rattle.pb_language.specs.Judged.{judged}
use Rattle.pb_language.specs.Program.{Inventory}
use Rattle.pb_language.specs.Verdict.{accepted, refused}
use Rattle.pb_rows.specs.Recaps.{recaps_of}

-- random_001245:
abbrev random_001245_book : Book
random_001245_book = (record { line = 1; pattern = ((codes "b") ∷ []); gathering = (Some 2); vars = (no_parts); is_linear = true; serial = ([]); pre_tasks = (task_step (record { line = 3; work = (fail_work (no_parts)); condition = (no_expressions); loop = None; register = None; vars = (no_parts); notify = ((codes "h2") ∷ []); changed_when = None; failed_when = None; attempts = None; ignore_errors = None }) (task_step (record { line = 4; work = (module_work (codes "ping") (no_parts)); condition = (expression (in_batch item_host) (no_expressions)); loop = (Some (path (variable (codes "ansible_play_batch")) ([]))); register = None; vars = (no_parts); notify = ([]); changed_when = None; failed_when = None; attempts = None; ignore_errors = None }) (flush_step 5 (no_steps)))); tasks = (task_step (record { line = 6; work = (set_fact_work (part (codes "s1") (literal (int (pos 1))) (no_parts))); condition = (no_expressions); loop = None; register = (Some (codes "r1")); vars = (part (codes "v2") (path (variable (codes "r2")) ((codes "failed") ∷ [])) (no_parts)); notify = ([]); changed_when = None; failed_when = None; attempts = None; ignore_errors = None }) (flush_step 7 (no_steps))); post_tasks = (no_steps); handlers = (record { work = (record { line = 8; work = (set_fact_work (part (codes "s2") (comparison equal (path (other (named_host (codes "b")) (codes "op")) ([])) (path (variable (codes "i2")) ((codes "rc") ∷ []))) (part (codes "s3") (literal (text (codes "a"))) (no_parts)))); condition = (no_expressions); loop = None; register = (Some (codes "r3")); vars = (no_parts); notify = ((codes "h1") ∷ []); changed_when = None; failed_when = None; attempts = None; ignore_errors = None }); name = (Some (codes "h0")); topics = ([]) } ∷ record { work = (record { line = 9; work = (module_work (codes "ping") (no_parts)); condition = (expression (path_status is_skipped (variable (codes "r3")) ([])) (no_expressions)); loop = None; register = (Some (codes "r3")); vars = (no_parts); notify = ((codes "h2") ∷ []); changed_when = None; failed_when = None; attempts = None; ignore_errors = None }); name = (Some (codes "h1")); topics = ((codes "t") ∷ []) } ∷ record { work = (record { line = 10; work = (module_work (codes "odd") (no_parts)); condition = (no_expressions); loop = None; register = (Some (codes "r3")); vars = (no_parts); notify = ([]); changed_when = None; failed_when = None; attempts = None; ignore_errors = None }); name = (Some (codes "h2")); topics = ([]) } ∷ []); forces = false } ∷ record { line = 11; pattern = ((codes "all") ∷ []); gathering = None; vars = (no_parts); is_linear = true; serial = ([]); pre_tasks = (no_steps); tasks = (task_step (record { line = 12; work = (fail_work (no_parts)); condition = (no_expressions); loop = None; register = None; vars = (no_parts); notify = ([]); changed_when = None; failed_when = (Some (expression (literal (boolean true)) (no_expressions))); attempts = None; ignore_errors = None }) (task_step (record { line = 13; work = (module_work (codes "setup") (no_parts)); condition = (no_expressions); loop = None; register = None; vars = (no_parts); notify = ([]); changed_when = (Some (expression (literal (boolean true)) (no_expressions))); failed_when = None; attempts = None; ignore_errors = None }) (no_steps))); post_tasks = (no_steps); handlers = ([]); forces = false } ∷ record { line = 14; pattern = ((codes "all") ∷ []); gathering = None; vars = (no_parts); is_linear = true; serial = (host_count 2 ∷ []); pre_tasks = (no_steps); tasks = (task_step (record { line = 15; work = (module_work (codes "command") (part (codes "cmd") (literal (text (codes "x"))) (no_parts))); condition = (expression (in_batch item_host) (no_expressions)); loop = (Some (path (variable (codes "groups")) ((codes "all") ∷ []))); register = (Some (codes "r2")); vars = (no_parts); notify = ([]); changed_when = None; failed_when = None; attempts = None; ignore_errors = (Some true) }) (task_step (record { line = 16; work = (module_work (codes "setup") (no_parts)); condition = (no_expressions); loop = None; register = (Some (codes "r3")); vars = (no_parts); notify = ([]); changed_when = None; failed_when = None; attempts = None; ignore_errors = None }) (task_step (record { line = 17; work = (module_work (codes "command") (part (codes "cmd") (literal (text (codes "x"))) (no_parts))); condition = (expression (in_batch item_host) (no_expressions)); loop = (Some (path (variable (codes "groups")) ((codes "all") ∷ []))); register = (Some (codes "r2")); vars = (no_parts); notify = ([]); changed_when = None; failed_when = None; attempts = None; ignore_errors = None }) (no_steps)))); post_tasks = (no_steps); handlers = (record { work = (record { line = 18; work = (module_work (codes "ping") (no_parts)); condition = (no_expressions); loop = (Some (path_or (variable (codes "r1")) ((codes "results") ∷ []) (list_of (no_expressions)))); register = (Some (codes "r2")); vars = (no_parts); notify = ([]); changed_when = None; failed_when = None; attempts = None; ignore_errors = None }); name = (Some (codes "h0")); topics = ((codes "t") ∷ []) } ∷ record { work = (record { line = 19; work = (module_work (codes "command") (part (codes "cmd") (concatenation (expression (literal (text (codes "x "))) (expression (length_of (path (variable (codes "r2")) ((codes "failed") ∷ []))) (no_expressions)))) (no_parts))); condition = (no_expressions); loop = None; register = (Some (codes "r1")); vars = (no_parts); notify = ([]); changed_when = None; failed_when = None; attempts = None; ignore_errors = None }); name = (Some (codes "h1")); topics = ([]) } ∷ []); forces = false } ∷ [])

abbrev random_001245_inventory : Inventory
random_001245_inventory = record { hosts = (record { name = (codes "a"); variables = (field (codes "i1") (text ([])) (field (codes "i2") (list (item (int (pos 1)) (item (boolean true) (no_items)))) (field (codes "op") opaque (no_fields)))) } ∷ record { name = (codes "b"); variables = (field (codes "i1") (text (codes "t")) (field (codes "i2") (list (item (int (pos 1)) (item (boolean true) (no_items)))) (field (codes "op") opaque (no_fields)))) } ∷ []); groups = (record { name = (codes "all"); hosts = ((codes "a") ∷ (codes "b") ∷ []) } ∷ record { name = (codes "g1"); hosts = ((codes "b") ∷ (codes "a") ∷ []) } ∷ record { name = (codes "g2"); hosts = ((codes "a") ∷ (codes "b") ∷ []) } ∷ record { name = (codes "ungrouped"); hosts = ([]) } ∷ []) }

abbrev random_001245_registry : Registry
random_001245_registry = (builtins ++ (record { name = (codes "probe"); params = (record { name = (codes "n"); kind = ints; required = false } ∷ record { name = (codes "l"); kind = (lists texts 3); required = false } ∷ []); ok = recs (slot (codes "changed") true booleans (slot (codes "deep") false (recs (slot (codes "a") true texts (slot (codes "b") false booleans (no_slots)))) (slot (codes "rows") true (lists texts 2) (slot (codes "v") false ints (no_slots))))); failure = recs (slot (codes "changed") true booleans (slot (codes "msg") true texts (slot (codes "v") false texts (slot (codes "why") true ints (no_slots))))); free = None } ∷ record { name = (codes "odd"); params = ([]); ok = recs (slot (codes "changed") true booleans (slot (codes "msg") false ints (no_slots))); failure = recs (slot (codes "changed") true booleans (slot (codes "msg") true texts (no_slots))); free = None } ∷ []))

random_001245 : judged random_001245_registry random_001245_inventory random_001245_book ≡ refused (record { code = 4; line = 19; host = (Some (codes "a")) })
random_001245 = refl

-- random_001249_run:
abbrev random_001249_run_book : Book
random_001249_run_book = (record { line = 1; pattern = ((codes "a") ∷ []); gathering = None; vars = (no_parts); is_linear = true; serial = ([]); pre_tasks = (no_steps); tasks = (block_step (record { line = 2; condition = (no_expressions); vars = (no_parts); ignore_errors = None }) (task_step (record { line = 3; work = (module_work (codes "probe") (no_parts)); condition = (no_expressions); loop = None; register = (Some (codes "r1")); vars = (no_parts); notify = ((codes "h1") ∷ []); changed_when = None; failed_when = None; attempts = (Some (record { until = (expression (comparison equal (path (variable (codes "r1")) ((codes "changed") ∷ [])) (literal (text (codes "a")))) (no_expressions)); retries = 1 })); ignore_errors = None }) (no_steps)) (no_steps) (block_step (record { line = 4; condition = (no_expressions); vars = (part (codes "v1") (literal (boolean true)) (no_parts)); ignore_errors = None }) (task_step (record { line = 5; work = (fail_work (no_parts)); condition = (no_expressions); loop = (Some (list_of (expression (literal (text (codes "no"))) (expression (record_of (part (codes "g") (literal (text ([]))) (no_parts))) (expression (literal (text (codes "b"))) (no_expressions)))))); register = None; vars = (no_parts); notify = ([]); changed_when = (Some (expression (comparison equal (path (variable (codes "inventory_hostname")) ([])) (literal (text (codes "a")))) (no_expressions))); failed_when = (Some (expression (literal (boolean true)) (no_expressions))); attempts = None; ignore_errors = None }) (no_steps)) (no_steps) (no_steps) (task_step (record { line = 6; work = (debug_work (part (codes "msg") (path (other (named_host (codes "a")) (codes "i2")) ([])) (no_parts))); condition = (expression (defined (other (named_host (codes "a")) (codes "i2")) ([])) (no_expressions)); loop = None; register = (Some (codes "r2")); vars = (no_parts); notify = ([]); changed_when = None; failed_when = None; attempts = None; ignore_errors = None }) (no_steps))) (no_steps)); post_tasks = (block_step (record { line = 7; condition = (no_expressions); vars = (no_parts); ignore_errors = None }) (task_step (record { line = 8; work = (set_fact_work (part (codes "s2") (list_of (expression (literal (int (pos 2))) (no_expressions))) (part (codes "s3") (literal (int (pos 1))) (no_parts)))); condition = (no_expressions); loop = None; register = None; vars = (no_parts); notify = ([]); changed_when = None; failed_when = None; attempts = None; ignore_errors = None }) (task_step (record { line = 9; work = (module_work (codes "stat") (part (codes "path") (literal (text (codes "/"))) (no_parts))); condition = (no_expressions); loop = (Some (path_or (variable (codes "r3")) ((codes "stdout_lines") ∷ []) (list_of (no_expressions)))); register = (Some (codes "r2")); vars = (part (codes "v1") (path (other (named_host (codes "a")) (codes "r3")) ((codes "changed") ∷ [])) (part (codes "v2") (comparison equal (path (variable (codes "item")) ((codes "rc") ∷ [])) (path (variable (codes "s1")) ((codes "rc") ∷ []))) (part (codes "v3") (concatenation (expression (literal (text (codes "x"))) (expression (length_of (path (variable (codes "groups")) ((codes "all") ∷ []))) (no_expressions)))) (no_parts)))); notify = ((codes "t") ∷ []); changed_when = None; failed_when = None; attempts = None; ignore_errors = None }) (no_steps))) (task_step (record { line = 10; work = (module_work (codes "command") (part (codes "cmd") (literal (text (codes "x"))) (no_parts))); condition = (no_expressions); loop = None; register = None; vars = (part (codes "v1") (path (variable (codes "r2")) ((codes "msg") ∷ [])) (no_parts)); notify = ((codes "t") ∷ []); changed_when = None; failed_when = None; attempts = None; ignore_errors = None }) (no_steps)) (no_steps) (no_steps)); handlers = (record { work = (record { line = 11; work = (set_fact_work (part (codes "s2") (record_of (part (codes "f") (literal (text ([]))) (part (codes "g") (literal (int (pos 0))) (no_parts)))) (no_parts))); condition = (no_expressions); loop = (Some (path_or (variable (codes "r1")) ((codes "results") ∷ []) (list_of (no_expressions)))); register = None; vars = (part (codes "v1") (path_or (variable (codes "r3")) ((codes "failed") ∷ []) (path (variable (codes "s1")) ([]))) (part (codes "v3") (path (variable (codes "r3")) ((codes "failed") ∷ [])) (no_parts))); notify = ([]); changed_when = None; failed_when = None; attempts = None; ignore_errors = None }); name = (Some (codes "h0")); topics = ([]) } ∷ record { work = (record { line = 12; work = (module_work (codes "setup") (no_parts)); condition = (no_expressions); loop = None; register = None; vars = (no_parts); notify = ([]); changed_when = None; failed_when = (Some (expression (literal (boolean false)) (no_expressions))); attempts = None; ignore_errors = None }); name = (Some (codes "h1")); topics = ((codes "t") ∷ []) } ∷ []); forces = false } ∷ [])

abbrev random_001249_run_inventory : Inventory
random_001249_run_inventory = record { hosts = (record { name = (codes "a"); variables = (field (codes "i2") (text (codes "x")) (field (codes "s1") (list (item (text ([])) (no_items))) (no_fields))) } ∷ record { name = (codes "b"); variables = (field (codes "i2") (text (codes "x")) (field (codes "s1") (boolean true) (no_fields))) } ∷ []); groups = (record { name = (codes "all"); hosts = ((codes "a") ∷ (codes "b") ∷ []) } ∷ record { name = (codes "g1"); hosts = ((codes "a") ∷ (codes "b") ∷ []) } ∷ record { name = (codes "g2"); hosts = ([]) } ∷ record { name = (codes "ungrouped"); hosts = ([]) } ∷ []) }

abbrev random_001249_run_registry : Registry
random_001249_run_registry = (builtins ++ (record { name = (codes "probe"); params = (record { name = (codes "n"); kind = ints; required = false } ∷ record { name = (codes "l"); kind = (lists texts 3); required = false } ∷ []); ok = recs (slot (codes "changed") true booleans (slot (codes "deep") false (recs (slot (codes "a") true texts (slot (codes "b") false booleans (no_slots)))) (slot (codes "rows") true (lists texts 2) (slot (codes "v") false ints (no_slots))))); failure = recs (slot (codes "changed") true booleans (slot (codes "msg") true texts (slot (codes "v") false texts (slot (codes "why") true ints (no_slots))))); free = None } ∷ record { name = (codes "odd"); params = ([]); ok = recs (slot (codes "changed") true booleans (slot (codes "msg") false ints (no_slots))); failure = recs (slot (codes "changed") true booleans (slot (codes "msg") true texts (no_slots))); free = None } ∷ []))

random_001249_run : recaps_of random_001249_run_registry random_001249_run_inventory random_001249_run_book 1 ((object (rec (field (codes "changed") (boolean true) (field (codes "rows") (list (no_items)) (no_fields)))) ∷ object (rec (field (codes "changed") (boolean false) (field (codes "failed") (boolean true) (field (codes "msg") (text (codes "x")) (field (codes "v") (text (123 ∷ 123 ∷ 32 ∷ 120 ∷ 32 ∷ 125 ∷ 125 ∷ [])) (field (codes "why") (int (pos 2)) (no_fields))))))) ∷ []) ∷ ([]) ∷ []) ≡ (record { ok = 0; changed = 0; unreachable = 0; failed = 2; skipped = 0; rescued = 0; ignored = 0 } ∷ record { ok = 0; changed = 0; unreachable = 0; failed = 0; skipped = 0; rescued = 0; ignored = 0 } ∷ [])
unfolding digits
random_001249_run = refl

-- random_001251_run:
abbrev random_001251_run_book : Book
random_001251_run_book = (record { line = 1; pattern = ((codes "a") ∷ (codes "all") ∷ []); gathering = None; vars = (no_parts); is_linear = true; serial = (host_count 1 ∷ host_count 2 ∷ []); pre_tasks = (no_steps); tasks = (block_step (record { line = 2; condition = (no_expressions); vars = (part (codes "v1") (literal (int (pos 1))) (no_parts)); ignore_errors = None }) (task_step (record { line = 3; work = (module_work (codes "ping") (no_parts)); condition = (no_expressions); loop = None; register = (Some (codes "r3")); vars = (no_parts); notify = ([]); changed_when = None; failed_when = None; attempts = None; ignore_errors = None }) (task_step (record { line = 4; work = (module_work (codes "command") (part (codes "cmd") (literal (text (codes "x"))) (no_parts))); condition = (expression (disjunction (expression (path_status is_failed (variable (codes "r3")) ([])) (expression (negation (defined (variable (codes "r2")) ([]))) (no_expressions)))) (no_expressions)); loop = None; register = (Some (codes "r3")); vars = (no_parts); notify = ([]); changed_when = (Some (expression (conjunction (expression (defined (variable (codes "r3")) ((codes "stdout") ∷ [])) (expression (comparison equal (path (variable (codes "r3")) ((codes "stdout") ∷ [])) (literal (text (codes "a")))) (no_expressions)))) (no_expressions))); failed_when = (Some (expression (comparison equal (path (variable (codes "inventory_hostname")) ([])) (literal (text (codes "a")))) (no_expressions))); attempts = None; ignore_errors = None }) (no_steps))) (no_steps) (block_step (record { line = 5; condition = (no_expressions); vars = (no_parts); ignore_errors = None }) (block_step (record { line = 6; condition = (no_expressions); vars = (no_parts); ignore_errors = None }) (task_step (record { line = 7; work = (module_work (codes "setup") (no_parts)); condition = (no_expressions); loop = None; register = (Some (codes "r3")); vars = (no_parts); notify = ((codes "h2") ∷ []); changed_when = (Some (expression (literal (boolean true)) (no_expressions))); failed_when = None; attempts = None; ignore_errors = None }) (task_step (record { line = 8; work = (module_work (codes "command") (part (codes "cmd") (literal (text (codes "x"))) (no_parts))); condition = (no_expressions); loop = None; register = (Some (codes "r3")); vars = (no_parts); notify = ((codes "h1") ∷ []); changed_when = (Some (expression (literal (boolean true)) (no_expressions))); failed_when = None; attempts = None; ignore_errors = None }) (no_steps))) (task_step (record { line = 9; work = (module_work (codes "ping") (no_parts)); condition = (no_expressions); loop = None; register = None; vars = (part (codes "v1") (path (other (named_host (codes "a")) (codes "s1")) ([])) (no_parts)); notify = ([]); changed_when = None; failed_when = None; attempts = None; ignore_errors = (Some false) }) (task_step (record { line = 10; work = (debug_work (part (codes "msg") (literal (text (codes "x"))) (no_parts))); condition = (no_expressions); loop = None; register = (Some (codes "r3")); vars = (no_parts); notify = ([]); changed_when = None; failed_when = None; attempts = None; ignore_errors = None }) (no_steps))) (task_step (record { line = 11; work = (fail_work (part (codes "msg") (literal (text (codes "m"))) (no_parts))); condition = (no_expressions); loop = None; register = None; vars = (no_parts); notify = ([]); changed_when = (Some (expression (literal (boolean true)) (no_expressions))); failed_when = None; attempts = None; ignore_errors = None }) (no_steps)) (no_steps)) (no_steps) (no_steps) (task_step (record { line = 12; work = (debug_work (part (codes "msg") (path_or (variable (codes "r2")) ([]) (list_of (no_expressions))) (no_parts))); condition = (no_expressions); loop = (Some (path (variable (codes "s3")) ((codes "g") ∷ []))); register = None; vars = (part (codes "v2") (path_or (variable (codes "r3")) ((codes "failed") ∷ []) (literal (text (codes "z")))) (no_parts)); notify = ([]); changed_when = None; failed_when = None; attempts = None; ignore_errors = None }) (task_step (record { line = 13; work = (module_work (codes "command") (part (codes "cmd") (concatenation (expression (literal (text (codes "x "))) (expression (path (variable (codes "r3")) ((codes "changed") ∷ [])) (no_expressions)))) (no_parts))); condition = (expression (comparison equal (path (variable (codes "inventory_hostname")) ([])) (literal (text (codes "a")))) (expression (defined (variable (codes "r3")) ((codes "changed") ∷ [])) (no_expressions))); loop = None; register = (Some (codes "r1")); vars = (no_parts); notify = ([]); changed_when = None; failed_when = None; attempts = None; ignore_errors = (Some false) }) (no_steps)))) (block_step (record { line = 14; condition = (no_expressions); vars = (no_parts); ignore_errors = None }) (task_step (record { line = 15; work = (module_work (codes "command") (part (codes "cmd") (literal (text (codes "x"))) (no_parts))); condition = (expression (in_batch item_host) (no_expressions)); loop = (Some (path (variable (codes "ansible_play_batch")) ([]))); register = None; vars = (no_parts); notify = ((codes "t") ∷ []); changed_when = None; failed_when = None; attempts = None; ignore_errors = None }) (task_step (record { line = 16; work = (module_work (codes "stat") (part (codes "path") (literal (text (codes "/"))) (no_parts))); condition = (expression (comparison equal (path (variable (codes "inventory_hostname")) ([])) (literal (text (codes "a")))) (no_expressions)); loop = (Some (path_or (variable (codes "r3")) ((codes "stdout_lines") ∷ []) (list_of (no_expressions)))); register = None; vars = (no_parts); notify = ([]); changed_when = None; failed_when = None; attempts = None; ignore_errors = None }) (task_step (record { line = 17; work = (module_work (codes "stat") (part (codes "path") (literal (text (codes "/"))) (no_parts))); condition = (no_expressions); loop = None; register = (Some (codes "r3")); vars = (part (codes "v2") (path (variable (codes "s1")) ([])) (part (codes "v3") (comparison equal (path (other (named_host (codes "a")) (codes "i1")) ([])) (path (variable (codes "i2")) ((codes "stdout") ∷ []))) (no_parts))); notify = ([]); changed_when = None; failed_when = None; attempts = None; ignore_errors = None }) (no_steps)))) (task_step (record { line = 18; work = (module_work (codes "probe") (part (codes "n") (path (variable (codes "r2")) ((codes "changed") ∷ [])) (no_parts))); condition = (expression (negation (comparison equal (path (variable (codes "inventory_hostname")) ([])) (literal (text (codes "a"))))) (expression (negation (path_status is_failed (variable (codes "r2")) ([]))) (no_expressions))); loop = None; register = (Some (codes "r2")); vars = (no_parts); notify = ((codes "h0") ∷ []); changed_when = (Some (expression (literal (boolean true)) (no_expressions))); failed_when = None; attempts = (Some (record { until = (expression (path_status is_failed (variable (codes "r2")) ([])) (no_expressions)); retries = 2 })); ignore_errors = None }) (task_step (record { line = 19; work = (debug_work (part (codes "msg") (path (variable (codes "r1")) ((codes "results") ∷ [])) (no_parts))); condition = (expression (path_status is_failed (variable (codes "r1")) ([])) (no_expressions)); loop = (Some (list_of (no_expressions))); register = None; vars = (no_parts); notify = ((codes "h2") ∷ []); changed_when = None; failed_when = None; attempts = None; ignore_errors = None }) (no_steps))) (task_step (record { line = 20; work = (fail_work (part (codes "msg") (literal (text (codes "m"))) (no_parts))); condition = (no_expressions); loop = None; register = None; vars = (no_parts); notify = ([]); changed_when = None; failed_when = None; attempts = None; ignore_errors = None }) (task_step (record { line = 21; work = (set_fact_work (part (codes "s1") (path (other (named_host (codes "a")) (codes "s3")) ([])) (no_parts))); condition = (expression (in_batch (named_host (codes "a"))) (no_expressions)); loop = None; register = None; vars = (no_parts); notify = ((codes "h2") ∷ []); changed_when = (Some (expression (literal (boolean true)) (no_expressions))); failed_when = None; attempts = None; ignore_errors = (Some true) }) (no_steps))) (block_step (record { line = 22; condition = (no_expressions); vars = (no_parts); ignore_errors = (Some false) }) (task_step (record { line = 23; work = (assert_work (conditions_are (expression (negation (comparison equal (path (variable (codes "inventory_hostname")) ([])) (literal (text (codes "a"))))) (no_expressions))) (no_parts)); condition = (no_expressions); loop = None; register = (Some (codes "r2")); vars = (no_parts); notify = ([]); changed_when = None; failed_when = None; attempts = None; ignore_errors = (Some true) }) (task_step (record { line = 24; work = (module_work (codes "ping") (no_parts)); condition = (expression (negation (comparison equal (path (variable (codes "inventory_hostname")) ([])) (literal (text (codes "a"))))) (no_expressions)); loop = (Some (path (variable (codes "s1")) ((codes "f") ∷ []))); register = (Some (codes "r1")); vars = (no_parts); notify = ([]); changed_when = (Some (expression (literal (boolean false)) (no_expressions))); failed_when = None; attempts = None; ignore_errors = None }) (no_steps))) (task_step (record { line = 25; work = (module_work (codes "odd") (no_parts)); condition = (no_expressions); loop = (Some (path (variable (codes "groups")) ((codes "all") ∷ []))); register = None; vars = (no_parts); notify = ([]); changed_when = (Some (expression (literal (boolean true)) (no_expressions))); failed_when = None; attempts = None; ignore_errors = None }) (no_steps)) (task_step (record { line = 26; work = (module_work (codes "probe") (no_parts)); condition = (no_expressions); loop = None; register = None; vars = (no_parts); notify = ([]); changed_when = None; failed_when = None; attempts = None; ignore_errors = None }) (no_steps)) (no_steps)))); post_tasks = (no_steps); handlers = (record { work = (record { line = 27; work = (module_work (codes "command") (part (codes "cmd") (literal (text (codes "x"))) (no_parts))); condition = (expression (conjunction (expression (defined (variable (codes "i1")) ((codes "rc") ∷ [])) (expression (negation (comparison equal (path (variable (codes "i1")) ((codes "rc") ∷ [])) (literal (text (codes "x"))))) (no_expressions)))) (no_expressions)); loop = None; register = (Some (codes "r3")); vars = (no_parts); notify = ((codes "h1") ∷ []); changed_when = None; failed_when = (Some (expression (path_status is_changed (variable (codes "r3")) ([])) (no_expressions))); attempts = None; ignore_errors = None }); name = (Some (codes "h0")); topics = ((codes "t") ∷ []) } ∷ record { work = (record { line = 28; work = (module_work (codes "command") (part (codes "cmd") (literal (text (codes "x"))) (no_parts))); condition = (expression (disjunction (expression (membership (literal (text (codes "g2"))) (path (variable (codes "group_names")) ([]))) (expression (membership (literal (text (codes "g1"))) (path (variable (codes "group_names")) ([]))) (no_expressions)))) (no_expressions)); loop = None; register = (Some (codes "r1")); vars = (no_parts); notify = ([]); changed_when = None; failed_when = None; attempts = None; ignore_errors = (Some true) }); name = (Some (codes "h1")); topics = ([]) } ∷ record { work = (record { line = 29; work = (module_work (codes "command") (part (codes "cmd") (literal (text (codes "x"))) (no_parts))); condition = (no_expressions); loop = None; register = (Some (codes "r1")); vars = (no_parts); notify = ([]); changed_when = None; failed_when = None; attempts = (Some (record { until = (expression (comparison equal (path (variable (codes "r1")) ((codes "changed") ∷ [])) (literal (text (codes "a")))) (no_expressions)); retries = 3 })); ignore_errors = None }); name = (Some (codes "h2")); topics = ([]) } ∷ []); forces = false } ∷ [])

abbrev random_001251_run_inventory : Inventory
random_001251_run_inventory = record { hosts = (record { name = (codes "a"); variables = (field (codes "i1") (boolean true) (no_fields)) } ∷ []); groups = (record { name = (codes "all"); hosts = ((codes "a") ∷ []) } ∷ record { name = (codes "g2"); hosts = ((codes "a") ∷ []) } ∷ record { name = (codes "ungrouped"); hosts = ([]) } ∷ []) }

abbrev random_001251_run_registry : Registry
random_001251_run_registry = (builtins ++ (record { name = (codes "probe"); params = (record { name = (codes "n"); kind = ints; required = false } ∷ record { name = (codes "l"); kind = (lists texts 3); required = false } ∷ []); ok = recs (slot (codes "changed") true booleans (slot (codes "deep") false (recs (slot (codes "a") true texts (slot (codes "b") false booleans (no_slots)))) (slot (codes "rows") true (lists texts 2) (slot (codes "v") false ints (no_slots))))); failure = recs (slot (codes "changed") true booleans (slot (codes "msg") true texts (slot (codes "v") false texts (slot (codes "why") true ints (no_slots))))); free = None } ∷ record { name = (codes "odd"); params = ([]); ok = recs (slot (codes "changed") true booleans (slot (codes "msg") false ints (no_slots))); failure = recs (slot (codes "changed") true booleans (slot (codes "msg") true texts (no_slots))); free = None } ∷ []))

random_001251_run : recaps_of random_001251_run_registry random_001251_run_inventory random_001251_run_book 1 ((object (rec (field (codes "changed") (boolean false) (field (codes "failed") (boolean true) (field (codes "msg") (text (codes "x")) (no_fields))))) ∷ object (rec (field (codes "ansible_facts") (rec (field (codes "ansible_distribution") (text (codes "a")) (field (codes "ansible_hostname") (text (codes "a")) (field (codes "ansible_processor_vcpus") (int (pos 0)) (field (codes "ansible_system") (text (codes "b")) (no_fields)))))) (field (codes "changed") (boolean true) (no_fields)))) ∷ object (rec (field (codes "changed") (boolean true) (field (codes "failed") (boolean true) (field (codes "msg") (text (codes "a")) (field (codes "rc") (int (pos 1)) (field (codes "stderr") (text (codes "x")) (field (codes "stderr_lines") (list (item (text (codes "x")) (item (text (codes "a")) (item (text ([])) (no_items))))) (field (codes "stdout") (text (codes "a")) (field (codes "stdout_lines") (list (item (text (codes "a")) (no_items))) (no_fields)))))))))) ∷ object (rec (field (codes "changed") (boolean true) (field (codes "ping") (text (codes "b")) (no_fields)))) ∷ []) ∷ []) ≡ (record { ok = 3; changed = 2; unreachable = 0; failed = 2; skipped = 0; rescued = 1; ignored = 0 } ∷ [])
unfolding digits
random_001251_run = refl

-- random_001263_run:
abbrev random_001263_run_book : Book
random_001263_run_book = (record { line = 1; pattern = ((codes "all") ∷ []); gathering = None; vars = (no_parts); is_linear = true; serial = ([]); pre_tasks = (no_steps); tasks = (task_step (record { line = 2; work = (debug_work (part (codes "msg") (path (variable (codes "r2")) ([])) (no_parts))); condition = (expression (in_batch item_host) (expression (defined (variable (codes "r2")) ([])) (no_expressions))); loop = (Some (path (variable (codes "groups")) ((codes "all") ∷ []))); register = (Some (codes "r2")); vars = (no_parts); notify = ([]); changed_when = None; failed_when = None; attempts = None; ignore_errors = None }) (block_step (record { line = 3; condition = (no_expressions); vars = (no_parts); ignore_errors = None }) (task_step (record { line = 4; work = (fail_work (no_parts)); condition = (expression (membership (literal (text (codes "g1"))) (path (variable (codes "group_names")) ([]))) (no_expressions)); loop = None; register = (Some (codes "r1")); vars = (no_parts); notify = ([]); changed_when = None; failed_when = None; attempts = None; ignore_errors = None }) (no_steps)) (no_steps) (no_steps) (block_step (record { line = 5; condition = (no_expressions); vars = (no_parts); ignore_errors = None }) (task_step (record { line = 6; work = (module_work (codes "command") (part (codes "cmd") (literal (text (codes "x"))) (no_parts))); condition = (no_expressions); loop = None; register = (Some (codes "r2")); vars = (no_parts); notify = ([]); changed_when = None; failed_when = None; attempts = (Some (record { until = (expression (conjunction (expression (defined (variable (codes "r2")) ((codes "stdout_lines") ∷ [])) (expression (comparison equal (path (variable (codes "r2")) ((codes "stdout_lines") ∷ [])) (literal (text (codes "a")))) (no_expressions)))) (no_expressions)); retries = 3 })); ignore_errors = None }) (no_steps)) (task_step (record { line = 7; work = (module_work (codes "odd") (no_parts)); condition = (no_expressions); loop = None; register = None; vars = (no_parts); notify = ([]); changed_when = None; failed_when = None; attempts = None; ignore_errors = None }) (task_step (record { line = 8; work = (module_work (codes "command") (part (codes "cmd") (concatenation (expression (literal (text (codes "x "))) (expression (length_of (path (variable (codes "r3")) ([]))) (no_expressions)))) (no_parts))); condition = (expression (defined (variable (codes "r3")) ([])) (no_expressions)); loop = None; register = None; vars = (no_parts); notify = ([]); changed_when = None; failed_when = None; attempts = None; ignore_errors = (Some true) }) (task_step (record { line = 9; work = (module_work (codes "odd") (no_parts)); condition = (expression (negation (defined (variable (codes "ansible_hostname")) ([]))) (expression (in_batch item_host) (no_expressions))); loop = (Some (path (variable (codes "groups")) ((codes "all") ∷ []))); register = (Some (codes "r2")); vars = (no_parts); notify = ([]); changed_when = None; failed_when = None; attempts = None; ignore_errors = None }) (no_steps)))) (task_step (record { line = 10; work = (assert_work (conditions_are (expression (negation (defined (variable (codes "ansible_os_family")) ([]))) (no_expressions))) (no_parts)); condition = (expression (negation (defined (variable (codes "r1")) ((codes "changed") ∷ []))) (no_expressions)); loop = None; register = (Some (codes "r3")); vars = (no_parts); notify = ([]); changed_when = None; failed_when = None; attempts = None; ignore_errors = (Some true) }) (no_steps)) (task_step (record { line = 11; work = (module_work (codes "command") (part (codes "cmd") (literal (text (codes "x"))) (no_parts))); condition = (no_expressions); loop = None; register = None; vars = (no_parts); notify = ([]); changed_when = None; failed_when = (Some (expression (literal (boolean false)) (no_expressions))); attempts = None; ignore_errors = None }) (no_steps))))); post_tasks = (no_steps); handlers = ([]); forces = false } ∷ record { line = 12; pattern = ((codes "all") ∷ []); gathering = (Some 13); vars = (no_parts); is_linear = true; serial = ([]); pre_tasks = (no_steps); tasks = (block_step (record { line = 14; condition = (no_expressions); vars = (no_parts); ignore_errors = None }) (block_step (record { line = 15; condition = (no_expressions); vars = (no_parts); ignore_errors = (Some true) }) (task_step (record { line = 16; work = (module_work (codes "command") (part (codes "cmd") (literal (text (codes "x"))) (no_parts))); condition = (expression (negation (defined (other (named_host (codes "b")) (codes "s1")) ((codes "f") ∷ []))) (no_expressions)); loop = None; register = (Some (codes "r3")); vars = (no_parts); notify = ([]); changed_when = None; failed_when = None; attempts = None; ignore_errors = None }) (no_steps)) (no_steps) (no_steps) (no_steps)) (task_step (record { line = 17; work = (module_work (codes "command") (part (codes "cmd") (literal (text (codes "x"))) (no_parts))); condition = (no_expressions); loop = None; register = (Some (codes "r3")); vars = (part (codes "v1") (path (variable (codes "r3")) ([])) (no_parts)); notify = ([]); changed_when = None; failed_when = None; attempts = None; ignore_errors = (Some true) }) (task_step (record { line = 18; work = (debug_work (part (codes "msg") (path (variable (codes "inventory_hostname")) ([])) (no_parts))); condition = (no_expressions); loop = None; register = (Some (codes "r3")); vars = (no_parts); notify = ([]); changed_when = None; failed_when = None; attempts = None; ignore_errors = None }) (no_steps))) (no_steps) (task_step (record { line = 19; work = (set_fact_work (part (codes "s3") (record_of (part (codes "f") (path (variable (codes "i1")) ([])) (part (codes "rc") (literal (int (pos 1))) (no_parts)))) (no_parts))); condition = (no_expressions); loop = None; register = (Some (codes "r1")); vars = (no_parts); notify = ([]); changed_when = None; failed_when = None; attempts = None; ignore_errors = None }) (task_step (record { line = 20; work = (module_work (codes "ping") (no_parts)); condition = (no_expressions); loop = None; register = (Some (codes "r1")); vars = (no_parts); notify = ([]); changed_when = None; failed_when = None; attempts = (Some (record { until = (expression (literal (boolean false)) (no_expressions)); retries = 3 })); ignore_errors = None }) (no_steps)))); post_tasks = (no_steps); handlers = ([]); forces = true } ∷ [])

abbrev random_001263_run_inventory : Inventory
random_001263_run_inventory = record { hosts = (record { name = (codes "a"); variables = (field (codes "i1") (boolean true) (field (codes "i2") (list (no_items)) (field (codes "op") opaque (no_fields)))) } ∷ record { name = (codes "b"); variables = (field (codes "i1") (int (pos 3)) (field (codes "i2") (text (codes "no")) (field (codes "op") opaque (no_fields)))) } ∷ []); groups = (record { name = (codes "all"); hosts = ((codes "a") ∷ (codes "b") ∷ []) } ∷ record { name = (codes "g1"); hosts = ((codes "b") ∷ []) } ∷ record { name = (codes "g2"); hosts = ((codes "a") ∷ []) } ∷ record { name = (codes "ungrouped"); hosts = ([]) } ∷ []) }

abbrev random_001263_run_registry : Registry
random_001263_run_registry = (builtins ++ (record { name = (codes "probe"); params = (record { name = (codes "n"); kind = ints; required = false } ∷ record { name = (codes "l"); kind = (lists texts 3); required = false } ∷ []); ok = recs (slot (codes "changed") true booleans (slot (codes "deep") false (recs (slot (codes "a") true texts (slot (codes "b") false booleans (no_slots)))) (slot (codes "rows") true (lists texts 2) (slot (codes "v") false ints (no_slots))))); failure = recs (slot (codes "changed") true booleans (slot (codes "msg") true texts (slot (codes "v") false texts (slot (codes "why") true ints (no_slots))))); free = None } ∷ record { name = (codes "odd"); params = ([]); ok = recs (slot (codes "changed") true booleans (slot (codes "msg") false ints (no_slots))); failure = recs (slot (codes "changed") true booleans (slot (codes "msg") true texts (no_slots))); free = None } ∷ []))

random_001263_run : recaps_of random_001263_run_registry random_001263_run_inventory random_001263_run_book 1 ((object (rec (field (codes "changed") (boolean true) (field (codes "extra") (rec (field (codes "a") (int (pos 1)) (no_fields))) (field (codes "rc") (int (negsuc 6)) (field (codes "stderr") (text (codes "a")) (field (codes "stderr_lines") (list (item (text ([])) (no_items))) (field (codes "stdout") (text (codes "b")) (field (codes "stdout_lines") (list (no_items)) (no_fields))))))))) ∷ object (rec (field (codes "changed") (boolean true) (field (codes "rc") (int (negsuc 6)) (field (codes "stderr") (text (codes "x")) (field (codes "stderr_lines") (list (item (text ([])) (no_items))) (field (codes "stdout") (text (codes "x")) (field (codes "stdout_lines") (list (item (text ([])) (no_items))) (no_fields)))))))) ∷ object (rec (field (codes "changed") (boolean true) (field (codes "rc") (int (pos 1)) (field (codes "stderr") (text (codes "a")) (field (codes "stderr_lines") (list (item (text ([])) (item (text (codes "b")) (no_items)))) (field (codes "stdout") (text (codes "b")) (field (codes "stdout_lines") (list (item (text (codes "x")) (no_items))) (no_fields)))))))) ∷ object (rec (field (codes "changed") (boolean true) (field (codes "failed") (boolean true) (field (codes "msg") (text (codes "x")) (field (codes "rc") (int (pos 0)) (field (codes "stderr") (text (codes "x")) (field (codes "stderr_lines") (list (item (text (codes "a")) (no_items))) (field (codes "stdout") (text (codes "b")) (field (codes "stdout_lines") (list (no_items)) (no_fields)))))))))) ∷ object (rec (field (codes "changed") (boolean true) (field (codes "msg") (int (negsuc 6)) (no_fields)))) ∷ object (rec (field (codes "changed") (boolean false) (field (codes "failed") (boolean true) (field (codes "msg") (text (123 ∷ 123 ∷ 32 ∷ 120 ∷ 32 ∷ 125 ∷ 125 ∷ [])) (no_fields))))) ∷ []) ∷ ([]) ∷ []) ≡ (record { ok = 1; changed = 1; unreachable = 0; failed = 1; skipped = 4; rescued = 1; ignored = 0 } ∷ record { ok = 0; changed = 0; unreachable = 0; failed = 1; skipped = 1; rescued = 0; ignored = 0 } ∷ [])
unfolding digits
random_001263_run = refl

-- random_001267_run:
abbrev random_001267_run_book : Book
random_001267_run_book = (record { line = 1; pattern = ((codes "all") ∷ []); gathering = (Some 2); vars = (part (codes "v2") (path (variable (codes "s1")) ([])) (no_parts)); is_linear = true; serial = ([]); pre_tasks = (no_steps); tasks = (flush_step 3 (task_step (record { line = 4; work = (module_work (codes "setup") (no_parts)); condition = (no_expressions); loop = None; register = (Some (codes "r3")); vars = (no_parts); notify = ([]); changed_when = None; failed_when = None; attempts = None; ignore_errors = None }) (block_step (record { line = 5; condition = (no_expressions); vars = (part (codes "v2") (literal (int (pos 1))) (no_parts)); ignore_errors = None }) (task_step (record { line = 6; work = (debug_work (part (codes "msg") (literal (text (codes "x"))) (no_parts))); condition = (expression (defined (variable (codes "r3")) ([])) (expression (negation (path_status is_failed (variable (codes "r3")) ([]))) (no_expressions))); loop = None; register = (Some (codes "r1")); vars = (no_parts); notify = ([]); changed_when = None; failed_when = None; attempts = None; ignore_errors = (Some true) }) (no_steps)) (task_step (record { line = 7; work = (module_work (codes "command") (part (codes "cmd") (literal (text (codes "x"))) (no_parts))); condition = (no_expressions); loop = None; register = (Some (codes "r2")); vars = (no_parts); notify = ([]); changed_when = None; failed_when = None; attempts = None; ignore_errors = None }) (task_step (record { line = 8; work = (module_work (codes "ping") (no_parts)); condition = (no_expressions); loop = None; register = (Some (codes "r2")); vars = (no_parts); notify = ([]); changed_when = None; failed_when = None; attempts = None; ignore_errors = None }) (no_steps))) (no_steps) (no_steps)))); post_tasks = (no_steps); handlers = (record { work = (record { line = 9; work = (module_work (codes "ping") (no_parts)); condition = (no_expressions); loop = None; register = None; vars = (no_parts); notify = ([]); changed_when = None; failed_when = None; attempts = None; ignore_errors = (Some false) }); name = (Some (codes "h0")); topics = ((codes "t") ∷ []) } ∷ []); forces = true } ∷ [])

abbrev random_001267_run_inventory : Inventory
random_001267_run_inventory = record { hosts = (record { name = (codes "a"); variables = (field (codes "op") opaque (no_fields)) } ∷ []); groups = (record { name = (codes "all"); hosts = ((codes "a") ∷ []) } ∷ record { name = (codes "g1"); hosts = ([]) } ∷ record { name = (codes "g2"); hosts = ([]) } ∷ record { name = (codes "ungrouped"); hosts = ((codes "a") ∷ []) } ∷ []) }

abbrev random_001267_run_registry : Registry
random_001267_run_registry = (builtins ++ (record { name = (codes "probe"); params = (record { name = (codes "n"); kind = ints; required = false } ∷ record { name = (codes "l"); kind = (lists texts 3); required = false } ∷ []); ok = recs (slot (codes "changed") true booleans (slot (codes "deep") false (recs (slot (codes "a") true texts (slot (codes "b") false booleans (no_slots)))) (slot (codes "rows") true (lists texts 2) (slot (codes "v") false ints (no_slots))))); failure = recs (slot (codes "changed") true booleans (slot (codes "msg") true texts (slot (codes "v") false texts (slot (codes "why") true ints (no_slots))))); free = None } ∷ record { name = (codes "odd"); params = ([]); ok = recs (slot (codes "changed") true booleans (slot (codes "msg") false ints (no_slots))); failure = recs (slot (codes "changed") true booleans (slot (codes "msg") true texts (no_slots))); free = None } ∷ []))

random_001267_run : recaps_of random_001267_run_registry random_001267_run_inventory random_001267_run_book 1 ((object (rec (field (codes "ansible_facts") (rec (field (codes "ansible_hostname") (text (codes "a")) (field (codes "ansible_os_family") (text (codes "b")) (field (codes "ansible_system") (text (codes "a")) (no_fields))))) (field (codes "changed") (boolean false) (no_fields)))) ∷ object (rec (field (codes "ansible_facts") (rec (field (codes "ansible_distribution") (text (codes "x")) (field (codes "ansible_hostname") (text ([])) (field (codes "ansible_system") (text (codes "b")) (no_fields))))) (field (codes "changed") (boolean true) (no_fields)))) ∷ []) ∷ []) ≡ (record { ok = 3; changed = 1; unreachable = 0; failed = 0; skipped = 0; rescued = 0; ignored = 0 } ∷ [])
unfolding digits
random_001267_run = refl

-- random_001285_run:
abbrev random_001285_run_book : Book
random_001285_run_book = (record { line = 1; pattern = ((codes "all") ∷ []); gathering = (Some 2); vars = (no_parts); is_linear = true; serial = ([]); pre_tasks = (no_steps); tasks = (task_step (record { line = 3; work = (module_work (codes "probe") (no_parts)); condition = (no_expressions); loop = None; register = (Some (codes "r3")); vars = (no_parts); notify = ((codes "h1") ∷ []); changed_when = None; failed_when = (Some (expression (literal (boolean false)) (no_expressions))); attempts = (Some (record { until = (expression (comparison equal (path (variable (codes "r3")) ((codes "failed") ∷ [])) (literal (int (pos 1)))) (no_expressions)); retries = 3 })); ignore_errors = None }) (no_steps)); post_tasks = (no_steps); handlers = (record { work = (record { line = 4; work = (module_work (codes "probe") (no_parts)); condition = (no_expressions); loop = None; register = None; vars = (no_parts); notify = ([]); changed_when = None; failed_when = None; attempts = None; ignore_errors = None }); name = (Some (codes "h0")); topics = ((codes "t") ∷ []) } ∷ record { work = (record { line = 5; work = (set_fact_work (part (codes "s3") (path (variable (codes "r3")) ((codes "failed") ∷ [])) (no_parts))); condition = (no_expressions); loop = None; register = (Some (codes "r2")); vars = (no_parts); notify = ((codes "h2") ∷ []); changed_when = None; failed_when = None; attempts = None; ignore_errors = (Some false) }); name = (Some (codes "h1")); topics = ([]) } ∷ record { work = (record { line = 6; work = (module_work (codes "command") (part (codes "cmd") (literal (text (codes "x"))) (no_parts))); condition = (no_expressions); loop = None; register = (Some (codes "r1")); vars = (no_parts); notify = ([]); changed_when = None; failed_when = (Some (expression (path_status is_changed (variable (codes "r1")) ([])) (no_expressions))); attempts = None; ignore_errors = None }); name = (Some (codes "h2")); topics = ([]) } ∷ []); forces = false } ∷ [])

abbrev random_001285_run_inventory : Inventory
random_001285_run_inventory = record { hosts = (record { name = (codes "a"); variables = (field (codes "i1") (int (pos 1)) (field (codes "i2") (int (pos 1)) (field (codes "s1") (list (item (text (codes "no")) (no_items))) (no_fields)))) } ∷ record { name = (codes "b"); variables = (field (codes "i1") (int (pos 1)) (field (codes "i2") (text (codes "no")) (field (codes "s1") (list (item (text (codes "no")) (no_items))) (no_fields)))) } ∷ record { name = (codes "c"); variables = (field (codes "i1") (rec (field (codes "f") (rec (field (codes "g") (text (codes "no")) (no_fields))) (no_fields))) (field (codes "i2") (text (codes "no")) (field (codes "op") opaque (field (codes "s1") (list (item (boolean false) (item (text (codes "b")) (no_items)))) (no_fields))))) } ∷ []); groups = (record { name = (codes "all"); hosts = ((codes "a") ∷ (codes "b") ∷ (codes "c") ∷ []) } ∷ record { name = (codes "g2"); hosts = ((codes "c") ∷ []) } ∷ record { name = (codes "ungrouped"); hosts = ((codes "a") ∷ (codes "b") ∷ []) } ∷ []) }

abbrev random_001285_run_registry : Registry
random_001285_run_registry = (builtins ++ (record { name = (codes "probe"); params = (record { name = (codes "n"); kind = ints; required = false } ∷ record { name = (codes "l"); kind = (lists texts 3); required = false } ∷ []); ok = recs (slot (codes "changed") true booleans (slot (codes "deep") false (recs (slot (codes "a") true texts (slot (codes "b") false booleans (no_slots)))) (slot (codes "rows") true (lists texts 2) (slot (codes "v") false ints (no_slots))))); failure = recs (slot (codes "changed") true booleans (slot (codes "msg") true texts (slot (codes "v") false texts (slot (codes "why") true ints (no_slots))))); free = None } ∷ record { name = (codes "odd"); params = ([]); ok = recs (slot (codes "changed") true booleans (slot (codes "msg") false ints (no_slots))); failure = recs (slot (codes "changed") true booleans (slot (codes "msg") true texts (no_slots))); free = None } ∷ []))

random_001285_run : recaps_of random_001285_run_registry random_001285_run_inventory random_001285_run_book 1 ((object (rec (field (codes "ansible_facts") (rec (field (codes "ansible_hostname") (text (codes "a")) (field (codes "ansible_processor_vcpus") (int (pos 1)) (field (codes "ansible_system") (text (codes "a")) (no_fields))))) (field (codes "changed") (boolean true) (no_fields)))) ∷ object (rec (field (codes "changed") (boolean true) (field (codes "rows") (list (item (text (codes "b")) (item (text (codes "b")) (no_items)))) (no_fields)))) ∷ object (rec (field (codes "changed") (boolean true) (field (codes "deep") (rec (field (codes "a") (text (codes "a")) (no_fields))) (field (codes "rows") (list (item (text (123 ∷ 123 ∷ 32 ∷ 120 ∷ 32 ∷ 125 ∷ 125 ∷ [])) (no_items))) (field (codes "v") (int (pos 2)) (no_fields)))))) ∷ object (rec (field (codes "changed") (boolean false) (field (codes "rows") (list (no_items)) (field (codes "v") (int (pos 0)) (no_fields))))) ∷ object (rec (field (codes "changed") (boolean true) (field (codes "deep") (rec (field (codes "a") (text ([])) (no_fields))) (field (codes "rows") (list (no_items)) (no_fields))))) ∷ []) ∷ (object (rec (field (codes "ansible_facts") (rec (field (codes "ansible_hostname") (text ([])) (field (codes "ansible_memtotal_mb") (int (pos 2)) (field (codes "ansible_processor_vcpus") (int (pos 0)) (field (codes "ansible_system") (text (codes "a")) (no_fields)))))) (field (codes "changed") (boolean false) (no_fields)))) ∷ object (rec (field (codes "changed") (boolean true) (field (codes "failed") (boolean true) (field (codes "msg") (text ([])) (field (codes "why") (int (negsuc 6)) (no_fields)))))) ∷ object (rec (field (codes "changed") (boolean true) (field (codes "rows") (list (no_items)) (field (codes "v") (int (pos 1)) (no_fields))))) ∷ object (rec (field (codes "changed") (boolean true) (field (codes "rows") (list (item (text (codes "x")) (item (text (codes "a")) (no_items)))) (no_fields)))) ∷ object (rec (field (codes "changed") (boolean false) (field (codes "deep") (rec (field (codes "a") (text (codes "c")) (no_fields))) (field (codes "rows") (list (item (text (codes "b")) (item (text (codes "b")) (no_items)))) (field (codes "v") (int (pos 2)) (no_fields)))))) ∷ []) ∷ (object (rec (field (codes "ansible_facts") (rec (field (codes "ansible_distribution") (text ([])) (field (codes "ansible_hostname") (text (codes "a")) (field (codes "ansible_memtotal_mb") (int (pos 1)) (field (codes "ansible_os_family") (text (codes "b")) (field (codes "ansible_system") (text ([])) (no_fields))))))) (field (codes "changed") (boolean true) (no_fields)))) ∷ object (rec (field (codes "changed") (boolean true) (field (codes "deep") (rec (field (codes "a") (text (codes "a")) (field (codes "b") (boolean false) (no_fields)))) (field (codes "rows") (list (no_items)) (no_fields))))) ∷ object (rec (field (codes "changed") (boolean true) (field (codes "rows") (list (no_items)) (no_fields)))) ∷ object (rec (field (codes "changed") (boolean false) (field (codes "deep") (rec (field (codes "a") (text (codes "x")) (no_fields))) (field (codes "extra") (rec (field (codes "a") (int (pos 1)) (no_fields))) (field (codes "rows") (list (item (text (codes "c")) (item (text ([])) (no_items)))) (field (codes "v") (int (pos 2)) (no_fields))))))) ∷ object (rec (field (codes "changed") (boolean true) (field (codes "deep") (rec (field (codes "a") (text ([])) (field (codes "b") (boolean true) (no_fields)))) (field (codes "rows") (list (item (text (123 ∷ 123 ∷ 32 ∷ 120 ∷ 32 ∷ 125 ∷ 125 ∷ [])) (item (text (codes "b")) (no_items)))) (no_fields))))) ∷ []) ∷ []) ≡ (record { ok = 1; changed = 1; unreachable = 0; failed = 1; skipped = 0; rescued = 0; ignored = 0 } ∷ record { ok = 1; changed = 0; unreachable = 0; failed = 1; skipped = 0; rescued = 0; ignored = 0 } ∷ record { ok = 1; changed = 1; unreachable = 0; failed = 1; skipped = 0; rescued = 0; ignored = 0 } ∷ [])
unfolding digits
random_001285_run = refl

-- random_001286_run:
abbrev random_001286_run_book : Book
random_001286_run_book = (record { line = 1; pattern = ((codes "all") ∷ []); gathering = None; vars = (no_parts); is_linear = true; serial = ([]); pre_tasks = (no_steps); tasks = (task_step (record { line = 2; work = (module_work (codes "command") (part (codes "cmd") (literal (text (codes "x"))) (no_parts))); condition = (expression (in_batch (named_host (codes "b"))) (expression (defined (other (named_host (codes "a")) (codes "r")) ((codes "rc") ∷ [])) (no_expressions))); loop = None; register = None; vars = (no_parts); notify = ([]); changed_when = None; failed_when = None; attempts = None; ignore_errors = None }) (task_step (record { line = 3; work = (set_fact_work (part (codes "y") (comparison equal (path (other this_host (codes "inv")) ([])) (literal (text (codes "a")))) (no_parts))); condition = (expression (in_batch (group_member (codes "g") 0)) (no_expressions)); loop = None; register = (Some (codes "r")); vars = (part (codes "v1") (path_or (other (group_member (codes "g") 0) (codes "y")) ((codes "stdout_lines") ∷ []) (path (variable (codes "s")) ((codes "results") ∷ []))) (no_parts)); notify = ([]); changed_when = None; failed_when = None; attempts = None; ignore_errors = None }) (no_steps))); post_tasks = (no_steps); handlers = ([]); forces = false } ∷ [])

abbrev random_001286_run_inventory : Inventory
random_001286_run_inventory = record { hosts = (record { name = (codes "c"); variables = (field (codes "inv") (list (item (int (pos 1)) (item (int (pos 2)) (no_items)))) (no_fields)) } ∷ record { name = (codes "b"); variables = (field (codes "inv") (list (item (int (pos 1)) (item (int (pos 2)) (no_items)))) (field (codes "k") (rec (field (codes "z") opaque (no_fields))) (no_fields))) } ∷ record { name = (codes "a"); variables = (field (codes "inv") (list (item (text (codes "x")) (no_items))) (field (codes "opq") opaque (no_fields))) } ∷ []); groups = (record { name = (codes "all"); hosts = ((codes "c") ∷ (codes "b") ∷ (codes "a") ∷ []) } ∷ record { name = (codes "g"); hosts = ((codes "b") ∷ (codes "a") ∷ []) } ∷ record { name = (codes "ungrouped"); hosts = ((codes "c") ∷ []) } ∷ []) }

abbrev random_001286_run_registry : Registry
random_001286_run_registry = (builtins ++ ([]))

random_001286_run : recaps_of random_001286_run_registry random_001286_run_inventory random_001286_run_book 1 (([]) ∷ ([]) ∷ ([]) ∷ []) ≡ (record { ok = 1; changed = 0; unreachable = 0; failed = 0; skipped = 1; rescued = 0; ignored = 0 } ∷ record { ok = 1; changed = 0; unreachable = 0; failed = 0; skipped = 1; rescued = 0; ignored = 0 } ∷ record { ok = 1; changed = 0; unreachable = 0; failed = 0; skipped = 1; rescued = 0; ignored = 0 } ∷ [])
unfolding digits
random_001286_run = refl

-- random_001297_run:
abbrev random_001297_run_book : Book
random_001297_run_book = (record { line = 1; pattern = ((codes "g2") ∷ []); gathering = None; vars = (no_parts); is_linear = true; serial = ([]); pre_tasks = (no_steps); tasks = (task_step (record { line = 2; work = (module_work (codes "ping") (no_parts)); condition = (no_expressions); loop = None; register = None; vars = (no_parts); notify = ([]); changed_when = None; failed_when = None; attempts = None; ignore_errors = None }) (no_steps)); post_tasks = (no_steps); handlers = ([]); forces = false } ∷ record { line = 3; pattern = ((codes "b") ∷ []); gathering = (Some 4); vars = (part (codes "v1") (path (variable (codes "r1")) ((codes "failed") ∷ [])) (part (codes "v2") (path (other (group_member (codes "all") 0) (codes "s2")) ((codes "f") ∷ [])) (part (codes "v3") (literal (text (codes "a"))) (no_parts)))); is_linear = true; serial = ([]); pre_tasks = (no_steps); tasks = (task_step (record { line = 5; work = (set_fact_work (part (codes "s3") (path (variable (codes "r1")) ((codes "results") ∷ [])) (no_parts))); condition = (expression (defined (variable (codes "r1")) ([])) (expression (negation (path_status is_failed (variable (codes "r1")) ([]))) (no_expressions))); loop = None; register = (Some (codes "r2")); vars = (no_parts); notify = ([]); changed_when = None; failed_when = None; attempts = None; ignore_errors = None }) (no_steps)); post_tasks = (no_steps); handlers = (record { work = (record { line = 6; work = (module_work (codes "command") (part (codes "cmd") (literal (text (codes "x"))) (no_parts))); condition = (no_expressions); loop = None; register = (Some (codes "r1")); vars = (no_parts); notify = ((codes "h1") ∷ []); changed_when = None; failed_when = None; attempts = None; ignore_errors = None }); name = (Some (codes "h0")); topics = ((codes "t") ∷ []) } ∷ record { work = (record { line = 7; work = (module_work (codes "command") (part (codes "cmd") (literal (text (codes "x"))) (no_parts))); condition = (expression (defined (variable (codes "ansible_play_batch")) ([])) (expression (in_batch item_host) (no_expressions))); loop = (Some (path (variable (codes "ansible_play_batch")) ([]))); register = (Some (codes "r3")); vars = (no_parts); notify = ((codes "h2") ∷ []); changed_when = None; failed_when = None; attempts = None; ignore_errors = None }); name = (Some (codes "h1")); topics = ([]) } ∷ record { work = (record { line = 8; work = (set_fact_work (part (codes "s2") (literal (int (pos 1))) (no_parts))); condition = (expression (negation (defined (variable (codes "s1")) ([]))) (no_expressions)); loop = None; register = None; vars = (no_parts); notify = ([]); changed_when = (Some (expression (literal (boolean false)) (no_expressions))); failed_when = None; attempts = None; ignore_errors = None }); name = (Some (codes "h2")); topics = ([]) } ∷ []); forces = true } ∷ record { line = 9; pattern = ((codes "d") ∷ []); gathering = None; vars = (no_parts); is_linear = true; serial = ([]); pre_tasks = (task_step (record { line = 10; work = (module_work (codes "command") (part (codes "cmd") (literal (text (codes "x"))) (no_parts))); condition = (no_expressions); loop = (Some (list_of (no_expressions))); register = None; vars = (no_parts); notify = ([]); changed_when = None; failed_when = None; attempts = None; ignore_errors = None }) (task_step (record { line = 11; work = (module_work (codes "odd") (no_parts)); condition = (no_expressions); loop = None; register = None; vars = (no_parts); notify = ((codes "h0") ∷ []); changed_when = (Some (expression (literal (boolean true)) (no_expressions))); failed_when = None; attempts = None; ignore_errors = None }) (no_steps))); tasks = (task_step (record { line = 12; work = (module_work (codes "probe") (no_parts)); condition = (no_expressions); loop = None; register = None; vars = (no_parts); notify = ((codes "h0") ∷ []); changed_when = None; failed_when = None; attempts = None; ignore_errors = None }) (task_step (record { line = 13; work = (debug_work (part (codes "msg") (literal (int (pos 1))) (no_parts))); condition = (no_expressions); loop = None; register = (Some (codes "r2")); vars = (part (codes "v1") (path (variable (codes "s2")) ((codes "stdout") ∷ [])) (part (codes "v3") (path (variable (codes "ansible_os_family")) ([])) (no_parts))); notify = ((codes "t") ∷ []); changed_when = None; failed_when = None; attempts = None; ignore_errors = None }) (no_steps))); post_tasks = (no_steps); handlers = (record { work = (record { line = 14; work = (module_work (codes "command") (part (codes "cmd") (literal (text (codes "x"))) (no_parts))); condition = (no_expressions); loop = None; register = None; vars = (no_parts); notify = ([]); changed_when = None; failed_when = None; attempts = None; ignore_errors = None }); name = (Some (codes "h0")); topics = ((codes "t") ∷ []) } ∷ record { work = (record { line = 15; work = (assert_work (conditions_are (expression (negation (defined (variable (codes "s2")) ([]))) (no_expressions))) (no_parts)); condition = (no_expressions); loop = None; register = (Some (codes "r1")); vars = (no_parts); notify = ([]); changed_when = None; failed_when = None; attempts = None; ignore_errors = None }); name = (Some (codes "h1")); topics = ([]) } ∷ []); forces = false } ∷ [])

abbrev random_001297_run_inventory : Inventory
random_001297_run_inventory = record { hosts = (record { name = (codes "a"); variables = (field (codes "i1") (list (item (text (codes "b")) (no_items))) (field (codes "i2") (boolean true) (field (codes "op") opaque (field (codes "s1") (list (item (text (codes "a")) (no_items))) (no_fields))))) } ∷ record { name = (codes "b"); variables = (no_fields) } ∷ record { name = (codes "c"); variables = (field (codes "i2") (list (item (boolean true) (item (text ([])) (no_items)))) (field (codes "op") opaque (field (codes "s1") (list (item (text (codes "a")) (no_items))) (no_fields)))) } ∷ record { name = (codes "d"); variables = (field (codes "i2") (boolean true) (field (codes "s1") (list (item (text (codes "a")) (no_items))) (no_fields))) } ∷ []); groups = (record { name = (codes "all"); hosts = ((codes "a") ∷ (codes "b") ∷ (codes "c") ∷ (codes "d") ∷ []) } ∷ record { name = (codes "g1"); hosts = ((codes "b") ∷ (codes "d") ∷ []) } ∷ record { name = (codes "g2"); hosts = ((codes "a") ∷ (codes "c") ∷ (codes "d") ∷ []) } ∷ record { name = (codes "ungrouped"); hosts = ([]) } ∷ []) }

abbrev random_001297_run_registry : Registry
random_001297_run_registry = (builtins ++ (record { name = (codes "probe"); params = (record { name = (codes "n"); kind = ints; required = false } ∷ record { name = (codes "l"); kind = (lists texts 3); required = false } ∷ []); ok = recs (slot (codes "changed") true booleans (slot (codes "deep") false (recs (slot (codes "a") true texts (slot (codes "b") false booleans (no_slots)))) (slot (codes "rows") true (lists texts 2) (slot (codes "v") false ints (no_slots))))); failure = recs (slot (codes "changed") true booleans (slot (codes "msg") true texts (slot (codes "v") false texts (slot (codes "why") true ints (no_slots))))); free = None } ∷ record { name = (codes "odd"); params = ([]); ok = recs (slot (codes "changed") true booleans (slot (codes "msg") false ints (no_slots))); failure = recs (slot (codes "changed") true booleans (slot (codes "msg") true texts (no_slots))); free = None } ∷ []))

random_001297_run : recaps_of random_001297_run_registry random_001297_run_inventory random_001297_run_book 1 ((object (rec (field (codes "changed") (boolean false) (field (codes "ping") (text (codes "a")) (no_fields)))) ∷ []) ∷ (object (rec (field (codes "ansible_facts") (rec (field (codes "ansible_hostname") (text (123 ∷ 123 ∷ 32 ∷ 120 ∷ 32 ∷ 125 ∷ 125 ∷ [])) (field (codes "ansible_system") (text ([])) (no_fields)))) (field (codes "changed") (boolean false) (no_fields)))) ∷ []) ∷ (object (rec (field (codes "changed") (boolean false) (field (codes "failed") (boolean true) (field (codes "msg") (text (codes "d")) (no_fields))))) ∷ []) ∷ (object (rec (field (codes "changed") (boolean true) (field (codes "ping") (text (codes "d")) (no_fields)))) ∷ object (rec (field (codes "changed") (boolean false) (no_fields))) ∷ object (rec (field (codes "changed") (boolean false) (field (codes "rc") (int (negsuc 6)) (field (codes "stderr") (text (codes "b")) (field (codes "stderr_lines") (list (item (text (codes "a")) (item (text (codes "a")) (item (text (codes "b")) (no_items))))) (field (codes "stdout") (text (codes "b")) (field (codes "stdout_lines") (list (no_items)) (no_fields)))))))) ∷ object (rec (field (codes "changed") (boolean true) (field (codes "rows") (list (item (text (codes "a")) (item (text (codes "c")) (no_items)))) (no_fields)))) ∷ object (rec (field (codes "changed") (boolean true) (field (codes "failed") (boolean true) (field (codes "msg") (text (codes "a")) (field (codes "rc") (int (pos 0)) (field (codes "stderr") (text (codes "x")) (field (codes "stderr_lines") (list (item (text (codes "a")) (no_items))) (field (codes "stdout") (text (codes "c")) (field (codes "stdout_lines") (list (item (text (codes "c")) (item (text (codes "b")) (no_items)))) (no_fields)))))))))) ∷ []) ∷ []) ≡ (record { ok = 1; changed = 0; unreachable = 0; failed = 0; skipped = 0; rescued = 0; ignored = 0 } ∷ record { ok = 1; changed = 0; unreachable = 0; failed = 0; skipped = 1; rescued = 0; ignored = 0 } ∷ record { ok = 0; changed = 0; unreachable = 0; failed = 1; skipped = 0; rescued = 0; ignored = 0 } ∷ record { ok = 5; changed = 3; unreachable = 0; failed = 1; skipped = 1; rescued = 0; ignored = 0 } ∷ [])
unfolding digits
random_001297_run = refl

-- random_001308:
abbrev random_001308_book : Book
random_001308_book = (record { line = 1; pattern = ((codes "b") ∷ (codes "a") ∷ []); gathering = None; vars = (no_parts); is_linear = false; serial = ([]); pre_tasks = (no_steps); tasks = (task_step (record { line = 2; work = (module_work (codes "command") (part (codes "cmd") (path (other (named_host (codes "b")) (codes "inv")) ((codes "stdout_lines") ∷ [])) (no_parts))); condition = (expression (conjunction (expression (defined (variable (codes "r")) ([])) (expression (negation (path_status is_failed (variable (codes "r")) ([]))) (no_expressions)))) (no_expressions)); loop = None; register = (Some (codes "s")); vars = (no_parts); notify = ([]); changed_when = None; failed_when = None; attempts = None; ignore_errors = (Some true) }) (task_step (record { line = 3; work = (module_work (codes "command") (part (codes "cmd") (literal (text (codes "x"))) (no_parts))); condition = (no_expressions); loop = None; register = (Some (codes "s")); vars = (no_parts); notify = ([]); changed_when = None; failed_when = None; attempts = None; ignore_errors = None }) (no_steps))); post_tasks = (no_steps); handlers = ([]); forces = false } ∷ [])

abbrev random_001308_inventory : Inventory
random_001308_inventory = record { hosts = (record { name = (codes "c"); variables = (field (codes "inv") (list (item (int (pos 1)) (item (int (pos 2)) (no_items)))) (no_fields)) } ∷ record { name = (codes "b"); variables = (field (codes "inv") (list (item (int (pos 1)) (item (int (pos 2)) (no_items)))) (field (codes "k") (rec (field (codes "z") opaque (no_fields))) (no_fields))) } ∷ record { name = (codes "a"); variables = (field (codes "inv") (list (item (text (codes "x")) (no_items))) (field (codes "opq") opaque (no_fields))) } ∷ []); groups = (record { name = (codes "all"); hosts = ((codes "c") ∷ (codes "b") ∷ (codes "a") ∷ []) } ∷ record { name = (codes "g"); hosts = ((codes "b") ∷ (codes "a") ∷ []) } ∷ record { name = (codes "ungrouped"); hosts = ((codes "c") ∷ []) } ∷ []) }

abbrev random_001308_registry : Registry
random_001308_registry = (builtins ++ ([]))

random_001308 : judged random_001308_registry random_001308_inventory random_001308_book ≡ refused (record { code = 4; line = 2; host = (Some (codes "b")) })
random_001308 = refl

-- random_001313:
abbrev random_001313_book : Book
random_001313_book = (record { line = 1; pattern = ((codes "d") ∷ []); gathering = None; vars = (no_parts); is_linear = true; serial = ([]); pre_tasks = (no_steps); tasks = (task_step (record { line = 2; work = (module_work (codes "command") (part (codes "cmd") (concatenation (expression (literal (text (codes "x "))) (expression (path (variable (codes "r1")) ((codes "failed") ∷ [])) (no_expressions)))) (no_parts))); condition = (expression (defined (variable (codes "r1")) ([])) (expression (negation (path_status is_failed (variable (codes "r1")) ([]))) (no_expressions))); loop = (Some (path_or (variable (codes "r1")) ((codes "stdout_lines") ∷ []) (list_of (no_expressions)))); register = None; vars = (no_parts); notify = ([]); changed_when = None; failed_when = None; attempts = None; ignore_errors = None }) (task_step (record { line = 3; work = (assert_work (conditions_are (expression (defined (variable (codes "r3")) ((codes "results") ∷ [])) (no_expressions))) (no_parts)); condition = (no_expressions); loop = None; register = None; vars = (no_parts); notify = ([]); changed_when = None; failed_when = None; attempts = None; ignore_errors = (Some false) }) (no_steps))); post_tasks = (no_steps); handlers = (record { work = (record { line = 4; work = (module_work (codes "command") (part (codes "cmd") (literal (text (codes "x"))) (no_parts))); condition = (no_expressions); loop = None; register = None; vars = (no_parts); notify = ([]); changed_when = None; failed_when = None; attempts = None; ignore_errors = None }); name = (Some (codes "h0")); topics = ((codes "t") ∷ []) } ∷ []); forces = true } ∷ record { line = 5; pattern = ((codes "all") ∷ []); gathering = None; vars = (no_parts); is_linear = true; serial = ([]); pre_tasks = (no_steps); tasks = (task_step (record { line = 6; work = (module_work (codes "ping") (no_parts)); condition = (no_expressions); loop = None; register = (Some (codes "r1")); vars = (no_parts); notify = ([]); changed_when = None; failed_when = None; attempts = None; ignore_errors = None }) (task_step (record { line = 7; work = (debug_work (part (codes "msg") (concatenation (expression (literal (text (codes "x"))) (expression (path (variable (codes "r1")) ((codes "ping") ∷ [])) (no_expressions)))) (no_parts))); condition = (expression (defined (variable (codes "ansible_os_family")) ([])) (expression (defined (variable (codes "r1")) ((codes "ping") ∷ [])) (no_expressions))); loop = None; register = (Some (codes "r1")); vars = (no_parts); notify = ([]); changed_when = None; failed_when = None; attempts = None; ignore_errors = (Some true) }) (no_steps))); post_tasks = (no_steps); handlers = ([]); forces = false } ∷ [])

abbrev random_001313_inventory : Inventory
random_001313_inventory = record { hosts = (record { name = (codes "a"); variables = (field (codes "i1") (boolean false) (field (codes "i2") (int (pos 1)) (no_fields))) } ∷ record { name = (codes "b"); variables = (field (codes "i1") (boolean false) (field (codes "i2") (int (pos 1)) (no_fields))) } ∷ record { name = (codes "c"); variables = (field (codes "i1") (rec (field (codes "g") (rec (field (codes "f") (text (codes "t")) (field (codes "g") (int (pos 1)) (no_fields)))) (no_fields))) (field (codes "i2") (int (pos 1)) (no_fields))) } ∷ record { name = (codes "d"); variables = (field (codes "i1") (list (item (text (codes "x")) (item (text (codes "no")) (no_items)))) (field (codes "i2") (text ([])) (field (codes "s1") (list (no_items)) (no_fields)))) } ∷ []); groups = (record { name = (codes "all"); hosts = ((codes "a") ∷ (codes "b") ∷ (codes "c") ∷ (codes "d") ∷ []) } ∷ record { name = (codes "g1"); hosts = ((codes "c") ∷ (codes "d") ∷ (codes "a") ∷ (codes "b") ∷ []) } ∷ record { name = (codes "g2"); hosts = ((codes "a") ∷ (codes "b") ∷ (codes "c") ∷ []) } ∷ record { name = (codes "ungrouped"); hosts = ([]) } ∷ []) }

abbrev random_001313_registry : Registry
random_001313_registry = (builtins ++ (record { name = (codes "probe"); params = (record { name = (codes "n"); kind = ints; required = false } ∷ record { name = (codes "l"); kind = (lists texts 3); required = false } ∷ []); ok = recs (slot (codes "changed") true booleans (slot (codes "deep") false (recs (slot (codes "a") true texts (slot (codes "b") false booleans (no_slots)))) (slot (codes "rows") true (lists texts 2) (slot (codes "v") false ints (no_slots))))); failure = recs (slot (codes "changed") true booleans (slot (codes "msg") true texts (slot (codes "v") false texts (slot (codes "why") true ints (no_slots))))); free = None } ∷ record { name = (codes "odd"); params = ([]); ok = recs (slot (codes "changed") true booleans (slot (codes "msg") false ints (no_slots))); failure = recs (slot (codes "changed") true booleans (slot (codes "msg") true texts (no_slots))); free = None } ∷ []))

random_001313 : judged random_001313_registry random_001313_inventory random_001313_book ≡ accepted 5
random_001313 = refl

-- random_001317_run:
abbrev random_001317_run_book : Book
random_001317_run_book = (record { line = 1; pattern = ((codes "a") ∷ (codes "all") ∷ []); gathering = (Some 2); vars = (part (codes "v2") (list_of (expression (literal (boolean true)) (expression (literal (text (codes "a"))) (no_expressions)))) (no_parts)); is_linear = false; serial = ([]); pre_tasks = (no_steps); tasks = (block_step (record { line = 3; condition = (no_expressions); vars = (no_parts); ignore_errors = None }) (task_step (record { line = 4; work = (fail_work (part (codes "msg") (literal (text (codes "m"))) (no_parts))); condition = (no_expressions); loop = None; register = None; vars = (no_parts); notify = ([]); changed_when = None; failed_when = None; attempts = None; ignore_errors = None }) (task_step (record { line = 5; work = (assert_work (conditions_are (expression (defined (other item_host (codes "s3")) ([])) (no_expressions))) (no_parts)); condition = (expression (negation (defined (other (named_host (codes "b")) (codes "r2")) ([]))) (no_expressions)); loop = (Some (path_or (variable (codes "r1")) ((codes "results") ∷ []) (list_of (no_expressions)))); register = (Some (codes "r2")); vars = (no_parts); notify = ((codes "h0") ∷ []); changed_when = (Some (expression (literal (boolean true)) (no_expressions))); failed_when = None; attempts = None; ignore_errors = (Some false) }) (no_steps))) (block_step (record { line = 6; condition = (no_expressions); vars = (no_parts); ignore_errors = None }) (task_step (record { line = 7; work = (module_work (codes "command") (part (codes "cmd") (concatenation (expression (literal (text (codes "x x"))) (expression (path_or (variable (codes "ansible_hostname")) ([]) (literal (int (pos 1)))) (no_expressions)))) (no_parts))); condition = (no_expressions); loop = None; register = None; vars = (no_parts); notify = ([]); changed_when = None; failed_when = None; attempts = None; ignore_errors = None }) (task_step (record { line = 8; work = (debug_work (part (codes "msg") (path (variable (codes "ansible_hostname")) ([])) (no_parts))); condition = (no_expressions); loop = None; register = (Some (codes "r2")); vars = (no_parts); notify = ([]); changed_when = None; failed_when = None; attempts = None; ignore_errors = None }) (no_steps))) (task_step (record { line = 9; work = (module_work (codes "probe") (no_parts)); condition = (expression (defined (variable (codes "r2")) ([])) (expression (path_status is_failed (variable (codes "r2")) ([])) (no_expressions))); loop = (Some (path_or (variable (codes "r1")) ((codes "results") ∷ []) (list_of (no_expressions)))); register = (Some (codes "r3")); vars = (no_parts); notify = ([]); changed_when = None; failed_when = None; attempts = None; ignore_errors = None }) (task_step (record { line = 10; work = (module_work (codes "command") (part (codes "cmd") (literal (text (codes "x"))) (no_parts))); condition = (no_expressions); loop = None; register = (Some (codes "r3")); vars = (no_parts); notify = ([]); changed_when = None; failed_when = (Some (expression (comparison equal (path (variable (codes "r3")) ((codes "failed") ∷ [])) (literal (text (codes "a")))) (no_expressions))); attempts = None; ignore_errors = None }) (no_steps))) (task_step (record { line = 11; work = (assert_work (conditions_are (expression (literal (boolean true)) (no_expressions))) (no_parts)); condition = (no_expressions); loop = None; register = None; vars = (no_parts); notify = ((codes "h0") ∷ []); changed_when = (Some (expression (literal (boolean true)) (no_expressions))); failed_when = None; attempts = None; ignore_errors = None }) (task_step (record { line = 12; work = (module_work (codes "command") (part (codes "cmd") (literal (text (codes "x"))) (no_parts))); condition = (no_expressions); loop = None; register = (Some (codes "r1")); vars = (no_parts); notify = ([]); changed_when = None; failed_when = (Some (expression (path_status is_changed (variable (codes "r1")) ([])) (no_expressions))); attempts = None; ignore_errors = None }) (task_step (record { line = 13; work = (module_work (codes "stat") (part (codes "path") (literal (text (codes "/"))) (no_parts))); condition = (no_expressions); loop = None; register = (Some (codes "r3")); vars = (no_parts); notify = ([]); changed_when = None; failed_when = None; attempts = None; ignore_errors = (Some true) }) (no_steps)))) (no_steps)) (no_steps) (task_step (record { line = 14; work = (set_fact_work (part (codes "s2") (path_or (variable (codes "v2")) ((codes "stdout") ∷ []) (literal (text (codes "z")))) (no_parts))); condition = (no_expressions); loop = None; register = None; vars = (part (codes "v1") (path (variable (codes "i2")) ([])) (part (codes "v2") (path_or (variable (codes "r1")) ([]) (literal (int (pos 1)))) (no_parts))); notify = ([]); changed_when = None; failed_when = None; attempts = None; ignore_errors = None }) (task_step (record { line = 15; work = (set_fact_work (part (codes "s2") (literal (int (pos 1))) (no_parts))); condition = (no_expressions); loop = None; register = None; vars = (no_parts); notify = ([]); changed_when = None; failed_when = None; attempts = None; ignore_errors = (Some true) }) (no_steps)))); post_tasks = (task_step (record { line = 16; work = (module_work (codes "ping") (no_parts)); condition = (no_expressions); loop = None; register = (Some (codes "r3")); vars = (no_parts); notify = ((codes "t") ∷ []); changed_when = None; failed_when = (Some (expression (path_status is_changed (variable (codes "r3")) ([])) (no_expressions))); attempts = None; ignore_errors = None }) (no_steps)); handlers = (record { work = (record { line = 17; work = (module_work (codes "command") (part (codes "cmd") (literal (text (codes "x"))) (no_parts))); condition = (expression (negation (defined (other (named_host (codes "b")) (codes "r2")) ((codes "failed") ∷ []))) (no_expressions)); loop = None; register = None; vars = (no_parts); notify = ([]); changed_when = None; failed_when = None; attempts = None; ignore_errors = None }); name = (Some (codes "h0")); topics = ((codes "t") ∷ []) } ∷ record { work = (record { line = 18; work = (module_work (codes "stat") (part (codes "path") (literal (text (codes "/"))) (no_parts))); condition = (no_expressions); loop = None; register = (Some (codes "r3")); vars = (no_parts); notify = ([]); changed_when = None; failed_when = None; attempts = None; ignore_errors = None }); name = (Some (codes "h1")); topics = ([]) } ∷ []); forces = false } ∷ record { line = 19; pattern = ((codes "b") ∷ []); gathering = None; vars = (no_parts); is_linear = true; serial = (host_count 1 ∷ host_count 2 ∷ []); pre_tasks = (task_step (record { line = 20; work = (debug_work (part (codes "msg") (literal (boolean true)) (no_parts))); condition = (no_expressions); loop = (Some (path_or (variable (codes "r1")) ((codes "stdout_lines") ∷ []) (list_of (no_expressions)))); register = None; vars = (no_parts); notify = ([]); changed_when = (Some (expression (comparison equal (path (variable (codes "inventory_hostname")) ([])) (literal (text (codes "a")))) (no_expressions))); failed_when = None; attempts = None; ignore_errors = None }) (task_step (record { line = 21; work = (set_fact_work (part (codes "s3") (literal (int (pos 3))) (no_parts))); condition = (no_expressions); loop = None; register = None; vars = (part (codes "v1") (path_or (variable (codes "r1")) ((codes "stdout") ∷ []) (path (variable (codes "s1")) ([]))) (part (codes "v2") (path_or (variable (codes "r3")) ((codes "msg") ∷ []) (literal (text (codes "z")))) (part (codes "v3") (concatenation (expression (literal (text (codes "x"))) (expression (list_of (expression (path (variable (codes "r1")) ((codes "changed") ∷ [])) (expression (path (variable (codes "r1")) ((codes "changed") ∷ [])) (no_expressions)))) (no_expressions)))) (no_parts)))); notify = ([]); changed_when = None; failed_when = (Some (expression (literal (boolean true)) (no_expressions))); attempts = None; ignore_errors = None }) (task_step (record { line = 22; work = (module_work (codes "probe") (no_parts)); condition = (no_expressions); loop = None; register = (Some (codes "r2")); vars = (no_parts); notify = ([]); changed_when = None; failed_when = None; attempts = (Some (record { until = (expression (comparison equal (path (variable (codes "inventory_hostname")) ([])) (literal (text (codes "a")))) (no_expressions)); retries = 3 })); ignore_errors = (Some true) }) (task_step (record { line = 23; work = (module_work (codes "odd") (no_parts)); condition = (no_expressions); loop = None; register = None; vars = (part (codes "v3") (comparison equal (path (variable (codes "r3")) ((codes "changed") ∷ [])) (path (variable (codes "r3")) ((codes "stat") ∷ (codes "size") ∷ []))) (no_parts)); notify = ([]); changed_when = None; failed_when = None; attempts = (Some (record { until = (expression (literal (boolean true)) (no_expressions)); retries = 3 })); ignore_errors = None }) (no_steps))))); tasks = (task_step (record { line = 24; work = (set_fact_work (part (codes "s1") (literal (text (codes "t"))) (no_parts))); condition = (no_expressions); loop = None; register = (Some (codes "r3")); vars = (no_parts); notify = ([]); changed_when = None; failed_when = (Some (expression (path_status is_failed (variable (codes "r3")) ([])) (no_expressions))); attempts = None; ignore_errors = None }) (no_steps)); post_tasks = (task_step (record { line = 25; work = (module_work (codes "ping") (no_parts)); condition = (no_expressions); loop = (Some (path_or (variable (codes "r2")) ((codes "results") ∷ []) (list_of (no_expressions)))); register = (Some (codes "r2")); vars = (no_parts); notify = ([]); changed_when = None; failed_when = None; attempts = None; ignore_errors = None }) (task_step (record { line = 26; work = (module_work (codes "probe") (no_parts)); condition = (no_expressions); loop = None; register = (Some (codes "r1")); vars = (no_parts); notify = ([]); changed_when = (Some (expression (literal (boolean true)) (no_expressions))); failed_when = None; attempts = None; ignore_errors = (Some true) }) (task_step (record { line = 27; work = (module_work (codes "command") (part (codes "cmd") (literal (text (codes "x"))) (no_parts))); condition = (no_expressions); loop = None; register = None; vars = (no_parts); notify = ([]); changed_when = None; failed_when = None; attempts = None; ignore_errors = None }) (no_steps)))); handlers = ([]); forces = false } ∷ [])

abbrev random_001317_run_inventory : Inventory
random_001317_run_inventory = record { hosts = (record { name = (codes "a"); variables = (field (codes "i1") (list (item (int (pos 1)) (item (text ([])) (no_items)))) (field (codes "i2") (text (codes "no")) (field (codes "op") opaque (field (codes "s1") (int (pos 3)) (no_fields))))) } ∷ record { name = (codes "b"); variables = (field (codes "op") opaque (field (codes "s1") (int (pos 3)) (no_fields))) } ∷ record { name = (codes "c"); variables = (field (codes "i2") (text (codes "no")) (field (codes "op") opaque (field (codes "s1") (int (pos 3)) (no_fields)))) } ∷ []); groups = (record { name = (codes "all"); hosts = ((codes "a") ∷ (codes "b") ∷ (codes "c") ∷ []) } ∷ record { name = (codes "g1"); hosts = ((codes "a") ∷ (codes "c") ∷ []) } ∷ record { name = (codes "ungrouped"); hosts = ((codes "b") ∷ []) } ∷ []) }

abbrev random_001317_run_registry : Registry
random_001317_run_registry = (builtins ++ (record { name = (codes "probe"); params = (record { name = (codes "n"); kind = ints; required = false } ∷ record { name = (codes "l"); kind = (lists texts 3); required = false } ∷ []); ok = recs (slot (codes "changed") true booleans (slot (codes "deep") false (recs (slot (codes "a") true texts (slot (codes "b") false booleans (no_slots)))) (slot (codes "rows") true (lists texts 2) (slot (codes "v") false ints (no_slots))))); failure = recs (slot (codes "changed") true booleans (slot (codes "msg") true texts (slot (codes "v") false texts (slot (codes "why") true ints (no_slots))))); free = None } ∷ record { name = (codes "odd"); params = ([]); ok = recs (slot (codes "changed") true booleans (slot (codes "msg") false ints (no_slots))); failure = recs (slot (codes "changed") true booleans (slot (codes "msg") true texts (no_slots))); free = None } ∷ []))

random_001317_run : recaps_of random_001317_run_registry random_001317_run_inventory random_001317_run_book 1 ((object (rec (field (codes "ansible_facts") (rec (field (codes "ansible_distribution") (text (codes "b")) (field (codes "ansible_hostname") (text ([])) (field (codes "ansible_system") (text (codes "x")) (no_fields))))) (field (codes "changed") (boolean false) (no_fields)))) ∷ object (rec (field (codes "changed") (boolean true) (field (codes "rc") (int (pos 2)) (field (codes "stderr") (text (codes "a")) (field (codes "stderr_lines") (list (item (text (codes "c")) (no_items))) (field (codes "stdout") (text (codes "c")) (field (codes "stdout_lines") (list (item (text (codes "a")) (item (text (codes "c")) (item (text (codes "a")) (no_items))))) (no_fields)))))))) ∷ object (rec (field (codes "changed") (boolean true) (field (codes "rc") (int (negsuc 6)) (field (codes "stderr") (text (codes "x")) (field (codes "stderr_lines") (list (item (text (codes "a")) (no_items))) (field (codes "stdout") (text (codes "c")) (field (codes "stdout_lines") (list (item (text (codes "c")) (item (text (123 ∷ 123 ∷ 32 ∷ 120 ∷ 32 ∷ 125 ∷ 125 ∷ [])) (item (text (codes "x")) (no_items))))) (no_fields)))))))) ∷ []) ∷ (object (rec (field (codes "ansible_facts") (rec (field (codes "ansible_distribution") (text (codes "c")) (field (codes "ansible_hostname") (text (codes "c")) (field (codes "ansible_memtotal_mb") (int (pos 0)) (field (codes "ansible_os_family") (text ([])) (field (codes "ansible_processor_vcpus") (int (pos 2)) (field (codes "ansible_system") (text (codes "b")) (no_fields)))))))) (field (codes "changed") (boolean true) (no_fields)))) ∷ object (rec (field (codes "changed") (boolean true) (field (codes "rc") (int (negsuc 6)) (field (codes "stderr") (text (codes "c")) (field (codes "stderr_lines") (list (item (text (codes "c")) (item (text (codes "a")) (item (text (codes "a")) (no_items))))) (field (codes "stdout") (text (codes "x")) (field (codes "stdout_lines") (list (item (text (codes "b")) (item (text (123 ∷ 123 ∷ 32 ∷ 120 ∷ 32 ∷ 125 ∷ 125 ∷ [])) (no_items)))) (no_fields)))))))) ∷ object (rec (field (codes "changed") (boolean true) (field (codes "rc") (int (pos 0)) (field (codes "stderr") (text (codes "a")) (field (codes "stderr_lines") (list (item (text ([])) (no_items))) (field (codes "stdout") (text (123 ∷ 123 ∷ 32 ∷ 120 ∷ 32 ∷ 125 ∷ 125 ∷ [])) (field (codes "stdout_lines") (list (item (text (codes "a")) (item (text (codes "b")) (no_items)))) (no_fields)))))))) ∷ []) ∷ (object (rec (field (codes "ansible_facts") (rec (field (codes "ansible_hostname") (text (123 ∷ 123 ∷ 32 ∷ 120 ∷ 32 ∷ 125 ∷ 125 ∷ [])) (field (codes "ansible_processor_vcpus") (int (pos 1)) (field (codes "ansible_system") (text (codes "a")) (no_fields))))) (field (codes "changed") (boolean false) (no_fields)))) ∷ object (rec (field (codes "changed") (boolean true) (field (codes "extra") (rec (field (codes "a") (int (pos 1)) (no_fields))) (field (codes "rc") (int (negsuc 6)) (field (codes "stderr") (text (codes "a")) (field (codes "stderr_lines") (list (no_items)) (field (codes "stdout") (text (codes "x")) (field (codes "stdout_lines") (list (item (text (codes "b")) (item (text (123 ∷ 123 ∷ 32 ∷ 120 ∷ 32 ∷ 125 ∷ 125 ∷ [])) (item (text (123 ∷ 123 ∷ 32 ∷ 120 ∷ 32 ∷ 125 ∷ 125 ∷ [])) (no_items))))) (no_fields))))))))) ∷ object (rec (field (codes "changed") (boolean true) (field (codes "rc") (int (negsuc 6)) (field (codes "stderr") (text (123 ∷ 123 ∷ 32 ∷ 120 ∷ 32 ∷ 125 ∷ 125 ∷ [])) (field (codes "stderr_lines") (list (item (text (codes "a")) (item (text ([])) (item (text (codes "a")) (no_items))))) (field (codes "stdout") (text (codes "x")) (field (codes "stdout_lines") (list (item (text (codes "c")) (no_items))) (no_fields)))))))) ∷ []) ∷ []) ≡ (record { ok = 4; changed = 2; unreachable = 0; failed = 1; skipped = 0; rescued = 1; ignored = 0 } ∷ record { ok = 4; changed = 3; unreachable = 0; failed = 1; skipped = 0; rescued = 1; ignored = 0 } ∷ record { ok = 4; changed = 2; unreachable = 0; failed = 1; skipped = 0; rescued = 1; ignored = 0 } ∷ [])
unfolding digits
random_001317_run = refl

-- random_001322:
abbrev random_001322_book : Book
random_001322_book = (record { line = 1; pattern = ((codes "g") ∷ []); gathering = (Some 2); vars = (part (codes "v1") (path (other (named_host (codes "a")) (codes "r")) ((codes "rc") ∷ [])) (no_parts)); is_linear = false; serial = ([]); pre_tasks = (no_steps); tasks = (task_step (record { line = 3; work = (debug_work (part (codes "msg") (path (variable (codes "item")) ((codes "hostname") ∷ [])) (no_parts))); condition = (no_expressions); loop = (Some (path (variable (codes "groups")) ((codes "all") ∷ []))); register = None; vars = (no_parts); notify = ((codes "h0") ∷ []); changed_when = None; failed_when = None; attempts = None; ignore_errors = (Some true) }) (no_steps)); post_tasks = (no_steps); handlers = (record { work = (record { line = 4; work = (module_work (codes "command") (part (codes "cmd") (literal (text (codes "x"))) (no_parts))); condition = (no_expressions); loop = (Some (list_of (no_expressions))); register = None; vars = (no_parts); notify = ([]); changed_when = (Some (expression (literal (boolean false)) (no_expressions))); failed_when = (Some (expression (literal (boolean false)) (no_expressions))); attempts = None; ignore_errors = (Some true) }); name = (Some (codes "h0")); topics = ([]) } ∷ []); forces = true } ∷ [])

abbrev random_001322_inventory : Inventory
random_001322_inventory = record { hosts = (record { name = (codes "c"); variables = (field (codes "inv") (list (item (int (pos 1)) (item (int (pos 2)) (no_items)))) (no_fields)) } ∷ record { name = (codes "b"); variables = (field (codes "inv") (list (item (int (pos 1)) (item (int (pos 2)) (no_items)))) (field (codes "k") (rec (field (codes "z") opaque (no_fields))) (no_fields))) } ∷ record { name = (codes "a"); variables = (field (codes "inv") (list (item (text (codes "x")) (no_items))) (field (codes "opq") opaque (no_fields))) } ∷ []); groups = (record { name = (codes "all"); hosts = ((codes "c") ∷ (codes "b") ∷ (codes "a") ∷ []) } ∷ record { name = (codes "g"); hosts = ((codes "b") ∷ (codes "a") ∷ []) } ∷ record { name = (codes "ungrouped"); hosts = ((codes "c") ∷ []) } ∷ []) }

abbrev random_001322_registry : Registry
random_001322_registry = (builtins ++ ([]))

random_001322 : judged random_001322_registry random_001322_inventory random_001322_book ≡ refused (record { code = 4; line = 3; host = (Some (codes "b")) })
random_001322 = refl
