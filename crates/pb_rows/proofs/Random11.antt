-- Cases of random, computed.
use Rattle.std.specs.Prelude.{◌≡◌, refl, pos, negsuc, [], ◌∷◌, ◌++◌, true, false, Some, None, codes}
use Rattle.std.specs.Fmt.{digits}
use Rattle.pb_semantics.specs.Data.{null, boolean, int, text, list, rec, opaque, no_items, item, no_fields, field}
use Rattle.pb_semantics.specs.Kind.{booleans, ints, texts, lists, recs, no_slots, slot}
use Rattle.pb_language.specs.Expression.{equal, is_failed, is_changed, is_skipped, named_host, this_host, item_host, group_member, literal, path, negation, conjunction, disjunction, comparison, membership, in_batch, defined, path_status, path_or, length_of, concatenation, list_of, record_of, variable, other, no_expressions, expression, no_parts, part}
use Rattle.pb_language.specs.Book.{conditions_are, module_work, debug_work, set_fact_work, assert_work, fail_work, no_steps, task_step, block_step, flush_step, host_count, percentage, Book, Registry}
use Rattle.pb_language.specs.Builtins.{builtins}
use Rattle.pb_language.specs.Give.{object}
use Rattle.pb_language.specs.Judged.{judged}
use Rattle.pb_language.specs.Program.{Inventory}
use Rattle.pb_language.specs.Verdict.{accepted, refused}
use Rattle.pb_rows.specs.Recaps.{recaps_of}

-- random_002317:
abbrev random_002317_book : Book
random_002317_book = (record { line = 1; pattern = ((codes "all") ∷ []); gathering = None; vars = (no_parts); is_linear = true; serial = ([]); pre_tasks = (no_steps); tasks = (task_step (record { line = 2; work = (module_work (codes "command") (part (codes "cmd") (literal (text (codes "x"))) (no_parts))); condition = (no_expressions); loop = None; register = (Some (codes "r2")); vars = (no_parts); notify = ((codes "h0") ∷ []); changed_when = None; failed_when = (Some (expression (path_status is_changed (variable (codes "r2")) ([])) (no_expressions))); attempts = (Some (record { until = (expression (path_status is_failed (variable (codes "r2")) ([])) (no_expressions)); retries = 3 })); ignore_errors = None }) (block_step (record { line = 3; condition = (no_expressions); vars = (no_parts); ignore_errors = None }) (task_step (record { line = 4; work = (module_work (codes "stat") (part (codes "path") (literal (text (codes "/"))) (no_parts))); condition = (no_expressions); loop = None; register = None; vars = (no_parts); notify = ([]); changed_when = (Some (expression (comparison equal (path (variable (codes "inventory_hostname")) ([])) (literal (text (codes "a")))) (no_expressions))); failed_when = None; attempts = None; ignore_errors = None }) (task_step (record { line = 5; work = (module_work (codes "command") (part (codes "cmd") (literal (text (codes "x"))) (no_parts))); condition = (no_expressions); loop = None; register = None; vars = (no_parts); notify = ([]); changed_when = None; failed_when = None; attempts = None; ignore_errors = None }) (no_steps))) (task_step (record { line = 6; work = (module_work (codes "ping") (no_parts)); condition = (no_expressions); loop = None; register = (Some (codes "r1")); vars = (no_parts); notify = ((codes "t") ∷ []); changed_when = None; failed_when = None; attempts = None; ignore_errors = None }) (task_step (record { line = 7; work = (assert_work (conditions_are (expression (negation (comparison equal (path (other (named_host (codes "b")) (codes "r2")) ((codes "rc") ∷ [])) (literal (int (pos 1))))) (no_expressions))) (no_parts)); condition = (no_expressions); loop = None; register = None; vars = (no_parts); notify = ([]); changed_when = None; failed_when = None; attempts = None; ignore_errors = (Some true) }) (no_steps))) (no_steps) (block_step (record { line = 8; condition = (no_expressions); vars = (no_parts); ignore_errors = None }) (task_step (record { line = 9; work = (set_fact_work (part (codes "s2") (concatenation (expression (literal (text (codes "x"))) (expression (path_or (variable (codes "r1")) ((codes "skip_reason") ∷ []) (list_of (no_expressions))) (no_expressions)))) (no_parts))); condition = (no_expressions); loop = None; register = (Some (codes "r3")); vars = (no_parts); notify = ([]); changed_when = None; failed_when = None; attempts = None; ignore_errors = (Some true) }) (task_step (record { line = 10; work = (debug_work (part (codes "msg") (path (variable (codes "r2")) ((codes "rc") ∷ [])) (no_parts))); condition = (expression (defined (variable (codes "r2")) ([])) (expression (defined (variable (codes "r2")) ((codes "rc") ∷ [])) (no_expressions))); loop = None; register = None; vars = (part (codes "v1") (path (variable (codes "r1")) ((codes "failed") ∷ [])) (part (codes "v2") (concatenation (expression (literal (text (codes "x"))) (expression (path (variable (codes "r2")) ((codes "changed") ∷ [])) (no_expressions)))) (no_parts))); notify = ([]); changed_when = None; failed_when = None; attempts = None; ignore_errors = (Some true) }) (no_steps))) (no_steps) (task_step (record { line = 11; work = (debug_work (part (codes "msg") (comparison equal (path (variable (codes "group_names")) ([])) (path (variable (codes "i1")) ([]))) (no_parts))); condition = (expression (comparison equal (path (variable (codes "s2")) ([])) (literal (boolean true))) (no_expressions)); loop = None; register = (Some (codes "r2")); vars = (no_parts); notify = ([]); changed_when = None; failed_when = None; attempts = None; ignore_errors = None }) (task_step (record { line = 12; work = (module_work (codes "command") (part (codes "cmd") (literal (text (codes "x"))) (no_parts))); condition = (expression (in_batch (named_host (codes "d"))) (no_expressions)); loop = None; register = None; vars = (no_parts); notify = ([]); changed_when = None; failed_when = None; attempts = None; ignore_errors = None }) (no_steps))) (no_steps)))); post_tasks = (no_steps); handlers = (record { work = (record { line = 13; work = (module_work (codes "command") (part (codes "cmd") (concatenation (expression (literal (text (codes "x "))) (expression (path_or (variable (codes "r1")) ((codes "failed") ∷ []) (path (variable (codes "s1")) ([]))) (no_expressions)))) (no_parts))); condition = (no_expressions); loop = None; register = None; vars = (no_parts); notify = ([]); changed_when = None; failed_when = None; attempts = None; ignore_errors = None }); name = (Some (codes "h0")); topics = ((codes "t") ∷ []) } ∷ record { work = (record { line = 14; work = (debug_work (part (codes "msg") (path (other this_host (codes "op")) ([])) (no_parts))); condition = (expression (in_batch this_host) (no_expressions)); loop = None; register = (Some (codes "r1")); vars = (no_parts); notify = ([]); changed_when = (Some (expression (conjunction (expression (defined (variable (codes "r1")) ((codes "changed") ∷ [])) (expression (comparison equal (path (variable (codes "r1")) ((codes "changed") ∷ [])) (literal (text (codes "a")))) (no_expressions)))) (no_expressions))); failed_when = None; attempts = None; ignore_errors = None }); name = (Some (codes "h1")); topics = ((codes "t") ∷ []) } ∷ []); forces = false } ∷ [])

abbrev random_002317_inventory : Inventory
random_002317_inventory = record { hosts = (record { name = (codes "a"); variables = (field (codes "i1") (int (pos 2)) (field (codes "op") opaque (no_fields))) } ∷ record { name = (codes "b"); variables = (field (codes "i1") (int (pos 2)) (field (codes "i2") (int (negsuc 0)) (field (codes "op") opaque (no_fields)))) } ∷ record { name = (codes "c"); variables = (field (codes "i1") (list (item (text (codes "a")) (item (int (pos 1)) (no_items)))) (field (codes "op") opaque (no_fields))) } ∷ record { name = (codes "d"); variables = (field (codes "i1") (int (pos 0)) (field (codes "op") opaque (no_fields))) } ∷ []); groups = (record { name = (codes "all"); hosts = ((codes "a") ∷ (codes "b") ∷ (codes "c") ∷ (codes "d") ∷ []) } ∷ record { name = (codes "g1"); hosts = ((codes "b") ∷ (codes "c") ∷ (codes "a") ∷ (codes "d") ∷ []) } ∷ record { name = (codes "g2"); hosts = ((codes "a") ∷ (codes "d") ∷ []) } ∷ record { name = (codes "ungrouped"); hosts = ([]) } ∷ []) }

abbrev random_002317_registry : Registry
random_002317_registry = (builtins ++ (record { name = (codes "probe"); params = (record { name = (codes "n"); kind = ints; required = false } ∷ record { name = (codes "l"); kind = (lists texts 3); required = false } ∷ []); ok = recs (slot (codes "changed") true booleans (slot (codes "deep") false (recs (slot (codes "a") true texts (slot (codes "b") false booleans (no_slots)))) (slot (codes "rows") true (lists texts 2) (slot (codes "v") false ints (no_slots))))); failure = recs (slot (codes "changed") true booleans (slot (codes "msg") true texts (slot (codes "v") false texts (slot (codes "why") true ints (no_slots))))); free = None } ∷ record { name = (codes "odd"); params = ([]); ok = recs (slot (codes "changed") true booleans (slot (codes "msg") false ints (no_slots))); failure = recs (slot (codes "changed") true booleans (slot (codes "msg") true texts (no_slots))); free = None } ∷ []))

random_002317 : judged random_002317_registry random_002317_inventory random_002317_book ≡ refused (record { code = 2; line = 7; host = (Some (codes "a")) })
random_002317 = refl

-- random_002318:
abbrev random_002318_book : Book
random_002318_book = (record { line = 1; pattern = ((codes "g") ∷ []); gathering = None; vars = (no_parts); is_linear = false; serial = (percentage 50 ∷ []); pre_tasks = (no_steps); tasks = (task_step (record { line = 2; work = (module_work (codes "ping") (no_parts)); condition = (no_expressions); loop = None; register = None; vars = (part (codes "v1") (path (variable (codes "ansible_facts")) ((codes "k") ∷ [])) (no_parts)); notify = ([]); changed_when = None; failed_when = None; attempts = None; ignore_errors = None }) (no_steps)); post_tasks = (no_steps); handlers = ([]); forces = false } ∷ [])

abbrev random_002318_inventory : Inventory
random_002318_inventory = record { hosts = (record { name = (codes "c"); variables = (field (codes "inv") (list (item (int (pos 1)) (item (int (pos 2)) (no_items)))) (no_fields)) } ∷ record { name = (codes "b"); variables = (field (codes "inv") (list (item (int (pos 1)) (item (int (pos 2)) (no_items)))) (field (codes "k") (rec (field (codes "z") opaque (no_fields))) (no_fields))) } ∷ record { name = (codes "a"); variables = (field (codes "inv") (list (item (text (codes "x")) (no_items))) (field (codes "opq") opaque (no_fields))) } ∷ []); groups = (record { name = (codes "all"); hosts = ((codes "c") ∷ (codes "b") ∷ (codes "a") ∷ []) } ∷ record { name = (codes "g"); hosts = ((codes "b") ∷ (codes "a") ∷ []) } ∷ record { name = (codes "ungrouped"); hosts = ((codes "c") ∷ []) } ∷ []) }

abbrev random_002318_registry : Registry
random_002318_registry = (builtins ++ ([]))

random_002318 : judged random_002318_registry random_002318_inventory random_002318_book ≡ accepted 2
random_002318 = refl

-- random_002319_run:
abbrev random_002319_run_book : Book
random_002319_run_book = (record { line = 1; pattern = ((codes "all") ∷ []); gathering = None; vars = (no_parts); is_linear = false; serial = ([]); pre_tasks = (no_steps); tasks = (block_step (record { line = 2; condition = (no_expressions); vars = (no_parts); ignore_errors = None }) (task_step (record { line = 3; work = (set_fact_work (part (codes "s1") (path (variable (codes "ansible_play_batch")) ([])) (no_parts))); condition = (no_expressions); loop = None; register = (Some (codes "r3")); vars = (no_parts); notify = ([]); changed_when = None; failed_when = None; attempts = None; ignore_errors = None }) (task_step (record { line = 4; work = (module_work (codes "odd") (no_parts)); condition = (no_expressions); loop = None; register = None; vars = (no_parts); notify = ((codes "h0") ∷ []); changed_when = None; failed_when = None; attempts = None; ignore_errors = None }) (block_step (record { line = 5; condition = (no_expressions); vars = (no_parts); ignore_errors = None }) (task_step (record { line = 6; work = (set_fact_work (part (codes "s1") (record_of (part (codes "f") (literal (text (codes "t"))) (part (codes "rc") (literal (int (pos 1))) (no_parts)))) (part (codes "s3") (list_of (no_expressions)) (no_parts)))); condition = (no_expressions); loop = None; register = None; vars = (no_parts); notify = ([]); changed_when = None; failed_when = None; attempts = None; ignore_errors = None }) (task_step (record { line = 7; work = (module_work (codes "probe") (no_parts)); condition = (no_expressions); loop = None; register = (Some (codes "r3")); vars = (no_parts); notify = ([]); changed_when = None; failed_when = None; attempts = (Some (record { until = (expression (conjunction (expression (defined (variable (codes "r3")) ((codes "deep") ∷ (codes "b") ∷ [])) (expression (comparison equal (path (variable (codes "r3")) ((codes "deep") ∷ (codes "b") ∷ [])) (literal (text (codes "a")))) (no_expressions)))) (no_expressions)); retries = 3 })); ignore_errors = None }) (task_step (record { line = 8; work = (debug_work (part (codes "msg") (list_of (expression (literal (int (pos 1))) (expression (literal (int (pos 2))) (no_expressions)))) (no_parts))); condition = (expression (in_batch (named_host (codes "a"))) (no_expressions)); loop = None; register = None; vars = (no_parts); notify = ((codes "h0") ∷ []); changed_when = (Some (expression (literal (boolean true)) (no_expressions))); failed_when = (Some (expression (literal (boolean false)) (no_expressions))); attempts = None; ignore_errors = (Some true) }) (no_steps)))) (no_steps) (task_step (record { line = 9; work = (module_work (codes "ping") (no_parts)); condition = (no_expressions); loop = None; register = (Some (codes "r2")); vars = (no_parts); notify = ([]); changed_when = None; failed_when = None; attempts = None; ignore_errors = None }) (block_step (record { line = 10; condition = (no_expressions); vars = (no_parts); ignore_errors = None }) (task_step (record { line = 11; work = (fail_work (part (codes "msg") (literal (text (codes "m"))) (no_parts))); condition = (no_expressions); loop = (Some (list_of (expression (list_of (no_expressions)) (expression (list_of (no_expressions)) (expression (literal (text (codes "b"))) (no_expressions)))))); register = (Some (codes "r1")); vars = (no_parts); notify = ([]); changed_when = None; failed_when = None; attempts = None; ignore_errors = (Some true) }) (no_steps)) (no_steps) (no_steps) (no_steps))) (no_steps)))) (task_step (record { line = 12; work = (fail_work (part (codes "msg") (literal (text (codes "m"))) (no_parts))); condition = (no_expressions); loop = None; register = (Some (codes "r2")); vars = (no_parts); notify = ((codes "h2") ∷ []); changed_when = (Some (expression (literal (boolean true)) (no_expressions))); failed_when = None; attempts = None; ignore_errors = None }) (no_steps)) (no_steps) (no_steps)); post_tasks = (task_step (record { line = 13; work = (module_work (codes "ping") (no_parts)); condition = (no_expressions); loop = None; register = (Some (codes "r2")); vars = (no_parts); notify = ((codes "h0") ∷ []); changed_when = (Some (expression (literal (boolean false)) (no_expressions))); failed_when = (Some (expression (comparison equal (path_or (variable (codes "r2")) ((codes "changed") ∷ []) (literal (boolean true))) (literal (boolean true))) (no_expressions))); attempts = None; ignore_errors = None }) (task_step (record { line = 14; work = (set_fact_work (part (codes "s1") (literal (int (pos 1))) (no_parts))); condition = (no_expressions); loop = None; register = (Some (codes "r2")); vars = (no_parts); notify = ([]); changed_when = None; failed_when = None; attempts = None; ignore_errors = None }) (block_step (record { line = 15; condition = (no_expressions); vars = (no_parts); ignore_errors = None }) (task_step (record { line = 16; work = (module_work (codes "stat") (part (codes "path") (literal (text (codes "/"))) (no_parts))); condition = (expression (defined (variable (codes "r1")) ((codes "changed") ∷ [])) (no_expressions)); loop = None; register = (Some (codes "r3")); vars = (no_parts); notify = ([]); changed_when = None; failed_when = (Some (expression (conjunction (expression (defined (variable (codes "r3")) ((codes "changed") ∷ [])) (expression (comparison equal (path (variable (codes "r3")) ((codes "changed") ∷ [])) (literal (text (codes "a")))) (no_expressions)))) (no_expressions))); attempts = (Some (record { until = (expression (literal (boolean true)) (no_expressions)); retries = 1 })); ignore_errors = None }) (no_steps)) (no_steps) (task_step (record { line = 17; work = (debug_work (part (codes "msg") (literal (text (codes "x"))) (no_parts))); condition = (no_expressions); loop = None; register = (Some (codes "r3")); vars = (no_parts); notify = ([]); changed_when = None; failed_when = None; attempts = None; ignore_errors = (Some false) }) (no_steps)) (task_step (record { line = 18; work = (module_work (codes "command") (part (codes "cmd") (concatenation (expression (literal (text (codes "x "))) (expression (literal (boolean true)) (no_expressions)))) (no_parts))); condition = (no_expressions); loop = None; register = None; vars = (no_parts); notify = ([]); changed_when = None; failed_when = None; attempts = None; ignore_errors = (Some false) }) (no_steps))))); handlers = (record { work = (record { line = 19; work = (module_work (codes "command") (part (codes "cmd") (literal (text (codes "x"))) (no_parts))); condition = (no_expressions); loop = None; register = (Some (codes "r1")); vars = (no_parts); notify = ([]); changed_when = None; failed_when = None; attempts = None; ignore_errors = None }); name = (Some (codes "h0")); topics = ([]) } ∷ record { work = (record { line = 20; work = (module_work (codes "ping") (no_parts)); condition = (no_expressions); loop = None; register = (Some (codes "r3")); vars = (no_parts); notify = ([]); changed_when = None; failed_when = None; attempts = None; ignore_errors = None }); name = (Some (codes "h1")); topics = ((codes "t") ∷ []) } ∷ record { work = (record { line = 21; work = (module_work (codes "probe") (no_parts)); condition = (expression (negation (path_status is_changed (variable (codes "r2")) ([]))) (no_expressions)); loop = None; register = (Some (codes "r1")); vars = (no_parts); notify = ([]); changed_when = None; failed_when = None; attempts = None; ignore_errors = None }); name = (Some (codes "h2")); topics = ((codes "t") ∷ []) } ∷ []); forces = false } ∷ [])

abbrev random_002319_run_inventory : Inventory
random_002319_run_inventory = record { hosts = (record { name = (codes "a"); variables = (field (codes "i2") (list (no_items)) (field (codes "op") opaque (field (codes "s1") (boolean true) (no_fields)))) } ∷ []); groups = (record { name = (codes "all"); hosts = ((codes "a") ∷ []) } ∷ record { name = (codes "g2"); hosts = ((codes "a") ∷ []) } ∷ record { name = (codes "ungrouped"); hosts = ([]) } ∷ []) }

abbrev random_002319_run_registry : Registry
random_002319_run_registry = (builtins ++ (record { name = (codes "probe"); params = (record { name = (codes "n"); kind = ints; required = false } ∷ record { name = (codes "l"); kind = (lists texts 3); required = false } ∷ []); ok = recs (slot (codes "changed") true booleans (slot (codes "deep") false (recs (slot (codes "a") true texts (slot (codes "b") false booleans (no_slots)))) (slot (codes "rows") true (lists texts 2) (slot (codes "v") false ints (no_slots))))); failure = recs (slot (codes "changed") true booleans (slot (codes "msg") true texts (slot (codes "v") false texts (slot (codes "why") true ints (no_slots))))); free = None } ∷ record { name = (codes "odd"); params = ([]); ok = recs (slot (codes "changed") true booleans (slot (codes "msg") false ints (no_slots))); failure = recs (slot (codes "changed") true booleans (slot (codes "msg") true texts (no_slots))); free = None } ∷ []))

random_002319_run : recaps_of random_002319_run_registry random_002319_run_inventory random_002319_run_book 1 ((object (rec (field (codes "changed") (boolean true) (field (codes "failed") (boolean true) (field (codes "msg") (text (codes "a")) (no_fields))))) ∷ []) ∷ []) ≡ (record { ok = 1; changed = 0; unreachable = 0; failed = 1; skipped = 0; rescued = 1; ignored = 0 } ∷ [])
unfolding digits
random_002319_run = refl

-- random_002323_run:
abbrev random_002323_run_book : Book
random_002323_run_book = (record { line = 1; pattern = ((codes "all") ∷ []); gathering = None; vars = (no_parts); is_linear = true; serial = (host_count 2 ∷ []); pre_tasks = (no_steps); tasks = (task_step (record { line = 2; work = (module_work (codes "command") (part (codes "cmd") (literal (text (codes "x"))) (no_parts))); condition = (no_expressions); loop = None; register = None; vars = (no_parts); notify = ((codes "h0") ∷ []); changed_when = (Some (expression (literal (boolean true)) (no_expressions))); failed_when = (Some (expression (literal (boolean true)) (no_expressions))); attempts = None; ignore_errors = None }) (task_step (record { line = 3; work = (debug_work (part (codes "msg") (path (variable (codes "r3")) ((codes "failed") ∷ [])) (no_parts))); condition = (expression (defined (variable (codes "r3")) ([])) (expression (path_status is_failed (variable (codes "r3")) ([])) (no_expressions))); loop = None; register = None; vars = (no_parts); notify = ((codes "h0") ∷ []); changed_when = (Some (expression (literal (boolean true)) (no_expressions))); failed_when = None; attempts = None; ignore_errors = None }) (no_steps))); post_tasks = (no_steps); handlers = (record { work = (record { line = 4; work = (module_work (codes "setup") (no_parts)); condition = (no_expressions); loop = None; register = (Some (codes "r2")); vars = (no_parts); notify = ([]); changed_when = None; failed_when = None; attempts = None; ignore_errors = None }); name = (Some (codes "h0")); topics = ((codes "t") ∷ []) } ∷ record { work = (record { line = 5; work = (debug_work (part (codes "msg") (literal (text (codes "x"))) (no_parts))); condition = (no_expressions); loop = None; register = (Some (codes "r3")); vars = (no_parts); notify = ([]); changed_when = None; failed_when = None; attempts = None; ignore_errors = (Some true) }); name = (Some (codes "h1")); topics = ((codes "t") ∷ []) } ∷ record { work = (record { line = 6; work = (module_work (codes "odd") (no_parts)); condition = (no_expressions); loop = None; register = None; vars = (no_parts); notify = ([]); changed_when = None; failed_when = (Some (expression (comparison equal (path (variable (codes "inventory_hostname")) ([])) (literal (text (codes "a")))) (no_expressions))); attempts = None; ignore_errors = None }); name = (Some (codes "h2")); topics = ((codes "t") ∷ []) } ∷ []); forces = true } ∷ record { line = 7; pattern = ((codes "g1") ∷ []); gathering = (Some 8); vars = (no_parts); is_linear = false; serial = ([]); pre_tasks = (no_steps); tasks = (task_step (record { line = 9; work = (module_work (codes "command") (part (codes "cmd") (literal (text (codes "x"))) (no_parts))); condition = (no_expressions); loop = None; register = None; vars = (part (codes "v2") (path_or (variable (codes "r1")) ((codes "changed") ∷ []) (list_of (no_expressions))) (part (codes "v3") (list_of (expression (path (other (named_host (codes "c")) (codes "s1")) ([])) (expression (literal (int (pos 1))) (no_expressions)))) (no_parts))); notify = ([]); changed_when = None; failed_when = None; attempts = None; ignore_errors = None }) (no_steps)); post_tasks = (no_steps); handlers = (record { work = (record { line = 10; work = (module_work (codes "ping") (no_parts)); condition = (no_expressions); loop = None; register = None; vars = (no_parts); notify = ([]); changed_when = None; failed_when = None; attempts = None; ignore_errors = None }); name = (Some (codes "h0")); topics = ((codes "t") ∷ []) } ∷ []); forces = false } ∷ record { line = 11; pattern = ((codes "b") ∷ (codes "all") ∷ []); gathering = None; vars = (no_parts); is_linear = true; serial = (percentage 50 ∷ []); pre_tasks = (task_step (record { line = 12; work = (set_fact_work (part (codes "s2") (literal (int (pos 1))) (no_parts))); condition = (expression (membership (literal (text (codes "g2"))) (path (variable (codes "group_names")) ([]))) (no_expressions)); loop = (Some (list_of (expression (literal (int (pos 1))) (expression (literal (int (pos 1))) (no_expressions))))); register = (Some (codes "r3")); vars = (no_parts); notify = ([]); changed_when = None; failed_when = None; attempts = None; ignore_errors = (Some true) }) (no_steps)); tasks = (task_step (record { line = 13; work = (module_work (codes "ping") (no_parts)); condition = (expression (negation (path_status is_failed (variable (codes "r3")) ([]))) (no_expressions)); loop = (Some (path_or (variable (codes "r1")) ((codes "stdout_lines") ∷ []) (list_of (no_expressions)))); register = (Some (codes "r1")); vars = (no_parts); notify = ([]); changed_when = None; failed_when = None; attempts = None; ignore_errors = None }) (task_step (record { line = 14; work = (set_fact_work (part (codes "s1") (record_of (part (codes "f") (literal (int (pos 1))) (part (codes "g") (list_of (no_expressions)) (no_parts)))) (part (codes "s3") (path (variable (codes "inventory_hostname")) ([])) (no_parts)))); condition = (no_expressions); loop = None; register = None; vars = (part (codes "v3") (path (other (named_host (codes "c")) (codes "r2")) ([])) (no_parts)); notify = ([]); changed_when = None; failed_when = None; attempts = None; ignore_errors = None }) (task_step (record { line = 15; work = (debug_work (part (codes "msg") (literal (text (codes "x"))) (no_parts))); condition = (no_expressions); loop = None; register = None; vars = (no_parts); notify = ([]); changed_when = None; failed_when = None; attempts = None; ignore_errors = (Some true) }) (no_steps)))); post_tasks = (task_step (record { line = 16; work = (module_work (codes "ping") (no_parts)); condition = (no_expressions); loop = None; register = (Some (codes "r1")); vars = (no_parts); notify = ([]); changed_when = None; failed_when = None; attempts = None; ignore_errors = None }) (no_steps)); handlers = ([]); forces = true } ∷ [])

abbrev random_002323_run_inventory : Inventory
random_002323_run_inventory = record { hosts = (record { name = (codes "a"); variables = (field (codes "i1") (text (codes "no")) (field (codes "i2") (text (codes "no")) (no_fields))) } ∷ record { name = (codes "b"); variables = (field (codes "i1") (text (codes "no")) (field (codes "i2") (text ([])) (field (codes "s1") (int (pos 2)) (no_fields)))) } ∷ record { name = (codes "c"); variables = (field (codes "i1") (text (codes "no")) (field (codes "i2") (text ([])) (field (codes "op") opaque (field (codes "s1") (list (item (text (codes "t")) (no_items))) (no_fields))))) } ∷ record { name = (codes "d"); variables = (field (codes "i1") (text (codes "no")) (field (codes "i2") (text ([])) (field (codes "s1") (text (codes "x")) (no_fields)))) } ∷ []); groups = (record { name = (codes "all"); hosts = ((codes "a") ∷ (codes "b") ∷ (codes "c") ∷ (codes "d") ∷ []) } ∷ record { name = (codes "g1"); hosts = ((codes "c") ∷ []) } ∷ record { name = (codes "g2"); hosts = ((codes "a") ∷ (codes "b") ∷ (codes "c") ∷ []) } ∷ record { name = (codes "ungrouped"); hosts = ((codes "d") ∷ []) } ∷ []) }

abbrev random_002323_run_registry : Registry
random_002323_run_registry = (builtins ++ (record { name = (codes "probe"); params = (record { name = (codes "n"); kind = ints; required = false } ∷ record { name = (codes "l"); kind = (lists texts 3); required = false } ∷ []); ok = recs (slot (codes "changed") true booleans (slot (codes "deep") false (recs (slot (codes "a") true texts (slot (codes "b") false booleans (no_slots)))) (slot (codes "rows") true (lists texts 2) (slot (codes "v") false ints (no_slots))))); failure = recs (slot (codes "changed") true booleans (slot (codes "msg") true texts (slot (codes "v") false texts (slot (codes "why") true ints (no_slots))))); free = None } ∷ record { name = (codes "odd"); params = ([]); ok = recs (slot (codes "changed") true booleans (slot (codes "msg") false ints (no_slots))); failure = recs (slot (codes "changed") true booleans (slot (codes "msg") true texts (no_slots))); free = None } ∷ []))

random_002323_run : recaps_of random_002323_run_registry random_002323_run_inventory random_002323_run_book 1 ((object (rec (field (codes "changed") (boolean false) (field (codes "rc") (int (pos 1)) (field (codes "stderr") (text (codes "c")) (field (codes "stderr_lines") (list (item (text (codes "a")) (item (text (codes "a")) (no_items)))) (field (codes "stdout") (text (codes "b")) (field (codes "stdout_lines") (list (item (text (123 ∷ 123 ∷ 32 ∷ 120 ∷ 32 ∷ 125 ∷ 125 ∷ [])) (no_items))) (no_fields)))))))) ∷ []) ∷ (object (rec (no_fields)) ∷ []) ∷ ([]) ∷ ([]) ∷ []) ≡ (record { ok = 0; changed = 0; unreachable = 0; failed = 1; skipped = 0; rescued = 0; ignored = 0 } ∷ record { ok = 0; changed = 0; unreachable = 0; failed = 1; skipped = 0; rescued = 0; ignored = 0 } ∷ record { ok = 0; changed = 0; unreachable = 0; failed = 0; skipped = 0; rescued = 0; ignored = 0 } ∷ record { ok = 0; changed = 0; unreachable = 0; failed = 0; skipped = 0; rescued = 0; ignored = 0 } ∷ [])
unfolding digits
random_002323_run = refl

-- random_002345_run:
abbrev random_002345_run_book : Book
random_002345_run_book = (record { line = 1; pattern = ((codes "all") ∷ []); gathering = None; vars = (no_parts); is_linear = true; serial = (host_count 1 ∷ host_count 2 ∷ []); pre_tasks = (no_steps); tasks = (task_step (record { line = 2; work = (module_work (codes "ping") (no_parts)); condition = (expression (conjunction (expression (defined (other (named_host (codes "d")) (codes "r2")) ([])) (expression (defined (other (named_host (codes "d")) (codes "r2")) ((codes "changed") ∷ [])) (expression (negation (comparison equal (path (other (named_host (codes "d")) (codes "r2")) ((codes "changed") ∷ [])) (literal (text (codes "x"))))) (no_expressions))))) (no_expressions)); loop = None; register = (Some (codes "r2")); vars = (no_parts); notify = ([]); changed_when = (Some (expression (path_status is_changed (variable (codes "r2")) ([])) (no_expressions))); failed_when = None; attempts = (Some (record { until = (expression (comparison equal (path (variable (codes "r2")) ((codes "failed") ∷ [])) (literal (int (pos 1)))) (no_expressions)); retries = 1 })); ignore_errors = None }) (task_step (record { line = 3; work = (module_work (codes "ping") (no_parts)); condition = (no_expressions); loop = None; register = None; vars = (no_parts); notify = ([]); changed_when = None; failed_when = None; attempts = None; ignore_errors = None }) (no_steps))); post_tasks = (no_steps); handlers = ([]); forces = true } ∷ [])

abbrev random_002345_run_inventory : Inventory
random_002345_run_inventory = record { hosts = (record { name = (codes "a"); variables = (field (codes "i1") (text (codes "t")) (field (codes "i2") (int (pos 1)) (field (codes "op") opaque (field (codes "s1") (list (item (boolean true) (item (text (codes "no")) (no_items)))) (no_fields))))) } ∷ record { name = (codes "b"); variables = (field (codes "i1") (text (codes "t")) (field (codes "i2") (text (codes "t")) (field (codes "s1") (list (item (boolean true) (item (text (codes "no")) (no_items)))) (no_fields)))) } ∷ record { name = (codes "c"); variables = (field (codes "i1") (text (codes "t")) (field (codes "s1") (list (item (boolean true) (item (text (codes "no")) (no_items)))) (no_fields))) } ∷ record { name = (codes "d"); variables = (field (codes "i1") (text ([])) (field (codes "op") opaque (field (codes "s1") (list (item (boolean true) (item (text (codes "no")) (no_items)))) (no_fields)))) } ∷ []); groups = (record { name = (codes "all"); hosts = ((codes "a") ∷ (codes "b") ∷ (codes "c") ∷ (codes "d") ∷ []) } ∷ record { name = (codes "g1"); hosts = ((codes "a") ∷ (codes "b") ∷ (codes "d") ∷ []) } ∷ record { name = (codes "g2"); hosts = ((codes "a") ∷ (codes "d") ∷ []) } ∷ record { name = (codes "ungrouped"); hosts = ((codes "c") ∷ []) } ∷ []) }

abbrev random_002345_run_registry : Registry
random_002345_run_registry = (builtins ++ (record { name = (codes "probe"); params = (record { name = (codes "n"); kind = ints; required = false } ∷ record { name = (codes "l"); kind = (lists texts 3); required = false } ∷ []); ok = recs (slot (codes "changed") true booleans (slot (codes "deep") false (recs (slot (codes "a") true texts (slot (codes "b") false booleans (no_slots)))) (slot (codes "rows") true (lists texts 2) (slot (codes "v") false ints (no_slots))))); failure = recs (slot (codes "changed") true booleans (slot (codes "msg") true texts (slot (codes "v") false texts (slot (codes "why") true ints (no_slots))))); free = None } ∷ record { name = (codes "odd"); params = ([]); ok = recs (slot (codes "changed") true booleans (slot (codes "msg") false ints (no_slots))); failure = recs (slot (codes "changed") true booleans (slot (codes "msg") true texts (no_slots))); free = None } ∷ []))

random_002345_run : recaps_of random_002345_run_registry random_002345_run_inventory random_002345_run_book 1 ((object (rec (field (codes "changed") (boolean true) (field (codes "failed") (boolean true) (field (codes "msg") (text (codes "c")) (no_fields))))) ∷ []) ∷ ([]) ∷ ([]) ∷ ([]) ∷ []) ≡ (record { ok = 0; changed = 0; unreachable = 0; failed = 1; skipped = 1; rescued = 0; ignored = 0 } ∷ record { ok = 0; changed = 0; unreachable = 0; failed = 0; skipped = 0; rescued = 0; ignored = 0 } ∷ record { ok = 0; changed = 0; unreachable = 0; failed = 0; skipped = 0; rescued = 0; ignored = 0 } ∷ record { ok = 0; changed = 0; unreachable = 0; failed = 0; skipped = 0; rescued = 0; ignored = 0 } ∷ [])
unfolding digits
random_002345_run = refl

-- random_002393_run:
abbrev random_002393_run_book : Book
random_002393_run_book = (record { line = 1; pattern = ((codes "all") ∷ []); gathering = (Some 2); vars = (part (codes "v1") (literal (text ([]))) (part (codes "v2") (literal (text (codes "no"))) (no_parts))); is_linear = true; serial = (host_count 1 ∷ host_count 2 ∷ []); pre_tasks = (task_step (record { line = 3; work = (module_work (codes "command") (part (codes "cmd") (literal (text (codes "x"))) (no_parts))); condition = (no_expressions); loop = None; register = (Some (codes "r1")); vars = (no_parts); notify = ([]); changed_when = None; failed_when = None; attempts = (Some (record { until = (expression (path_status is_changed (variable (codes "r1")) ([])) (no_expressions)); retries = 1 })); ignore_errors = None }) (task_step (record { line = 4; work = (module_work (codes "odd") (no_parts)); condition = (expression (membership (literal (text (codes "g2"))) (path (variable (codes "group_names")) ([]))) (no_expressions)); loop = None; register = (Some (codes "r3")); vars = (no_parts); notify = ([]); changed_when = None; failed_when = (Some (expression (comparison equal (path (variable (codes "inventory_hostname")) ([])) (literal (text (codes "a")))) (no_expressions))); attempts = None; ignore_errors = (Some true) }) (no_steps))); tasks = (block_step (record { line = 5; condition = (expression (negation (defined (variable (codes "op")) ([]))) (no_expressions)); vars = (no_parts); ignore_errors = None }) (block_step (record { line = 6; condition = (no_expressions); vars = (no_parts); ignore_errors = None }) (task_step (record { line = 7; work = (assert_work (conditions_are (expression (negation (defined (other (named_host (codes "a")) (codes "i2")) ([]))) (no_expressions))) (no_parts)); condition = (expression (conjunction (expression (negation (defined (other (named_host (codes "a")) (codes "r1")) ((codes "stdout") ∷ []))) (expression (membership (literal (text (codes "g2"))) (path (variable (codes "group_names")) ([]))) (no_expressions)))) (no_expressions)); loop = None; register = (Some (codes "r1")); vars = (part (codes "v1") (path (variable (codes "r2")) ([])) (part (codes "v2") (list_of (expression (literal (int (pos 1))) (expression (literal (int (pos 2))) (no_expressions)))) (no_parts))); notify = ([]); changed_when = None; failed_when = None; attempts = None; ignore_errors = None }) (no_steps)) (task_step (record { line = 8; work = (assert_work (conditions_are (expression (negation (negation (path_status is_failed (variable (codes "r3")) ([])))) (no_expressions))) (no_parts)); condition = (no_expressions); loop = None; register = None; vars = (no_parts); notify = ([]); changed_when = None; failed_when = None; attempts = None; ignore_errors = None }) (no_steps)) (task_step (record { line = 9; work = (set_fact_work (part (codes "s1") (list_of (expression (path (variable (codes "r1")) ((codes "failed") ∷ [])) (no_expressions))) (no_parts))); condition = (expression (comparison equal (path (variable (codes "v2")) ([])) (literal (int (pos 1)))) (expression (negation (path_status is_skipped (variable (codes "r1")) ([]))) (no_expressions))); loop = None; register = None; vars = (no_parts); notify = ([]); changed_when = None; failed_when = None; attempts = None; ignore_errors = None }) (task_step (record { line = 10; work = (set_fact_work (part (codes "s1") (list_of (expression (literal (boolean true)) (no_expressions))) (no_parts))); condition = (no_expressions); loop = None; register = (Some (codes "r2")); vars = (no_parts); notify = ([]); changed_when = None; failed_when = None; attempts = None; ignore_errors = None }) (no_steps))) (task_step (record { line = 11; work = (module_work (codes "ping") (no_parts)); condition = (no_expressions); loop = None; register = None; vars = (no_parts); notify = ([]); changed_when = None; failed_when = None; attempts = None; ignore_errors = None }) (task_step (record { line = 12; work = (debug_work (part (codes "msg") (literal (text (codes "x"))) (no_parts))); condition = (no_expressions); loop = None; register = (Some (codes "r1")); vars = (no_parts); notify = ([]); changed_when = None; failed_when = None; attempts = None; ignore_errors = None }) (no_steps)))) (block_step (record { line = 13; condition = (no_expressions); vars = (no_parts); ignore_errors = None }) (no_steps) (task_step (record { line = 14; work = (module_work (codes "setup") (no_parts)); condition = (no_expressions); loop = None; register = None; vars = (no_parts); notify = ([]); changed_when = (Some (expression (literal (boolean false)) (no_expressions))); failed_when = None; attempts = (Some (record { until = (expression (literal (boolean false)) (no_expressions)); retries = 3 })); ignore_errors = (Some true) }) (no_steps)) (no_steps) (task_step (record { line = 15; work = (module_work (codes "odd") (no_parts)); condition = (no_expressions); loop = None; register = (Some (codes "r1")); vars = (no_parts); notify = ([]); changed_when = None; failed_when = None; attempts = None; ignore_errors = None }) (task_step (record { line = 16; work = (assert_work (conditions_are (expression (negation (path_status is_failed (variable (codes "r1")) ([]))) (no_expressions))) (no_parts)); condition = (no_expressions); loop = None; register = (Some (codes "r3")); vars = (no_parts); notify = ([]); changed_when = None; failed_when = None; attempts = None; ignore_errors = None }) (no_steps)))) (no_steps) (flush_step 17 (task_step (record { line = 18; work = (module_work (codes "command") (part (codes "cmd") (literal (text (codes "x"))) (no_parts))); condition = (no_expressions); loop = None; register = (Some (codes "r2")); vars = (no_parts); notify = ([]); changed_when = None; failed_when = None; attempts = None; ignore_errors = None }) (no_steps)))); post_tasks = (no_steps); handlers = ([]); forces = false } ∷ [])

abbrev random_002393_run_inventory : Inventory
random_002393_run_inventory = record { hosts = (record { name = (codes "a"); variables = (field (codes "i2") (list (item (int (pos 0)) (no_items))) (field (codes "s1") (text (codes "t")) (no_fields))) } ∷ []); groups = (record { name = (codes "all"); hosts = ((codes "a") ∷ []) } ∷ record { name = (codes "g1"); hosts = ((codes "a") ∷ []) } ∷ record { name = (codes "ungrouped"); hosts = ([]) } ∷ []) }

abbrev random_002393_run_registry : Registry
random_002393_run_registry = (builtins ++ (record { name = (codes "probe"); params = (record { name = (codes "n"); kind = ints; required = false } ∷ record { name = (codes "l"); kind = (lists texts 3); required = false } ∷ []); ok = recs (slot (codes "changed") true booleans (slot (codes "deep") false (recs (slot (codes "a") true texts (slot (codes "b") false booleans (no_slots)))) (slot (codes "rows") true (lists texts 2) (slot (codes "v") false ints (no_slots))))); failure = recs (slot (codes "changed") true booleans (slot (codes "msg") true texts (slot (codes "v") false texts (slot (codes "why") true ints (no_slots))))); free = None } ∷ record { name = (codes "odd"); params = ([]); ok = recs (slot (codes "changed") true booleans (slot (codes "msg") false ints (no_slots))); failure = recs (slot (codes "changed") true booleans (slot (codes "msg") true texts (no_slots))); free = None } ∷ []))

random_002393_run : recaps_of random_002393_run_registry random_002393_run_inventory random_002393_run_book 1 ((object (rec (field (codes "ansible_facts") (rec (field (codes "ansible_hostname") (text (codes "a")) (field (codes "ansible_os_family") (text (codes "x")) (field (codes "ansible_system") (text (codes "x")) (no_fields))))) (field (codes "changed") (boolean true) (no_fields)))) ∷ object (rec (field (codes "changed") (boolean false) (field (codes "extra") (rec (field (codes "a") (int (pos 1)) (no_fields))) (field (codes "failed") (boolean true) (field (codes "msg") (text (codes "x")) (field (codes "rc") (int (negsuc 6)) (field (codes "stderr") (text ([])) (field (codes "stderr_lines") (list (item (text (codes "x")) (no_items))) (field (codes "stdout") (text ([])) (field (codes "stdout_lines") (list (no_items)) (no_fields))))))))))) ∷ object (rec (field (codes "changed") (boolean true) (field (codes "rc") (int (pos 0)) (field (codes "stderr") (text (codes "b")) (field (codes "stderr_lines") (list (item (text (123 ∷ 123 ∷ 32 ∷ 120 ∷ 32 ∷ 125 ∷ 125 ∷ [])) (no_items))) (field (codes "stdout") (text ([])) (field (codes "stdout_lines") (list (item (text (codes "x")) (item (text (codes "x")) (item (text (codes "a")) (no_items))))) (no_fields)))))))) ∷ object (rec (field (codes "changed") (boolean true) (field (codes "ping") (text ([])) (no_fields)))) ∷ object (rec (field (codes "changed") (boolean false) (field (codes "extra") (rec (field (codes "a") (int (pos 1)) (no_fields))) (field (codes "rc") (int (pos 0)) (field (codes "stderr") (text (codes "x")) (field (codes "stderr_lines") (list (item (text (123 ∷ 123 ∷ 32 ∷ 120 ∷ 32 ∷ 125 ∷ 125 ∷ [])) (no_items))) (field (codes "stdout") (text (123 ∷ 123 ∷ 32 ∷ 120 ∷ 32 ∷ 125 ∷ 125 ∷ [])) (field (codes "stdout_lines") (list (item (text (codes "a")) (no_items))) (no_fields))))))))) ∷ []) ∷ []) ≡ (record { ok = 6; changed = 3; unreachable = 0; failed = 0; skipped = 3; rescued = 0; ignored = 0 } ∷ [])
unfolding digits
random_002393_run = refl

-- random_002433_run:
abbrev random_002433_run_book : Book
random_002433_run_book = (record { line = 1; pattern = ((codes "g1") ∷ []); gathering = None; vars = (no_parts); is_linear = false; serial = ([]); pre_tasks = (no_steps); tasks = (task_step (record { line = 2; work = (module_work (codes "ping") (no_parts)); condition = (no_expressions); loop = None; register = None; vars = (part (codes "v1") (path (variable (codes "inventory_hostname")) ([])) (part (codes "v2") (literal (boolean true)) (no_parts))); notify = ([]); changed_when = None; failed_when = None; attempts = None; ignore_errors = None }) (task_step (record { line = 3; work = (module_work (codes "command") (part (codes "cmd") (literal (text (codes "x"))) (no_parts))); condition = (no_expressions); loop = None; register = None; vars = (no_parts); notify = ([]); changed_when = (Some (expression (comparison equal (path (variable (codes "inventory_hostname")) ([])) (literal (text (codes "a")))) (no_expressions))); failed_when = None; attempts = (Some (record { until = (expression (literal (boolean false)) (no_expressions)); retries = 1 })); ignore_errors = (Some true) }) (no_steps))); post_tasks = (flush_step 4 (task_step (record { line = 5; work = (assert_work (conditions_are (expression (literal (boolean true)) (no_expressions))) (no_parts)); condition = (no_expressions); loop = None; register = None; vars = (no_parts); notify = ([]); changed_when = None; failed_when = None; attempts = None; ignore_errors = None }) (task_step (record { line = 6; work = (module_work (codes "command") (part (codes "cmd") (concatenation (expression (literal (text (codes "x "))) (expression (path (other this_host (codes "r2")) ((codes "changed") ∷ [])) (no_expressions)))) (no_parts))); condition = (expression (defined (other this_host (codes "r2")) ([])) (expression (path_status is_failed (other this_host (codes "r2")) ([])) (no_expressions))); loop = None; register = None; vars = (no_parts); notify = ([]); changed_when = None; failed_when = None; attempts = None; ignore_errors = None }) (no_steps)))); handlers = (record { work = (record { line = 7; work = (module_work (codes "ping") (no_parts)); condition = (expression (in_batch (named_host (codes "c"))) (no_expressions)); loop = None; register = (Some (codes "r3")); vars = (no_parts); notify = ([]); changed_when = None; failed_when = None; attempts = None; ignore_errors = None }); name = (Some (codes "h0")); topics = ((codes "t") ∷ []) } ∷ []); forces = false } ∷ [])

abbrev random_002433_run_inventory : Inventory
random_002433_run_inventory = record { hosts = (record { name = (codes "a"); variables = (field (codes "i2") (text (codes "b")) (field (codes "op") opaque (no_fields))) } ∷ record { name = (codes "b"); variables = (field (codes "op") opaque (no_fields)) } ∷ record { name = (codes "c"); variables = (no_fields) } ∷ []); groups = (record { name = (codes "all"); hosts = ((codes "a") ∷ (codes "b") ∷ (codes "c") ∷ []) } ∷ record { name = (codes "g1"); hosts = ((codes "a") ∷ (codes "c") ∷ []) } ∷ record { name = (codes "g2"); hosts = ([]) } ∷ record { name = (codes "ungrouped"); hosts = ((codes "b") ∷ []) } ∷ []) }

abbrev random_002433_run_registry : Registry
random_002433_run_registry = (builtins ++ (record { name = (codes "probe"); params = (record { name = (codes "n"); kind = ints; required = false } ∷ record { name = (codes "l"); kind = (lists texts 3); required = false } ∷ []); ok = recs (slot (codes "changed") true booleans (slot (codes "deep") false (recs (slot (codes "a") true texts (slot (codes "b") false booleans (no_slots)))) (slot (codes "rows") true (lists texts 2) (slot (codes "v") false ints (no_slots))))); failure = recs (slot (codes "changed") true booleans (slot (codes "msg") true texts (slot (codes "v") false texts (slot (codes "why") true ints (no_slots))))); free = None } ∷ record { name = (codes "odd"); params = ([]); ok = recs (slot (codes "changed") true booleans (slot (codes "msg") false ints (no_slots))); failure = recs (slot (codes "changed") true booleans (slot (codes "msg") true texts (no_slots))); free = None } ∷ []))

random_002433_run : recaps_of random_002433_run_registry random_002433_run_inventory random_002433_run_book 1 ((object (rec (field (codes "changed") (boolean true) (field (codes "ping") (text (codes "b")) (no_fields)))) ∷ object (rec (field (codes "changed") (boolean false) (field (codes "failed") (boolean true) (field (codes "msg") (text (123 ∷ 123 ∷ 32 ∷ 120 ∷ 32 ∷ 125 ∷ 125 ∷ [])) (field (codes "rc") (int (pos 1)) (field (codes "stderr") (text (codes "b")) (field (codes "stderr_lines") (list (item (text (123 ∷ 123 ∷ 32 ∷ 120 ∷ 32 ∷ 125 ∷ 125 ∷ [])) (item (text (codes "a")) (item (text (codes "b")) (no_items))))) (field (codes "stdout") (text (codes "b")) (field (codes "stdout_lines") (list (no_items)) (no_fields)))))))))) ∷ object (rec (field (codes "changed") (boolean false) (field (codes "rc") (int (pos 2)) (field (codes "stderr") (text (codes "x")) (field (codes "stderr_lines") (list (no_items)) (field (codes "stdout") (text (codes "b")) (field (codes "stdout_lines") (list (item (text (123 ∷ 123 ∷ 32 ∷ 120 ∷ 32 ∷ 125 ∷ 125 ∷ [])) (item (text (codes "b")) (no_items)))) (no_fields)))))))) ∷ []) ∷ ([]) ∷ (object (rec (field (codes "changed") (boolean true) (field (codes "failed") (boolean true) (field (codes "msg") (text (codes "c")) (no_fields))))) ∷ []) ∷ []) ≡ (record { ok = 3; changed = 2; unreachable = 0; failed = 0; skipped = 1; rescued = 0; ignored = 1 } ∷ record { ok = 0; changed = 0; unreachable = 0; failed = 0; skipped = 0; rescued = 0; ignored = 0 } ∷ record { ok = 0; changed = 0; unreachable = 0; failed = 1; skipped = 0; rescued = 0; ignored = 0 } ∷ [])
unfolding digits
random_002433_run = refl

-- random_002465_run:
abbrev random_002465_run_book : Book
random_002465_run_book = (record { line = 1; pattern = ((codes "all") ∷ []); gathering = None; vars = (no_parts); is_linear = true; serial = ([]); pre_tasks = (no_steps); tasks = (task_step (record { line = 2; work = (fail_work (part (codes "msg") (literal (text (codes "m"))) (no_parts))); condition = (no_expressions); loop = None; register = (Some (codes "r1")); vars = (no_parts); notify = ([]); changed_when = None; failed_when = None; attempts = None; ignore_errors = None }) (task_step (record { line = 3; work = (module_work (codes "ping") (no_parts)); condition = (expression (negation (path_status is_changed (variable (codes "r1")) ([]))) (no_expressions)); loop = None; register = None; vars = (no_parts); notify = ([]); changed_when = None; failed_when = (Some (expression (comparison equal (path (variable (codes "inventory_hostname")) ([])) (literal (text (codes "a")))) (no_expressions))); attempts = None; ignore_errors = None }) (flush_step 4 (block_step (record { line = 5; condition = (no_expressions); vars = (no_parts); ignore_errors = None }) (task_step (record { line = 6; work = (module_work (codes "command") (part (codes "cmd") (concatenation (expression (literal (text (codes "x "))) (expression (path (variable (codes "i1")) ([])) (no_expressions)))) (no_parts))); condition = (no_expressions); loop = None; register = (Some (codes "r3")); vars = (no_parts); notify = ([]); changed_when = None; failed_when = None; attempts = None; ignore_errors = None }) (no_steps)) (task_step (record { line = 7; work = (module_work (codes "command") (part (codes "cmd") (literal (text (codes "x"))) (no_parts))); condition = (expression (path_status is_failed (variable (codes "r1")) ([])) (no_expressions)); loop = None; register = (Some (codes "r1")); vars = (part (codes "v2") (path_or (variable (codes "r2")) ((codes "failed") ∷ []) (list_of (no_expressions))) (part (codes "v3") (path (variable (codes "ansible_facts")) ((codes "hostname") ∷ [])) (no_parts))); notify = ([]); changed_when = None; failed_when = None; attempts = (Some (record { until = (expression (literal (boolean true)) (no_expressions)); retries = 3 })); ignore_errors = None }) (no_steps)) (no_steps) (no_steps))))); post_tasks = (no_steps); handlers = ([]); forces = true } ∷ record { line = 8; pattern = ((codes "a") ∷ []); gathering = None; vars = (part (codes "v3") (record_of (part (codes "f") (literal (text (codes "a"))) (part (codes "g") (literal (int (negsuc 0))) (no_parts)))) (no_parts)); is_linear = true; serial = (host_count 1 ∷ host_count 2 ∷ []); pre_tasks = (no_steps); tasks = (block_step (record { line = 9; condition = (no_expressions); vars = (no_parts); ignore_errors = None }) (task_step (record { line = 10; work = (module_work (codes "setup") (no_parts)); condition = (no_expressions); loop = (Some (path_or (variable (codes "r2")) ((codes "results") ∷ []) (list_of (no_expressions)))); register = None; vars = (no_parts); notify = ([]); changed_when = None; failed_when = None; attempts = None; ignore_errors = None }) (task_step (record { line = 11; work = (debug_work (part (codes "msg") (list_of (expression (path (variable (codes "i1")) ([])) (expression (literal (int (pos 1))) (no_expressions)))) (no_parts))); condition = (no_expressions); loop = (Some (path_or (variable (codes "r2")) ((codes "results") ∷ []) (list_of (no_expressions)))); register = (Some (codes "r3")); vars = (no_parts); notify = ([]); changed_when = None; failed_when = None; attempts = None; ignore_errors = None }) (task_step (record { line = 12; work = (module_work (codes "command") (part (codes "cmd") (concatenation (expression (literal (text (codes "x x"))) (expression (length_of (path (variable (codes "r2")) ((codes "skip_reason") ∷ []))) (no_expressions)))) (no_parts))); condition = (expression (path_status is_failed (variable (codes "r3")) ([])) (expression (defined (variable (codes "r2")) ((codes "skip_reason") ∷ [])) (no_expressions))); loop = None; register = (Some (codes "r2")); vars = (no_parts); notify = ([]); changed_when = None; failed_when = None; attempts = None; ignore_errors = None }) (no_steps)))) (no_steps) (no_steps) (task_step (record { line = 13; work = (debug_work (part (codes "msg") (path (variable (codes "r2")) ([])) (no_parts))); condition = (no_expressions); loop = (Some (list_of (expression (literal (int (pos 1))) (no_expressions)))); register = None; vars = (no_parts); notify = ([]); changed_when = None; failed_when = None; attempts = None; ignore_errors = None }) (block_step (record { line = 14; condition = (no_expressions); vars = (part (codes "v1") (literal (int (pos 1))) (no_parts)); ignore_errors = None }) (task_step (record { line = 15; work = (module_work (codes "command") (part (codes "cmd") (concatenation (expression (literal (text (codes "x "))) (expression (path_or (variable (codes "v3")) ([]) (list_of (no_expressions))) (no_expressions)))) (no_parts))); condition = (no_expressions); loop = None; register = None; vars = (no_parts); notify = ([]); changed_when = (Some (expression (comparison equal (path (variable (codes "inventory_hostname")) ([])) (literal (text (codes "a")))) (no_expressions))); failed_when = None; attempts = None; ignore_errors = None }) (block_step (record { line = 16; condition = (no_expressions); vars = (part (codes "v3") (literal (int (pos 1))) (no_parts)); ignore_errors = None }) (block_step (record { line = 17; condition = (no_expressions); vars = (part (codes "v1") (record_of (part (codes "f") (list_of (expression (literal (int (pos 3))) (no_expressions))) (part (codes "g") (literal (text ([]))) (no_parts)))) (no_parts)); ignore_errors = None }) (task_step (record { line = 18; work = (module_work (codes "stat") (part (codes "path") (literal (text (codes "/"))) (no_parts))); condition = (expression (negation (negation (defined (variable (codes "v1")) ([])))) (no_expressions)); loop = None; register = None; vars = (no_parts); notify = ([]); changed_when = None; failed_when = None; attempts = None; ignore_errors = None }) (task_step (record { line = 19; work = (set_fact_work (part (codes "s1") (list_of (expression (literal (boolean true)) (no_expressions))) (part (codes "s2") (record_of (part (codes "f") (literal (int (negsuc 0))) (part (codes "g") (list_of (expression (literal (int (pos 1))) (no_expressions))) (no_parts)))) (no_parts)))); condition = (no_expressions); loop = None; register = (Some (codes "r1")); vars = (no_parts); notify = ([]); changed_when = None; failed_when = None; attempts = None; ignore_errors = (Some true) }) (no_steps))) (task_step (record { line = 20; work = (module_work (codes "setup") (no_parts)); condition = (no_expressions); loop = None; register = None; vars = (no_parts); notify = ([]); changed_when = None; failed_when = None; attempts = (Some (record { until = (expression (literal (boolean false)) (no_expressions)); retries = 3 })); ignore_errors = None }) (task_step (record { line = 21; work = (assert_work (conditions_are (expression (comparison equal (path (variable (codes "s3")) ([])) (literal (int (pos 1)))) (no_expressions))) (no_parts)); condition = (no_expressions); loop = None; register = (Some (codes "r3")); vars = (no_parts); notify = ([]); changed_when = None; failed_when = None; attempts = None; ignore_errors = None }) (task_step (record { line = 22; work = (module_work (codes "command") (part (codes "cmd") (literal (text (codes "x"))) (no_parts))); condition = (no_expressions); loop = None; register = None; vars = (part (codes "v3") (concatenation (expression (literal (text (codes "x"))) (expression (path (variable (codes "r3")) ((codes "failed") ∷ [])) (no_expressions)))) (no_parts)); notify = ([]); changed_when = None; failed_when = None; attempts = None; ignore_errors = (Some false) }) (no_steps)))) (no_steps) (no_steps)) (task_step (record { line = 23; work = (module_work (codes "probe") (no_parts)); condition = (expression (in_batch (named_host (codes "c"))) (no_expressions)); loop = None; register = (Some (codes "r2")); vars = (no_parts); notify = ([]); changed_when = None; failed_when = None; attempts = (Some (record { until = (expression (comparison equal (path (variable (codes "inventory_hostname")) ([])) (literal (text (codes "a")))) (no_expressions)); retries = 1 })); ignore_errors = None }) (task_step (record { line = 24; work = (module_work (codes "command") (part (codes "cmd") (literal (text (codes "x"))) (no_parts))); condition = (no_expressions); loop = None; register = None; vars = (no_parts); notify = ([]); changed_when = None; failed_when = None; attempts = None; ignore_errors = None }) (task_step (record { line = 25; work = (module_work (codes "probe") (no_parts)); condition = (no_expressions); loop = None; register = (Some (codes "r2")); vars = (no_parts); notify = ([]); changed_when = None; failed_when = None; attempts = None; ignore_errors = None }) (no_steps)))) (block_step (record { line = 26; condition = (no_expressions); vars = (no_parts); ignore_errors = None }) (task_step (record { line = 27; work = (set_fact_work (part (codes "s1") (path_or (variable (codes "r3")) ((codes "failed") ∷ []) (list_of (no_expressions))) (no_parts))); condition = (no_expressions); loop = None; register = (Some (codes "r1")); vars = (no_parts); notify = ([]); changed_when = None; failed_when = None; attempts = None; ignore_errors = None }) (task_step (record { line = 28; work = (module_work (codes "probe") (part (codes "l") (list_of (expression (path (other (named_host (codes "b")) (codes "r1")) ([])) (expression (path (other (named_host (codes "b")) (codes "r1")) ([])) (no_expressions)))) (no_parts))); condition = (expression (in_batch (named_host (codes "b"))) (no_expressions)); loop = None; register = (Some (codes "r3")); vars = (no_parts); notify = ([]); changed_when = None; failed_when = None; attempts = None; ignore_errors = None }) (no_steps))) (no_steps) (no_steps) (no_steps)) (block_step (record { line = 29; condition = (no_expressions); vars = (no_parts); ignore_errors = None }) (task_step (record { line = 30; work = (debug_work (part (codes "msg") (comparison equal (path (variable (codes "inventory_hostname")) ([])) (path (variable (codes "r1")) ((codes "failed") ∷ []))) (no_parts))); condition = (no_expressions); loop = None; register = None; vars = (no_parts); notify = ([]); changed_when = None; failed_when = None; attempts = None; ignore_errors = None }) (no_steps)) (task_step (record { line = 31; work = (module_work (codes "probe") (part (codes "n") (path (variable (codes "r3")) ([])) (no_parts))); condition = (expression (membership (literal (text (codes "g2"))) (path (variable (codes "group_names")) ([]))) (expression (defined (variable (codes "r3")) ([])) (no_expressions))); loop = None; register = None; vars = (no_parts); notify = ([]); changed_when = None; failed_when = None; attempts = None; ignore_errors = None }) (task_step (record { line = 32; work = (module_work (codes "command") (part (codes "cmd") (literal (text (codes "x"))) (no_parts))); condition = (expression (in_batch item_host) (no_expressions)); loop = (Some (path (variable (codes "ansible_play_batch")) ([]))); register = None; vars = (no_parts); notify = ([]); changed_when = None; failed_when = None; attempts = None; ignore_errors = None }) (task_step (record { line = 33; work = (set_fact_work (part (codes "s3") (path (variable (codes "r2")) ((codes "changed") ∷ [])) (no_parts))); condition = (expression (negation (path_status is_failed (variable (codes "r2")) ([]))) (no_expressions)); loop = None; register = (Some (codes "r2")); vars = (no_parts); notify = ([]); changed_when = None; failed_when = (Some (expression (path_status is_failed (variable (codes "r2")) ([])) (no_expressions))); attempts = None; ignore_errors = None }) (no_steps)))) (no_steps) (no_steps)))) (block_step (record { line = 34; condition = (expression (disjunction (expression (path_or (variable (codes "r3")) ([]) (literal (boolean false))) (expression (negation (negation (path_status is_failed (variable (codes "r2")) ([])))) (no_expressions)))) (no_expressions)); vars = (no_parts); ignore_errors = None }) (task_step (record { line = 35; work = (module_work (codes "stat") (part (codes "path") (literal (text (codes "/"))) (no_parts))); condition = (no_expressions); loop = None; register = None; vars = (no_parts); notify = ([]); changed_when = None; failed_when = None; attempts = None; ignore_errors = None }) (block_step (record { line = 36; condition = (no_expressions); vars = (no_parts); ignore_errors = None }) (task_step (record { line = 37; work = (debug_work (part (codes "msg") (path_or (variable (codes "v1")) ((codes "rc") ∷ []) (path (variable (codes "s1")) ([]))) (no_parts))); condition = (expression (in_batch item_host) (no_expressions)); loop = (Some (path (variable (codes "ansible_play_batch")) ([]))); register = None; vars = (no_parts); notify = ([]); changed_when = None; failed_when = None; attempts = None; ignore_errors = None }) (task_step (record { line = 38; work = (debug_work (part (codes "msg") (concatenation (expression (literal (text (codes "x"))) (expression (path_or (other item_host (codes "op")) ((codes "f") ∷ []) (list_of (no_expressions))) (no_expressions)))) (no_parts))); condition = (expression (negation (membership (literal (text (codes "g1"))) (path (variable (codes "group_names")) ([])))) (no_expressions)); loop = (Some (path (variable (codes "r3")) ((codes "v") ∷ []))); register = (Some (codes "r2")); vars = (no_parts); notify = ([]); changed_when = None; failed_when = None; attempts = None; ignore_errors = (Some true) }) (task_step (record { line = 39; work = (module_work (codes "ping") (no_parts)); condition = (expression (negation (comparison equal (path (variable (codes "s1")) ([])) (literal (text (codes "x"))))) (no_expressions)); loop = None; register = (Some (codes "r2")); vars = (no_parts); notify = ([]); changed_when = None; failed_when = (Some (expression (literal (boolean true)) (no_expressions))); attempts = None; ignore_errors = None }) (no_steps)))) (no_steps) (no_steps) (task_step (record { line = 40; work = (module_work (codes "setup") (no_parts)); condition = (no_expressions); loop = None; register = (Some (codes "r3")); vars = (no_parts); notify = ([]); changed_when = (Some (expression (comparison equal (path (variable (codes "r3")) ((codes "failed") ∷ [])) (literal (int (pos 1)))) (no_expressions))); failed_when = None; attempts = (Some (record { until = (expression (literal (boolean true)) (no_expressions)); retries = 2 })); ignore_errors = None }) (no_steps)))) (no_steps) (no_steps) (task_step (record { line = 41; work = (module_work (codes "probe") (part (codes "n") (path (variable (codes "s1")) ([])) (no_parts))); condition = (expression (defined (variable (codes "s1")) ([])) (no_expressions)); loop = None; register = (Some (codes "r2")); vars = (no_parts); notify = ([]); changed_when = (Some (expression (comparison equal (path (variable (codes "r2")) ((codes "failed") ∷ [])) (literal (int (pos 1)))) (no_expressions))); failed_when = None; attempts = None; ignore_errors = None }) (no_steps))) (task_step (record { line = 42; work = (debug_work (part (codes "msg") (concatenation (expression (literal (text (codes "x"))) (expression (path_or (other this_host (codes "r2")) ((codes "failed") ∷ []) (literal (int (pos 1)))) (no_expressions)))) (no_parts))); condition = (no_expressions); loop = None; register = None; vars = (no_parts); notify = ([]); changed_when = None; failed_when = (Some (expression (literal (boolean true)) (no_expressions))); attempts = None; ignore_errors = None }) (no_steps)) (task_step (record { line = 43; work = (set_fact_work (part (codes "s2") (path (variable (codes "r3")) ((codes "ansible_facts") ∷ (codes "ansible_hostname") ∷ [])) (no_parts))); condition = (expression (negation (defined (variable (codes "r2")) ([]))) (expression (negation (path_status is_failed (variable (codes "r3")) ([]))) (no_expressions))); loop = None; register = (Some (codes "r3")); vars = (no_parts); notify = ([]); changed_when = None; failed_when = None; attempts = None; ignore_errors = None }) (no_steps))))); post_tasks = (task_step (record { line = 44; work = (set_fact_work (part (codes "s2") (record_of (part (codes "f") (length_of (path (other (named_host (codes "a")) (codes "s3")) ((codes "f") ∷ []))) (part (codes "rc") (literal (int (pos 1))) (no_parts)))) (part (codes "s3") (literal (text (codes "no"))) (no_parts)))); condition = (expression (defined (other (named_host (codes "a")) (codes "s3")) ([])) (expression (negation (path_status is_failed (other (named_host (codes "a")) (codes "s3")) ([]))) (no_expressions))); loop = None; register = None; vars = (no_parts); notify = ([]); changed_when = None; failed_when = (Some (expression (comparison equal (path (variable (codes "inventory_hostname")) ([])) (literal (text (codes "a")))) (no_expressions))); attempts = None; ignore_errors = None }) (no_steps)); handlers = ([]); forces = false } ∷ record { line = 45; pattern = ((codes "d") ∷ []); gathering = None; vars = (no_parts); is_linear = true; serial = ([]); pre_tasks = (no_steps); tasks = (task_step (record { line = 46; work = (module_work (codes "setup") (no_parts)); condition = (expression (conjunction (expression (negation (in_batch (named_host (codes "b")))) (expression (negation (defined (other (named_host (codes "b")) (codes "s1")) ([]))) (no_expressions)))) (no_expressions)); loop = None; register = (Some (codes "r2")); vars = (no_parts); notify = ([]); changed_when = None; failed_when = None; attempts = None; ignore_errors = None }) (no_steps)); post_tasks = (no_steps); handlers = ([]); forces = false } ∷ [])

abbrev random_002465_run_inventory : Inventory
random_002465_run_inventory = record { hosts = (record { name = (codes "a"); variables = (field (codes "i2") (list (item (int (pos 1)) (no_items))) (field (codes "op") opaque (field (codes "s1") (text (codes "b")) (no_fields)))) } ∷ record { name = (codes "b"); variables = (field (codes "i2") (list (item (int (pos 1)) (no_items))) (field (codes "op") opaque (field (codes "s1") (int (pos 1)) (no_fields)))) } ∷ record { name = (codes "c"); variables = (field (codes "i2") (list (item (int (pos 1)) (no_items))) (field (codes "op") opaque (field (codes "s1") (text (codes "b")) (no_fields)))) } ∷ record { name = (codes "d"); variables = (field (codes "i2") (list (item (int (pos 1)) (no_items))) (field (codes "op") opaque (field (codes "s1") (text (codes "b")) (no_fields)))) } ∷ []); groups = (record { name = (codes "all"); hosts = ((codes "a") ∷ (codes "b") ∷ (codes "c") ∷ (codes "d") ∷ []) } ∷ record { name = (codes "g1"); hosts = ((codes "a") ∷ (codes "c") ∷ (codes "d") ∷ []) } ∷ record { name = (codes "g2"); hosts = ((codes "a") ∷ (codes "b") ∷ (codes "c") ∷ (codes "d") ∷ []) } ∷ record { name = (codes "ungrouped"); hosts = ([]) } ∷ []) }

abbrev random_002465_run_registry : Registry
random_002465_run_registry = (builtins ++ (record { name = (codes "probe"); params = (record { name = (codes "n"); kind = ints; required = false } ∷ record { name = (codes "l"); kind = (lists texts 3); required = false } ∷ []); ok = recs (slot (codes "changed") true booleans (slot (codes "deep") false (recs (slot (codes "a") true texts (slot (codes "b") false booleans (no_slots)))) (slot (codes "rows") true (lists texts 2) (slot (codes "v") false ints (no_slots))))); failure = recs (slot (codes "changed") true booleans (slot (codes "msg") true texts (slot (codes "v") false texts (slot (codes "why") true ints (no_slots))))); free = None } ∷ record { name = (codes "odd"); params = ([]); ok = recs (slot (codes "changed") true booleans (slot (codes "msg") false ints (no_slots))); failure = recs (slot (codes "changed") true booleans (slot (codes "msg") true texts (no_slots))); free = None } ∷ []))

random_002465_run : recaps_of random_002465_run_registry random_002465_run_inventory random_002465_run_book 1 (([]) ∷ ([]) ∷ ([]) ∷ ([]) ∷ []) ≡ (record { ok = 0; changed = 0; unreachable = 0; failed = 1; skipped = 0; rescued = 0; ignored = 0 } ∷ record { ok = 0; changed = 0; unreachable = 0; failed = 1; skipped = 0; rescued = 0; ignored = 0 } ∷ record { ok = 0; changed = 0; unreachable = 0; failed = 1; skipped = 0; rescued = 0; ignored = 0 } ∷ record { ok = 0; changed = 0; unreachable = 0; failed = 1; skipped = 0; rescued = 0; ignored = 0 } ∷ [])
unfolding digits
random_002465_run = refl

-- random_002476_run:
abbrev random_002476_run_book : Book
random_002476_run_book = (record { line = 1; pattern = ((codes "all") ∷ []); gathering = None; vars = (part (codes "v1") (record_of (part (codes "k") (literal (int (pos 1))) (no_parts))) (no_parts)); is_linear = false; serial = (percentage 50 ∷ []); pre_tasks = (no_steps); tasks = (flush_step 2 (no_steps)); post_tasks = (no_steps); handlers = (record { work = (record { line = 3; work = (module_work (codes "setup") (no_parts)); condition = (no_expressions); loop = None; register = (Some (codes "s")); vars = (no_parts); notify = ([]); changed_when = None; failed_when = None; attempts = None; ignore_errors = None }); name = (Some (codes "h0")); topics = ([]) } ∷ []); forces = false } ∷ [])

abbrev random_002476_run_inventory : Inventory
random_002476_run_inventory = record { hosts = (record { name = (codes "c"); variables = (field (codes "inv") (list (item (int (pos 1)) (item (int (pos 2)) (no_items)))) (no_fields)) } ∷ record { name = (codes "b"); variables = (field (codes "inv") (list (item (int (pos 1)) (item (int (pos 2)) (no_items)))) (field (codes "k") (rec (field (codes "z") opaque (no_fields))) (no_fields))) } ∷ record { name = (codes "a"); variables = (field (codes "inv") (list (item (text (codes "x")) (no_items))) (field (codes "opq") opaque (no_fields))) } ∷ []); groups = (record { name = (codes "all"); hosts = ((codes "c") ∷ (codes "b") ∷ (codes "a") ∷ []) } ∷ record { name = (codes "g"); hosts = ((codes "b") ∷ (codes "a") ∷ []) } ∷ record { name = (codes "ungrouped"); hosts = ((codes "c") ∷ []) } ∷ []) }

abbrev random_002476_run_registry : Registry
random_002476_run_registry = (builtins ++ ([]))

random_002476_run : recaps_of random_002476_run_registry random_002476_run_inventory random_002476_run_book 1 (([]) ∷ ([]) ∷ ([]) ∷ []) ≡ (record { ok = 0; changed = 0; unreachable = 0; failed = 0; skipped = 0; rescued = 0; ignored = 0 } ∷ record { ok = 0; changed = 0; unreachable = 0; failed = 0; skipped = 0; rescued = 0; ignored = 0 } ∷ record { ok = 0; changed = 0; unreachable = 0; failed = 0; skipped = 0; rescued = 0; ignored = 0 } ∷ [])
unfolding digits
random_002476_run = refl

-- random_002484:
abbrev random_002484_book : Book
random_002484_book = (record { line = 1; pattern = ((codes "all") ∷ []); gathering = None; vars = (no_parts); is_linear = false; serial = ([]); pre_tasks = (no_steps); tasks = (task_step (record { line = 2; work = (fail_work (no_parts)); condition = (expression (in_batch (named_host (codes "a"))) (no_expressions)); loop = None; register = (Some (codes "r")); vars = (no_parts); notify = ((codes "h0") ∷ []); changed_when = None; failed_when = None; attempts = None; ignore_errors = (Some true) }) (task_step (record { line = 3; work = (module_work (codes "command") (part (codes "cmd") (concatenation (expression (literal (text (codes "x"))) (expression (path_or (other (named_host (codes "a")) (codes "inv")) ([]) (path (other (group_member (codes "g") 0) (codes "ansible_hostname")) ((codes "stdout") ∷ []))) (no_expressions)))) (no_parts))); condition = (no_expressions); loop = None; register = None; vars = (no_parts); notify = ([]); changed_when = (Some (expression (literal (boolean false)) (no_expressions))); failed_when = (Some (expression (literal (boolean false)) (no_expressions))); attempts = None; ignore_errors = None }) (no_steps))); post_tasks = (no_steps); handlers = (record { work = (record { line = 4; work = (module_work (codes "command") (part (codes "cmd") (list_of (expression (literal (int (pos 1))) (expression (literal (int (pos 2))) (no_expressions)))) (no_parts))); condition = (expression (conjunction (expression (defined (variable (codes "r")) ([])) (expression (negation (path_status is_failed (variable (codes "r")) ([]))) (no_expressions)))) (no_expressions)); loop = None; register = (Some (codes "r")); vars = (no_parts); notify = ([]); changed_when = None; failed_when = None; attempts = None; ignore_errors = None }); name = (Some (codes "h0")); topics = ([]) } ∷ []); forces = true } ∷ record { line = 5; pattern = ((codes "a") ∷ []); gathering = None; vars = (part (codes "v1") (path (variable (codes "inventory_hostname")) ((codes "stdout") ∷ [])) (no_parts)); is_linear = false; serial = ([]); pre_tasks = (no_steps); tasks = (task_step (record { line = 6; work = (module_work (codes "stat") (part (codes "path") (literal (text (codes "p"))) (no_parts))); condition = (no_expressions); loop = None; register = None; vars = (no_parts); notify = ((codes "h0") ∷ []); changed_when = None; failed_when = None; attempts = None; ignore_errors = None }) (task_step (record { line = 7; work = (module_work (codes "command") (part (codes "cmd") (literal (text (codes "x"))) (no_parts))); condition = (no_expressions); loop = None; register = None; vars = (part (codes "v1") (concatenation (expression (literal (text (codes "x"))) (expression (length_of (path (variable (codes "y")) ([]))) (no_expressions)))) (no_parts)); notify = ((codes "h0") ∷ []); changed_when = None; failed_when = None; attempts = (Some (record { until = (expression (literal (boolean false)) (no_expressions)); retries = 3 })); ignore_errors = (Some true) }) (no_steps))); post_tasks = (no_steps); handlers = (record { work = (record { line = 8; work = (set_fact_work (part (codes "y") (concatenation (expression (literal (text (codes "x"))) (expression (length_of (path (variable (codes "ansible_failed_result")) ((codes "changed") ∷ []))) (no_expressions)))) (no_parts))); condition = (no_expressions); loop = None; register = None; vars = (no_parts); notify = ([]); changed_when = None; failed_when = None; attempts = None; ignore_errors = None }); name = (Some (codes "h0")); topics = ([]) } ∷ []); forces = false } ∷ [])

abbrev random_002484_inventory : Inventory
random_002484_inventory = record { hosts = (record { name = (codes "c"); variables = (field (codes "inv") (list (item (int (pos 1)) (item (int (pos 2)) (no_items)))) (no_fields)) } ∷ record { name = (codes "b"); variables = (field (codes "inv") (list (item (int (pos 1)) (item (int (pos 2)) (no_items)))) (field (codes "k") (rec (field (codes "z") opaque (no_fields))) (no_fields))) } ∷ record { name = (codes "a"); variables = (field (codes "inv") (list (item (text (codes "x")) (no_items))) (field (codes "opq") opaque (no_fields))) } ∷ []); groups = (record { name = (codes "all"); hosts = ((codes "c") ∷ (codes "b") ∷ (codes "a") ∷ []) } ∷ record { name = (codes "g"); hosts = ((codes "b") ∷ (codes "a") ∷ []) } ∷ record { name = (codes "ungrouped"); hosts = ((codes "c") ∷ []) } ∷ []) }

abbrev random_002484_registry : Registry
random_002484_registry = (builtins ++ ([]))

random_002484 : judged random_002484_registry random_002484_inventory random_002484_book ≡ refused (record { code = 2; line = 3; host = (Some (codes "c")) })
random_002484 = refl

-- random_002499:
abbrev random_002499_book : Book
random_002499_book = (record { line = 1; pattern = ((codes "b") ∷ []); gathering = None; vars = (no_parts); is_linear = true; serial = ([]); pre_tasks = (no_steps); tasks = (task_step (record { line = 2; work = (module_work (codes "setup") (no_parts)); condition = (no_expressions); loop = (Some (path_or (variable (codes "r2")) ((codes "stdout_lines") ∷ []) (list_of (no_expressions)))); register = (Some (codes "r2")); vars = (no_parts); notify = ([]); changed_when = None; failed_when = (Some (expression (comparison equal (path (variable (codes "r2")) ((codes "ansible_facts") ∷ (codes "ansible_os_family") ∷ [])) (literal (int (pos 1)))) (no_expressions))); attempts = None; ignore_errors = None }) (block_step (record { line = 3; condition = (no_expressions); vars = (no_parts); ignore_errors = None }) (no_steps) (no_steps) (no_steps) (task_step (record { line = 4; work = (module_work (codes "command") (part (codes "cmd") (concatenation (expression (literal (text (codes "x "))) (expression (list_of (expression (path (variable (codes "ansible_hostname")) ([])) (expression (literal (int (pos 1))) (no_expressions)))) (no_expressions)))) (no_parts))); condition = (no_expressions); loop = None; register = None; vars = (no_parts); notify = ([]); changed_when = None; failed_when = None; attempts = None; ignore_errors = None }) (task_step (record { line = 5; work = (set_fact_work (part (codes "s2") (path_or (variable (codes "inventory_hostname")) ([]) (literal (text (codes "z")))) (no_parts))); condition = (expression (in_batch this_host) (no_expressions)); loop = None; register = None; vars = (no_parts); notify = ([]); changed_when = None; failed_when = None; attempts = None; ignore_errors = None }) (no_steps))))); post_tasks = (no_steps); handlers = ([]); forces = false } ∷ [])

abbrev random_002499_inventory : Inventory
random_002499_inventory = record { hosts = (record { name = (codes "a"); variables = (field (codes "i2") (text ([])) (field (codes "op") opaque (field (codes "s1") (boolean true) (no_fields)))) } ∷ record { name = (codes "b"); variables = (field (codes "i2") (text (codes "t")) (field (codes "s1") (boolean true) (no_fields))) } ∷ record { name = (codes "c"); variables = (field (codes "i2") (text ([])) (field (codes "s1") (boolean true) (no_fields))) } ∷ []); groups = (record { name = (codes "all"); hosts = ((codes "a") ∷ (codes "b") ∷ (codes "c") ∷ []) } ∷ record { name = (codes "ungrouped"); hosts = ((codes "a") ∷ (codes "b") ∷ (codes "c") ∷ []) } ∷ []) }

abbrev random_002499_registry : Registry
random_002499_registry = (builtins ++ (record { name = (codes "probe"); params = (record { name = (codes "n"); kind = ints; required = false } ∷ record { name = (codes "l"); kind = (lists texts 3); required = false } ∷ []); ok = recs (slot (codes "changed") true booleans (slot (codes "deep") false (recs (slot (codes "a") true texts (slot (codes "b") false booleans (no_slots)))) (slot (codes "rows") true (lists texts 2) (slot (codes "v") false ints (no_slots))))); failure = recs (slot (codes "changed") true booleans (slot (codes "msg") true texts (slot (codes "v") false texts (slot (codes "why") true ints (no_slots))))); free = None } ∷ record { name = (codes "odd"); params = ([]); ok = recs (slot (codes "changed") true booleans (slot (codes "msg") false ints (no_slots))); failure = recs (slot (codes "changed") true booleans (slot (codes "msg") true texts (no_slots))); free = None } ∷ []))

random_002499 : judged random_002499_registry random_002499_inventory random_002499_book ≡ refused (record { code = 3; line = 2; host = (Some (codes "b")) })
random_002499 = refl

-- random_002500:
abbrev random_002500_book : Book
random_002500_book = (record { line = 1; pattern = ((codes "all") ∷ []); gathering = None; vars = (part (codes "v1") (length_of (path (other item_host (codes "opq")) ((codes "stat") ∷ (codes "isdir") ∷ []))) (no_parts)); is_linear = false; serial = ([]); pre_tasks = (no_steps); tasks = (task_step (record { line = 2; work = (debug_work (part (codes "msg") (list_of (expression (literal null) (no_expressions))) (no_parts))); condition = (no_expressions); loop = (Some (list_of (no_expressions))); register = (Some (codes "s")); vars = (no_parts); notify = ([]); changed_when = None; failed_when = None; attempts = None; ignore_errors = None }) (no_steps)); post_tasks = (no_steps); handlers = (record { work = (record { line = 3; work = (module_work (codes "ping") (no_parts)); condition = (no_expressions); loop = None; register = (Some (codes "s")); vars = (no_parts); notify = ([]); changed_when = None; failed_when = None; attempts = (Some (record { until = (expression (negation (path_status is_failed (variable (codes "s")) ([]))) (no_expressions)); retries = 1 })); ignore_errors = None }); name = (Some (codes "h0")); topics = ([]) } ∷ record { work = (record { line = 4; work = (module_work (codes "ping") (no_parts)); condition = (no_expressions); loop = None; register = None; vars = (no_parts); notify = ([]); changed_when = None; failed_when = (Some (expression (path (variable (codes "zz")) ((codes "changed") ∷ [])) (no_expressions))); attempts = None; ignore_errors = (Some false) }); name = (Some (codes "h1")); topics = ([]) } ∷ []); forces = false } ∷ [])

abbrev random_002500_inventory : Inventory
random_002500_inventory = record { hosts = (record { name = (codes "c"); variables = (field (codes "inv") (list (item (int (pos 1)) (item (int (pos 2)) (no_items)))) (no_fields)) } ∷ record { name = (codes "b"); variables = (field (codes "inv") (list (item (int (pos 1)) (item (int (pos 2)) (no_items)))) (field (codes "k") (rec (field (codes "z") opaque (no_fields))) (no_fields))) } ∷ record { name = (codes "a"); variables = (field (codes "inv") (list (item (text (codes "x")) (no_items))) (field (codes "opq") opaque (no_fields))) } ∷ []); groups = (record { name = (codes "all"); hosts = ((codes "c") ∷ (codes "b") ∷ (codes "a") ∷ []) } ∷ record { name = (codes "g"); hosts = ((codes "b") ∷ (codes "a") ∷ []) } ∷ record { name = (codes "ungrouped"); hosts = ((codes "c") ∷ []) } ∷ []) }

abbrev random_002500_registry : Registry
random_002500_registry = (builtins ++ ([]))

random_002500 : judged random_002500_registry random_002500_inventory random_002500_book ≡ refused (record { code = 1; line = 4; host = (Some (codes "c")) })
random_002500 = refl
