-- Cases of random, computed.
use Rattle.std.specs.Prelude.{◌≡◌, refl, pos, negsuc, [], ◌∷◌, ◌++◌, true, false, Some, None, codes}
use Rattle.std.specs.Fmt.{digits}
use Rattle.pb_semantics.specs.Data.{null, boolean, int, text, list, rec, opaque, no_items, item, no_fields, field}
use Rattle.pb_semantics.specs.Kind.{booleans, ints, texts, lists, recs, no_slots, slot}
use Rattle.pb_language.specs.Expression.{equal, less, is_failed, is_changed, is_skipped, named_host, this_host, item_host, group_member, literal, path, negation, conjunction, disjunction, comparison, membership, in_batch, defined, path_status, path_or, length_of, joined_by, concatenation, list_of, record_of, variable, other, no_expressions, expression, no_parts, part}
use Rattle.pb_language.specs.Book.{conditions_are, module_work, debug_work, set_fact_work, assert_work, fail_work, no_steps, task_step, block_step, flush_step, host_count, percentage, Book, Registry}
use Rattle.pb_language.specs.Builtins.{builtins}
use Rattle.pb_language.specs.Give.{object}
use Rattle.pb_language.specs.Judged.{judged}
use Rattle.pb_language.specs.Program.{Inventory}
use Rattle.pb_language.specs.Verdict.{accepted, refused}
use Rattle.pb_rows.specs.Recaps.{recaps_of}

-- random_001005:
abbrev random_001005_book : Book
random_001005_book = (record { line = 1; pattern = ((codes "all") ∷ []); gathering = (Some 2); vars = (part (codes "v1") (path (variable (codes "r2")) ((codes "failed") ∷ [])) (part (codes "v2") (concatenation (expression (literal (text (codes "x"))) (expression (path (variable (codes "r1")) ([])) (no_expressions)))) (part (codes "v3") (path (variable (codes "group_names")) ([])) (no_parts)))); is_linear = true; serial = ([]); pre_tasks = (no_steps); tasks = (task_step (record { line = 3; work = (module_work (codes "odd") (no_parts)); condition = (no_expressions); loop = None; register = None; vars = (part (codes "v1") (list_of (expression (path (variable (codes "r3")) ([])) (expression (literal (int (pos 1))) (no_expressions)))) (no_parts)); notify = ([]); changed_when = None; failed_when = None; attempts = None; ignore_errors = None }) (task_step (record { line = 4; work = (module_work (codes "setup") (no_parts)); condition = (expression (defined (variable (codes "i2")) ([])) (no_expressions)); loop = None; register = None; vars = (no_parts); notify = ((codes "t") ∷ []); changed_when = (Some (expression (literal (boolean false)) (no_expressions))); failed_when = None; attempts = None; ignore_errors = None }) (task_step (record { line = 5; work = (assert_work (conditions_are (expression (defined (variable (codes "r3")) ((codes "failed") ∷ [])) (no_expressions))) (no_parts)); condition = (no_expressions); loop = None; register = (Some (codes "r2")); vars = (no_parts); notify = ([]); changed_when = None; failed_when = (Some (expression (comparison equal (path_or (variable (codes "r2")) ((codes "msg") ∷ []) (literal (boolean true))) (literal (boolean true))) (no_expressions))); attempts = None; ignore_errors = None }) (task_step (record { line = 6; work = (module_work (codes "probe") (no_parts)); condition = (expression (membership (literal (text (codes "g1"))) (path (variable (codes "group_names")) ([]))) (no_expressions)); loop = None; register = (Some (codes "r3")); vars = (no_parts); notify = ([]); changed_when = None; failed_when = None; attempts = None; ignore_errors = None }) (no_steps))))); post_tasks = (no_steps); handlers = (record { work = (record { line = 7; work = (module_work (codes "stat") (part (codes "path") (literal (text (codes "/"))) (no_parts))); condition = (no_expressions); loop = None; register = None; vars = (no_parts); notify = ([]); changed_when = None; failed_when = None; attempts = None; ignore_errors = None }); name = (Some (codes "h0")); topics = ((codes "t") ∷ []) } ∷ []); forces = false } ∷ record { line = 8; pattern = ((codes "all") ∷ []); gathering = (Some 9); vars = (no_parts); is_linear = true; serial = ([]); pre_tasks = (no_steps); tasks = (task_step (record { line = 10; work = (set_fact_work (part (codes "s3") (literal (int (pos 1))) (no_parts))); condition = (no_expressions); loop = None; register = (Some (codes "r3")); vars = (no_parts); notify = ([]); changed_when = (Some (expression (comparison equal (path_or (variable (codes "r3")) ((codes "changed") ∷ []) (literal (boolean true))) (literal (boolean true))) (no_expressions))); failed_when = None; attempts = None; ignore_errors = None }) (task_step (record { line = 11; work = (module_work (codes "ping") (no_parts)); condition = (no_expressions); loop = None; register = None; vars = (part (codes "v1") (path_or (variable (codes "r2")) ([]) (literal (int (pos 1)))) (no_parts)); notify = ([]); changed_when = None; failed_when = None; attempts = None; ignore_errors = None }) (no_steps))); post_tasks = (no_steps); handlers = ([]); forces = false } ∷ [])

abbrev random_001005_inventory : Inventory
random_001005_inventory = record { hosts = (record { name = (codes "a"); variables = (field (codes "i2") (boolean false) (field (codes "op") opaque (field (codes "s1") (text (codes "a")) (no_fields)))) } ∷ record { name = (codes "b"); variables = (field (codes "i1") (rec (field (codes "f") (list (item null (no_items))) (field (codes "g") (int (pos 1)) (no_fields)))) (field (codes "i2") (boolean false) (no_fields))) } ∷ record { name = (codes "c"); variables = (field (codes "i2") (boolean false) (field (codes "s1") (int (pos 1)) (no_fields))) } ∷ record { name = (codes "d"); variables = (field (codes "i2") (boolean false) (field (codes "op") opaque (no_fields))) } ∷ []); groups = (record { name = (codes "all"); hosts = ((codes "a") ∷ (codes "b") ∷ (codes "c") ∷ (codes "d") ∷ []) } ∷ record { name = (codes "g2"); hosts = ((codes "a") ∷ (codes "d") ∷ []) } ∷ record { name = (codes "ungrouped"); hosts = ((codes "b") ∷ (codes "c") ∷ []) } ∷ []) }

abbrev random_001005_registry : Registry
random_001005_registry = (builtins ++ (record { name = (codes "probe"); params = (record { name = (codes "n"); kind = ints; required = false } ∷ record { name = (codes "l"); kind = (lists texts 3); required = false } ∷ []); ok = recs (slot (codes "changed") true booleans (slot (codes "deep") false (recs (slot (codes "a") true texts (slot (codes "b") false booleans (no_slots)))) (slot (codes "rows") true (lists texts 2) (slot (codes "v") false ints (no_slots))))); failure = recs (slot (codes "changed") true booleans (slot (codes "msg") true texts (slot (codes "v") false texts (slot (codes "why") true ints (no_slots))))); free = None } ∷ record { name = (codes "odd"); params = ([]); ok = recs (slot (codes "changed") true booleans (slot (codes "msg") false ints (no_slots))); failure = recs (slot (codes "changed") true booleans (slot (codes "msg") true texts (no_slots))); free = None } ∷ []))

random_001005 : judged random_001005_registry random_001005_inventory random_001005_book ≡ accepted 28
random_001005 = refl

-- random_001036:
abbrev random_001036_book : Book
random_001036_book = (record { line = 1; pattern = ((codes "all") ∷ []); gathering = None; vars = (no_parts); is_linear = false; serial = (host_count 1 ∷ host_count 2 ∷ []); pre_tasks = (no_steps); tasks = (block_step (record { line = 2; condition = (no_expressions); vars = (no_parts); ignore_errors = (Some false) }) (block_step (record { line = 3; condition = (no_expressions); vars = (no_parts); ignore_errors = None }) (task_step (record { line = 4; work = (fail_work (part (codes "msg") (literal (text (codes "m"))) (no_parts))); condition = (expression (membership (literal (text (codes "a"))) (path (variable (codes "s")) ((codes "stdout") ∷ []))) (no_expressions)); loop = None; register = None; vars = (no_parts); notify = ([]); changed_when = None; failed_when = None; attempts = None; ignore_errors = None }) (no_steps)) (no_steps) (no_steps) (no_steps)) (no_steps) (no_steps) (no_steps)); post_tasks = (no_steps); handlers = ([]); forces = false } ∷ [])

abbrev random_001036_inventory : Inventory
random_001036_inventory = record { hosts = (record { name = (codes "c"); variables = (field (codes "inv") (list (item (int (pos 1)) (item (int (pos 2)) (no_items)))) (no_fields)) } ∷ record { name = (codes "b"); variables = (field (codes "inv") (list (item (int (pos 1)) (item (int (pos 2)) (no_items)))) (field (codes "k") (rec (field (codes "z") opaque (no_fields))) (no_fields))) } ∷ record { name = (codes "a"); variables = (field (codes "inv") (list (item (text (codes "x")) (no_items))) (field (codes "opq") opaque (no_fields))) } ∷ []); groups = (record { name = (codes "all"); hosts = ((codes "c") ∷ (codes "b") ∷ (codes "a") ∷ []) } ∷ record { name = (codes "g"); hosts = ((codes "b") ∷ (codes "a") ∷ []) } ∷ record { name = (codes "ungrouped"); hosts = ((codes "c") ∷ []) } ∷ []) }

abbrev random_001036_registry : Registry
random_001036_registry = (builtins ++ ([]))

random_001036 : judged random_001036_registry random_001036_inventory random_001036_book ≡ refused (record { code = 1; line = 4; host = (Some (codes "c")) })
random_001036 = refl

-- random_001041:
abbrev random_001041_book : Book
random_001041_book = (record { line = 1; pattern = ((codes "g1") ∷ []); gathering = None; vars = (part (codes "v1") (record_of (no_parts)) (part (codes "v2") (literal (text (codes "a"))) (no_parts))); is_linear = true; serial = (host_count 1 ∷ percentage 100 ∷ []); pre_tasks = (no_steps); tasks = (block_step (record { line = 2; condition = (no_expressions); vars = (no_parts); ignore_errors = None }) (task_step (record { line = 3; work = (set_fact_work (part (codes "s1") (literal (int (pos 1))) (no_parts))); condition = (no_expressions); loop = None; register = (Some (codes "r3")); vars = (no_parts); notify = ([]); changed_when = None; failed_when = None; attempts = None; ignore_errors = None }) (no_steps)) (task_step (record { line = 4; work = (module_work (codes "command") (part (codes "cmd") (literal (text (codes "x"))) (no_parts))); condition = (no_expressions); loop = None; register = None; vars = (no_parts); notify = ([]); changed_when = None; failed_when = None; attempts = None; ignore_errors = None }) (no_steps)) (block_step (record { line = 5; condition = (no_expressions); vars = (no_parts); ignore_errors = None }) (no_steps) (no_steps) (no_steps) (task_step (record { line = 6; work = (module_work (codes "command") (part (codes "cmd") (concatenation (expression (literal (text (codes "x "))) (expression (literal (text (codes "t"))) (no_expressions)))) (no_parts))); condition = (no_expressions); loop = None; register = (Some (codes "r3")); vars = (no_parts); notify = ([]); changed_when = None; failed_when = (Some (expression (literal (boolean true)) (no_expressions))); attempts = None; ignore_errors = None }) (no_steps))) (task_step (record { line = 7; work = (debug_work (part (codes "msg") (path (variable (codes "r1")) ((codes "failed") ∷ [])) (no_parts))); condition = (expression (defined (variable (codes "r1")) ([])) (expression (negation (path_status is_failed (variable (codes "r1")) ([]))) (no_expressions))); loop = None; register = (Some (codes "r2")); vars = (no_parts); notify = ([]); changed_when = None; failed_when = None; attempts = None; ignore_errors = None }) (no_steps))); post_tasks = (no_steps); handlers = (record { work = (record { line = 8; work = (module_work (codes "ping") (no_parts)); condition = (no_expressions); loop = None; register = None; vars = (no_parts); notify = ([]); changed_when = None; failed_when = None; attempts = None; ignore_errors = None }); name = (Some (codes "h0")); topics = ((codes "t") ∷ []) } ∷ []); forces = true } ∷ [])

abbrev random_001041_inventory : Inventory
random_001041_inventory = record { hosts = (record { name = (codes "a"); variables = (field (codes "i1") (text ([])) (field (codes "i2") (text (codes "no")) (field (codes "op") opaque (field (codes "s1") (boolean true) (no_fields))))) } ∷ record { name = (codes "b"); variables = (field (codes "i1") (text ([])) (field (codes "i2") (rec (field (codes "f") (list (item (boolean true) (item (boolean false) (no_items)))) (field (codes "g") (text (codes "t")) (no_fields)))) (field (codes "s1") (boolean true) (no_fields)))) } ∷ record { name = (codes "c"); variables = (field (codes "i1") (text ([])) (field (codes "s1") (boolean true) (no_fields))) } ∷ record { name = (codes "d"); variables = (field (codes "op") opaque (no_fields)) } ∷ []); groups = (record { name = (codes "all"); hosts = ((codes "a") ∷ (codes "b") ∷ (codes "c") ∷ (codes "d") ∷ []) } ∷ record { name = (codes "g1"); hosts = ((codes "a") ∷ (codes "b") ∷ (codes "c") ∷ []) } ∷ record { name = (codes "ungrouped"); hosts = ((codes "d") ∷ []) } ∷ []) }

abbrev random_001041_registry : Registry
random_001041_registry = (builtins ++ (record { name = (codes "probe"); params = (record { name = (codes "n"); kind = ints; required = false } ∷ record { name = (codes "l"); kind = (lists texts 3); required = false } ∷ []); ok = recs (slot (codes "changed") true booleans (slot (codes "deep") false (recs (slot (codes "a") true texts (slot (codes "b") false booleans (no_slots)))) (slot (codes "rows") true (lists texts 2) (slot (codes "v") false ints (no_slots))))); failure = recs (slot (codes "changed") true booleans (slot (codes "msg") true texts (slot (codes "v") false texts (slot (codes "why") true ints (no_slots))))); free = None } ∷ record { name = (codes "odd"); params = ([]); ok = recs (slot (codes "changed") true booleans (slot (codes "msg") false ints (no_slots))); failure = recs (slot (codes "changed") true booleans (slot (codes "msg") true texts (no_slots))); free = None } ∷ []))

random_001041 : judged random_001041_registry random_001041_inventory random_001041_book ≡ accepted 9
random_001041 = refl

-- random_001047:
abbrev random_001047_book : Book
random_001047_book = (record { line = 1; pattern = ((codes "a") ∷ []); gathering = None; vars = (no_parts); is_linear = false; serial = (host_count 1 ∷ host_count 2 ∷ []); pre_tasks = (no_steps); tasks = (task_step (record { line = 2; work = (module_work (codes "command") (part (codes "cmd") (literal (text (codes "x"))) (no_parts))); condition = (expression (path_or (variable (codes "r2")) ((codes "skip_reason") ∷ []) (literal (boolean false))) (no_expressions)); loop = None; register = (Some (codes "r1")); vars = (part (codes "v1") (path (variable (codes "r3")) ((codes "changed") ∷ [])) (no_parts)); notify = ([]); changed_when = (Some (expression (comparison equal (path_or (variable (codes "r1")) ((codes "rc") ∷ []) (literal (boolean true))) (literal (boolean true))) (no_expressions))); failed_when = None; attempts = None; ignore_errors = None }) (no_steps)); post_tasks = (task_step (record { line = 3; work = (module_work (codes "setup") (no_parts)); condition = (no_expressions); loop = None; register = None; vars = (no_parts); notify = ([]); changed_when = None; failed_when = (Some (expression (literal (boolean true)) (no_expressions))); attempts = None; ignore_errors = None }) (flush_step 4 (task_step (record { line = 5; work = (module_work (codes "ping") (no_parts)); condition = (no_expressions); loop = (Some (path (variable (codes "groups")) ((codes "all") ∷ []))); register = (Some (codes "r3")); vars = (part (codes "v2") (concatenation (expression (literal (text (codes "x"))) (expression (path (variable (codes "item")) ([])) (no_expressions)))) (part (codes "v3") (path (other (named_host (codes "a")) (codes "r2")) ((codes "failed") ∷ [])) (no_parts))); notify = ([]); changed_when = None; failed_when = (Some (expression (conjunction (expression (defined (variable (codes "r3")) ((codes "ping") ∷ [])) (expression (comparison equal (path (variable (codes "r3")) ((codes "ping") ∷ [])) (literal (text (codes "a")))) (no_expressions)))) (no_expressions))); attempts = None; ignore_errors = (Some true) }) (no_steps)))); handlers = (record { work = (record { line = 6; work = (debug_work (part (codes "msg") (path (other (named_host (codes "a")) (codes "r2")) ((codes "failed") ∷ [])) (no_parts))); condition = (expression (defined (other (named_host (codes "a")) (codes "r2")) ([])) (expression (path_status is_failed (other (named_host (codes "a")) (codes "r2")) ([])) (no_expressions))); loop = None; register = (Some (codes "r3")); vars = (no_parts); notify = ([]); changed_when = None; failed_when = None; attempts = None; ignore_errors = None }); name = (Some (codes "h0")); topics = ((codes "t") ∷ []) } ∷ []); forces = true } ∷ record { line = 7; pattern = ((codes "all") ∷ []); gathering = None; vars = (no_parts); is_linear = true; serial = ([]); pre_tasks = (no_steps); tasks = (block_step (record { line = 8; condition = (expression (comparison equal (path (variable (codes "inventory_hostname")) ([])) (literal (text (codes "a")))) (no_expressions)); vars = (no_parts); ignore_errors = None }) (task_step (record { line = 9; work = (module_work (codes "command") (part (codes "cmd") (literal (text (codes "x"))) (no_parts))); condition = (no_expressions); loop = None; register = None; vars = (no_parts); notify = ([]); changed_when = None; failed_when = None; attempts = None; ignore_errors = (Some false) }) (no_steps)) (no_steps) (no_steps) (task_step (record { line = 10; work = (debug_work (part (codes "msg") (path (variable (codes "r1")) ([])) (no_parts))); condition = (expression (defined (variable (codes "r1")) ([])) (no_expressions)); loop = (Some (path (variable (codes "groups")) ((codes "all") ∷ []))); register = None; vars = (part (codes "v2") (path (other (group_member (codes "all") 0) (codes "r2")) ((codes "changed") ∷ [])) (part (codes "v3") (concatenation (expression (literal (text (codes "x"))) (expression (path (variable (codes "item")) ((codes "f") ∷ [])) (no_expressions)))) (no_parts))); notify = ([]); changed_when = (Some (expression (literal (boolean true)) (no_expressions))); failed_when = None; attempts = None; ignore_errors = None }) (task_step (record { line = 11; work = (module_work (codes "stat") (part (codes "path") (literal (text (codes "/"))) (no_parts))); condition = (no_expressions); loop = None; register = (Some (codes "r3")); vars = (no_parts); notify = ([]); changed_when = None; failed_when = None; attempts = None; ignore_errors = None }) (task_step (record { line = 12; work = (module_work (codes "command") (part (codes "cmd") (literal (text (codes "x"))) (no_parts))); condition = (no_expressions); loop = None; register = None; vars = (no_parts); notify = ([]); changed_when = None; failed_when = None; attempts = None; ignore_errors = (Some true) }) (no_steps))))); post_tasks = (no_steps); handlers = ([]); forces = false } ∷ [])

abbrev random_001047_inventory : Inventory
random_001047_inventory = record { hosts = (record { name = (codes "a"); variables = (field (codes "i1") (boolean true) (field (codes "i2") (rec (field (codes "f") (int (pos 1)) (field (codes "g") (list (item (boolean true) (no_items))) (no_fields)))) (field (codes "op") opaque (field (codes "s1") (list (item (text (codes "t")) (no_items))) (no_fields))))) } ∷ []); groups = (record { name = (codes "all"); hosts = ((codes "a") ∷ []) } ∷ record { name = (codes "g1"); hosts = ((codes "a") ∷ []) } ∷ record { name = (codes "g2"); hosts = ((codes "a") ∷ []) } ∷ record { name = (codes "ungrouped"); hosts = ([]) } ∷ []) }

abbrev random_001047_registry : Registry
random_001047_registry = (builtins ++ (record { name = (codes "probe"); params = (record { name = (codes "n"); kind = ints; required = false } ∷ record { name = (codes "l"); kind = (lists texts 3); required = false } ∷ []); ok = recs (slot (codes "changed") true booleans (slot (codes "deep") false (recs (slot (codes "a") true texts (slot (codes "b") false booleans (no_slots)))) (slot (codes "rows") true (lists texts 2) (slot (codes "v") false ints (no_slots))))); failure = recs (slot (codes "changed") true booleans (slot (codes "msg") true texts (slot (codes "v") false texts (slot (codes "why") true ints (no_slots))))); free = None } ∷ record { name = (codes "odd"); params = ([]); ok = recs (slot (codes "changed") true booleans (slot (codes "msg") false ints (no_slots))); failure = recs (slot (codes "changed") true booleans (slot (codes "msg") true texts (no_slots))); free = None } ∷ []))

random_001047 : judged random_001047_registry random_001047_inventory random_001047_book ≡ accepted 6
random_001047 = refl

-- random_001048:
abbrev random_001048_book : Book
random_001048_book = (record { line = 1; pattern = ((codes "g") ∷ []); gathering = (Some 2); vars = (no_parts); is_linear = true; serial = (host_count 1 ∷ host_count 2 ∷ []); pre_tasks = (no_steps); tasks = (task_step (record { line = 3; work = (set_fact_work (part (codes "s") (list_of (expression (path (variable (codes "ansible_play_batch")) ([])) (no_expressions))) (no_parts))); condition = (no_expressions); loop = None; register = None; vars = (no_parts); notify = ([]); changed_when = None; failed_when = None; attempts = None; ignore_errors = None }) (no_steps)); post_tasks = (no_steps); handlers = ([]); forces = false } ∷ [])

abbrev random_001048_inventory : Inventory
random_001048_inventory = record { hosts = (record { name = (codes "c"); variables = (field (codes "inv") (list (item (int (pos 1)) (item (int (pos 2)) (no_items)))) (no_fields)) } ∷ record { name = (codes "b"); variables = (field (codes "inv") (list (item (int (pos 1)) (item (int (pos 2)) (no_items)))) (field (codes "k") (rec (field (codes "z") opaque (no_fields))) (no_fields))) } ∷ record { name = (codes "a"); variables = (field (codes "inv") (list (item (text (codes "x")) (no_items))) (field (codes "opq") opaque (no_fields))) } ∷ []); groups = (record { name = (codes "all"); hosts = ((codes "c") ∷ (codes "b") ∷ (codes "a") ∷ []) } ∷ record { name = (codes "g"); hosts = ((codes "b") ∷ (codes "a") ∷ []) } ∷ record { name = (codes "ungrouped"); hosts = ((codes "c") ∷ []) } ∷ []) }

abbrev random_001048_registry : Registry
random_001048_registry = (builtins ++ ([]))

random_001048 : judged random_001048_registry random_001048_inventory random_001048_book ≡ accepted 2
random_001048 = refl

-- random_001051_run:
abbrev random_001051_run_book : Book
random_001051_run_book = (record { line = 1; pattern = ((codes "all") ∷ []); gathering = (Some 2); vars = (no_parts); is_linear = true; serial = ([]); pre_tasks = (task_step (record { line = 3; work = (module_work (codes "command") (part (codes "cmd") (concatenation (expression (literal (text (codes "x "))) (expression (path_or (variable (codes "ansible_facts")) ((codes "hostname") ∷ []) (path (variable (codes "s1")) ([]))) (no_expressions)))) (no_parts))); condition = (expression (in_batch item_host) (no_expressions)); loop = (Some (path (variable (codes "ansible_play_batch")) ([]))); register = (Some (codes "r1")); vars = (part (codes "v3") (path (other item_host (codes "s2")) ([])) (no_parts)); notify = ((codes "h0") ∷ []); changed_when = None; failed_when = None; attempts = None; ignore_errors = None }) (no_steps)); tasks = (task_step (record { line = 4; work = (module_work (codes "odd") (no_parts)); condition = (no_expressions); loop = None; register = (Some (codes "r2")); vars = (no_parts); notify = ((codes "h0") ∷ []); changed_when = None; failed_when = None; attempts = None; ignore_errors = None }) (task_step (record { line = 5; work = (module_work (codes "setup") (no_parts)); condition = (no_expressions); loop = None; register = (Some (codes "r3")); vars = (part (codes "v1") (path (variable (codes "s1")) ([])) (part (codes "v3") (path (variable (codes "r1")) ([])) (no_parts))); notify = ([]); changed_when = None; failed_when = None; attempts = None; ignore_errors = None }) (no_steps))); post_tasks = (task_step (record { line = 6; work = (module_work (codes "command") (part (codes "cmd") (literal (text (codes "x"))) (no_parts))); condition = (no_expressions); loop = None; register = None; vars = (no_parts); notify = ((codes "h1") ∷ []); changed_when = (Some (expression (literal (boolean true)) (no_expressions))); failed_when = None; attempts = None; ignore_errors = None }) (no_steps)); handlers = (record { work = (record { line = 7; work = (module_work (codes "probe") (no_parts)); condition = (no_expressions); loop = None; register = None; vars = (no_parts); notify = ([]); changed_when = None; failed_when = None; attempts = (Some (record { until = (expression (literal (boolean true)) (no_expressions)); retries = 3 })); ignore_errors = None }); name = (Some (codes "h0")); topics = ([]) } ∷ record { work = (record { line = 8; work = (set_fact_work (part (codes "s3") (list_of (expression (literal null) (no_expressions))) (no_parts))); condition = (expression (in_batch item_host) (no_expressions)); loop = (Some (path (variable (codes "ansible_play_batch")) ([]))); register = None; vars = (no_parts); notify = ([]); changed_when = (Some (expression (literal (boolean true)) (no_expressions))); failed_when = None; attempts = None; ignore_errors = None }); name = (Some (codes "h1")); topics = ((codes "t") ∷ []) } ∷ []); forces = true } ∷ record { line = 9; pattern = ((codes "all") ∷ []); gathering = None; vars = (no_parts); is_linear = false; serial = ([]); pre_tasks = (no_steps); tasks = (task_step (record { line = 10; work = (module_work (codes "ping") (no_parts)); condition = (no_expressions); loop = None; register = None; vars = (part (codes "v2") (path_or (variable (codes "r2")) ((codes "changed") ∷ []) (list_of (no_expressions))) (no_parts)); notify = ([]); changed_when = (Some (expression (literal (boolean true)) (no_expressions))); failed_when = (Some (expression (comparison equal (path (variable (codes "inventory_hostname")) ([])) (literal (text (codes "a")))) (no_expressions))); attempts = None; ignore_errors = None }) (task_step (record { line = 11; work = (module_work (codes "command") (part (codes "cmd") (literal (text (codes "x"))) (no_parts))); condition = (no_expressions); loop = (Some (list_of (expression (list_of (expression (literal (text (codes "b"))) (expression (literal (boolean true)) (no_expressions)))) (expression (record_of (part (codes "f") (record_of (part (codes "g") (literal null) (no_parts))) (part (codes "g") (literal (text (codes "t"))) (no_parts)))) (expression (literal (text (codes "no"))) (no_expressions)))))); register = None; vars = (no_parts); notify = ((codes "t") ∷ []); changed_when = None; failed_when = None; attempts = None; ignore_errors = None }) (task_step (record { line = 12; work = (module_work (codes "command") (part (codes "cmd") (literal (text (codes "x"))) (no_parts))); condition = (no_expressions); loop = None; register = None; vars = (no_parts); notify = ([]); changed_when = None; failed_when = None; attempts = None; ignore_errors = None }) (no_steps)))); post_tasks = (no_steps); handlers = (record { work = (record { line = 13; work = (assert_work (conditions_are (expression (literal (boolean true)) (no_expressions))) (no_parts)); condition = (no_expressions); loop = (Some (path_or (variable (codes "r2")) ((codes "results") ∷ []) (list_of (no_expressions)))); register = (Some (codes "r1")); vars = (no_parts); notify = ((codes "h1") ∷ []); changed_when = None; failed_when = None; attempts = None; ignore_errors = None }); name = (Some (codes "h0")); topics = ([]) } ∷ record { work = (record { line = 14; work = (module_work (codes "command") (part (codes "cmd") (literal (text (codes "x"))) (no_parts))); condition = (no_expressions); loop = None; register = None; vars = (part (codes "v1") (path (variable (codes "r3")) ([])) (no_parts)); notify = ([]); changed_when = None; failed_when = None; attempts = None; ignore_errors = None }); name = (Some (codes "h1")); topics = ((codes "t") ∷ []) } ∷ []); forces = false } ∷ record { line = 15; pattern = ((codes "all") ∷ []); gathering = None; vars = (no_parts); is_linear = false; serial = ([]); pre_tasks = (no_steps); tasks = (flush_step 16 (no_steps)); post_tasks = (no_steps); handlers = (record { work = (record { line = 17; work = (fail_work (part (codes "msg") (literal (text (codes "m"))) (no_parts))); condition = (no_expressions); loop = (Some (list_of (expression (literal (text (codes "b"))) (expression (list_of (expression (literal (text (codes "no"))) (expression (literal (text (codes "no"))) (no_expressions)))) (no_expressions))))); register = None; vars = (no_parts); notify = ([]); changed_when = None; failed_when = None; attempts = None; ignore_errors = None }); name = (Some (codes "h0")); topics = ((codes "t") ∷ []) } ∷ []); forces = true } ∷ [])

abbrev random_001051_run_inventory : Inventory
random_001051_run_inventory = record { hosts = (record { name = (codes "a"); variables = (field (codes "i1") (rec (field (codes "f") (rec (field (codes "f") (boolean false) (field (codes "g") null (no_fields)))) (field (codes "g") (list (item (boolean true) (item (int (pos 2)) (no_items)))) (no_fields)))) (field (codes "i2") (rec (field (codes "f") (int (pos 1)) (field (codes "g") (text (codes "no")) (no_fields)))) (field (codes "op") opaque (field (codes "s1") (list (item (text (codes "b")) (item (boolean true) (no_items)))) (no_fields))))) } ∷ []); groups = (record { name = (codes "all"); hosts = ((codes "a") ∷ []) } ∷ record { name = (codes "g1"); hosts = ((codes "a") ∷ []) } ∷ record { name = (codes "ungrouped"); hosts = ([]) } ∷ []) }

abbrev random_001051_run_registry : Registry
random_001051_run_registry = (builtins ++ (record { name = (codes "probe"); params = (record { name = (codes "n"); kind = ints; required = false } ∷ record { name = (codes "l"); kind = (lists texts 3); required = false } ∷ []); ok = recs (slot (codes "changed") true booleans (slot (codes "deep") false (recs (slot (codes "a") true texts (slot (codes "b") false booleans (no_slots)))) (slot (codes "rows") true (lists texts 2) (slot (codes "v") false ints (no_slots))))); failure = recs (slot (codes "changed") true booleans (slot (codes "msg") true texts (slot (codes "v") false texts (slot (codes "why") true ints (no_slots))))); free = None } ∷ record { name = (codes "odd"); params = ([]); ok = recs (slot (codes "changed") true booleans (slot (codes "msg") false ints (no_slots))); failure = recs (slot (codes "changed") true booleans (slot (codes "msg") true texts (no_slots))); free = None } ∷ []))

random_001051_run : recaps_of random_001051_run_registry random_001051_run_inventory random_001051_run_book 1 ((object (rec (field (codes "changed") (boolean true) (field (codes "extra") (rec (field (codes "a") (int (pos 1)) (no_fields))) (field (codes "failed") (boolean true) (field (codes "msg") (text (codes "b")) (no_fields)))))) ∷ []) ∷ []) ≡ (record { ok = 0; changed = 0; unreachable = 0; failed = 1; skipped = 0; rescued = 0; ignored = 0 } ∷ [])
unfolding digits
random_001051_run = refl

-- random_001052:
abbrev random_001052_book : Book
random_001052_book = (record { line = 1; pattern = ((codes "all") ∷ []); gathering = None; vars = (no_parts); is_linear = true; serial = ([]); pre_tasks = (no_steps); tasks = (task_step (record { line = 2; work = (set_fact_work (part (codes "y") (path (variable (codes "r")) ((codes "stdout_lines") ∷ [])) (no_parts))); condition = (expression (in_batch (group_member (codes "g") 0)) (no_expressions)); loop = None; register = (Some (codes "s")); vars = (no_parts); notify = ([]); changed_when = (Some (expression (literal (boolean false)) (no_expressions))); failed_when = None; attempts = None; ignore_errors = None }) (task_step (record { line = 3; work = (module_work (codes "ping") (no_parts)); condition = (expression (negation (disjunction (expression (negation (defined (variable (codes "r")) ([]))) (expression (path_status is_failed (variable (codes "r")) ([])) (no_expressions))))) (no_expressions)); loop = None; register = None; vars = (no_parts); notify = ([]); changed_when = None; failed_when = None; attempts = None; ignore_errors = None }) (block_step (record { line = 4; condition = (no_expressions); vars = (no_parts); ignore_errors = None }) (block_step (record { line = 5; condition = (no_expressions); vars = (no_parts); ignore_errors = None }) (task_step (record { line = 6; work = (debug_work (part (codes "msg") (literal (int (pos 1))) (no_parts))); condition = (no_expressions); loop = None; register = None; vars = (no_parts); notify = ([]); changed_when = None; failed_when = (Some (expression (path_status is_failed (variable (codes "zz")) ([])) (no_expressions))); attempts = None; ignore_errors = None }) (task_step (record { line = 7; work = (module_work (codes "command") (part (codes "cmd") (concatenation (expression (literal (text (codes "x"))) (expression (path (variable (codes "r")) ((codes "rc") ∷ [])) (no_expressions)))) (no_parts))); condition = (expression (comparison less (path (variable (codes "s")) ((codes "results") ∷ [])) (literal (int (pos 3)))) (no_expressions)); loop = None; register = None; vars = (no_parts); notify = ([]); changed_when = None; failed_when = None; attempts = None; ignore_errors = None }) (no_steps))) (task_step (record { line = 8; work = (set_fact_work (part (codes "y") (path (variable (codes "r")) ((codes "rc") ∷ [])) (no_parts))); condition = (expression (negation (defined (variable (codes "r")) ((codes "stdout") ∷ []))) (no_expressions)); loop = None; register = None; vars = (no_parts); notify = ([]); changed_when = None; failed_when = None; attempts = None; ignore_errors = None }) (task_step (record { line = 9; work = (fail_work (no_parts)); condition = (expression (conjunction (expression (defined (variable (codes "r")) ([])) (expression (negation (path_status is_failed (variable (codes "r")) ([]))) (no_expressions)))) (no_expressions)); loop = (Some (list_of (expression (literal (text (codes "a"))) (expression (literal (text (codes "b"))) (no_expressions))))); register = (Some (codes "s")); vars = (no_parts); notify = ([]); changed_when = None; failed_when = None; attempts = None; ignore_errors = None }) (no_steps))) (no_steps) (block_step (record { line = 10; condition = (no_expressions); vars = (no_parts); ignore_errors = None }) (task_step (record { line = 11; work = (module_work (codes "ping") (no_parts)); condition = (expression (comparison equal (path (variable (codes "s")) ((codes "changed") ∷ [])) (literal (int (pos 1)))) (no_expressions)); loop = None; register = None; vars = (no_parts); notify = ([]); changed_when = None; failed_when = None; attempts = None; ignore_errors = None }) (no_steps)) (no_steps) (no_steps) (no_steps))) (task_step (record { line = 12; work = (module_work (codes "command") (part (codes "cmd") (literal (text (codes "x"))) (no_parts))); condition = (no_expressions); loop = (Some (list_of (no_expressions))); register = (Some (codes "s")); vars = (no_parts); notify = ([]); changed_when = None; failed_when = None; attempts = None; ignore_errors = None }) (task_step (record { line = 13; work = (assert_work (conditions_are (expression (negation (membership (literal (text (codes "a"))) (path (variable (codes "s")) ([])))) (expression (in_batch (named_host (codes "b"))) (no_expressions)))) (no_parts)); condition = (no_expressions); loop = None; register = None; vars = (no_parts); notify = ([]); changed_when = None; failed_when = None; attempts = None; ignore_errors = None }) (no_steps))) (no_steps) (block_step (record { line = 14; condition = (expression (conjunction (expression (disjunction (expression (negation (path_status is_failed (variable (codes "ansible_play_batch")) ((codes "rc") ∷ []))) (expression (negation (defined (variable (codes "ansible_failed_result")) ((codes "os_family") ∷ []))) (no_expressions)))) (expression (in_batch (named_host (codes "b"))) (no_expressions)))) (no_expressions)); vars = (no_parts); ignore_errors = None }) (no_steps) (no_steps) (block_step (record { line = 15; condition = (expression (disjunction (expression (comparison equal (path (other (named_host (codes "a")) (codes "s")) ([])) (literal (int (pos 1)))) (expression (conjunction (expression (path_status is_failed (variable (codes "inv")) ([])) (expression (comparison equal (path (other this_host (codes "r")) ([])) (literal (int (pos 1)))) (no_expressions)))) (no_expressions)))) (expression (path_status is_changed (variable (codes "r")) ((codes "stdout") ∷ [])) (no_expressions))); vars = (no_parts); ignore_errors = None }) (no_steps) (no_steps) (no_steps) (no_steps)) (no_steps))))); post_tasks = (no_steps); handlers = ([]); forces = true } ∷ [])

abbrev random_001052_inventory : Inventory
random_001052_inventory = record { hosts = (record { name = (codes "c"); variables = (field (codes "inv") (list (item (int (pos 1)) (item (int (pos 2)) (no_items)))) (no_fields)) } ∷ record { name = (codes "b"); variables = (field (codes "inv") (list (item (int (pos 1)) (item (int (pos 2)) (no_items)))) (field (codes "k") (rec (field (codes "z") opaque (no_fields))) (no_fields))) } ∷ record { name = (codes "a"); variables = (field (codes "inv") (list (item (text (codes "x")) (no_items))) (field (codes "opq") opaque (no_fields))) } ∷ []); groups = (record { name = (codes "all"); hosts = ((codes "c") ∷ (codes "b") ∷ (codes "a") ∷ []) } ∷ record { name = (codes "g"); hosts = ((codes "b") ∷ (codes "a") ∷ []) } ∷ record { name = (codes "ungrouped"); hosts = ((codes "c") ∷ []) } ∷ []) }

abbrev random_001052_registry : Registry
random_001052_registry = (builtins ++ ([]))

random_001052 : judged random_001052_registry random_001052_inventory random_001052_book ≡ refused (record { code = 1; line = 2; host = (Some (codes "c")) })
random_001052 = refl

-- random_001053_run:
abbrev random_001053_run_book : Book
random_001053_run_book = (record { line = 1; pattern = ((codes "all") ∷ []); gathering = None; vars = (no_parts); is_linear = true; serial = ([]); pre_tasks = (no_steps); tasks = (task_step (record { line = 2; work = (set_fact_work (part (codes "s3") (record_of (part (codes "f") (path (other (named_host (codes "c")) (codes "r3")) ((codes "failed") ∷ [])) (part (codes "rc") (literal (int (pos 1))) (no_parts)))) (no_parts))); condition = (expression (defined (other (named_host (codes "c")) (codes "r3")) ([])) (expression (defined (other (named_host (codes "c")) (codes "r3")) ((codes "failed") ∷ [])) (no_expressions))); loop = None; register = (Some (codes "r1")); vars = (no_parts); notify = ([]); changed_when = None; failed_when = None; attempts = None; ignore_errors = None }) (block_step (record { line = 3; condition = (no_expressions); vars = (no_parts); ignore_errors = None }) (task_step (record { line = 4; work = (module_work (codes "setup") (no_parts)); condition = (no_expressions); loop = None; register = None; vars = (no_parts); notify = ([]); changed_when = None; failed_when = (Some (expression (literal (boolean true)) (no_expressions))); attempts = (Some (record { until = (expression (comparison equal (path (variable (codes "inventory_hostname")) ([])) (literal (text (codes "a")))) (no_expressions)); retries = 2 })); ignore_errors = None }) (task_step (record { line = 5; work = (set_fact_work (part (codes "s2") (literal (text (codes "t"))) (no_parts))); condition = (no_expressions); loop = None; register = (Some (codes "r1")); vars = (no_parts); notify = ([]); changed_when = None; failed_when = None; attempts = None; ignore_errors = None }) (block_step (record { line = 6; condition = (no_expressions); vars = (no_parts); ignore_errors = None }) (task_step (record { line = 7; work = (debug_work (part (codes "msg") (literal (text (codes "x"))) (no_parts))); condition = (no_expressions); loop = (Some (path (variable (codes "groups")) ((codes "all") ∷ []))); register = None; vars = (no_parts); notify = ([]); changed_when = None; failed_when = None; attempts = None; ignore_errors = None }) (task_step (record { line = 8; work = (module_work (codes "command") (part (codes "cmd") (literal (text (codes "x"))) (no_parts))); condition = (no_expressions); loop = None; register = (Some (codes "r1")); vars = (part (codes "v3") (path (variable (codes "i2")) ([])) (no_parts)); notify = ([]); changed_when = None; failed_when = None; attempts = None; ignore_errors = None }) (no_steps))) (block_step (record { line = 9; condition = (no_expressions); vars = (no_parts); ignore_errors = None }) (task_step (record { line = 10; work = (module_work (codes "stat") (part (codes "path") (literal (text (codes "/"))) (no_parts))); condition = (no_expressions); loop = None; register = (Some (codes "r2")); vars = (no_parts); notify = ([]); changed_when = None; failed_when = None; attempts = None; ignore_errors = None }) (no_steps)) (task_step (record { line = 11; work = (assert_work (conditions_are (expression (negation (defined (other (named_host (codes "b")) (codes "r1")) ((codes "stdout_lines") ∷ []))) (no_expressions))) (no_parts)); condition = (no_expressions); loop = None; register = (Some (codes "r2")); vars = (no_parts); notify = ([]); changed_when = None; failed_when = None; attempts = None; ignore_errors = None }) (no_steps)) (no_steps) (task_step (record { line = 12; work = (assert_work (conditions_are (expression (comparison equal (path (variable (codes "v3")) ([])) (literal (int (pos 1)))) (no_expressions))) (no_parts)); condition = (no_expressions); loop = None; register = (Some (codes "r2")); vars = (part (codes "v3") (path (variable (codes "r2")) ((codes "failed") ∷ [])) (no_parts)); notify = ([]); changed_when = None; failed_when = (Some (expression (comparison equal (path_or (variable (codes "r2")) ((codes "msg") ∷ []) (literal (boolean true))) (literal (boolean true))) (no_expressions))); attempts = None; ignore_errors = None }) (no_steps))) (no_steps) (no_steps)))) (task_step (record { line = 13; work = (module_work (codes "ping") (no_parts)); condition = (no_expressions); loop = (Some (list_of (no_expressions))); register = None; vars = (part (codes "v3") (concatenation (expression (literal (text (codes "x"))) (expression (path (variable (codes "r2")) ([])) (no_expressions)))) (no_parts)); notify = ([]); changed_when = (Some (expression (comparison equal (path (variable (codes "inventory_hostname")) ([])) (literal (text (codes "a")))) (no_expressions))); failed_when = None; attempts = None; ignore_errors = None }) (task_step (record { line = 14; work = (module_work (codes "ping") (no_parts)); condition = (expression (in_batch item_host) (no_expressions)); loop = (Some (path (variable (codes "ansible_play_batch")) ([]))); register = (Some (codes "r2")); vars = (no_parts); notify = ([]); changed_when = None; failed_when = (Some (expression (comparison equal (path_or (variable (codes "r2")) ((codes "changed") ∷ []) (literal (boolean true))) (literal (boolean true))) (no_expressions))); attempts = None; ignore_errors = None }) (no_steps))) (task_step (record { line = 15; work = (assert_work (conditions_are (expression (literal (boolean true)) (no_expressions))) (no_parts)); condition = (no_expressions); loop = None; register = (Some (codes "r3")); vars = (no_parts); notify = ([]); changed_when = None; failed_when = None; attempts = None; ignore_errors = None }) (no_steps)) (task_step (record { line = 16; work = (module_work (codes "command") (part (codes "cmd") (literal (text (codes "x"))) (no_parts))); condition = (no_expressions); loop = None; register = None; vars = (no_parts); notify = ([]); changed_when = None; failed_when = None; attempts = None; ignore_errors = (Some true) }) (task_step (record { line = 17; work = (module_work (codes "odd") (no_parts)); condition = (no_expressions); loop = None; register = None; vars = (no_parts); notify = ([]); changed_when = None; failed_when = None; attempts = None; ignore_errors = None }) (no_steps))))); post_tasks = (no_steps); handlers = ([]); forces = false } ∷ record { line = 18; pattern = ((codes "g2") ∷ []); gathering = None; vars = (no_parts); is_linear = true; serial = ([]); pre_tasks = (no_steps); tasks = (task_step (record { line = 19; work = (module_work (codes "setup") (no_parts)); condition = (no_expressions); loop = None; register = (Some (codes "r3")); vars = (no_parts); notify = ([]); changed_when = None; failed_when = None; attempts = None; ignore_errors = None }) (block_step (record { line = 20; condition = (no_expressions); vars = (no_parts); ignore_errors = None }) (task_step (record { line = 21; work = (module_work (codes "command") (part (codes "cmd") (literal (text (codes "x"))) (no_parts))); condition = (no_expressions); loop = None; register = (Some (codes "r1")); vars = (no_parts); notify = ([]); changed_when = None; failed_when = None; attempts = None; ignore_errors = (Some true) }) (no_steps)) (task_step (record { line = 22; work = (module_work (codes "command") (part (codes "cmd") (literal (text (codes "x"))) (no_parts))); condition = (no_expressions); loop = None; register = (Some (codes "r1")); vars = (no_parts); notify = ([]); changed_when = None; failed_when = None; attempts = None; ignore_errors = None }) (no_steps)) (no_steps) (task_step (record { line = 23; work = (module_work (codes "stat") (part (codes "path") (literal (text (codes "/"))) (no_parts))); condition = (no_expressions); loop = None; register = (Some (codes "r2")); vars = (no_parts); notify = ([]); changed_when = None; failed_when = None; attempts = (Some (record { until = (expression (path_status is_changed (variable (codes "r2")) ([])) (no_expressions)); retries = 2 })); ignore_errors = None }) (block_step (record { line = 24; condition = (no_expressions); vars = (no_parts); ignore_errors = None }) (task_step (record { line = 25; work = (set_fact_work (part (codes "s1") (literal (int (pos 1))) (part (codes "s3") (record_of (part (codes "f") (list_of (no_expressions)) (part (codes "g") (literal (int (negsuc 0))) (no_parts)))) (no_parts)))); condition = (expression (defined (variable (codes "ansible_facts")) ((codes "hostname") ∷ [])) (no_expressions)); loop = None; register = (Some (codes "r1")); vars = (no_parts); notify = ([]); changed_when = None; failed_when = None; attempts = None; ignore_errors = (Some true) }) (task_step (record { line = 26; work = (module_work (codes "setup") (no_parts)); condition = (no_expressions); loop = None; register = (Some (codes "r3")); vars = (no_parts); notify = ([]); changed_when = None; failed_when = (Some (expression (path_status is_failed (variable (codes "r3")) ([])) (no_expressions))); attempts = None; ignore_errors = None }) (block_step (record { line = 27; condition = (expression (disjunction (expression (path_status is_skipped (variable (codes "r1")) ([])) (expression (negation (negation (path_status is_failed (variable (codes "r3")) ([])))) (no_expressions)))) (no_expressions)); vars = (no_parts); ignore_errors = (Some false) }) (task_step (record { line = 28; work = (module_work (codes "ping") (no_parts)); condition = (no_expressions); loop = None; register = (Some (codes "r2")); vars = (no_parts); notify = ([]); changed_when = None; failed_when = None; attempts = None; ignore_errors = None }) (task_step (record { line = 29; work = (set_fact_work (part (codes "s1") (path (other (named_host (codes "a")) (codes "r3")) ((codes "ansible_facts") ∷ (codes "ansible_os_family") ∷ [])) (no_parts))); condition = (expression (defined (other (named_host (codes "a")) (codes "r3")) ([])) (expression (defined (other (named_host (codes "a")) (codes "r3")) ((codes "ansible_facts") ∷ (codes "ansible_os_family") ∷ [])) (no_expressions))); loop = None; register = None; vars = (part (codes "v1") (concatenation (expression (literal (text (codes "x"))) (expression (comparison equal (path (other (named_host (codes "b")) (codes "r3")) ((codes "changed") ∷ [])) (path (other (group_member (codes "all") 0) (codes "s1")) ([]))) (no_expressions)))) (no_parts)); notify = ([]); changed_when = None; failed_when = None; attempts = None; ignore_errors = None }) (task_step (record { line = 30; work = (fail_work (no_parts)); condition = (expression (negation (path_status is_failed (variable (codes "r3")) ([]))) (no_expressions)); loop = None; register = (Some (codes "r3")); vars = (no_parts); notify = ([]); changed_when = (Some (expression (literal (boolean false)) (no_expressions))); failed_when = None; attempts = None; ignore_errors = None }) (no_steps)))) (no_steps) (no_steps) (no_steps)))) (task_step (record { line = 31; work = (module_work (codes "command") (part (codes "cmd") (literal (text (codes "x"))) (no_parts))); condition = (no_expressions); loop = None; register = (Some (codes "r3")); vars = (no_parts); notify = ([]); changed_when = (Some (expression (comparison equal (path (variable (codes "inventory_hostname")) ([])) (literal (text (codes "a")))) (no_expressions))); failed_when = None; attempts = None; ignore_errors = None }) (task_step (record { line = 32; work = (module_work (codes "probe") (no_parts)); condition = (expression (membership (literal (text (codes "g1"))) (path (variable (codes "group_names")) ([]))) (no_expressions)); loop = None; register = None; vars = (no_parts); notify = ([]); changed_when = None; failed_when = None; attempts = None; ignore_errors = None }) (no_steps))) (no_steps) (no_steps))))); post_tasks = (no_steps); handlers = ([]); forces = false } ∷ record { line = 33; pattern = ((codes "c") ∷ []); gathering = None; vars = (no_parts); is_linear = true; serial = ([]); pre_tasks = (flush_step 34 (no_steps)); tasks = (task_step (record { line = 35; work = (debug_work (part (codes "msg") (literal (text (codes "x"))) (no_parts))); condition = (expression (defined (variable (codes "s1")) ([])) (no_expressions)); loop = None; register = (Some (codes "r2")); vars = (no_parts); notify = ([]); changed_when = None; failed_when = None; attempts = None; ignore_errors = None }) (no_steps)); post_tasks = (task_step (record { line = 36; work = (module_work (codes "command") (part (codes "cmd") (literal (text (codes "x"))) (no_parts))); condition = (expression (disjunction (expression (conjunction (expression (negation (defined (other (named_host (codes "a")) (codes "r2")) ([]))) (expression (negation (path_status is_failed (variable (codes "r1")) ([]))) (no_expressions)))) (expression (path_status is_failed (variable (codes "r1")) ([])) (no_expressions)))) (no_expressions)); loop = None; register = (Some (codes "r1")); vars = (no_parts); notify = ((codes "t") ∷ []); changed_when = (Some (expression (conjunction (expression (defined (variable (codes "r1")) ((codes "stdout_lines") ∷ [])) (expression (comparison equal (path (variable (codes "r1")) ((codes "stdout_lines") ∷ [])) (literal (text (codes "a")))) (no_expressions)))) (no_expressions))); failed_when = None; attempts = None; ignore_errors = None }) (no_steps)); handlers = (record { work = (record { line = 37; work = (module_work (codes "odd") (no_parts)); condition = (no_expressions); loop = None; register = (Some (codes "r3")); vars = (no_parts); notify = ((codes "h1") ∷ []); changed_when = None; failed_when = None; attempts = None; ignore_errors = None }); name = (Some (codes "h0")); topics = ((codes "t") ∷ []) } ∷ record { work = (record { line = 38; work = (set_fact_work (part (codes "s1") (literal (text (codes "t"))) (no_parts))); condition = (no_expressions); loop = None; register = (Some (codes "r3")); vars = (no_parts); notify = ([]); changed_when = None; failed_when = None; attempts = None; ignore_errors = None }); name = (Some (codes "h1")); topics = ((codes "t") ∷ []) } ∷ []); forces = false } ∷ [])

abbrev random_001053_run_inventory : Inventory
random_001053_run_inventory = record { hosts = (record { name = (codes "a"); variables = (field (codes "i2") (text (codes "x")) (field (codes "op") opaque (field (codes "s1") (boolean false) (no_fields)))) } ∷ record { name = (codes "b"); variables = (field (codes "i2") (list (item (text (codes "x")) (no_items))) (field (codes "op") opaque (field (codes "s1") (boolean false) (no_fields)))) } ∷ record { name = (codes "c"); variables = (field (codes "i2") (text (codes "x")) (field (codes "op") opaque (field (codes "s1") (boolean false) (no_fields)))) } ∷ []); groups = (record { name = (codes "all"); hosts = ((codes "a") ∷ (codes "b") ∷ (codes "c") ∷ []) } ∷ record { name = (codes "g1"); hosts = ((codes "b") ∷ (codes "a") ∷ (codes "c") ∷ []) } ∷ record { name = (codes "g2"); hosts = ((codes "a") ∷ (codes "b") ∷ (codes "c") ∷ []) } ∷ record { name = (codes "ungrouped"); hosts = ([]) } ∷ []) }

abbrev random_001053_run_registry : Registry
random_001053_run_registry = (builtins ++ (record { name = (codes "probe"); params = (record { name = (codes "n"); kind = ints; required = false } ∷ record { name = (codes "l"); kind = (lists texts 3); required = false } ∷ []); ok = recs (slot (codes "changed") true booleans (slot (codes "deep") false (recs (slot (codes "a") true texts (slot (codes "b") false booleans (no_slots)))) (slot (codes "rows") true (lists texts 2) (slot (codes "v") false ints (no_slots))))); failure = recs (slot (codes "changed") true booleans (slot (codes "msg") true texts (slot (codes "v") false texts (slot (codes "why") true ints (no_slots))))); free = None } ∷ record { name = (codes "odd"); params = ([]); ok = recs (slot (codes "changed") true booleans (slot (codes "msg") false ints (no_slots))); failure = recs (slot (codes "changed") true booleans (slot (codes "msg") true texts (no_slots))); free = None } ∷ []))

random_001053_run : recaps_of random_001053_run_registry random_001053_run_inventory random_001053_run_book 1 ((object (rec (field (codes "changed") (boolean true) (field (codes "failed") (boolean true) (field (codes "msg") (text (codes "b")) (no_fields))))) ∷ object (rec (field (codes "changed") (boolean false) (field (codes "ping") (text (codes "b")) (no_fields)))) ∷ object (rec (field (codes "changed") (boolean true) (field (codes "ping") (text (codes "b")) (no_fields)))) ∷ object (rec (field (codes "changed") (boolean true) (field (codes "ping") (text (codes "a")) (no_fields)))) ∷ []) ∷ (object (rec (field (codes "ansible_facts") (rec (field (codes "ansible_hostname") (text (codes "a")) (field (codes "ansible_os_family") (text (123 ∷ 123 ∷ 32 ∷ 120 ∷ 32 ∷ 125 ∷ 125 ∷ [])) (field (codes "ansible_processor_vcpus") (int (pos 1)) (field (codes "ansible_system") (text (123 ∷ 123 ∷ 32 ∷ 120 ∷ 32 ∷ 125 ∷ 125 ∷ [])) (no_fields)))))) (field (codes "changed") (boolean true) (no_fields)))) ∷ object (rec (field (codes "ansible_facts") (rec (field (codes "ansible_hostname") (text (123 ∷ 123 ∷ 32 ∷ 120 ∷ 32 ∷ 125 ∷ 125 ∷ [])) (field (codes "ansible_os_family") (text (codes "b")) (field (codes "ansible_system") (text ([])) (no_fields))))) (field (codes "changed") (boolean true) (no_fields)))) ∷ object (rec (field (codes "ansible_facts") (rec (field (codes "ansible_hostname") (text (123 ∷ 123 ∷ 32 ∷ 120 ∷ 32 ∷ 125 ∷ 125 ∷ [])) (field (codes "ansible_os_family") (text (codes "b")) (field (codes "ansible_processor_vcpus") (int (negsuc 6)) (field (codes "ansible_system") (text (codes "b")) (no_fields)))))) (field (codes "changed") (boolean false) (no_fields)))) ∷ object (rec (field (codes "changed") (boolean false) (field (codes "ping") (text ([])) (no_fields)))) ∷ object (rec (field (codes "changed") (boolean true) (field (codes "ping") (text (codes "b")) (no_fields)))) ∷ object (rec (field (codes "changed") (boolean true) (field (codes "ping") (text (codes "b")) (no_fields)))) ∷ []) ∷ (object (rec (field (codes "changed") (boolean true) (field (codes "failed") (boolean true) (field (codes "msg") (text ([])) (no_fields))))) ∷ object (rec (field (codes "ansible_facts") (rec (field (codes "ansible_distribution") (text (codes "a")) (field (codes "ansible_hostname") (text (codes "b")) (field (codes "ansible_processor_vcpus") (int (pos 0)) (field (codes "ansible_system") (text (codes "a")) (no_fields)))))) (field (codes "changed") (boolean false) (no_fields)))) ∷ object (rec (field (codes "ansible_facts") (rec (field (codes "ansible_distribution") (text (codes "a")) (field (codes "ansible_hostname") (text ([])) (field (codes "ansible_memtotal_mb") (int (pos 2)) (field (codes "ansible_os_family") (text (codes "b")) (field (codes "ansible_processor_vcpus") (int (pos 2)) (field (codes "ansible_system") (text ([])) (no_fields)))))))) (field (codes "changed") (boolean true) (no_fields)))) ∷ object (rec (field (codes "changed") (boolean false) (field (codes "ping") (text (codes "b")) (no_fields)))) ∷ object (rec (field (codes "changed") (boolean true) (field (codes "ping") (text (codes "x")) (no_fields)))) ∷ object (rec (field (codes "changed") (boolean false) (field (codes "ping") (text (codes "a")) (no_fields)))) ∷ []) ∷ []) ≡ (record { ok = 1; changed = 0; unreachable = 0; failed = 1; skipped = 2; rescued = 1; ignored = 0 } ∷ record { ok = 1; changed = 0; unreachable = 0; failed = 1; skipped = 2; rescued = 1; ignored = 0 } ∷ record { ok = 1; changed = 0; unreachable = 0; failed = 1; skipped = 2; rescued = 1; ignored = 0 } ∷ [])
unfolding digits
random_001053_run = refl

-- random_001058:
abbrev random_001058_book : Book
random_001058_book = (record { line = 1; pattern = ((codes "b") ∷ (codes "a") ∷ []); gathering = None; vars = (no_parts); is_linear = true; serial = (host_count 1 ∷ []); pre_tasks = (no_steps); tasks = (task_step (record { line = 2; work = (module_work (codes "stat") (part (codes "path") (literal (text (codes "p"))) (no_parts))); condition = (expression (conjunction (expression (conjunction (expression (path_status is_changed (variable (codes "v1")) ((codes "changed") ∷ [])) (expression (comparison less (path (variable (codes "y")) ([])) (literal (int (pos 3)))) (no_expressions)))) (expression (comparison equal (path (variable (codes "r")) ((codes "rc") ∷ [])) (literal (text (codes "a")))) (no_expressions)))) (no_expressions)); loop = None; register = (Some (codes "s")); vars = (no_parts); notify = ([]); changed_when = None; failed_when = None; attempts = (Some (record { until = (expression (path (variable (codes "s")) ((codes "changed") ∷ [])) (no_expressions)); retries = 3 })); ignore_errors = None }) (no_steps)); post_tasks = (no_steps); handlers = ([]); forces = false } ∷ [])

abbrev random_001058_inventory : Inventory
random_001058_inventory = record { hosts = (record { name = (codes "c"); variables = (field (codes "inv") (list (item (int (pos 1)) (item (int (pos 2)) (no_items)))) (no_fields)) } ∷ record { name = (codes "b"); variables = (field (codes "inv") (list (item (int (pos 1)) (item (int (pos 2)) (no_items)))) (field (codes "k") (rec (field (codes "z") opaque (no_fields))) (no_fields))) } ∷ record { name = (codes "a"); variables = (field (codes "inv") (list (item (text (codes "x")) (no_items))) (field (codes "opq") opaque (no_fields))) } ∷ []); groups = (record { name = (codes "all"); hosts = ((codes "c") ∷ (codes "b") ∷ (codes "a") ∷ []) } ∷ record { name = (codes "g"); hosts = ((codes "b") ∷ (codes "a") ∷ []) } ∷ record { name = (codes "ungrouped"); hosts = ((codes "c") ∷ []) } ∷ []) }

abbrev random_001058_registry : Registry
random_001058_registry = (builtins ++ ([]))

random_001058 : judged random_001058_registry random_001058_inventory random_001058_book ≡ refused (record { code = 1; line = 2; host = (Some (codes "b")) })
random_001058 = refl

-- random_001096:
abbrev random_001096_book : Book
random_001096_book = (record { line = 1; pattern = ((codes "a") ∷ []); gathering = None; vars = (no_parts); is_linear = false; serial = (percentage 50 ∷ []); pre_tasks = (no_steps); tasks = (flush_step 2 (no_steps)); post_tasks = (task_step (record { line = 3; work = (module_work (codes "stat") (part (codes "path") (literal (text (codes "p"))) (no_parts))); condition = (no_expressions); loop = None; register = None; vars = (no_parts); notify = ([]); changed_when = (Some (expression (literal (boolean true)) (no_expressions))); failed_when = None; attempts = (Some (record { until = (expression (path (variable (codes "zz")) ((codes "changed") ∷ [])) (no_expressions)); retries = 1 })); ignore_errors = None }) (task_step (record { line = 4; work = (set_fact_work (part (codes "y") (record_of (part (codes "k") (literal (boolean true)) (no_parts))) (no_parts))); condition = (expression (conjunction (expression (disjunction (expression (defined (other (named_host (codes "a")) (codes "r")) ((codes "rc") ∷ [])) (expression (membership (literal (text (codes "a"))) (path (variable (codes "r")) ((codes "stdout") ∷ []))) (no_expressions)))) (expression (in_batch (named_host (codes "a"))) (no_expressions)))) (no_expressions)); loop = None; register = None; vars = (no_parts); notify = ([]); changed_when = None; failed_when = None; attempts = None; ignore_errors = None }) (no_steps))); handlers = ([]); forces = false } ∷ record { line = 5; pattern = ((codes "a") ∷ []); gathering = None; vars = (part (codes "v1") (disjunction (expression (path_status is_skipped (variable (codes "group_names")) ((codes "changed") ∷ [])) (expression (path_status is_skipped (variable (codes "ansible_play_batch")) ((codes "stdout_lines") ∷ [])) (no_expressions)))) (no_parts)); is_linear = true; serial = ([]); pre_tasks = (no_steps); tasks = (task_step (record { line = 6; work = (module_work (codes "stat") (part (codes "path") (literal (text (codes "p"))) (no_parts))); condition = (expression (negation (path_status is_failed (variable (codes "s")) ((codes "changed") ∷ []))) (no_expressions)); loop = None; register = None; vars = (no_parts); notify = ([]); changed_when = None; failed_when = None; attempts = None; ignore_errors = (Some true) }) (task_step (record { line = 7; work = (module_work (codes "command") (part (codes "cmd") (path (variable (codes "ansible_facts")) ((codes "results") ∷ [])) (no_parts))); condition = (no_expressions); loop = None; register = None; vars = (no_parts); notify = ([]); changed_when = None; failed_when = None; attempts = None; ignore_errors = None }) (task_step (record { line = 8; work = (set_fact_work (part (codes "y") (length_of (path (other item_host (codes "inv")) ([]))) (no_parts))); condition = (expression (defined (other (named_host (codes "b")) (codes "y")) ([])) (no_expressions)); loop = None; register = None; vars = (no_parts); notify = ([]); changed_when = None; failed_when = None; attempts = None; ignore_errors = None }) (no_steps)))); post_tasks = (no_steps); handlers = ([]); forces = true } ∷ [])

abbrev random_001096_inventory : Inventory
random_001096_inventory = record { hosts = (record { name = (codes "c"); variables = (field (codes "inv") (list (item (int (pos 1)) (item (int (pos 2)) (no_items)))) (no_fields)) } ∷ record { name = (codes "b"); variables = (field (codes "inv") (list (item (int (pos 1)) (item (int (pos 2)) (no_items)))) (field (codes "k") (rec (field (codes "z") opaque (no_fields))) (no_fields))) } ∷ record { name = (codes "a"); variables = (field (codes "inv") (list (item (text (codes "x")) (no_items))) (field (codes "opq") opaque (no_fields))) } ∷ []); groups = (record { name = (codes "all"); hosts = ((codes "c") ∷ (codes "b") ∷ (codes "a") ∷ []) } ∷ record { name = (codes "g"); hosts = ((codes "b") ∷ (codes "a") ∷ []) } ∷ record { name = (codes "ungrouped"); hosts = ((codes "c") ∷ []) } ∷ []) }

abbrev random_001096_registry : Registry
random_001096_registry = (builtins ++ ([]))

random_001096 : judged random_001096_registry random_001096_inventory random_001096_book ≡ refused (record { code = 1; line = 3; host = (Some (codes "a")) })
random_001096 = refl

-- random_001120:
abbrev random_001120_book : Book
random_001120_book = (record { line = 1; pattern = ((codes "all") ∷ []); gathering = None; vars = (no_parts); is_linear = true; serial = (percentage 50 ∷ []); pre_tasks = (no_steps); tasks = (block_step (record { line = 2; condition = (expression (disjunction (expression (negation (path_status is_skipped (other this_host (codes "r")) ([]))) (expression (negation (path_status is_failed (variable (codes "inv")) ([]))) (no_expressions)))) (no_expressions)); vars = (no_parts); ignore_errors = None }) (task_step (record { line = 3; work = (module_work (codes "command") (part (codes "cmd") (path (variable (codes "group_names")) ([])) (no_parts))); condition = (expression (defined (variable (codes "y")) ([])) (no_expressions)); loop = (Some (path (variable (codes "groups")) ((codes "all") ∷ []))); register = (Some (codes "s")); vars = (part (codes "v2") (path (variable (codes "ansible_hostname")) ((codes "stdout_lines") ∷ [])) (no_parts)); notify = ([]); changed_when = None; failed_when = None; attempts = None; ignore_errors = None }) (no_steps)) (no_steps) (block_step (record { line = 4; condition = (no_expressions); vars = (no_parts); ignore_errors = None }) (no_steps) (no_steps) (no_steps) (no_steps)) (no_steps)); post_tasks = (task_step (record { line = 5; work = (set_fact_work (part (codes "s") (path_status is_changed (variable (codes "r")) ((codes "rc") ∷ [])) (no_parts))); condition = (no_expressions); loop = (Some (list_of (expression (literal (text (codes "a"))) (expression (literal (text (codes "b"))) (no_expressions))))); register = (Some (codes "s")); vars = (no_parts); notify = ([]); changed_when = None; failed_when = None; attempts = None; ignore_errors = None }) (block_step (record { line = 6; condition = (no_expressions); vars = (no_parts); ignore_errors = None }) (task_step (record { line = 7; work = (module_work (codes "command") (part (codes "cmd") (literal (text (codes "x"))) (no_parts))); condition = (expression (disjunction (expression (disjunction (expression (negation (defined (other (named_host (codes "a")) (codes "r")) ((codes "rc") ∷ []))) (expression (defined (variable (codes "opq")) ((codes "hostname") ∷ [])) (no_expressions)))) (expression (negation (defined (variable (codes "group_names")) ([]))) (no_expressions)))) (no_expressions)); loop = None; register = (Some (codes "s")); vars = (no_parts); notify = ([]); changed_when = None; failed_when = None; attempts = None; ignore_errors = None }) (no_steps)) (task_step (record { line = 8; work = (module_work (codes "setup") (no_parts)); condition = (no_expressions); loop = None; register = None; vars = (no_parts); notify = ([]); changed_when = None; failed_when = None; attempts = None; ignore_errors = None }) (no_steps)) (no_steps) (no_steps))); handlers = ([]); forces = true } ∷ record { line = 9; pattern = ((codes "a") ∷ []); gathering = None; vars = (part (codes "v1") (concatenation (expression (literal (text (codes "x"))) (expression (path (other (named_host (codes "b")) (codes "r")) ((codes "msg") ∷ [])) (no_expressions)))) (no_parts)); is_linear = true; serial = (percentage 50 ∷ []); pre_tasks = (no_steps); tasks = (block_step (record { line = 10; condition = (expression (disjunction (expression (disjunction (expression (path_status is_failed (variable (codes "r")) ((codes "changed") ∷ [])) (expression (comparison equal (path (variable (codes "inv")) ([])) (literal (int (pos 1)))) (no_expressions)))) (expression (comparison equal (path (variable (codes "v2")) ((codes "stdout_lines") ∷ [])) (literal (text (codes "a")))) (no_expressions)))) (no_expressions)); vars = (no_parts); ignore_errors = None }) (task_step (record { line = 11; work = (module_work (codes "command") (part (codes "cmd") (literal (text (codes "x"))) (no_parts))); condition = (no_expressions); loop = None; register = None; vars = (no_parts); notify = ([]); changed_when = None; failed_when = None; attempts = None; ignore_errors = (Some true) }) (no_steps)) (task_step (record { line = 12; work = (assert_work (conditions_are (expression (path_status is_changed (variable (codes "r")) ((codes "changed") ∷ [])) (no_expressions))) (no_parts)); condition = (expression (defined (variable (codes "r")) ((codes "rc") ∷ [])) (expression (in_batch (named_host (codes "a"))) (no_expressions))); loop = None; register = (Some (codes "s")); vars = (no_parts); notify = ([]); changed_when = None; failed_when = (Some (expression (literal (boolean true)) (no_expressions))); attempts = None; ignore_errors = (Some true) }) (block_step (record { line = 13; condition = (no_expressions); vars = (no_parts); ignore_errors = None }) (no_steps) (no_steps) (task_step (record { line = 14; work = (module_work (codes "setup") (no_parts)); condition = (no_expressions); loop = (Some (path (variable (codes "inv")) ([]))); register = (Some (codes "s")); vars = (no_parts); notify = ([]); changed_when = None; failed_when = None; attempts = None; ignore_errors = None }) (no_steps)) (no_steps))) (task_step (record { line = 15; work = (fail_work (no_parts)); condition = (expression (path (variable (codes "item")) ([])) (expression (disjunction (expression (disjunction (expression (defined (variable (codes "v2")) ([])) (expression (path_status is_skipped (variable (codes "r")) ((codes "results") ∷ [])) (no_expressions)))) (expression (membership (literal (text (codes "a"))) (path (other this_host (codes "inv")) ([]))) (no_expressions)))) (no_expressions))); loop = None; register = None; vars = (no_parts); notify = ([]); changed_when = None; failed_when = None; attempts = None; ignore_errors = None }) (no_steps)) (task_step (record { line = 16; work = (set_fact_work (part (codes "s") (joined_by (path (variable (codes "inv")) ([])) (literal (text (codes ",")))) (no_parts))); condition = (no_expressions); loop = None; register = None; vars = (no_parts); notify = ([]); changed_when = None; failed_when = None; attempts = None; ignore_errors = (Some true) }) (task_step (record { line = 17; work = (module_work (codes "ping") (no_parts)); condition = (no_expressions); loop = None; register = (Some (codes "s")); vars = (part (codes "v1") (literal null) (no_parts)); notify = ([]); changed_when = None; failed_when = None; attempts = None; ignore_errors = None }) (task_step (record { line = 18; work = (debug_work (part (codes "msg") (concatenation (expression (literal (text (codes "x"))) (expression (path (variable (codes "inventory_hostname")) ([])) (no_expressions)))) (no_parts))); condition = (expression (negation (path_status is_skipped (variable (codes "r")) ([]))) (expression (in_batch (named_host (codes "b"))) (no_expressions))); loop = None; register = (Some (codes "s")); vars = (no_parts); notify = ([]); changed_when = None; failed_when = None; attempts = None; ignore_errors = None }) (no_steps))))); post_tasks = (no_steps); handlers = ([]); forces = true } ∷ [])

abbrev random_001120_inventory : Inventory
random_001120_inventory = record { hosts = (record { name = (codes "c"); variables = (field (codes "inv") (list (item (int (pos 1)) (item (int (pos 2)) (no_items)))) (no_fields)) } ∷ record { name = (codes "b"); variables = (field (codes "inv") (list (item (int (pos 1)) (item (int (pos 2)) (no_items)))) (field (codes "k") (rec (field (codes "z") opaque (no_fields))) (no_fields))) } ∷ record { name = (codes "a"); variables = (field (codes "inv") (list (item (text (codes "x")) (no_items))) (field (codes "opq") opaque (no_fields))) } ∷ []); groups = (record { name = (codes "all"); hosts = ((codes "c") ∷ (codes "b") ∷ (codes "a") ∷ []) } ∷ record { name = (codes "g"); hosts = ((codes "b") ∷ (codes "a") ∷ []) } ∷ record { name = (codes "ungrouped"); hosts = ((codes "c") ∷ []) } ∷ []) }

abbrev random_001120_registry : Registry
random_001120_registry = (builtins ++ ([]))

random_001120 : judged random_001120_registry random_001120_inventory random_001120_book ≡ refused (record { code = 2; line = 3; host = (Some (codes "c")) })
random_001120 = refl

-- random_001137:
abbrev random_001137_book : Book
random_001137_book = (record { line = 1; pattern = ((codes "all") ∷ []); gathering = None; vars = (no_parts); is_linear = false; serial = ([]); pre_tasks = (no_steps); tasks = (task_step (record { line = 2; work = (module_work (codes "odd") (no_parts)); condition = (no_expressions); loop = None; register = (Some (codes "r1")); vars = (no_parts); notify = ([]); changed_when = None; failed_when = None; attempts = None; ignore_errors = None }) (task_step (record { line = 3; work = (module_work (codes "command") (part (codes "cmd") (literal (text (codes "x"))) (no_parts))); condition = (expression (in_batch item_host) (no_expressions)); loop = (Some (path (variable (codes "ansible_play_batch")) ([]))); register = None; vars = (part (codes "v2") (path (other item_host (codes "r2")) ((codes "failed") ∷ [])) (no_parts)); notify = ([]); changed_when = None; failed_when = None; attempts = None; ignore_errors = None }) (task_step (record { line = 4; work = (module_work (codes "command") (part (codes "cmd") (concatenation (expression (literal (text (codes "x "))) (expression (path (variable (codes "inventory_hostname")) ([])) (no_expressions)))) (no_parts))); condition = (no_expressions); loop = None; register = (Some (codes "r2")); vars = (no_parts); notify = ([]); changed_when = None; failed_when = (Some (expression (literal (boolean false)) (no_expressions))); attempts = None; ignore_errors = None }) (no_steps)))); post_tasks = (no_steps); handlers = (record { work = (record { line = 5; work = (module_work (codes "command") (part (codes "cmd") (concatenation (expression (literal (text (codes "x "))) (expression (path_or (variable (codes "i2")) ((codes "changed") ∷ []) (literal (text (codes "z")))) (no_expressions)))) (no_parts))); condition = (expression (negation (defined (other (named_host (codes "b")) (codes "r2")) ((codes "stderr") ∷ []))) (no_expressions)); loop = None; register = (Some (codes "r3")); vars = (no_parts); notify = ([]); changed_when = None; failed_when = None; attempts = None; ignore_errors = (Some true) }); name = (Some (codes "h0")); topics = ([]) } ∷ record { work = (record { line = 6; work = (debug_work (part (codes "msg") (length_of (path (other (named_host (codes "d")) (codes "s1")) ([]))) (no_parts))); condition = (expression (in_batch (named_host (codes "d"))) (no_expressions)); loop = None; register = (Some (codes "r1")); vars = (no_parts); notify = ((codes "h2") ∷ []); changed_when = None; failed_when = None; attempts = None; ignore_errors = None }); name = (Some (codes "h1")); topics = ((codes "t") ∷ []) } ∷ record { work = (record { line = 7; work = (module_work (codes "setup") (no_parts)); condition = (expression (in_batch (named_host (codes "c"))) (no_expressions)); loop = None; register = (Some (codes "r1")); vars = (no_parts); notify = ([]); changed_when = None; failed_when = (Some (expression (path_status is_changed (variable (codes "r1")) ([])) (no_expressions))); attempts = None; ignore_errors = None }); name = (Some (codes "h2")); topics = ([]) } ∷ []); forces = false } ∷ record { line = 8; pattern = ((codes "d") ∷ []); gathering = None; vars = (no_parts); is_linear = true; serial = ([]); pre_tasks = (task_step (record { line = 9; work = (module_work (codes "command") (part (codes "cmd") (literal (text (codes "x"))) (no_parts))); condition = (expression (negation (path_status is_failed (variable (codes "r2")) ([]))) (expression (in_batch item_host) (no_expressions))); loop = (Some (path (variable (codes "groups")) ((codes "all") ∷ []))); register = None; vars = (no_parts); notify = ([]); changed_when = (Some (expression (literal (boolean false)) (no_expressions))); failed_when = None; attempts = None; ignore_errors = None }) (task_step (record { line = 10; work = (module_work (codes "odd") (no_parts)); condition = (no_expressions); loop = None; register = (Some (codes "r1")); vars = (no_parts); notify = ([]); changed_when = None; failed_when = None; attempts = None; ignore_errors = None }) (task_step (record { line = 11; work = (module_work (codes "stat") (part (codes "path") (literal (text (codes "/"))) (no_parts))); condition = (no_expressions); loop = None; register = None; vars = (no_parts); notify = ([]); changed_when = None; failed_when = None; attempts = None; ignore_errors = None }) (no_steps)))); tasks = (task_step (record { line = 12; work = (set_fact_work (part (codes "s2") (path (variable (codes "r3")) ((codes "rc") ∷ [])) (no_parts))); condition = (expression (defined (variable (codes "r3")) ([])) (expression (defined (variable (codes "r3")) ((codes "rc") ∷ [])) (no_expressions))); loop = None; register = None; vars = (no_parts); notify = ((codes "t") ∷ []); changed_when = None; failed_when = None; attempts = None; ignore_errors = None }) (block_step (record { line = 13; condition = (no_expressions); vars = (no_parts); ignore_errors = None }) (block_step (record { line = 14; condition = (no_expressions); vars = (no_parts); ignore_errors = None }) (task_step (record { line = 15; work = (debug_work (part (codes "msg") (path (variable (codes "op")) ([])) (no_parts))); condition = (no_expressions); loop = None; register = (Some (codes "r1")); vars = (no_parts); notify = ((codes "t") ∷ []); changed_when = None; failed_when = (Some (expression (comparison equal (path (variable (codes "r1")) ((codes "failed") ∷ [])) (literal (int (pos 1)))) (no_expressions))); attempts = None; ignore_errors = None }) (no_steps)) (no_steps) (no_steps) (task_step (record { line = 16; work = (module_work (codes "setup") (no_parts)); condition = (no_expressions); loop = None; register = (Some (codes "r1")); vars = (no_parts); notify = ([]); changed_when = None; failed_when = (Some (expression (comparison equal (path_or (variable (codes "r1")) ((codes "ansible_facts") ∷ (codes "ansible_hostname") ∷ []) (literal (boolean true))) (literal (boolean true))) (no_expressions))); attempts = None; ignore_errors = None }) (no_steps))) (no_steps) (task_step (record { line = 17; work = (module_work (codes "command") (part (codes "cmd") (literal (text (codes "x"))) (no_parts))); condition = (no_expressions); loop = None; register = (Some (codes "r2")); vars = (no_parts); notify = ([]); changed_when = None; failed_when = (Some (expression (path_status is_changed (variable (codes "r2")) ([])) (no_expressions))); attempts = None; ignore_errors = None }) (task_step (record { line = 18; work = (set_fact_work (part (codes "s1") (concatenation (expression (literal (text (codes "x"))) (expression (path_or (variable (codes "i1")) ([]) (literal (text (codes "z")))) (no_expressions)))) (no_parts))); condition = (expression (negation (in_batch (named_host (codes "b")))) (no_expressions)); loop = None; register = None; vars = (no_parts); notify = ((codes "h0") ∷ []); changed_when = (Some (expression (literal (boolean true)) (no_expressions))); failed_when = None; attempts = None; ignore_errors = (Some true) }) (task_step (record { line = 19; work = (fail_work (no_parts)); condition = (no_expressions); loop = None; register = (Some (codes "r1")); vars = (no_parts); notify = ([]); changed_when = None; failed_when = None; attempts = None; ignore_errors = (Some false) }) (no_steps)))) (task_step (record { line = 20; work = (module_work (codes "command") (part (codes "cmd") (literal (text (codes "x"))) (no_parts))); condition = (no_expressions); loop = None; register = (Some (codes "r3")); vars = (no_parts); notify = ((codes "h0") ∷ []); changed_when = (Some (expression (literal (boolean true)) (no_expressions))); failed_when = None; attempts = None; ignore_errors = None }) (no_steps)))); post_tasks = (no_steps); handlers = (record { work = (record { line = 21; work = (module_work (codes "command") (part (codes "cmd") (literal (text (codes "x"))) (no_parts))); condition = (no_expressions); loop = None; register = None; vars = (no_parts); notify = ([]); changed_when = None; failed_when = None; attempts = None; ignore_errors = None }); name = (Some (codes "h0")); topics = ((codes "t") ∷ []) } ∷ []); forces = true } ∷ record { line = 22; pattern = ((codes "b") ∷ []); gathering = None; vars = (no_parts); is_linear = true; serial = ([]); pre_tasks = (no_steps); tasks = (task_step (record { line = 23; work = (module_work (codes "setup") (no_parts)); condition = (expression (disjunction (expression (negation (defined (other (named_host (codes "c")) (codes "r3")) ([]))) (expression (defined (other (named_host (codes "d")) (codes "op")) ((codes "rc") ∷ [])) (no_expressions)))) (no_expressions)); loop = None; register = (Some (codes "r3")); vars = (no_parts); notify = ([]); changed_when = None; failed_when = None; attempts = None; ignore_errors = (Some true) }) (block_step (record { line = 24; condition = (no_expressions); vars = (no_parts); ignore_errors = None }) (task_step (record { line = 25; work = (debug_work (part (codes "msg") (literal null) (no_parts))); condition = (no_expressions); loop = None; register = (Some (codes "r3")); vars = (no_parts); notify = ([]); changed_when = None; failed_when = None; attempts = None; ignore_errors = (Some true) }) (no_steps)) (no_steps) (no_steps) (no_steps))); post_tasks = (no_steps); handlers = (record { work = (record { line = 26; work = (module_work (codes "command") (part (codes "cmd") (concatenation (expression (literal (text (codes "x "))) (expression (path_or (variable (codes "r3")) ((codes "changed") ∷ []) (list_of (no_expressions))) (no_expressions)))) (no_parts))); condition = (no_expressions); loop = None; register = (Some (codes "r3")); vars = (no_parts); notify = ([]); changed_when = None; failed_when = None; attempts = None; ignore_errors = None }); name = (Some (codes "h0")); topics = ((codes "t") ∷ []) } ∷ []); forces = true } ∷ [])

abbrev random_001137_inventory : Inventory
random_001137_inventory = record { hosts = (record { name = (codes "a"); variables = (field (codes "i1") (text (codes "x")) (field (codes "op") opaque (no_fields))) } ∷ record { name = (codes "b"); variables = (field (codes "i1") (rec (field (codes "f") (rec (field (codes "f") (int (pos 2)) (no_fields))) (field (codes "g") (rec (field (codes "f") (text (codes "t")) (field (codes "g") (text (codes "a")) (no_fields)))) (no_fields)))) (field (codes "i2") (boolean false) (field (codes "op") opaque (no_fields)))) } ∷ record { name = (codes "c"); variables = (field (codes "i2") (text (codes "no")) (field (codes "op") opaque (no_fields))) } ∷ record { name = (codes "d"); variables = (field (codes "i1") (rec (field (codes "g") (text (codes "no")) (no_fields))) (field (codes "op") opaque (field (codes "s1") (rec (field (codes "f") (int (negsuc 0)) (field (codes "g") (text (codes "b")) (no_fields)))) (no_fields)))) } ∷ []); groups = (record { name = (codes "all"); hosts = ((codes "a") ∷ (codes "b") ∷ (codes "c") ∷ (codes "d") ∷ []) } ∷ record { name = (codes "g1"); hosts = ((codes "a") ∷ (codes "b") ∷ (codes "c") ∷ (codes "d") ∷ []) } ∷ record { name = (codes "g2"); hosts = ((codes "a") ∷ (codes "b") ∷ (codes "c") ∷ (codes "d") ∷ []) } ∷ record { name = (codes "ungrouped"); hosts = ([]) } ∷ []) }

abbrev random_001137_registry : Registry
random_001137_registry = (builtins ++ (record { name = (codes "probe"); params = (record { name = (codes "n"); kind = ints; required = false } ∷ record { name = (codes "l"); kind = (lists texts 3); required = false } ∷ []); ok = recs (slot (codes "changed") true booleans (slot (codes "deep") false (recs (slot (codes "a") true texts (slot (codes "b") false booleans (no_slots)))) (slot (codes "rows") true (lists texts 2) (slot (codes "v") false ints (no_slots))))); failure = recs (slot (codes "changed") true booleans (slot (codes "msg") true texts (slot (codes "v") false texts (slot (codes "why") true ints (no_slots))))); free = None } ∷ record { name = (codes "odd"); params = ([]); ok = recs (slot (codes "changed") true booleans (slot (codes "msg") false ints (no_slots))); failure = recs (slot (codes "changed") true booleans (slot (codes "msg") true texts (no_slots))); free = None } ∷ []))

random_001137 : judged random_001137_registry random_001137_inventory random_001137_book ≡ refused (record { code = 4; line = 6; host = (Some (codes "a")) })
random_001137 = refl
